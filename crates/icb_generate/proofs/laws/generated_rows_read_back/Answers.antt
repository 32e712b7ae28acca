-- The law is a lemma of proofs/RowLemmas.antt.
use Rattle.icb_generate.proofs.RowLemmas.{rows_read_back}
use Rattle.icb_generate.proofs.laws.generated_rows_read_back.Goals as goal

pub returns : goal.returns
returns c = rows_read_back
