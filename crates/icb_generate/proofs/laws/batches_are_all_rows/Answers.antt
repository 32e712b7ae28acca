-- The law is a lemma of proofs/BatchLemmas.antt.
use Rattle.icb_generate.proofs.BatchLemmas.{batches_are_all_rows}
use Rattle.icb_generate.proofs.laws.batches_are_all_rows.Goals as goal

pub returns : goal.returns
returns c = batches_are_all_rows
