use Rattle.icb_types.proofs.RowLemmas.{row_back}
use Rattle.icb_types.proofs.laws.lines_read_back.Goals as goal

pub returns : goal.returns
returns c = row_back
