use Rattle.icb_list.proofs.ReadBack.{rows_read_back}
use Rattle.icb_list.proofs.laws.rows_read_back.Goals as goal

pub returns : goal.returns
returns c = rows_read_back
