use Rattle.icb_written.proofs.RowLemmas.{held_rows_are_read}
use Rattle.icb_written.proofs.laws.written_rows_are_read.Goals as goal

pub returns : goal.returns
returns c = held_rows_are_read
