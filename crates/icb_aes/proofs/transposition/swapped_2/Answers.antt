-- Each bit, computed.
use Rattle.icb_aes.proofs.RowLemmas.{rows_first_2, rows_second_2}
use Rattle.icb_aes.proofs.transposition.swapped_2.Goals as goal

pub returns-clause-first : goal.returns-clause-first
returns-clause-first c = rows_first_2 c.args.x c.args.y

pub returns-clause-second : goal.returns-clause-second
returns-clause-second c = rows_second_2 c.args.x c.args.y
