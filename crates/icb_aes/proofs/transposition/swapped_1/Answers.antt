-- Each bit, computed.
use Rattle.icb_aes.proofs.RowLemmas.{rows_first_1, rows_second_1}
use Rattle.icb_aes.proofs.transposition.swapped_1.Goals as goal

pub returns-clause-first : goal.returns-clause-first
returns-clause-first c = rows_first_1 c.args.x c.args.y

pub returns-clause-second : goal.returns-clause-second
returns-clause-second c = rows_second_1 c.args.x c.args.y
