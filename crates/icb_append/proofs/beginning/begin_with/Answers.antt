-- The lines are refused.
use Rattle.icb_append.proofs.BeginLemmas.{begin_refused}
use Rattle.icb_append.proofs.beginning.begin_with.Goals as goal

pub returns-in-Err : goal.returns-in-Err
returns-in-Err g c = begin_refused c.args.meta c.args.ring.now c.args.version c.args.lines.now g.D.Draws c.in-Err.fault c.args.draws.now c.in-Err.ensures.rows
