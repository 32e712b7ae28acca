use Rattle.std.proofs.Common.{arith}
use Rattle.icb_datafile.proofs.PositionLemmas.{one_position, positions_more}
use Rattle.icb_datafile.proofs.opening.all_positions.Goals as goal

pub loop-at-preserved : goal.loop-at-preserved
loop-at-preserved c = (
  one_position c.args.columns.now c.loop-at.positions _ c.loop-at.at (omega (arith, c.loop-at-test.true)) c.loop-at.invariant.0 c.in_ok-push.ensures.ok,
  positions_more c.args.columns.now c.loop-at.positions _ c.loop-at.at (omega (arith, c.loop-at-test.true)) c.loop-at.invariant.1 c.in_ok-push.ensures.ok,
)
