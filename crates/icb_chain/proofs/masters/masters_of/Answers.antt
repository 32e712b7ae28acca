-- Each line goes into the ring, or ends the reading.
use Rattle.std.proofs.Common.{◌+◌, arith}
use Rattle.icb_chain.proofs.RingLemmas.{line_next, line_stops, no_more_lines}
use Rattle.icb_chain.proofs.masters.masters_of.Goals as goal

pub returns-in-Err : goal.returns-in-Err
returns-in-Err c = line_stops c.args.lines.now c.loop-i.i _ _ c.in-Err.fault _ _ _ c.loop-i-test.true c.loop-i.invariant c.in-Err.ensures

pub loop-i-preserved : goal.loop-i-preserved
loop-i-preserved c =
    line_next c.args.lines.now c.loop-i.i (c.loop-i.i + 1) (c.loop-i.i + 1) (c.loop-i.i + 1 + 1) _ _ _ _ (omega arith) (omega arith) c.loop-i-test.true c.loop-i.invariant c.in_default.ensures

pub returns : goal.returns
returns c = no_more_lines c.args.lines.now c.loop-i.i _ _ _ c.loop-i-test.false c.loop-i.invariant
