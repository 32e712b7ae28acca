use Rattle.std.proofs.Common.{◌∙◌, sym, arith}
use Rattle.icb_scan.proofs.PlanLemmas.{position_here}
use Rattle.icb_scan.proofs.columns.position_of.Goals as goal

pub returns-then-is_named : goal.returns-then-is_named
returns-then-is_named c =
    (omega (arith, c.loop-at-test.true), position_here c.args.columns.now c.args.name.now c.loop-at.at c.index-columns-at.result (omega (arith, c.loop-at-test.true)) c.index-columns-at.is (sym c.is_named.ensures ∙ c.if-is_named.true) c.loop-at.invariant)
