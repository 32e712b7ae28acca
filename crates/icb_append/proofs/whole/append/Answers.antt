-- Each step goes on or ends the append.
use Rattle.std.proofs.Common.{Err}
use Rattle.icb_append.proofs.RunLemmas.{begins, done_some, ends_done, ends_with, goes_on, left_fewer}
use Rattle.icb_append.proofs.whole.append.Goals as goal

pub loop-snapshot-init : goal.loop-snapshot-init
loop-snapshot-init g c = begins g.S.Store g.D.Draws c.args.ring.now c.args.lines c.args.now_ms c.new-job.result c.args.store.now c.args.draws.now
    (g.met.S.Store.kept_at_rest c.args.store.now) c.new-job.ensures

pub loop-snapshot-preserved : goal.loop-snapshot-preserved
loop-snapshot-preserved g c = goes_on g.S.Store g.D.Draws c.args.ring.now c.args.lines c.args.now_ms (λ x y z. g.met.S.Store.kept_twice x y z)
    c.loop-snapshot.job c.step.new.self c.args.store.now c.loop-snapshot.store c.step.new.store c.args.draws.now c.loop-snapshot.draws c.step.new.draws
    c.loop-snapshot.invariant c.in-Again.ensures.turn

pub loop-snapshot-smaller : goal.loop-snapshot-smaller
loop-snapshot-smaller g c = left_fewer g.S.Store g.D.Draws c.args.ring.now c.args.lines c.args.now_ms (λ x y z. g.met.S.Store.kept_twice x y z)
    c.loop-snapshot.job c.step.new.self c.args.store.now c.loop-snapshot.store c.step.new.store c.args.draws.now c.loop-snapshot.draws c.step.new.draws
    c.loop-snapshot.invariant c.in-Again.ensures.turn

pub with_snapshot-requires : goal.with_snapshot-requires
with_snapshot-requires g c = done_some g.S.Store g.D.Draws c.args.ring.now c.args.lines c.args.now_ms c.in-Done.snapshot c.in-Done.version
    c.loop-snapshot.job c.step.new.self c.loop-snapshot.store c.step.new.store c.loop-snapshot.draws c.step.new.draws c.in-Done.ensures.turn

pub returns-in-Done : goal.returns-in-Done
returns-in-Done g c = ends_done g.S.Store g.D.Draws c.args.ring.now c.args.lines c.args.now_ms (λ x y z. g.met.S.Store.kept_twice x y z)
    c.loop-snapshot.job c.step.new.self c.args.store.now c.loop-snapshot.store c.step.new.store c.args.draws.now c.loop-snapshot.draws c.step.new.draws
    c.loop-snapshot.invariant c.in-Done.snapshot c.in-Done.version c.with_snapshot.result c.with_snapshot.ensures.snapshot c.with_snapshot.ensures.version c.in-Done.ensures.turn

pub returns-in-Refused : goal.returns-in-Refused
returns-in-Refused g c = ends_with g.S.Store g.D.Draws c.args.ring.now c.args.lines c.args.now_ms (λ x y z. g.met.S.Store.kept_twice x y z)
    c.loop-snapshot.job c.step.new.self c.args.store.now c.loop-snapshot.store c.step.new.store c.args.draws.now c.loop-snapshot.draws c.step.new.draws
    c.loop-snapshot.invariant (Err c.in-Refused.fault) c.in-Refused.ensures.turn
