-- Each step goes on or ends the rotation.
use Rattle.std.proofs.Common.{◌∙◌, Ok, Err}
use Rattle.icb_turns.specs.declared.fault.Step.TheVariants as step
use Rattle.icb_rotate.proofs.CompleteLemmas.{rotation_completes}
use Rattle.icb_rotate.proofs.WholeLemmas.{begins, rotation_keeps, step_outcome}
use Rattle.icb_rotate.proofs.whole.rotate.Goals as goal

pub loop-version-init : goal.loop-version-init
loop-version-init g c = record {
  names = c.new-job.ensures.names;
  running = begins g.S.Store g.D.Draws c.args.ring.now c.args.id c.args.now_ms (λ x. g.met.S.Store.kept_at_rest x) c.new-job.result c.args.store.now c.args.draws.now c.new-job.ensures;
}

pub loop-version-preserved : goal.loop-version-preserved
loop-version-preserved g c =
    let next = step_outcome g.S.Store g.D.Draws c.args.ring.now c.args.id c.args.now_ms (λ x y z. g.met.S.Store.kept_twice x y z)
    c.loop-version.job c.step.new.self step.Again c.args.store.now c.loop-version.store c.step.new.store c.args.draws.now c.loop-version.draws c.step.new.draws
    c.loop-version.invariant.names c.loop-version.invariant.running c.in-Again.ensures.turn in
    record { names = c.in-Again.ensures.turn.same_id ∙ c.loop-version.invariant.names; running = next.running }

pub loop-version-smaller : goal.loop-version-smaller
loop-version-smaller g c =
    let next = step_outcome g.S.Store g.D.Draws c.args.ring.now c.args.id c.args.now_ms (λ x y z. g.met.S.Store.kept_twice x y z)
    c.loop-version.job c.step.new.self step.Again c.args.store.now c.loop-version.store c.step.new.store c.args.draws.now c.loop-version.draws c.step.new.draws
    c.loop-version.invariant.names c.loop-version.invariant.running c.in-Again.ensures.turn in
    next.fewer

pub returns-in-Done-clause-rotates : goal.returns-in-Done-clause-rotates
returns-in-Done-clause-rotates g c = step_outcome g.S.Store g.D.Draws c.args.ring.now c.args.id c.args.now_ms (λ x y z. g.met.S.Store.kept_twice x y z)
    c.loop-version.job c.step.new.self (step.Done c.in-Done.snapshot c.in-Done.version) c.args.store.now c.loop-version.store c.step.new.store c.args.draws.now
    c.loop-version.draws c.step.new.draws c.loop-version.invariant.names c.loop-version.invariant.running c.in-Done.ensures.turn

pub returns-in-Done-clause-stands : goal.returns-in-Done-clause-stands
returns-in-Done-clause-stands g c = rotation_keeps g.S.Store g.D.Draws c.args.ring.now c.args.id c.args.now_ms (Ok c.in-Done.version) c.args.store.now c.step.new.store
    c.args.draws.now c.step.new.draws
    (step_outcome g.S.Store g.D.Draws c.args.ring.now c.args.id c.args.now_ms (λ x y z. g.met.S.Store.kept_twice x y z)
    c.loop-version.job c.step.new.self (step.Done c.in-Done.snapshot c.in-Done.version) c.args.store.now c.loop-version.store c.step.new.store c.args.draws.now
    c.loop-version.draws c.step.new.draws c.loop-version.invariant.names c.loop-version.invariant.running c.in-Done.ensures.turn)

pub returns-in-Refused-clause-rotates : goal.returns-in-Refused-clause-rotates
returns-in-Refused-clause-rotates g c = step_outcome g.S.Store g.D.Draws c.args.ring.now c.args.id c.args.now_ms (λ x y z. g.met.S.Store.kept_twice x y z)
    c.loop-version.job c.step.new.self (step.Refused c.in-Refused.fault) c.args.store.now c.loop-version.store c.step.new.store c.args.draws.now
    c.loop-version.draws c.step.new.draws c.loop-version.invariant.names c.loop-version.invariant.running c.in-Refused.ensures.turn

pub returns-in-Refused-clause-stands : goal.returns-in-Refused-clause-stands
returns-in-Refused-clause-stands g c = rotation_keeps g.S.Store g.D.Draws c.args.ring.now c.args.id c.args.now_ms (Err c.in-Refused.fault) c.args.store.now c.step.new.store
    c.args.draws.now c.step.new.draws
    (step_outcome g.S.Store g.D.Draws c.args.ring.now c.args.id c.args.now_ms (λ x y z. g.met.S.Store.kept_twice x y z)
    c.loop-version.job c.step.new.self (step.Refused c.in-Refused.fault) c.args.store.now c.loop-version.store c.step.new.store c.args.draws.now
    c.loop-version.draws c.step.new.draws c.loop-version.invariant.names c.loop-version.invariant.running c.in-Refused.ensures.turn)

pub returns-in-Done-clause-complete : goal.returns-in-Done-clause-complete
returns-in-Done-clause-complete g c = rotation_completes g.S.Store g.D.Draws c.args.ring.now c.args.id c.args.now_ms (Ok c.in-Done.version) c.args.store.now c.step.new.store
    c.args.draws.now c.step.new.draws
    (step_outcome g.S.Store g.D.Draws c.args.ring.now c.args.id c.args.now_ms (λ x y z. g.met.S.Store.kept_twice x y z)
    c.loop-version.job c.step.new.self (step.Done c.in-Done.snapshot c.in-Done.version) c.args.store.now c.loop-version.store c.step.new.store c.args.draws.now
    c.loop-version.draws c.step.new.draws c.loop-version.invariant.names c.loop-version.invariant.running c.in-Done.ensures.turn)

pub returns-in-Refused-clause-complete : goal.returns-in-Refused-clause-complete
returns-in-Refused-clause-complete g c = rotation_completes g.S.Store g.D.Draws c.args.ring.now c.args.id c.args.now_ms (Err c.in-Refused.fault) c.args.store.now c.step.new.store
    c.args.draws.now c.step.new.draws
    (step_outcome g.S.Store g.D.Draws c.args.ring.now c.args.id c.args.now_ms (λ x y z. g.met.S.Store.kept_twice x y z)
    c.loop-version.job c.step.new.self (step.Refused c.in-Refused.fault) c.args.store.now c.loop-version.store c.step.new.store c.args.draws.now
    c.loop-version.draws c.step.new.draws c.loop-version.invariant.names c.loop-version.invariant.running c.in-Refused.ensures.turn)
