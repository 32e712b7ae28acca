use Rattle.std.proofs.Common.{arith, ◌∙◌}
use Rattle.std.proofs.lemmas.Result.{err_from_is_err_and}
use Rattle.icb_avro.specs.Writing.{shortest}
use Rattle.icb_avro.proofs.WriteLemmas.{begins, ends_below, goes_on, last_small, appends_last}
use Rattle.icb_avro.proofs.encoding.put_rest.Goals as goal

pub loop-done-init : goal.loop-done-init
loop-done-init c = begins c.args.out.now c.args.number

pub returns-then-rest-lt128 : goal.returns-then-rest-lt128
returns-then-rest-lt128 c =
    appends_last c.push.result c.args.out.now (shortest 8 c.args.number) c.loop-done.out c.push.new.self c.loop-done.rest c.push.ensures.ok c.push.ensures.err
    (ends_below c.args.out.now c.args.number c.loop-done.out c.loop-done.rest c.loop-done.done c.loop-done.invariant (omega arith)) c.loop-done.invariant.front

pub returns-in_err-push : goal.returns-in_err-push
returns-in_err-push c =
    let p = err_from_is_err_and c.from_residual.result c.from_residual.ensures.1 in
    rw p.1 (c.loop-done.invariant.front.0, c.in_err-push.ensures.err ∙ c.loop-done.invariant.front.1)

pub loop-done-preserved : goal.loop-done-preserved
loop-done-preserved c = rw c.in_ok-push.ensures.ok (goes_on c.args.out.now c.args.number c.loop-done.out c.loop-done.rest c.loop-done.done c.loop-done.invariant (omega arith) (omega arith))

pub returns : goal.returns
returns c =
    let small = last_small c.args.out.now c.args.number c.loop-done.out c.loop-done.rest c.loop-done.done c.loop-done.invariant (omega arith) (omega arith) c.requires in
    appends_last c.push-2.result c.args.out.now (shortest 8 c.args.number) c.loop-done.out c.push-2.new.self c.loop-done.rest c.push-2.ensures.ok c.push-2.ensures.err
    (ends_below c.args.out.now c.args.number c.loop-done.out c.loop-done.rest c.loop-done.done c.loop-done.invariant (omega arith)) c.loop-done.invariant.front
