use Rattle.std.proofs.Common.{◌<◌, arith, sym, subst}
use Rattle.icb_avro.specs.Answers.{Gives}
use Rattle.icb_avro.proofs.NumberLemmas.{power_small, product_fits, wide_end, wide_last, wide_next, wide_small, wide_tenth}
use Rattle.icb_avro.proofs.numbers.wide_number_at.Goals as goal

pub returns-in_default : goal.returns-in_default
returns-in_default c =
    rw c.refuse.ensures (wide_end c.args.all.now c.loop-done.number c.loop-done.power c.loop-done.done c.loop-done.rest.now c.loop-done.invariant (omega arith) c.in_default.ensures.parts)

pub overflow_mul-result : goal.overflow_mul-result
overflow_mul-result c =
    let e : c.from.result < 128 = omega arith in
    omega (arith, power_small c.loop-done.done c.loop-done.power (omega arith) c.loop-done.invariant.is_power, product_fits c.loop-done.power c.from.result e)

pub overflow_add-result : goal.overflow_add-result
overflow_add-result c =
    let e : c.from.result < 128 = omega arith in
    omega (arith, c.loop-done.invariant.small, power_small c.loop-done.done c.loop-done.power (omega arith) c.loop-done.invariant.is_power, product_fits c.loop-done.power c.from.result e)

pub returns-then-byte-lt128 : goal.returns-then-byte-lt128
returns-then-byte-lt128 c =
    rw c.from.ensures (wide_last c.args.all.now c.loop-done.number c.loop-done.power c.loop-done.done c.loop-done.rest.now c.in-Some.byte c.in-Some.after.now c.loop-done.invariant (omega arith) c.in-Some.ensures.parts (omega arith))

pub overflow_mul-number : goal.overflow_mul-number
overflow_mul-number c =
    let e : c.from-in-loop-done.result < 128 = omega (arith, c.in-Some.ensures.byte) in
    omega (arith, power_small c.loop-done.done c.loop-done.power (omega arith) c.loop-done.invariant.is_power, product_fits c.loop-done.power c.from-in-loop-done.result e)

pub overflow_add-number : goal.overflow_add-number
overflow_add-number c =
    let e : c.from-in-loop-done.result < 128 = omega (arith, c.in-Some.ensures.byte) in
    omega (arith, c.loop-done.invariant.small, power_small c.loop-done.done c.loop-done.power (omega arith) c.loop-done.invariant.is_power, product_fits c.loop-done.power c.from-in-loop-done.result e)

pub overflow_mul-power : goal.overflow_mul-power
overflow_mul-power c = omega (arith, power_small c.loop-done.done c.loop-done.power (omega arith) c.loop-done.invariant.is_power)

pub loop-done-preserved : goal.loop-done-preserved
loop-done-preserved c =
    rw c.from-in-loop-done.ensures (wide_next c.args.all.now c.loop-done.number c.loop-done.power c.loop-done.done c.loop-done.rest.now c.in-Some.byte c.in-Some.after.now c.loop-done.invariant (omega arith) c.in-Some.ensures.parts (omega arith) (omega (arith, c.in-Some.ensures.byte)))

pub tenth_byte-requires : goal.tenth_byte-requires
tenth_byte-requires c = wide_small c.args.all.now c.loop-done.number c.loop-done.power c.loop-done.done c.loop-done.rest.now c.loop-done.invariant (omega arith) (omega arith)

pub returns : goal.returns
returns c =
    subst (λ read. Gives (λ x. (x.0, x.1.now)) c.tenth_byte.result read)
    (sym (wide_tenth c.args.all.now c.loop-done.number c.loop-done.power c.loop-done.done c.loop-done.rest.now c.loop-done.invariant (omega arith) (omega arith)))
    c.tenth_byte.ensures
