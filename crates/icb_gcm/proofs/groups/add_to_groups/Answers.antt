-- One group more.
use Rattle.std.proofs.Common.{◌≡◌, ◌∙◌, ap, ℕ, ◌+◌, ◌*◌, arith}
use Rattle.icb_aes.specs.Fips197.{cipher}
use Rattle.icb_gcm.specs.Gcm.{counter_block, crypted_front}
use Rattle.icb_gcm.proofs.groups.add_to_groups.Goals as goal

pub loop-g-init : goal.loop-g-init
loop-g-init c = λ whole size is.
    let none : c.args.n ≡ c.args.n + 8 * 0 = omega arith in
    is ∙ ap (λ (m : ℕ). crypted_front c.args.key.now c.args.nonce.now m whole) none

pub loop-g-preserved : goal.loop-g-preserved
loop-g-preserved c = λ whole size is.
    let from = c.args.n + 8 * c.loop-g.g in
    let next : from + 8 ≡ c.args.n + 8 * (c.loop-g.g + 1) = omega arith in
    c.add_pads.ensures c.args.key.now c.args.nonce.now whole (omega (arith, size)) (c.loop-g.invariant whole size is)
    (λ b h. let counter : from + 2 + b ≡ from + b + 2 = omega arith in
    c.pads_of-pads.ensures b h
    ∙ ap (λ (n : ℕ). cipher c.args.key.now (counter_block c.args.nonce.now n)) counter)
    ∙ ap (λ (m : ℕ). crypted_front c.args.key.now c.args.nonce.now m whole) next
