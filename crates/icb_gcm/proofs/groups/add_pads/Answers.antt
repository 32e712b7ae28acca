-- One block more.
use Rattle.std.proofs.Common.{◌≡◌, ◌∙◌, refl, ap, ℕ, ◌+◌, ◌*◌, arith}
use Rattle.icb_gcm.specs.Gcm.{crypted_front}
use Rattle.icb_gcm.proofs.BytesLemmas.{front_more}
use Rattle.icb_gcm.proofs.groups.add_pads.Goals as goal

pub loop-b-init : goal.loop-b-init
loop-b-init c = λ key nonce whole size is pads.
    let none : c.args.n ≡ c.args.n + 0 = omega arith in
    is ∙ ap (λ (m : ℕ). crypted_front key nonce m whole) none

pub loop-b-preserved : goal.loop-b-preserved
loop-b-preserved c = λ key nonce whole size is pads.
    let next : c.args.n + (c.loop-b.b + 1) ≡ c.args.n + c.loop-b.b + 1 = omega arith in
    rw next (front_more key nonce whole c.loop-b.text c.add_to_block.new.block _ (c.args.n + c.loop-b.b)
    (16 * (c.args.n + c.loop-b.b)) (16 * (c.args.n + c.loop-b.b) + 16) refl (omega (arith, size)) (omega (arith, size))
    (c.loop-b.invariant key nonce whole size is pads) (pads c.loop-b.b (omega arith)) c.add_to_block.ensures)

pub returns : goal.returns
returns c = λ key nonce whole size is pads.
    let all : c.args.n + c.loop-b.b ≡ c.args.n + 8 = omega arith in
    c.loop-b.invariant key nonce whole size is pads ∙ ap (λ (m : ℕ). crypted_front key nonce m whole) all
