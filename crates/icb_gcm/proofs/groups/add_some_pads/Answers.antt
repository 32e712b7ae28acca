-- One block more, and then the last part of one.
use Rattle.std.proofs.Common.{◌≡◌, ◌∙◌, refl, ap, ℕ, ◌+◌, ◌-◌, ◌*◌, length, arith}
use Rattle.icb_gcm.specs.Gcm.{crypted_front}
use Rattle.icb_gcm.proofs.BytesLemmas.{front_more, front_same}
use Rattle.icb_gcm.proofs.groups.add_some_pads.Goals as goal
use Rattle.icb_gcm.proofs.groups.add_some_pads.Goals.{else-first-count-lt8-via-then-first-count-lt8+else-done-text, else-first-count-lt8-via-else-first-count-lt8}

pub loop-b-init : goal.loop-b-init
loop-b-init c = λ key nonce whole size is pads.
    let none : c.args.n ≡ c.args.n + 0 = omega arith in
    is ∙ ap (λ (m : ℕ). crypted_front key nonce m whole) none

pub loop-b-preserved : goal.loop-b-preserved
loop-b-preserved c = λ key nonce whole size is pads.
    let next : c.args.n + (c.loop-b.b + 1) ≡ c.args.n + c.loop-b.b + 1 = omega arith in
    rw next (front_more key nonce whole c.loop-b.text c.add_to_block.new.block _ (c.args.n + c.loop-b.b)
    (16 * (c.args.n + c.loop-b.b)) (16 * (c.args.n + c.loop-b.b) + 16) refl (omega (arith, size)) (omega (arith, size))
    (c.loop-b.invariant key nonce whole size is pads) (pads c.loop-b.b (omega arith)) c.add_to_block.ensures)

pub returns-then-done-text : goal.returns-then-done-text
returns-then-done-text c = λ key nonce whole size is pads.
    let count = c.min-count.result in
    let m = c.args.n + count in
    let at : c.loop-b.b ≡ count = omega arith in
    let now : c.loop-b.text ≡ crypted_front key nonce m whole =
    c.loop-b.invariant key nonce whole size is pads ∙ ap (λ (b : ℕ). crypted_front key nonce (c.args.n + b) whole) at in
    front_more key nonce whole c.loop-b.text c.add.new.bytes _ m (16 * m) (length c.loop-b.text) refl (omega (arith, size))
    (omega (arith, size)) now (pads count (omega arith)) c.add.ensures
    ∙ front_same key nonce whole (m + 1) (c.args.n + (8 - c.args.first)) (omega (arith, size)) (omega arith)

pub returns-else-first-count-lt8 : goal.returns-else-first-count-lt8
returns-else-first-count-lt8 c = λ key nonce whole size is pads.
    let all = c.args.n + (8 - c.args.first) in
    let now = c.loop-b.invariant key nonce whole size is pads in
    elim c.else-first-count-lt8.branch [
      | else-first-count-lt8-via-then-first-count-lt8+else-done-text w ↦
          now ∙ front_same key nonce whole (c.args.n + c.loop-b.b) all (omega (arith, size)) (omega arith)
      | else-first-count-lt8-via-else-first-count-lt8 w ↦
          let same : c.args.n + c.loop-b.b ≡ all = omega arith in
          now ∙ ap (λ (m : ℕ). crypted_front key nonce m whole) same
    ]
