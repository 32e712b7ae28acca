-- The eight counter blocks, one after another.
use Rattle.std.proofs.Common.{◌≡◌, ◌∙◌, refl, ap, ℕ, ◌+◌, ◌%◌, ◌^◌, List, arith}
use Rattle.icb_aes.specs.Fips197.{cipher}
use Rattle.icb_gcm.specs.Gcm.{counter_block}
use Rattle.icb_gcm.proofs.BytesLemmas.{counter_block_mod, eight_blocks}
use Rattle.icb_gcm.proofs.groups.pads_of.Goals as goal

pub returns : goal.returns
returns c = λ b h.
    let nonce = c.args.nonce.now in
    let j = c.args.j in
    let none : j ≡ j + 0 = omega arith in
    let at : (n k : ℕ) (block : List ℕ) → n ≡ (j + k) % 2 ^ 32 → block ≡ counter_block nonce n → block ≡ counter_block nonce (j + k) =
    λ n k block e is. is ∙ ap (counter_block nonce) e ∙ counter_block_mod nonce (j + k) in
    c.encrypt.ensures b h
    ∙ ap (cipher c.args.key.now) (eight_blocks (λ b. counter_block nonce (j + b)) _ _ _ _ _ _ _ _
    (c.counter_block.ensures ∙ ap (counter_block nonce) none)
    (at _ 1 _ refl c.counter_block-2.ensures) (at _ 2 _ refl c.counter_block-3.ensures)
    (at _ 3 _ refl c.counter_block-4.ensures) (at _ 4 _ refl c.counter_block-5.ensures)
    (at _ 5 _ refl c.counter_block-6.ensures) (at _ 6 _ refl c.counter_block-7.ensures)
    (at _ 7 _ refl c.counter_block-8.ensures) b h)
