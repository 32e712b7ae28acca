-- The blocks, one after another.
use Rattle.std.proofs.Common.{◌≡◌, ◌∙◌, ap, refl, ℕ, zero, suc, ◌≤◌, List, arith}
use Rattle.std.specs.Prelude.{replicate}
use Rattle.icb_aes.specs.Fips197.{cipher}
use Rattle.icb_gcm.specs.Gcm.{counter_block}
use Rattle.icb_gcm.proofs.BytesLemmas.{eight_blocks}
use Rattle.icb_gcm.proofs.in_place.ciphers_of.Goals as goal

-- the block of zeros, and behind it the counter blocks by their numbers
abbrev block_at : List ℕ → ℕ → List ℕ
block_at nonce zero = replicate 16 0
block_at nonce (suc j) = counter_block nonce (suc j)

counter_at : (nonce : List ℕ) (j : ℕ) → 1 ≤ j → block_at nonce j ≡ counter_block nonce j
counter_at nonce zero h = absurd (let f : ⊥ = omega (arith, h) in f)
counter_at nonce (suc j) h = refl

pub returns-clause-zeros : goal.returns-clause-zeros
returns-clause-zeros c =
    c.encrypt.ensures 0 (omega arith)
    ∙ ap (cipher c.args.key.now) (eight_blocks (block_at c.args.nonce.now) _ _ _ _ _ _ _ _ refl
    c.counter_block.ensures c.counter_block-2.ensures c.counter_block-3.ensures c.counter_block-4.ensures
    c.counter_block-5.ensures c.counter_block-6.ensures c.counter_block-7.ensures 0 (omega arith))

pub returns-clause-pads : goal.returns-clause-pads
returns-clause-pads c = λ j from h.
    c.encrypt.ensures j h
    ∙ ap (cipher c.args.key.now) (eight_blocks (block_at c.args.nonce.now) _ _ _ _ _ _ _ _ refl
    c.counter_block.ensures c.counter_block-2.ensures c.counter_block-3.ensures c.counter_block-4.ensures
    c.counter_block-5.ensures c.counter_block-6.ensures c.counter_block-7.ensures j h
    ∙ counter_at c.args.nonce.now j from)
