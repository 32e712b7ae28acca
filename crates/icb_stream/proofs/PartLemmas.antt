-- Where the plaintext of each block lies in the plaintext of all blocks.
use Rattle.std.proofs.Common.{◌≡◌, ℕ, ◌+◌, ◌-◌, ◌*◌, ◌/◌, ◌<◌, ◌≤◌, ◌⊎◌, inl, inr, ap, sym, arith}
use Rattle.std.proofs.Math.Nat.{mul-le-mul_right, div-mul-le_self, lt-div-mul-add, lt_of_mul-lt-mul_right}
use Rattle.std.proofs.lemmas.Bool.{cases_lt}
use Rattle.icb_stream.specs.Cut.{block_start, IsCut, part_size, plain_size}
use Rattle.icb_stream.proofs.CutLemmas.{whole_block, last_block, block_room}

-- all blocks but the last have the block length
pub whole_part : (B L n i : ℕ) → IsCut B L n → i + 1 < n → part_size B L i ≡ B
whole_part B L n i h lt = let e = whole_block B L n i h lt in rw e (omega arith)

-- the last one ends at the end of the plaintext
pub last_part : (B L n i : ℕ) → IsCut B L n → i + 1 ≡ n → i * B + part_size B L i ≡ plain_size L n
last_part B L n i h e =
    let last = last_block B L n i h e in
    let room = block_room B L n i h (omega (arith, e)) in
    rw (last, sym e) (omega (arith, room))

-- and isn't longer than the block length
pub last_part_fits : (B L n i : ℕ) → IsCut B L n → i + 1 ≡ n → part_size B L i ≤ B
last_part_fits B L n i h e =
    let last = last_block B L n i h e in
    let most : L ≤ block_start B (i + 1) = rw e h.last_end in
    rw last (omega (arith, most))

-- each block begins in the plaintext or at its end
pub part_begins : (B L n i : ℕ) → IsCut B L n → i < n → i * B ≤ plain_size L n
part_begins B L n i h lt =
    let le : i * B ≤ (n - 1) * B = mul-le-mul_right B (omega (arith, lt)) in
    let last = last_part B L n (n - 1) h (omega (arith, lt)) in
    omega (arith, le, last)

-- each block but the last ends in the plaintext or at its end
pub part_ends : (B L n i : ℕ) → IsCut B L n → i + 1 < n → (i + 1) * B ≤ plain_size L n
part_ends B L n i h lt = part_begins B L n (i + 1) h lt

-- a place below the end of a whole block is at most the end of the block
pub place_in_part : (B L n i at : ℕ) → IsCut B L n → i < n → at ≤ plain_size L n → at < (i + 1) * B
    → at ≤ i * B + part_size B L i
place_in_part B L n i at h lt le below = elim (cases_lt (i + 1) n) [
  | inl less ↦ (let whole = whole_part B L n i h less in rw whole (omega (arith, below)))
  | inr more ↦ (let last = last_part B L n i h (omega (arith, lt, more)) in omega (arith, last, le))
]

-- the plaintext isn't longer than n whole blocks
pub plain_fits : (B L n : ℕ) → IsCut B L n → plain_size L n ≤ n * B
plain_fits B L n h =
    let e : n - 1 + 1 ≡ n = omega (arith, h.some_blocks) in
    let last = last_part B L n (n - 1) h e in
    let fits = last_part_fits B L n (n - 1) h e in
    let more : (n - 1 + 1) * B ≡ n * B = ap (λ m. m * B) e in
    omega (arith, last, fits, more)

-- the block of a place in the plaintext
pub block_of_place : (B L n at : ℕ) → IsCut B L n → at < plain_size L n
    → (at / B < n) × (at / B * B ≤ at) × (at < (at / B + 1) * B)
block_of_place B L n at h lt =
    let low : at / B * B ≤ at = div-mul-le_self at B in
    let high : at < at / B * B + B = lt-div-mul-add (omega (arith, h.some_length)) in
    let fits = plain_fits B L n h in
    let less : at / B * B < n * B = omega (arith, low, lt, fits) in
    (lt_of_mul-lt-mul_right B less, low, (omega (arith, high)))

-- a range that ends at the end of the plaintext, not being empty, touches each block that begins below
-- its end, and the last one
pub touched_to_end : (B L n i end : ℕ) → IsCut B L n → i < n → 1 ≤ end → end ≡ plain_size L n
    → (i * B < end) ⊎ ((end ≡ plain_size L n) × (i + 1 ≡ n))
touched_to_end B L n i end h lt some e = elim (cases_lt (i + 1) n) [
  | inl less ↦ inl (let ends = part_ends B L n i h less in omega (arith, ends, e, h.some_length))
  | inr more ↦ inr (e, (omega (arith, lt, more)))
]

-- a block that is touched begins in the range or at its end
pub touched_begins : (B L n i end : ℕ) → IsCut B L n → i < n
    → (i * B < end) ⊎ ((end ≡ plain_size L n) × (i + 1 ≡ n)) → i * B ≤ end
touched_begins B L n i end h lt (inl less) = omega (arith, less)
touched_begins B L n i end h lt (inr last) = let begins = part_begins B L n i h lt in omega (arith, begins, last.0)
