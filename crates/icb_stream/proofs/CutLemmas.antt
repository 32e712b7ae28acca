-- What follows from a cut: that its blocks lie in the file, one after another, and how long they are.
use Rattle.std.proofs.Common.{◌≡◌, ℕ, zero, suc, ◌+◌, ◌-◌, ◌*◌, ◌/◌, ◌%◌, ◌^◌, ◌<◌, ◌≤◌, min, true, arith}
use Rattle.std.proofs.Math.Nat.{mul-le-mul, mul-le-mul_right, mul-le-mul_left}
use Rattle.std.proofs.lemmas.Bool.{leb-true, le-leb, and_parts, and_from}
use Rattle.std.proofs.lemmas.Grind.{div_ceil_times}
use Rattle.icb_stream.specs.Cut.{overhead, block_start, block_end, block_count, has_cut, IsCut}

-- a product that is at least a number above 0 has a factor above 0
pub some_factor : (c d a : ℕ) → a ≤ c * d → 0 < a → 1 ≤ c
some_factor zero d a h p = grind arith
some_factor (suc c) d a h p = omega arith

-- one less than a number above 0, times something
pub one_less_times : (c d : ℕ) → 1 ≤ c → (c - 1) * d + d ≡ c * d
one_less_times zero d h = absurd (let f : ⊥ = omega (arith, h) in f)
one_less_times (suc c) d h = grind arith

-- the number of blocks: whole blocks reach the end, and one fewer don't
pub count_bounds : (B L : ℕ) → 36 ≤ L
    → (1 ≤ block_count B L) × ((block_count B L - 1) * (B + 28) < L - 8) × (L - 8 ≤ block_count B L * (B + 28))
unfolding block_count
count_bounds B L h =
    let a : ℕ = L - 8 in
    let b : ℕ = B + 28 in
    let c : ℕ = a / b + min 1 (a % b) in
    let bounds = div_ceil_times (L - 8) (B + 28) (omega arith) in
    let some : 1 ≤ block_count B L = some_factor (block_count B L) (B + 28) (L - 8) bounds.0 (omega (arith, h)) in
    let less : (block_count B L - 1) * (B + 28) + (B + 28) ≡ block_count B L * (B + 28) =
    one_less_times (block_count B L) (B + 28) some in
    (some, (omega (arith, bounds.1, less)), bounds.0)

-- a file that is cut is cut into this many blocks
pub cut_facts : (B L : ℕ) → has_cut B L ≡ true → IsCut B L (block_count B L)
unfolding has_cut
cut_facts B L h =
    let n : ℕ = block_count B L in
    let p3 = and_parts _ _ h in
    let p2 = and_parts _ _ p3.0 in
    let p1 = and_parts _ _ p2.0 in
    let p0 = and_parts _ _ p1.1 in
    let long : 36 ≤ L = leb-true _ _ p1.0 in
    let last : block_start B (n - 1) + overhead ≤ L = leb-true _ _ p3.1 in
    let bounds = count_bounds B L long in
    record {
      long = long;
      some_length = leb-true _ _ p0.0;
      most_length = leb-true _ _ p0.1;
      some_blocks = bounds.0;
      few_blocks = leb-true _ _ p2.1;
      last_room = last;
      last_end = omega (arith, bounds.2);
    }

-- and a file in which so many blocks lie is cut
pub cut_from_facts : (B L : ℕ) → IsCut B L (block_count B L) → has_cut B L ≡ true
unfolding has_cut
cut_from_facts B L h =
    and_from _ _ (and_from _ _ (and_from _ _ (le-leb _ _ h.long)
    (and_from _ _ (le-leb _ _ h.some_length) (le-leb _ _ h.most_length)))
    (le-leb _ _ h.few_blocks)) (le-leb _ _ h.last_room)

-- a block of the cut has room for its nonce and tag
pub block_room : (B L n i : ℕ) → IsCut B L n → i < n → block_start B i + 28 ≤ L
block_room B L n i h lt =
    let le : i * (B + 28) ≤ (n - 1) * (B + 28) = mul-le-mul_right (B + 28) (omega (arith, lt)) in
    omega (arith, le, h.last_room)

-- all blocks but the last have the whole length
pub whole_block : (B L n i : ℕ) → IsCut B L n → i + 1 < n → block_end B L i ≡ block_start B (i + 1)
whole_block B L n i h lt =
    let le : (i + 1) * (B + 28) ≤ (n - 1) * (B + 28) = mul-le-mul_right (B + 28) (omega (arith, lt)) in
    omega (arith, le, h.last_room)

-- the last one ends at the recorded length
pub last_block : (B L n i : ℕ) → IsCut B L n → i + 1 ≡ n → block_end B L i ≡ L
last_block B L n i h e =
    let last : L ≤ block_start B (i + 1) = rw e h.last_end in
    omega (arith, last)

-- the nonces and tags of all blocks lie in the file
pub overheads_fit : (B L n : ℕ) → IsCut B L n → 28 * n + 8 ≤ L
overheads_fit B L n h =
    let le : (n - 1) * 28 ≤ (n - 1) * (B + 28) = mul-le-mul_left (n - 1) (omega arith) in
    omega (arith, le, h.last_room, h.some_blocks)

-- the first byte of a block has a place below 2^56
pub block_fits : (B L n i : ℕ) → IsCut B L n → i < n → i * (B + 28) ≤ 2 ^ 31 * (2 ^ 24 + 28)
block_fits B L n i h lt =
    mul-le-mul {n₁ = i} {m₁ = B + 28} {n₂ = 2 ^ 31} {m₂ = 2 ^ 24 + 28} (omega (arith, lt, h.few_blocks))
    (omega (arith, h.most_length))

-- the last block begins in the file
pub last_start : (B L n : ℕ) → n ≡ block_count B L → 36 ≤ L → (1 ≤ n) × (8 + (n - 1) * (B + 28) < L)
last_start B L n e h = let bounds = count_bounds B L h in rw e (bounds.0, omega (arith, bounds.1))

-- a block's bytes aren't more than a whole block's
pub block_at_most : (B L i : ℕ) → block_end B L i - block_start B i ≤ B + 28
block_at_most B L i = omega arith
