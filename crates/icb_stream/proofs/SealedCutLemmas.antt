-- How a sealed stream is cut: its number of blocks, its length, and the lengths of its pieces.
use Rattle.std.proofs.Common.{◌≡◌, ℕ, zero, suc, ◌+◌, ◌-◌, ◌*◌, ◌^◌, ◌<◌, ◌≤◌, ◌⊎◌, inl, inr, true, List, length, refl, arith, length-take, length-drop}
use Rattle.std.specs.Prelude.{max}
use Rattle.std.specs.Int.{div_ceil}
use Rattle.std.proofs.Math.Nat.{lt_of_mul-lt-mul_right, mul-le-mul_right}
use Rattle.std.proofs.lemmas.Bool.{cases_lt}
use Rattle.std.proofs.lemmas.Grind.{div_ceil_times}
use Rattle.icb_stream.specs.Cut.{block_start, block_end, block_count, has_cut, IsCut}
use Rattle.icb_stream.proofs.CutLemmas.{count_bounds, cut_from_facts, last_block}
use Rattle.icb_stream.specs.Sealing.{sealed_count, piece_of}

-- n pieces of B bytes reach the end of P bytes, and fewer don't, but there is always one
pub record IsCounted (B P n : ℕ) : Type 0 where
  pub some : 1 ≤ n
  pub last : (n ≡ 1) ⊎ ((n - 1) * B < P)
  pub reaches : P ≤ n * B

-- the number of blocks is such a number
pub count_facts : (B P : ℕ) → 1 ≤ B → IsCounted B P (sealed_count P B)
count_facts B P some = from_ceil B P (div_ceil P B) (div_ceil_times P B (omega (arith, some)))
  where
    from_ceil : (B P d : ℕ) → (P ≤ d * B) × (d * B < P + B) → IsCounted B P (max 1 d)
    from_ceil B P zero bounds = record { some = omega arith; last = inl refl; reaches = omega (arith, bounds.0) }
    from_ceil B P (suc d) bounds =
        let more : max 1 (suc d) ≡ suc d = omega arith in
        let less : suc d - 1 ≡ d = omega arith in
        let product : suc d * B ≡ d * B + B = grind arith in
        rw more (record {
          some = omega arith;
          last = inr (rw less (omega (arith, bounds.1, product)));
          reaches = bounds.0;
        })

-- the last piece begins in the plaintext or at its end
pub last_begins : (B P n : ℕ) → IsCounted B P n → (n - 1) * B ≤ P
last_begins B P n h = elim h.last [
  | inl one ↦ (let none : (n - 1) * B ≡ 0 = rw one (omega arith) in omega (arith, none))
  | inr less ↦ omega (arith, less)
]

-- there aren't more blocks than their limit
pub count_fits : (B P n : ℕ) → IsCounted B P n → P ≤ B * 2 ^ 31 → n ≤ 2 ^ 31
count_fits B P n h fits = elim h.last [
  | inl one ↦ omega (arith, one)
  | inr less ↦ (let product : (n - 1) * B < 2 ^ 31 * B = omega (arith, less, fits) in
      let below : n - 1 < 2 ^ 31 = lt_of_mul-lt-mul_right B product in
      omega (arith, below))
]

-- a stream of that length is cut into so many blocks
pub sealed_cut : (B P n L : ℕ) → IsCounted B P n → 1 ≤ B → B ≤ 2 ^ 24 → n ≤ 2 ^ 31 → L ≡ 8 + P + 28 * n
    → IsCut B L n
sealed_cut B P n L h some most few e =
    let last = last_begins B P n h in
    let before : (n - 1) * (B + 28) ≡ (n - 1) * B + 28 * (n - 1) = grind arith in
    let all : n * (B + 28) ≡ n * B + 28 * n = grind arith in
    record {
      long = omega (arith, e, h.some);
      some_length = some;
      most_length = most;
      some_blocks = h.some;
      few_blocks = few;
      last_room = omega (arith, e, last, before, h.some);
      last_end = omega (arith, e, all, h.reaches);
    }

-- and into no other number of them
pub sealed_count_is : (B L n : ℕ) → IsCut B L n → block_count B L ≡ n
sealed_count_is B L n cut =
    let c : ℕ = block_count B L in
    let bounds = count_bounds B L cut.long in
    let low : (c - 1) * (B + 28) < n * (B + 28) = omega (arith, bounds.1, cut.last_end) in
    let high : (n - 1) * (B + 28) < c * (B + 28) = omega (arith, bounds.2, cut.last_room) in
    let below : c - 1 < n = lt_of_mul-lt-mul_right (B + 28) low in
    let above : n - 1 < c = lt_of_mul-lt-mul_right (B + 28) high in
    omega (arith, below, above, bounds.0, cut.some_blocks)

-- so it has a cut
pub sealed_has_cut : (B L n : ℕ) → IsCut B L n → has_cut B L ≡ true
sealed_has_cut B L n cut =
    let same : block_count B L ≡ n = sealed_count_is B L n cut in
    cut_from_facts B L (rw same cut)

-- a piece isn't longer than a block
pub length-piece_le : (plain : List ℕ) (B i : ℕ) → length (piece_of plain B i) ≤ B
length-piece_le plain B i = simp (length-take, length-drop) (omega arith)

-- each piece but the last has the block length
pub whole_piece : (plain : List ℕ) (B n i : ℕ) → IsCounted B (length plain) n → i + 1 < n
    → length (piece_of plain B i) ≡ B
whole_piece plain B n i h lt =
    let last = last_begins B (length plain) n h in
    let le : (i + 1) * B ≤ (n - 1) * B = mul-le-mul_right B (omega (arith, lt)) in
    simp (length-take, length-drop) (omega (arith, last, le))

-- the last one has what is left
pub last_piece : (plain : List ℕ) (B n i : ℕ) → IsCounted B (length plain) n → i + 1 ≡ n
    → length (piece_of plain B i) ≡ length plain - i * B
last_piece plain B n i h e =
    let reaches : length plain ≤ (i + 1) * B = rw e h.reaches in
    simp (length-take, length-drop) (omega (arith, reaches))

-- a block's bytes in the file are a nonce, a tag and its piece
pub piece_in_block : (plain : List ℕ) (B L n i : ℕ) → IsCounted B (length plain) n → IsCut B L n
    → L ≡ 8 + length plain + 28 * n → i < n
    → block_end B L i - block_start B i ≡ length (piece_of plain B i) + 28
piece_in_block plain B L n i h cut e lt = elim (cases_lt (i + 1) n) [
  | inl less ↦ (let piece = whole_piece plain B n i h less in
      let le : (i + 1) * (B + 28) ≤ (n - 1) * (B + 28) = mul-le-mul_right (B + 28) (omega (arith, less)) in
      rw piece (omega (arith, le, cut.last_room)))
  | inr more ↦ (let same : i + 1 ≡ n = omega (arith, lt, more) in
      let piece = last_piece plain B n i h same in
      let begins : i * B ≤ length plain = (let b = last_begins B (length plain) n h in
      let j : n - 1 ≡ i = omega (arith, same) in rw j at b) in
      let end = last_block B L n i cut same in
      let product : i * (B + 28) ≡ i * B + 28 * i = grind arith in
      rw (piece, end) (omega (arith, e, begins, same, product)))
]
