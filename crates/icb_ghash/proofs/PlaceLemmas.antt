-- Products by place: their table, and the product as their sum.
use Rattle.std.proofs.Common.{◌≡◌, ℕ, ◌+◌, ◌-◌, ◌*◌, ◌/◌, ◌%◌, ◌^◌, ◌<◌, ◌≤◌, List, length, get_or, set, refl, ap, sym, ◌∙◌, arith, ⊎_elim}
use Rattle.std.specs.Prelude.{bit_xor}
use Rattle.std.specs.Int.Bits.{xor_shifted}
use Rattle.std.proofs.lemmas.Bool.{cases_eq, cases_lt}
use Rattle.std.proofs.lemmas.List.{get_or-set_same, get_or-set_other}
use Rattle.std.proofs.lemmas.Nat.{mod-pow-add, pow-add, pow_pos, shl_below, xor_comm}
use Rattle.std.proofs.Math.Nat.{lt_of_lt_of_le, mod-lt, mul_assoc, pow-le-pow_right}
use Rattle.icb_ghash.specs.Ghash.{times_x_power, product}
use Rattle.icb_ghash.specs.Tables.{AreMultiples, ArePlaceProducts}
use Rattle.icb_ghash.proofs.FieldLemmas.{product_sum_left, times_x_power_product, zero_times}
use Rattle.icb_ghash.proofs.NibbleLemmas.{times_x4_shift}

-- ---- the table

-- the products at a place are x^4 times those at the next one
place_moved : (n p h : ℕ) → n < 16 → p < 31 → h < 2 ^ 128
    → times_x_power 4 (product (n * 2 ^ (4 * (p + 1))) h) ≡ product (n * 2 ^ (4 * p)) h
place_moved n p h small last bound =
    let next : 4 * (p + 1) ≡ 4 * p + 4 = omega arith in
    let whole : n * 2 ^ (4 * (p + 1)) ≡ n * 2 ^ (4 * p) * 16 =
    (rw (next, pow-add 2 (4 * p) 4) (sym (mul_assoc n (2 ^ (4 * p)) 16))) in
    let room : 4 + 4 * p ≤ 124 = omega arith in
    let below : n * 2 ^ (4 * p) < 2 ^ 124 =
    lt_of_lt_of_le (shl_below n 4 (4 * p) small) (pow-le-pow_right (omega arith) room) in
    let fits : n * 2 ^ (4 * p) * 16 < 2 ^ 128 = omega (arith, below) in
    rw whole
    (sym (times_x_power_product 4 (n * 2 ^ (4 * p) * 16) h fits bound)
    ∙ ap (λ (v : ℕ). product v h) (times_x4_shift (n * 2 ^ (4 * p))))

-- an entry, from the multiples or from the next place
pub entry_is : (multiples products : List ℕ) (h i value : ℕ) → h < 2 ^ 128 → i < 512 → AreMultiples multiples h
    → ((j : ℕ) → 512 ≤ j + i → j < 512 → get_or products j 0 ≡ product (j % 16 * 2 ^ (4 * (j / 16))) h)
    → (496 ≤ 511 - i → value ≡ get_or multiples (511 - i - 496) 0)
    → (511 - i < 496 → value ≡ times_x_power 4 (get_or products (511 - i + 16) 0))
    → value ≡ product ((511 - i) % 16 * 2 ^ (4 * ((511 - i) / 16))) h
entry_is multiples products h i value bound below are entries foremost moved =
    ⊎_elim
    (λ (inner : 511 - i < 496).
    let n : (511 - i + 16) % 16 ≡ (511 - i) % 16 = omega arith in
    let p : (511 - i + 16) / 16 ≡ (511 - i) / 16 + 1 = omega arith in
    moved inner
    ∙ ap (times_x_power 4) (entries (511 - i + 16) (omega arith) (omega arith)
    ∙ (rw (n, p) refl))
    ∙ place_moved ((511 - i) % 16) ((511 - i) / 16) h (omega arith) (omega arith) bound)
    (λ (outer : 496 ≤ 511 - i).
    let n : 511 - i - 496 ≡ (511 - i) % 16 = omega arith in
    let p : (511 - i) / 16 ≡ 31 = omega arith in
    foremost outer ∙ are (511 - i - 496) (omega arith)
    ∙ (rw (p, n) refl))
    (cases_lt (511 - i) 496)

-- one entry more
pub entries_more : (products : List ℕ) (h i value : ℕ) → length products ≡ 512 → i < 512
    → ((j : ℕ) → 512 ≤ j + i → j < 512 → get_or products j 0 ≡ product (j % 16 * 2 ^ (4 * (j / 16))) h)
    → value ≡ product ((511 - i) % 16 * 2 ^ (4 * ((511 - i) / 16))) h
    → (j : ℕ) → 512 ≤ j + (i + 1) → j < 512
    → get_or (set products (511 - i) value) j 0 ≡ product (j % 16 * 2 ^ (4 * (j / 16))) h
entries_more products h i value size below entries is j from to =
    ⊎_elim
    (λ (here : j ≡ 511 - i). rw here (get_or-set_same products (511 - i) value 0 (omega arith) ∙ is))
    (λ (other : j ≡ 511 - i → ⊥).
    get_or-set_other products (511 - i) j value 0 other ∙ entries j (omega arith) to)
    (cases_eq j (511 - i))

-- ---- the product

-- one place more
pub places_more : (a h p sum rest entry : ℕ) → rest ≡ a / 2 ^ (4 * p) → sum ≡ product (a % 2 ^ (4 * p)) h
    → entry ≡ product (rest % 16 * 2 ^ (4 * p)) h → bit_xor sum entry ≡ product (a % 2 ^ (4 * (p + 1))) h
places_more a h p sum rest entry left is chosen =
    let more : 4 * (p + 1) ≡ 4 + 4 * p = omega arith in
    rw (
      chosen,
      is,
      left,
      more,
      mod-pow-add a 4 (4 * p),
      sym (xor_shifted (a / 2 ^ (4 * p) % 16) (4 * p) (a % 2 ^ (4 * p)) (mod-lt a (pow_pos (4 * p)))),
    )
    (xor_comm (product (a % 2 ^ (4 * p)) h) (product (a / 2 ^ (4 * p) % 16 * 2 ^ (4 * p)) h)
    ∙ sym (product_sum_left (a / 2 ^ (4 * p) % 16 * 2 ^ (4 * p)) (a % 2 ^ (4 * p)) h))

-- an entry of the table, as the product takes it
pub place_entry : (products : List ℕ) (h p n : ℕ) → ArePlaceProducts products h → p < 32 → n < 16
    → get_or products (16 * p + n) 0 ≡ product (n * 2 ^ (4 * p)) h
place_entry products h p n are place small =
    let place_of : (16 * p + n) / 16 ≡ p = omega arith in
    let bits_of : (16 * p + n) % 16 ≡ n = omega arith in
    are (16 * p + n) (omega arith) ∙ (rw (place_of, bits_of) refl)

-- before the first place
pub places_start : (a h : ℕ) → h < 2 ^ 128 → 0 ≡ product (a % 2 ^ (4 * 0)) h
places_start a h bound =
    let none : a % 1 ≡ 0 = omega arith in
    rw none (sym (zero_times h bound))

-- after the last place
pub places_end : (a h p : ℕ) → a < 2 ^ 128 → p ≡ 32 → product (a % 2 ^ (4 * p)) h ≡ product a h
places_end a h p bound done =
    let whole : a % 2 ^ 128 ≡ a = omega arith in
    rw done (ap (λ (n : ℕ). product n h) whole)
