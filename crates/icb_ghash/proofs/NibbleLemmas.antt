-- Four coefficients at a time: the remainders of x^4, the 16 multiples of a polynomial, and Horner's rule
-- in x^4.
use Rattle.std.proofs.Common.{◌≡◌, ℕ, ◌+◌, ◌-◌, ◌*◌, ◌/◌, ◌%◌, ◌^◌, ◌<◌, List, [], ◌∷◌, get_or, refl, ap, sym, subst, ◌∙◌, arith, lit<, true, eqb}
use borrow.Author.Count.{below_none, below_more}
use Rattle.std.specs.Prelude.{bit_xor}
use Rattle.std.specs.Int.Bits.{xor_zero_r, xor_shifted}
use Rattle.std.proofs.lemmas.Nat.{mod-pow-add, pow-add, pow_pos, shl_below, shr-shr, xor_comm}
use Rattle.std.proofs.Math.Nat.{add-mul, mod-lt, mul_assoc}
use Rattle.std.proofs.lemmas.Bool.{eqb-true, agree_below_at}
use Rattle.icb_ghash.specs.Ghash.{one, times_x, times_x_power, product}
use Rattle.icb_ghash.specs.Tables.{AreMultiples}
use Rattle.icb_ghash.specs.declared.field.TheConstants.{REMAINDERS}
use Rattle.icb_ghash.proofs.FieldLemmas.{product_comm, product_one, product_sum_left, times_x_power_product, times_x_power_sum, zero_times}

-- ---- x^4 times a polynomial

-- the table has x^4 times each polynomial of the last four coefficients, computed
remainder_at : (n : ℕ) → n < 16 → get_or REMAINDERS n 0 ≡ times_x_power 4 n
unfolding times_x_power times_x
remainder_at n h =
    eqb-true _ _ (agree_below_at (λ i. eqb (get_or REMAINDERS i 0) (times_x_power 4 i)) (λ _. true) 16 n refl h)

-- x times a polynomial without a last coefficient is a shift
times_x_shift : (q : ℕ) → times_x (q * 2) ≡ q
unfolding times_x
times_x_shift q =
    let half : q * 2 / 2 ≡ q = omega arith in
    let last : q * 2 % 2 ≡ 0 = omega arith in
    rw (half, last) (xor_zero_r q)

-- x^4 times a polynomial without its last four coefficients is a shift by four places
pub times_x4_shift : (q : ℕ) → times_x_power 4 (q * 16) ≡ q
unfolding times_x_power
times_x4_shift q =
    let first : q * 16 ≡ q * 8 * 2 = omega arith in
    let second : q * 8 ≡ q * 4 * 2 = omega arith in
    let third : q * 4 ≡ q * 2 * 2 = omega arith in
    ap (λ (v : ℕ). times_x (times_x (times_x v))) (ap times_x first ∙ times_x_shift (q * 8) ∙ second)
    ∙ ap (λ (v : ℕ). times_x (times_x v)) (times_x_shift (q * 4) ∙ third)
    ∙ ap times_x (times_x_shift (q * 2)) ∙ times_x_shift q

-- x^4 times a polynomial: the shift, and what the last four coefficients become
pub times_x4_split : (v : ℕ) → bit_xor (v / 16) (get_or REMAINDERS (v % 16) 0) ≡ times_x_power 4 v
times_x4_split v =
    let parts : bit_xor (v / 16 * 16) (v % 16) ≡ v =
    xor_shifted (v / 16) 4 (v % 16) (omega arith) ∙ omega arith in
    rw (remainder_at (v % 16) (omega arith))
    (ap (λ (n : ℕ). bit_xor n (times_x_power 4 (v % 16))) (sym (times_x4_shift (v / 16)))
    ∙ sym (times_x_power_sum 4 (v / 16 * 16) (v % 16)) ∙ ap (times_x_power 4) parts)

-- ---- the multiples

-- the multiple of a sum
multiple_sum : (a b h p q : ℕ) → product a h ≡ p → product b h ≡ q → bit_xor p q ≡ product (bit_xor a b) h
multiple_sum a b h p q first second =
    ap (λ (n : ℕ). bit_xor n q) (sym first) ∙ ap (bit_xor (product a h)) (sym second)
    ∙ sym (product_sum_left a b h)

-- h times x^j
multiple_power : (j h : ℕ) → h < 2 ^ 128 → product (times_x_power j one) h ≡ times_x_power j h
multiple_power j h bound =
    times_x_power_product j one h (lit< tt) bound
    ∙ ap (times_x_power j) (product_comm one h (lit< tt) bound ∙ product_one h bound)

-- the 16 multiples of h are the sums of h, x times h, x^2 times h and x^3 times h
pub multiples_are : (h h1 h2 h3 : ℕ) → h < 2 ^ 128 → h1 ≡ times_x h → h2 ≡ times_x h1 → h3 ≡ times_x h2
    → AreMultiples (0 ∷ h3 ∷ h2 ∷ (bit_xor h2 h3) ∷ h1 ∷ (bit_xor h1 h3) ∷ (bit_xor h1 h2) ∷ (bit_xor (bit_xor h1 h2) h3) ∷ h ∷ (bit_xor h h3) ∷ (bit_xor h h2) ∷ (bit_xor (bit_xor h h2) h3) ∷ (bit_xor h h1) ∷ (bit_xor (bit_xor h h1) h3) ∷ (bit_xor (bit_xor h h1) h2) ∷ (bit_xor (bit_xor (bit_xor h h1) h2) h3) ∷ []) h
unfolding times_x_power times_x
multiples_are h h1 h2 h3 bound first second third =
    let entries : List ℕ = 0 ∷ h3 ∷ h2 ∷ (bit_xor h2 h3) ∷ h1 ∷ (bit_xor h1 h3) ∷ (bit_xor h1 h2) ∷ (bit_xor (bit_xor h1 h2) h3) ∷ h ∷ (bit_xor h h3) ∷ (bit_xor h h2) ∷ (bit_xor (bit_xor h h2) h3) ∷ (bit_xor h h1) ∷ (bit_xor (bit_xor h h1) h3) ∷ (bit_xor (bit_xor h h1) h2) ∷ (bit_xor (bit_xor (bit_xor h h1) h2) h3) ∷ [] in
    let P : ℕ → Type 0 = λ (n : ℕ). get_or entries n 0 ≡ product (n * 2 ^ 124) h in
    let e0 : product (0 * 2 ^ 124) h ≡ 0 = zero_times h bound in
    let e8 : product (8 * 2 ^ 124) h ≡ h = multiple_power 0 h bound in
    let e4 : product (4 * 2 ^ 124) h ≡ h1 = multiple_power 1 h bound ∙ sym first in
    let e2 : product (2 * 2 ^ 124) h ≡ h2 = multiple_power 2 h bound ∙ sym (second ∙ ap times_x first) in
    let e1 : product (1 * 2 ^ 124) h ≡ h3 =
    multiple_power 3 h bound ∙ sym (third ∙ ap times_x (second ∙ ap times_x first)) in
    let e3 : product (3 * 2 ^ 124) h ≡ bit_xor h2 h3 = sym (multiple_sum (2 * 2 ^ 124) (1 * 2 ^ 124) h h2 h3 e2 e1) in
    let e5 : product (5 * 2 ^ 124) h ≡ bit_xor h1 h3 = sym (multiple_sum (4 * 2 ^ 124) (1 * 2 ^ 124) h h1 h3 e4 e1) in
    let e6 : product (6 * 2 ^ 124) h ≡ bit_xor h1 h2 = sym (multiple_sum (4 * 2 ^ 124) (2 * 2 ^ 124) h h1 h2 e4 e2) in
    let e7 : product (7 * 2 ^ 124) h ≡ bit_xor (bit_xor h1 h2) h3 = sym (multiple_sum (6 * 2 ^ 124) (1 * 2 ^ 124) h (bit_xor h1 h2) h3 e6 e1) in
    let e9 : product (9 * 2 ^ 124) h ≡ bit_xor h h3 = sym (multiple_sum (8 * 2 ^ 124) (1 * 2 ^ 124) h h h3 e8 e1) in
    let e10 : product (10 * 2 ^ 124) h ≡ bit_xor h h2 = sym (multiple_sum (8 * 2 ^ 124) (2 * 2 ^ 124) h h h2 e8 e2) in
    let e11 : product (11 * 2 ^ 124) h ≡ bit_xor (bit_xor h h2) h3 = sym (multiple_sum (10 * 2 ^ 124) (1 * 2 ^ 124) h (bit_xor h h2) h3 e10 e1) in
    let e12 : product (12 * 2 ^ 124) h ≡ bit_xor h h1 = sym (multiple_sum (8 * 2 ^ 124) (4 * 2 ^ 124) h h h1 e8 e4) in
    let e13 : product (13 * 2 ^ 124) h ≡ bit_xor (bit_xor h h1) h3 = sym (multiple_sum (12 * 2 ^ 124) (1 * 2 ^ 124) h (bit_xor h h1) h3 e12 e1) in
    let e14 : product (14 * 2 ^ 124) h ≡ bit_xor (bit_xor h h1) h2 = sym (multiple_sum (12 * 2 ^ 124) (2 * 2 ^ 124) h (bit_xor h h1) h2 e12 e2) in
    let e15 : product (15 * 2 ^ 124) h ≡ bit_xor (bit_xor (bit_xor h h1) h2) h3 = sym (multiple_sum (14 * 2 ^ 124) (1 * 2 ^ 124) h (bit_xor (bit_xor h h1) h2) h3 e14 e1) in
    below_more P 15 (below_more P 14 (below_more P 13 (below_more P 12 (below_more P 11 (below_more P 10 (below_more P 9 (below_more P 8 (below_more P 7 (below_more P 6 (below_more P 5 (below_more P 4 (below_more P 3 (below_more P 2 (below_more P 1 (below_more P 0 (below_none P) (sym e0)) (sym e1)) (sym e2)) (sym e3)) (sym e4)) (sym e5)) (sym e6)) (sym e7)) (sym e8)) (sym e9)) (sym e10)) (sym e11)) (sym e12)) (sym e13)) (sym e14)) (sym e15)

-- ---- Horner's rule in x^4

-- what is in front after a step is below the place of the next four coefficients
front_lt : (a k r low : ℕ) → k + r ≡ 124 → low ≡ a % 2 ^ k * 2 ^ r → low < 2 ^ 124
front_lt a k r low both is =
    rw is (subst (λ (n : ℕ). a % 2 ^ k * 2 ^ r < 2 ^ n) both (shl_below (a % 2 ^ k) k r (mod-lt a (pow_pos k))))

-- with the next four coefficients of a, moved to the front: what was in front moves by x^4
front_more : (a i k r low : ℕ) → k ≡ 4 * i → r + k ≡ 124 → low ≡ a % 2 ^ k * 2 ^ r
    → a % 2 ^ (4 * (i + 1)) * 2 ^ (128 - 4 * (i + 1)) ≡ bit_xor (a / 2 ^ k % 16 * 2 ^ 124) low
front_more a i k r low place whole is =
    let more : 4 * (i + 1) ≡ 4 + k = omega arith in
    let left : 128 - 4 * (i + 1) ≡ r = omega arith in
    let both : k + r ≡ 124 = omega arith in
    let first : a / 2 ^ k % 16 * 2 ^ k * 2 ^ r ≡ a / 2 ^ k % 16 * 2 ^ 124 =
    mul_assoc (a / 2 ^ k % 16) (2 ^ k) (2 ^ r) ∙ ap (λ (n : ℕ). a / 2 ^ k % 16 * n) (sym (pow-add 2 k r))
    ∙ ap (λ (n : ℕ). a / 2 ^ k % 16 * 2 ^ n) both in
    let below : low < 2 ^ 124 = front_lt a k r low both is in
    rw (left, more, mod-pow-add a 4 k, add-mul, first, ← is) (sym (xor_shifted (a / 2 ^ k % 16) 124 low below))

-- one step: x^4 times the sum so far, and the next four coefficients' multiple
horner_step : (a h i k r low : ℕ) → h < 2 ^ 128 → k ≡ 4 * i → r + k ≡ 124 → low ≡ a % 2 ^ k * 2 ^ r
    → bit_xor (times_x_power 4 (product (a % 2 ^ (4 * i) * 2 ^ (128 - 4 * i)) h))
    (product (a / 2 ^ k % 16 * 2 ^ 124) h)
    ≡ product (a % 2 ^ (4 * (i + 1)) * 2 ^ (128 - 4 * (i + 1))) h
horner_step a h i k r low bound place whole is =
    let both : k + r ≡ 124 = omega arith in
    let below : low < 2 ^ 124 = front_lt a k r low both is in
    let now : 128 - 4 * i ≡ r + 4 = omega arith in
    let front : a % 2 ^ (4 * i) * 2 ^ (128 - 4 * i) ≡ low * 16 =
    (rw (now, ← place, pow-add 2 r 4, is) (sym (mul_assoc (a % 2 ^ k) (2 ^ r) 16))) in
    let times16 : low * 16 < 2 ^ 128 = omega (arith, below) in
    let moved : times_x_power 4 (product (low * 16) h) ≡ product low h =
    sym (times_x_power_product 4 (low * 16) h times16 bound)
    ∙ ap (λ (n : ℕ). product n h) (times_x4_shift low) in
    rw (front, moved, front_more a i k r low place whole is)
    (xor_comm (product low h) (product (a / 2 ^ k % 16 * 2 ^ 124) h)
    ∙ sym (product_sum_left (a / 2 ^ k % 16 * 2 ^ 124) low h))

-- one step, as the loop makes it
pub horner_more : (a h i sum rest shifted entry : ℕ) → h < 2 ^ 128 → i < 32 → rest ≡ a / 2 ^ (4 * i)
    → sum ≡ product (a % 2 ^ (4 * i) * 2 ^ (128 - 4 * i)) h → shifted ≡ times_x_power 4 sum
    → entry ≡ product (rest % 16 * 2 ^ 124) h
    → bit_xor shifted entry ≡ product (a % 2 ^ (4 * (i + 1)) * 2 ^ (128 - 4 * (i + 1))) h
horner_more a h i sum rest shifted entry bound below left is moved chosen =
    rw (chosen, moved, is, left)
    (horner_step a h i (4 * i) (124 - 4 * i) (a % 2 ^ (4 * i) * 2 ^ (124 - 4 * i)) bound refl (omega arith) refl)

-- before the first step
pub horner_start : (a h : ℕ) → h < 2 ^ 128 → 0 ≡ product (a % 2 ^ (4 * 0) * 2 ^ (128 - 4 * 0)) h
horner_start a h bound =
    let none : a % 1 * 2 ^ 128 ≡ 0 = omega arith in
    rw none (sym (zero_times h bound))

-- after the last step
pub horner_end : (a h i : ℕ) → a < 2 ^ 128 → i ≡ 32
    → product (a % 2 ^ (4 * i) * 2 ^ (128 - 4 * i)) h ≡ product a h
horner_end a h i bound done =
    let whole : a % 2 ^ 128 * 1 ≡ a = omega arith in
    rw done (ap (λ (n : ℕ). product n h) whole)

-- the coefficients that are left after four more
pub rest_more4 : (a i rest : ℕ) → rest ≡ a / 2 ^ (4 * i) → rest / 16 ≡ a / 2 ^ (4 * (i + 1))
rest_more4 a i rest is =
    let more : 4 * i + 4 ≡ 4 * (i + 1) = omega arith in
    ap (λ (n : ℕ). n / 16) is ∙ shr-shr a (4 * i) 4 ∙ ap (λ (n : ℕ). a / 2 ^ n) more
