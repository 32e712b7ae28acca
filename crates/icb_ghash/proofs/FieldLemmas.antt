-- The field GF(2^128): its product commutes, is associative, distributes over the sum and has a unit.
-- Each follows from one fact, that times_x and therefore each product is additive in its second factor.
use Rattle.std.proofs.Common.{◌≡◌, ℕ, zero, suc, ◌+◌, ◌-◌, ◌*◌, ◌/◌, ◌%◌, ◌^◌, ◌<◌, Bool, true, false, refl, ap, sym, ◌∙◌, arith, lit<, eqb, ⊎_elim, add-one}
use Rattle.std.specs.Prelude.{bit_xor, ◌==◌, if◌then◌else◌}
use Rattle.std.specs.Int.Bits.{xor_assoc, xor_self, xor_zero_l, xor_zero_r, xor_shr, xor_mod, xor_shifted}
use Rattle.std.proofs.lemmas.Nat.{xor_comm, xor_lt, pow_below, shr-shr}
use Rattle.std.proofs.Math.Nat.{pow-suc, lt-suc_self, mod-lt, div-eq_of_lt, div-one, mul-one}
use Rattle.std.proofs.lemmas.Bool.{eqb-true, eq-eqb, ne_eqb, cases_eq, agree_below_at}
use Rattle.icb_ghash.specs.Ghash.{coefficient, one, x, times_x, times_x_power, partial_product, product}

-- the four terms of two sums, in another order
pub sum_turned : (a b c d : ℕ)
    → bit_xor (bit_xor a b) (bit_xor c d) ≡ bit_xor (bit_xor a c) (bit_xor b d)
sum_turned a b c d =
    xor_assoc a b (bit_xor c d)
    ∙ ap (bit_xor a) (sym (xor_assoc b c d) ∙ ap (λ (n : ℕ). bit_xor n d) (xor_comm b c) ∙ xor_assoc c b d)
    ∙ sym (xor_assoc a c (bit_xor b d))

-- two numbers whose sum is 0 are one
pub same_from_sum : (a b : ℕ) → bit_xor a b ≡ 0 → a ≡ b
same_from_sum a b e =
    sym (xor_zero_r a) ∙ ap (bit_xor a) (sym (xor_self b)) ∙ sym (xor_assoc a b b)
    ∙ ap (λ (n : ℕ). bit_xor n b) e ∙ xor_zero_l b

-- a sum is there or not where both of its terms are
pub choice_sum : (b : Bool) (v w : ℕ)
    → (if b then bit_xor v w else 0) ≡ bit_xor (if b then v else 0) (if b then w else 0)
choice_sum true v w = refl
choice_sum false v w = refl

-- a 0 that is there or not
choice_zero : (b : Bool) → bit_xor 0 (if b then 0 else 0) ≡ 0
choice_zero true = refl
choice_zero false = refl

-- a polynomial that is there or not
pub choice_lt : (b : Bool) (v : ℕ) → v < 2 ^ 128 → (if b then v else 0) < 2 ^ 128
choice_lt true v h = h
choice_lt false v h = lit< tt

-- what x^128 leaves of a sum
pub reduction_sum : (p q r : ℕ) → p < 2 → q < 2
    → (if bit_xor p q == 1 then r else 0) ≡ bit_xor (if p == 1 then r else 0) (if q == 1 then r else 0)
reduction_sum zero zero r hp hq = refl
reduction_sum zero (suc zero) r hp hq = sym (xor_zero_l r)
reduction_sum (suc zero) zero r hp hq = sym (xor_zero_r r)
reduction_sum (suc zero) (suc zero) r hp hq = sym (xor_self r)
reduction_sum p q r hp hq = absurd (let f : ⊥ = omega arith in f)

-- ---- times x

-- x times a sum
pub times_x_sum : (v w : ℕ) → times_x (bit_xor v w) ≡ bit_xor (times_x v) (times_x w)
unfolding times_x
times_x_sum v w =
    let half : bit_xor v w / 2 ≡ bit_xor (v / 2) (w / 2) = xor_shr v w 1 in
    let last : bit_xor v w % 2 ≡ bit_xor (v % 2) (w % 2) = xor_mod v w 1 in
    rw (half, last, reduction_sum (v % 2) (w % 2) (0xe1 * 2 ^ 120) (omega arith) (omega arith))
    (sum_turned (v / 2) (w / 2) (if v % 2 == 1 then 0xe1 * 2 ^ 120 else 0)
    (if w % 2 == 1 then 0xe1 * 2 ^ 120 else 0))

-- x times 0
pub times_x_zero : times_x 0 ≡ 0
unfolding times_x
times_x_zero = refl

-- x times a polynomial that is there or not
times_x_choice : (b : Bool) (v : ℕ) → times_x (if b then v else 0) ≡ (if b then times_x v else 0)
times_x_choice true v = refl
times_x_choice false v = times_x_zero

-- x times a polynomial is a polynomial of degree below 128
pub times_x_lt : (v : ℕ) → v < 2 ^ 128 → times_x v < 2 ^ 128
unfolding times_x
times_x_lt v h =
    xor_lt 128 (v / 2) _ (omega arith) (choice_lt (v % 2 == 1) (0xe1 * 2 ^ 120) (lit< tt))

-- ---- times a power of x

-- x^n times a sum
pub times_x_power_sum : (n v w : ℕ)
    → times_x_power n (bit_xor v w) ≡ bit_xor (times_x_power n v) (times_x_power n w)
unfolding times_x_power
times_x_power_sum zero v w = refl
times_x_power_sum (suc n) v w =
    ap times_x (times_x_power_sum n v w) ∙ times_x_sum (times_x_power n v) (times_x_power n w)

-- x^n times 0
pub times_x_power_zero : (n : ℕ) → times_x_power n 0 ≡ 0
unfolding times_x_power
times_x_power_zero zero = refl
times_x_power_zero (suc n) = ap times_x (times_x_power_zero n) ∙ times_x_zero

-- x^n times x times v
pub times_x_power_more : (n v : ℕ) → times_x_power n (times_x v) ≡ times_x_power (suc n) v
unfolding times_x_power
times_x_power_more zero v = refl
times_x_power_more (suc n) v = ap times_x (times_x_power_more n v)

-- x^n times a polynomial
pub times_x_power_lt : (n v : ℕ) → v < 2 ^ 128 → times_x_power n v < 2 ^ 128
unfolding times_x_power
times_x_power_lt zero v h = h
times_x_power_lt (suc n) v h = times_x_lt (times_x_power n v) (times_x_power_lt n v h)

-- x^n times a polynomial that is there or not
times_x_power_choice : (n : ℕ) (b : Bool) (v : ℕ)
    → times_x_power n (if b then v else 0) ≡ (if b then times_x_power n v else 0)
times_x_power_choice n true v = refl
times_x_power_choice n false v = times_x_power_zero n

-- ---- partial products

-- a partial product with a sum
pub partial_product_sum : (n a v w : ℕ)
    → partial_product n a (bit_xor v w) ≡ bit_xor (partial_product n a v) (partial_product n a w)
unfolding partial_product
partial_product_sum zero a v w = refl
partial_product_sum (suc n) a v w =
    rw (
      partial_product_sum n a v w,
      times_x_power_sum n v w,
      choice_sum (coefficient a n == 1) (times_x_power n v) (times_x_power n w),
    )
    (sum_turned (partial_product n a v) (partial_product n a w)
    (if coefficient a n == 1 then times_x_power n v else 0)
    (if coefficient a n == 1 then times_x_power n w else 0))

-- a partial product with 0
pub partial_product_zero : (n a : ℕ) → partial_product n a 0 ≡ 0
unfolding partial_product
partial_product_zero zero a = refl
partial_product_zero (suc n) a =
    rw (partial_product_zero n a, times_x_power_zero n) (choice_zero (coefficient a n == 1))

-- a partial product with x times v
pub partial_product_times_x : (n a v : ℕ)
    → partial_product n a (times_x v) ≡ times_x (partial_product n a v)
unfolding partial_product times_x_power
partial_product_times_x zero a v = sym times_x_zero
partial_product_times_x (suc n) a v =
    rw (partial_product_times_x n a v, times_x_power_more n v)
    (sym (times_x_sum (partial_product n a v) (if coefficient a n == 1 then times_x_power n v else 0)
    ∙ ap (bit_xor (times_x (partial_product n a v)))
    (times_x_choice (coefficient a n == 1) (times_x_power n v))))

-- a partial product with x^j times v
pub partial_product_times_x_power : (n a j v : ℕ)
    → partial_product n a (times_x_power j v) ≡ times_x_power j (partial_product n a v)
unfolding times_x_power
partial_product_times_x_power n a zero v = refl
partial_product_times_x_power n a (suc j) v =
    partial_product_times_x n a (times_x_power j v) ∙ ap times_x (partial_product_times_x_power n a j v)

-- a partial product with a term that is there or not
partial_product_choice : (n a : ℕ) (b : Bool) (v : ℕ)
    → partial_product n a (if b then v else 0) ≡ (if b then partial_product n a v else 0)
partial_product_choice n a true v = refl
partial_product_choice n a false v = partial_product_zero n a

-- two partial products, in either order
pub partial_product_swap : (m n a b v : ℕ)
    → partial_product m a (partial_product n b v) ≡ partial_product n b (partial_product m a v)
unfolding partial_product
partial_product_swap m zero a b v = partial_product_zero m a
partial_product_swap m (suc n) a b v =
    partial_product_sum m a (partial_product n b v) (if coefficient b n == 1 then times_x_power n v else 0)
    ∙ (rw (
      partial_product_swap m n a b v,
      partial_product_choice m a (coefficient b n == 1) (times_x_power n v),
      partial_product_times_x_power m a n v,
    ) refl)

-- a partial product of polynomials
pub partial_product_lt : (n a v : ℕ) → v < 2 ^ 128 → partial_product n a v < 2 ^ 128
unfolding partial_product
partial_product_lt zero a v h = lit< tt
partial_product_lt (suc n) a v h =
    xor_lt 128 _ _ (partial_product_lt n a v h)
    (choice_lt (coefficient a n == 1) (times_x_power n v) (times_x_power_lt n v h))

-- ---- the unit

-- x^n itself, as a block
pub times_x_power_one : (n : ℕ) → n < 128 → times_x_power n one ≡ 2 ^ (127 - n)
unfolding times_x_power times_x
times_x_power_one n h =
    eqb-true _ _ (agree_below_at (λ i. eqb (times_x_power i one) (2 ^ (127 - i))) (λ _. true) 128 n refl h)

-- the highest bits of a number and one more
high_bits_more : (q m : ℕ)
    → bit_xor (q / 2 * 2 ^ suc m) (if q % 2 == 1 then 2 ^ m else 0) ≡ q * 2 ^ m
high_bits_more q m = ⊎_elim
    (λ (e : q % 2 ≡ 1). let test : (q % 2 == 1) ≡ true = eq-eqb _ _ e in
    let split : q ≡ q / 2 * 2 + 1 = omega arith in
    let less : 2 ^ m < 2 ^ suc m = pow_below m (suc m) (lt-suc_self m) in
    rw test (xor_shifted (q / 2) (suc m) (2 ^ m) less
    ∙ (rw (pow-suc 2 m) (sym (ap (λ (n : ℕ). n * 2 ^ m) split ∙ omega arith)))))
    (λ (ne : q % 2 ≡ 1 → ⊥). let test : (q % 2 == 1) ≡ false = ne_eqb _ _ ne in
    let split : q ≡ q / 2 * 2 = omega (arith, ne) in
    rw test (xor_zero_r _ ∙ (rw (pow-suc 2 m) (sym (ap (λ (n : ℕ). n * 2 ^ m) split ∙ omega arith)))))
    (cases_eq (q % 2) 1)

-- the partial products with 1 are the highest bits
partial_product_one : (a n m : ℕ) → a < 2 ^ 128 → n + m ≡ 128 → partial_product n a one ≡ a / 2 ^ m * 2 ^ m
unfolding partial_product
partial_product_one a zero m h e =
    let whole : m ≡ 128 = omega arith in
    rw whole (sym (ap (λ (q : ℕ). q * 2 ^ 128) (div-eq_of_lt h)))
partial_product_one a (suc n) m h e =
    let place : 127 - n ≡ m = omega arith in
    let below : n < 128 = omega arith in
    let rest : n + suc m ≡ 128 = omega arith in
    let half : a / 2 ^ suc m ≡ a / 2 ^ m / 2 =
    ap (λ (k : ℕ). a / 2 ^ k) (sym (add-one m)) ∙ sym (shr-shr a m 1) in
    rw (partial_product_one a n (suc m) h rest, times_x_power_one n below, place, half)
    (high_bits_more (a / 2 ^ m) m)

-- ---- the laws

-- the product of two polynomials is one of degree below 128
pub product_lt : (a b : ℕ) → b < 2 ^ 128 → product a b < 2 ^ 128
unfolding product
product_lt a b h = partial_product_lt 128 a b h

-- the product is additive in its second factor
pub product_sum : (a b c : ℕ) → product a (bit_xor b c) ≡ bit_xor (product a b) (product a c)
unfolding product
product_sum a b c = partial_product_sum 128 a b c

-- 1 is the unit on the right
pub product_one : (a : ℕ) → a < 2 ^ 128 → product a one ≡ a
unfolding product
product_one a h = partial_product_one a 128 0 h refl ∙ (rw (div-one, mul-one) refl)

-- a product with a product, in either order of the first factors
pub product_swap : (a b c : ℕ) → product a (product b c) ≡ product b (product a c)
unfolding product
product_swap a b c = partial_product_swap 128 128 a b c

-- the product commutes
pub product_comm : (a b : ℕ) → a < 2 ^ 128 → b < 2 ^ 128 → product a b ≡ product b a
product_comm a b ha hb =
    ap (product a) (sym (product_one b hb)) ∙ product_swap a b one ∙ ap (product b) (product_one a ha)

-- the product is associative
pub product_assoc : (a b c : ℕ) → b < 2 ^ 128 → c < 2 ^ 128
    → product (product a b) c ≡ product a (product b c)
product_assoc a b c hb hc =
    product_comm (product a b) c (product_lt a b hb) hc
    ∙ product_swap c a b
    ∙ ap (product a) (product_comm c b hc hb)

-- x times 1
times_x_one : times_x one ≡ x
unfolding times_x
times_x_one = refl

-- the product with x is the shift with its reduction
pub product_x : (b : ℕ) → b < 2 ^ 128 → product x b ≡ times_x b
unfolding product
product_x b h =
    product_comm x b (lit< tt) h
    ∙ ap (product b) (sym times_x_one)
    ∙ partial_product_times_x 128 b one
    ∙ ap times_x (product_one b h)

-- a partial product is additive in its first factor too
partial_product_sum_left : (n a b v : ℕ)
    → partial_product n (bit_xor a b) v ≡ bit_xor (partial_product n a v) (partial_product n b v)
unfolding partial_product
partial_product_sum_left zero a b v = refl
partial_product_sum_left (suc n) a b v =
    let bits : coefficient (bit_xor a b) n ≡ bit_xor (coefficient a n) (coefficient b n) =
    ap (λ (q : ℕ). q % 2) (xor_shr a b (127 - n)) ∙ xor_mod (a / 2 ^ (127 - n)) (b / 2 ^ (127 - n)) 1 in
    rw (
      partial_product_sum_left n a b v,
      bits,
      reduction_sum (coefficient a n) (coefficient b n) (times_x_power n v)
          (mod-lt _ (lit< tt)) (mod-lt _ (lit< tt)),
    )
    (sum_turned (partial_product n a v) (partial_product n b v)
    (if coefficient a n == 1 then times_x_power n v else 0)
    (if coefficient b n == 1 then times_x_power n v else 0))

-- the product is additive in its first factor too
pub product_sum_left : (a b c : ℕ) → product (bit_xor a b) c ≡ bit_xor (product a c) (product b c)
unfolding product
product_sum_left a b c = partial_product_sum_left 128 a b c

-- 0 times a
pub zero_times : (a : ℕ) → a < 2 ^ 128 → product 0 a ≡ 0
unfolding product
zero_times a h = product_comm 0 a (lit< tt) h ∙ partial_product_zero 128 a

-- x^j times a product is the product with x^j times its first factor
pub times_x_power_product : (j a b : ℕ) → a < 2 ^ 128 → b < 2 ^ 128
    → product (times_x_power j a) b ≡ times_x_power j (product a b)
unfolding product
times_x_power_product j a b ha hb =
    product_comm (times_x_power j a) b (times_x_power_lt j a ha) hb
    ∙ partial_product_times_x_power 128 b j a
    ∙ ap (times_x_power j) (product_comm b a hb ha)

-- ---- one bit after another

-- the sum so far times x, and the next bit's term: what is left of the product stays
pub product_turn : (a b i n sum rest : ℕ) → n + i ≡ 127 → rest ≡ a / 2 ^ i
    → bit_xor (partial_product (suc n) a b) (times_x_power (suc n) sum)
    ≡ bit_xor (partial_product n a b)
    (times_x_power n (bit_xor (times_x sum) (if rest % 2 == 1 then b else 0)))
unfolding partial_product
product_turn a b i n sum rest e is =
    let place : 127 - n ≡ i = omega arith in
    let bit : (if coefficient a n == 1 then times_x_power n b else 0)
    ≡ times_x_power n (if rest % 2 == 1 then b else 0) =
    rw (place, is) (sym (times_x_power_choice n (a / 2 ^ i % 2 == 1) b)) in
    rw (
      bit,
      sym (times_x_power_more n sum),
      times_x_power_sum n (times_x sum) (if rest % 2 == 1 then b else 0),
    )
    (xor_assoc (partial_product n a b) (times_x_power n (if rest % 2 == 1 then b else 0))
    (times_x_power n (times_x sum))
    ∙ ap (bit_xor (partial_product n a b))
    (xor_comm (times_x_power n (if rest % 2 == 1 then b else 0)) (times_x_power n (times_x sum))))
