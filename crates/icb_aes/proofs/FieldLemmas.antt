-- The field GF(2^8): its product is additive in both factors, so that its laws hold for all bytes once
-- they hold for the powers of x.
use Rattle.std.proofs.Common.{◌≡◌, refl, sym, ◌∙◌, ap, subst, ℕ, zero, suc, ◌+◌, ◌-◌, ◌*◌, ◌/◌, ◌%◌, ◌^◌, ◌<◌, ◌⊎◌, inl, inr, Bool, true, arith}
use Rattle.std.specs.Prelude.{bit_xor}
use Rattle.std.specs.Int.{bit_at}
use Rattle.std.specs.Int.Bits.{xor_assoc, xor_self, xor_zero_l, xor_zero_r, xor_shifted, xor_block, xor_shr, xor_mod}
use Rattle.std.proofs.lemmas.Nat.{xor_comm, xor_of_8, pow_pos}
use Rattle.std.proofs.lemmas.Bool.{agree_below, agree_below_at, eqb-true, ltb-true, cases_lt}
use lib.Dec.{ltb, eqb}
use Rattle.icb_aes.specs.Field.{sum_below, polynomial_product, remainder, product}

-- ---- sums

-- the middle two of four terms change places
pub xor_middle : (a b c d : ℕ) → bit_xor (bit_xor a b) (bit_xor c d) ≡ bit_xor (bit_xor a c) (bit_xor b d)
xor_middle a b c d =
    xor_assoc a b (bit_xor c d)
    ∙ ap (λ (t : ℕ). bit_xor a t) (sym (xor_assoc b c d) ∙ ap (λ (t : ℕ). bit_xor t d) (xor_comm b c) ∙ xor_assoc c b d)
    ∙ sym (xor_assoc a c (bit_xor b d))

-- a bit of a sum
pub bit_at-xor : (a b i : ℕ) → bit_at (bit_xor a b) i ≡ bit_xor (bit_at a i) (bit_at b i)
bit_at-xor a b i = ap (λ (t : ℕ). t % 2) (xor_shr a b i) ∙ xor_mod (a / 2 ^ i) (b / 2 ^ i) 1

-- a bit is 0 or 1
pub bit_cases : (n : ℕ) → n < 2 → (n ≡ 0) ⊎ (n ≡ 1)
bit_cases zero h = inl refl
bit_cases (suc zero) h = inr refl
bit_cases (suc (suc n)) h = absurd (let f : ⊥ = omega (arith, h) in f)

-- t times a sum of bits
bits_times : (u v t : ℕ) → u < 2 → v < 2 → bit_xor u v * t ≡ bit_xor (u * t) (v * t)
bits_times u v t p q = elim (bit_cases u p) [
  | inl e ↦ rw e (rw (xor_zero_l v) (let z : 0 * t ≡ 0 = omega arith in rw z (sym (xor_zero_l (v * t)))))
  | inr e ↦ elim (bit_cases v q) [
    | inl f ↦ rw (e, f) (let z : 0 * t ≡ 0 = omega arith in let o : 1 * t ≡ t = omega arith in rw (z, o) (sym (xor_zero_r t)))
    | inr f ↦ rw (e, f) (let z : 0 * t ≡ 0 = omega arith in rw z (sym (xor_self (1 * t))))
  ]
]

-- a shifted sum
xor_shl : (a b k : ℕ) → bit_xor a b * 2 ^ k ≡ bit_xor (a * 2 ^ k) (b * 2 ^ k)
xor_shl a b k =
    let p : 0 < 2 ^ k = pow_pos k in
    let block : bit_xor (a * 2 ^ k + 0) (b * 2 ^ k + 0) ≡ bit_xor a b * 2 ^ k + bit_xor 0 0 = xor_block k a b 0 0 p p in
    let x : a * 2 ^ k + 0 ≡ a * 2 ^ k = omega arith in
    let y : b * 2 ^ k + 0 ≡ b * 2 ^ k = omega arith in
    let z : bit_xor a b * 2 ^ k + 0 ≡ bit_xor a b * 2 ^ k = omega arith in
    sym z ∙ sym block ∙ ap (λ (t : ℕ). bit_xor t (b * 2 ^ k + 0)) x ∙ ap (λ (t : ℕ). bit_xor (a * 2 ^ k) t) y

-- a sum of sums
pub sum_below-xor : (n : ℕ) (f g h : ℕ → ℕ) → ((i : ℕ) → i < n → h i ≡ bit_xor (f i) (g i))
    → sum_below n h ≡ bit_xor (sum_below n f) (sum_below n g)
unfolding sum_below
sum_below-xor zero f g h e = refl
sum_below-xor (suc n) f g h e =
    ap (λ (t : ℕ). bit_xor t (h n)) (sum_below-xor n f g h (λ i k. e i (omega arith)))
    ∙ ap (λ (t : ℕ). bit_xor (bit_xor (sum_below n f) (sum_below n g)) t) (e n (omega arith))
    ∙ xor_middle (sum_below n f) (sum_below n g) (f n) (g n)

-- ---- the product is additive

bit_at_below : (n i : ℕ) → bit_at n i < 2
bit_at_below n i = omega arith

pub polynomial_product-xor_l : (a b c : ℕ)
    → polynomial_product (bit_xor a b) c ≡ bit_xor (polynomial_product a c) (polynomial_product b c)
unfolding polynomial_product
polynomial_product-xor_l a b c = sum_below-xor 8 _ _ _ (λ i _.
    let u = bit_at c i in
    ap (λ (t : ℕ). u * t) (xor_shl a b i) ∙ elim (bit_cases u (bit_at_below c i)) as (λ _. u * bit_xor (a * 2 ^ i) (b * 2 ^ i) ≡ bit_xor (u * (a * 2 ^ i)) (u * (b * 2 ^ i))) [
      | inl e ↦ rw e (let z : 0 * bit_xor (a * 2 ^ i) (b * 2 ^ i) ≡ 0 = omega arith in let y : 0 * (a * 2 ^ i) ≡ 0 = omega arith in let x : 0 * (b * 2 ^ i) ≡ 0 = omega arith in rw (z, y, x) refl)
      | inr e ↦ rw e (let z : 1 * bit_xor (a * 2 ^ i) (b * 2 ^ i) ≡ bit_xor (a * 2 ^ i) (b * 2 ^ i) = omega arith in let y : 1 * (a * 2 ^ i) ≡ a * 2 ^ i = omega arith in let x : 1 * (b * 2 ^ i) ≡ b * 2 ^ i = omega arith in rw (z, y, x) refl)
    ])

pub polynomial_product-xor_r : (a b c : ℕ)
    → polynomial_product a (bit_xor b c) ≡ bit_xor (polynomial_product a b) (polynomial_product a c)
unfolding polynomial_product
polynomial_product-xor_r a b c = sum_below-xor 8 _ _ _ (λ i _.
    ap (λ (t : ℕ). t * (a * 2 ^ i)) (bit_at-xor b c i)
    ∙ bits_times (bit_at b i) (bit_at c i) (a * 2 ^ i) (bit_at_below b i) (bit_at_below c i))

remainder-xor : (n p q : ℕ) → remainder n (bit_xor p q) ≡ bit_xor (remainder n p) (remainder n q)
unfolding remainder
remainder-xor zero p q = refl
remainder-xor (suc n) p q =
    let m = 283 * 2 ^ n in
    let once : bit_xor (bit_xor p q) (bit_at (bit_xor p q) (8 + n) * m)
    ≡ bit_xor (bit_xor p (bit_at p (8 + n) * m)) (bit_xor q (bit_at q (8 + n) * m)) =
    ap (λ (t : ℕ). bit_xor (bit_xor p q) t) (ap (λ (t : ℕ). t * m) (bit_at-xor p q (8 + n))
    ∙ bits_times (bit_at p (8 + n)) (bit_at q (8 + n)) m (bit_at_below p (8 + n)) (bit_at_below q (8 + n)))
    ∙ xor_middle p q (bit_at p (8 + n) * m) (bit_at q (8 + n) * m) in
    ap (λ (t : ℕ). remainder n t) once
    ∙ remainder-xor n (bit_xor p (bit_at p (8 + n) * m)) (bit_xor q (bit_at q (8 + n) * m))

pub product-xor_l : (a b c : ℕ) → product (bit_xor a b) c ≡ bit_xor (product a c) (product b c)
unfolding product
product-xor_l a b c =
    ap (λ (t : ℕ). remainder 7 t) (polynomial_product-xor_l a b c)
    ∙ remainder-xor 7 (polynomial_product a c) (polynomial_product b c)

pub product-xor_r : (a b c : ℕ) → product a (bit_xor b c) ≡ bit_xor (product a b) (product a c)
unfolding product
product-xor_r a b c =
    ap (λ (t : ℕ). remainder 7 t) (polynomial_product-xor_r a b c)
    ∙ remainder-xor 7 (polynomial_product a b) (polynomial_product a c)

-- ---- what holds of the powers of x and of sums holds of all bytes

from_powers : (P : ℕ → Type 0) → ((a b : ℕ) → P a → P b → P (bit_xor a b)) → (n : ℕ)
    → ((i : ℕ) → i < suc n → P (2 ^ i)) → (a : ℕ) → a < 2 ^ suc n → P a
from_powers P sums zero powers a h = elim (bit_cases a h) [
  | inl e ↦ subst P (sym e) (sums 1 1 (powers 0 (omega arith)) (powers 0 (omega arith)))
  | inr e ↦ subst P (sym e) (powers 0 (omega arith))
]
from_powers P sums (suc n) powers a h =
    let top = 2 ^ suc n in
    let double : 2 ^ suc (suc n) ≡ top + top = omega arith in
    elim (cases_lt a top) [
      | inl low ↦ from_powers P sums n (λ i q. powers i (omega arith)) a low
      | inr high ↦
          let rest : a - top < top = omega arith in
          let whole : bit_xor (1 * top) (a - top) ≡ a = xor_shifted 1 (suc n) (a - top) rest ∙ omega arith in
          let one : 1 * top ≡ top = omega arith in
          subst P (ap (λ (t : ℕ). bit_xor t (a - top)) (sym one) ∙ whole)
          (sums top (a - top) (powers (suc n) (omega arith)) (from_powers P sums n (λ i q. powers i (omega arith)) (a - top) rest))
    ]

pub from_bits : (P : ℕ → Type 0) → ((a b : ℕ) → P a → P b → P (bit_xor a b))
    → ((i : ℕ) → i < 8 → P (2 ^ i)) → (a : ℕ) → a < 256 → P a
from_bits P sums powers a h = from_powers P sums 7 powers a h

-- ---- the laws of the product

-- a test that holds at each pair of numbers below 8
abbrev pub all_pairs : (ℕ → ℕ → Bool) → Bool
all_pairs f = agree_below (λ i. agree_below (f i) (λ _. true) 8) (λ _. true) 8

pub at_pair : (f : ℕ → ℕ → Bool) → all_pairs f ≡ true → (i j : ℕ) → i < 8 → j < 8 → f i j ≡ true
at_pair f e i j p q =
    agree_below_at (f i) (λ _. true) 8 j (agree_below_at (λ k. agree_below (f k) (λ _. true) 8) (λ _. true) 8 i e p) q

powers_commute : (i j : ℕ) → i < 8 → j < 8 → product (2 ^ i) (2 ^ j) ≡ product (2 ^ j) (2 ^ i)
unfolding product polynomial_product remainder sum_below
powers_commute i j p q = eqb-true _ _ (at_pair (λ i j. eqb (product (2 ^ i) (2 ^ j)) (product (2 ^ j) (2 ^ i))) refl i j p q)

-- the product commutes
pub product_comm : (a b : ℕ) → a < 256 → b < 256 → product a b ≡ product b a
product_comm a b p q =
    from_bits (λ a. product a b ≡ product b a)
    (λ c d e f. product-xor_l c d b ∙ ap (λ (t : ℕ). bit_xor t (product d b)) e ∙ ap (λ (t : ℕ). bit_xor (product b c) t) f ∙ sym (product-xor_r b c d))
    (λ i r. from_bits (λ b. product (2 ^ i) b ≡ product b (2 ^ i))
    (λ c d e f. product-xor_r (2 ^ i) c d ∙ ap (λ (t : ℕ). bit_xor t (product (2 ^ i) d)) e ∙ ap (λ (t : ℕ). bit_xor (product c (2 ^ i)) t) f ∙ sym (product-xor_l c d (2 ^ i)))
    (λ j s. powers_commute i j r s) b q) a p

powers_product_byte : (i j : ℕ) → i < 8 → j < 8 → product (2 ^ i) (2 ^ j) < 256
unfolding product polynomial_product remainder sum_below
powers_product_byte i j p q = ltb-true _ _ (at_pair (λ i j. ltb (product (2 ^ i) (2 ^ j)) 256) refl i j p q)

-- the product of two bytes is a byte
pub product-lt : (a b : ℕ) → a < 256 → b < 256 → product a b < 256
product-lt a b p q =
    from_bits (λ a. product a b < 256)
    (λ c d e f. subst (λ (t : ℕ). t < 256) (sym (product-xor_l c d b)) (xor_of_8 (product c b) (product d b) e f))
    (λ i r. from_bits (λ b. product (2 ^ i) b < 256)
    (λ c d e f. subst (λ (t : ℕ). t < 256) (sym (product-xor_r (2 ^ i) c d)) (xor_of_8 (product (2 ^ i) c) (product (2 ^ i) d) e f))
    (λ j s. powers_product_byte i j r s) b q) a p

powers_associate : (i j k : ℕ) → i < 8 → j < 8 → k < 8
    → product (product (2 ^ i) (2 ^ j)) (2 ^ k) ≡ product (2 ^ i) (product (2 ^ j) (2 ^ k))
unfolding product polynomial_product remainder sum_below
powers_associate i j k p q r =
    let all : all_pairs (λ i j. agree_below (λ k. eqb (product (product (2 ^ i) (2 ^ j)) (2 ^ k)) (product (2 ^ i) (product (2 ^ j) (2 ^ k)))) (λ _. true) 8) ≡ true = refl in
    eqb-true _ _ (agree_below_at (λ k. eqb (product (product (2 ^ i) (2 ^ j)) (2 ^ k)) (product (2 ^ i) (product (2 ^ j) (2 ^ k)))) (λ _. true) 8 k
    (at_pair (λ i j. agree_below (λ k. eqb (product (product (2 ^ i) (2 ^ j)) (2 ^ k)) (product (2 ^ i) (product (2 ^ j) (2 ^ k)))) (λ _. true) 8) all i j p q) r)

-- the product associates
pub product_assoc : (a b c : ℕ) → a < 256 → b < 256 → c < 256 → product (product a b) c ≡ product a (product b c)
product_assoc a b c p q r =
    from_bits (λ a. product (product a b) c ≡ product a (product b c))
    (λ x y e f. ap (λ (t : ℕ). product t c) (product-xor_l x y b) ∙ product-xor_l (product x b) (product y b) c
    ∙ ap (λ (t : ℕ). bit_xor t (product (product y b) c)) e ∙ ap (λ (t : ℕ). bit_xor (product x (product b c)) t) f
    ∙ sym (product-xor_l x y (product b c)))
    (λ i l. from_bits (λ b. product (product (2 ^ i) b) c ≡ product (2 ^ i) (product b c))
    (λ x y e f. ap (λ (t : ℕ). product t c) (product-xor_r (2 ^ i) x y) ∙ product-xor_l (product (2 ^ i) x) (product (2 ^ i) y) c
    ∙ ap (λ (t : ℕ). bit_xor t (product (product (2 ^ i) y) c)) e ∙ ap (λ (t : ℕ). bit_xor (product (2 ^ i) (product x c)) t) f
    ∙ sym (ap (λ (t : ℕ). product (2 ^ i) t) (product-xor_l x y c) ∙ product-xor_r (2 ^ i) (product x c) (product y c)))
    (λ j m. from_bits (λ c. product (product (2 ^ i) (2 ^ j)) c ≡ product (2 ^ i) (product (2 ^ j) c))
    (λ x y e f. product-xor_r (product (2 ^ i) (2 ^ j)) x y
    ∙ ap (λ (t : ℕ). bit_xor t (product (product (2 ^ i) (2 ^ j)) y)) e ∙ ap (λ (t : ℕ). bit_xor (product (2 ^ i) (product (2 ^ j) x)) t) f
    ∙ sym (ap (λ (t : ℕ). product (2 ^ i) t) (product-xor_r (2 ^ j) x y) ∙ product-xor_r (2 ^ i) (product (2 ^ j) x) (product (2 ^ j) y)))
    (λ k n. powers_associate i j k l m n) c r) b q) a p

one_times_power : (i : ℕ) → i < 8 → product 1 (2 ^ i) ≡ 2 ^ i
unfolding product polynomial_product remainder sum_below
one_times_power i p = eqb-true _ _ (agree_below_at (λ i. eqb (product 1 (2 ^ i)) (2 ^ i)) (λ _. true) 8 i refl p)

-- 1 is the unit
pub product-one_l : (a : ℕ) → a < 256 → product 1 a ≡ a
product-one_l a p = from_bits (λ a. product 1 a ≡ a)
    (λ c d e f. product-xor_r 1 c d ∙ ap (λ (t : ℕ). bit_xor t (product 1 d)) e ∙ ap (λ (t : ℕ). bit_xor c t) f)
    one_times_power a p

pub product-one_r : (a : ℕ) → a < 256 → product a 1 ≡ a
product-one_r a p = product_comm a 1 p (omega arith) ∙ product-one_l a p

pub product-zero_r : (a : ℕ) → product a 0 ≡ 0
product-zero_r a = product-xor_r a 0 0 ∙ xor_self (product a 0)

-- x + 1 times a is x times a plus a
pub times_x_plus_1-is : (a : ℕ) → a < 256 → bit_xor (product 2 a) a ≡ product 3 a
times_x_plus_1-is a p =
    ap (λ (t : ℕ). bit_xor (product 2 a) t) (sym (product-one_l a p)) ∙ sym (product-xor_l 2 1 a)
