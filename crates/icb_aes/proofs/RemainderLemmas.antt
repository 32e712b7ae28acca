-- The product is what division by m(x) leaves of the polynomials' product.
use Rattle.std.proofs.Common.{◌≡◌, refl, sym, ◌∙◌, ap, ℕ, zero, suc, ◌+◌, ◌*◌, ◌^◌, ◌<◌}
use Rattle.std.specs.Prelude.{bit_xor}
use Rattle.std.specs.Int.{bit_at}
use Rattle.std.proofs.lemmas.Bool.{eqb-true}
use lib.Dec.{eqb}
use Rattle.icb_aes.specs.Field.{sum_below, polynomial_product, modulus, remainder, product}
use Rattle.icb_aes.proofs.FieldLemmas.{xor_middle, polynomial_product-xor_l, polynomial_product-xor_r, product-xor_l, product-xor_r, from_bits, at_pair}

-- what division by m(x) takes away, as a multiple of m(x)
unfoldable quotient : ℕ → ℕ → ℕ
quotient zero p = 0
quotient (suc n) p = bit_xor (bit_at p (8 + n) * 2 ^ n) (quotient n (bit_xor p (bit_at p (8 + n) * (modulus * 2 ^ n))))

-- a and b's product as polynomials is a multiple of m(x) and their product
abbrev LeavesProduct : ℕ → ℕ → Type 0
LeavesProduct a b = (q : ℕ) × (polynomial_product a b ≡ bit_xor (polynomial_product modulus q) (product a b))

powers_leave : (i j : ℕ) → i < 8 → j < 8 → LeavesProduct (2 ^ i) (2 ^ j)
unfolding quotient product polynomial_product remainder sum_below
powers_leave i j p q = (
  quotient 7 (polynomial_product (2 ^ i) (2 ^ j)),
  eqb-true _ _ (at_pair (λ i j. eqb (polynomial_product (2 ^ i) (2 ^ j))
      (bit_xor (polynomial_product modulus (quotient 7 (polynomial_product (2 ^ i) (2 ^ j)))) (product (2 ^ i) (2 ^ j)))) refl i j p q),
)

-- two sums of a multiple and a product, added
added : (t u v q r x y : ℕ) → t ≡ bit_xor u v → u ≡ bit_xor (polynomial_product modulus q) x → v ≡ bit_xor (polynomial_product modulus r) y
    → t ≡ bit_xor (polynomial_product modulus (bit_xor q r)) (bit_xor x y)
added t u v q r x y e f g =
    e ∙ ap (λ (s : ℕ). bit_xor s v) f ∙ ap (λ (s : ℕ). bit_xor (bit_xor (polynomial_product modulus q) x) s) g
    ∙ xor_middle (polynomial_product modulus q) x (polynomial_product modulus r) y
    ∙ ap (λ (s : ℕ). bit_xor s (bit_xor x y)) (sym (polynomial_product-xor_r modulus q r))

pub leaves_product : (a b : ℕ) → a < 256 → b < 256
    → (q : ℕ) × (polynomial_product a b ≡ bit_xor (polynomial_product modulus q) (product a b))
leaves_product a b h k =
    from_bits (λ a. LeavesProduct a b)
    (λ x y p q. (
      bit_xor p.0 q.0,
      added (polynomial_product (bit_xor x y) b) (polynomial_product x b) (polynomial_product y b) p.0 q.0 (product x b) (product y b)
          (polynomial_product-xor_l x y b) p.1 q.1
          ∙ ap (λ (s : ℕ). bit_xor (polynomial_product modulus (bit_xor p.0 q.0)) s) (sym (product-xor_l x y b)),
    ))
    (λ i m. from_bits (λ b. LeavesProduct (2 ^ i) b)
    (λ x y p q. (
      bit_xor p.0 q.0,
      added (polynomial_product (2 ^ i) (bit_xor x y)) (polynomial_product (2 ^ i) x) (polynomial_product (2 ^ i) y) p.0 q.0
          (product (2 ^ i) x) (product (2 ^ i) y) (polynomial_product-xor_r (2 ^ i) x y) p.1 q.1
          ∙ ap (λ (s : ℕ). bit_xor (polynomial_product modulus (bit_xor p.0 q.0)) s) (sym (product-xor_r (2 ^ i) x y)),
    ))
    (λ j n. powers_leave i j m n) b k) a h
