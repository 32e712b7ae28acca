-- The inverse of a byte, computed for all 256, and that there is no other.
use Rattle.std.proofs.Common.{◌≡◌, refl, sym, ◌∙◌, ap, ℕ, ◌<◌, ◌≤◌, inl, inr, true, arith}
use Rattle.std.specs.Prelude.{nat_lt, ◌&&◌, ◌||◌}
use Rattle.std.proofs.lemmas.Bool.{agree_below_at, and_parts, cases_lt, eqb-true, ltb-true, or_cases}
use lib.Dec.{ltb, eqb}
use Rattle.icb_aes.specs.Field.{sum_below, polynomial_product, remainder, product, inverse}
use Rattle.icb_aes.proofs.FieldLemmas.{product_assoc, product_comm, product-one_l, product-one_r, product-zero_r}

-- a byte but 0 times its inverse is 1, computed for each
pub inverse_inverts : (a : ℕ) → 1 ≤ a → a < 256 → (inverse a < 256) × (product a (inverse a) ≡ 1)
unfolding inverse product polynomial_product remainder sum_below
inverse_inverts a h k =
    let test = and_parts (nat_lt (inverse a) 256) (eqb (product a (inverse a)) 1)
    (elim (or_cases (eqb a 0) (nat_lt (inverse a) 256 && eqb (product a (inverse a)) 1)
    (agree_below_at (λ a. eqb a 0 || (nat_lt (inverse a) 256 && eqb (product a (inverse a)) 1)) (λ _. true) 256 a refl k)) [
      | inl z ↦ absurd (let e = eqb-true a 0 z in let f : ⊥ = omega (arith, e, h) in f)
      | inr y ↦ y
    ]) in
    (ltb-true _ _ test.0, eqb-true _ _ test.1)

pub inverse-zero : inverse 0 ≡ 0
unfolding inverse product polynomial_product remainder sum_below
inverse-zero = refl

-- a byte whose product with a is 1 is the inverse of a
pub inverse_unique : (a b : ℕ) → a < 256 → b < 256 → product a b ≡ 1 → b ≡ inverse a
inverse_unique a b p q e = elim (cases_lt 0 a) [
  | inl some ↦
      let i = inverse_inverts a some p in
      sym (product-one_l b q)
      ∙ ap (λ (t : ℕ). product t b) (sym (product_comm (inverse a) a i.0 p ∙ i.1))
      ∙ product_assoc (inverse a) a b i.0 p q
      ∙ ap (λ (t : ℕ). product (inverse a) t) e
      ∙ product-one_r (inverse a) i.0
  | inr none ↦ absurd (
      let zero_a : a ≡ 0 = omega arith in
      let nothing : product a b ≡ 0 = product_comm a b p q ∙ ap (λ (t : ℕ). product b t) zero_a ∙ product-zero_r b in
      let f : ⊥ = omega (arith, e, nothing) in f)
]
