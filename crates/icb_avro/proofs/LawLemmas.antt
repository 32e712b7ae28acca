-- One value for the bytes, and the fewest bytes for a number.
use Rattle.std.proofs.Common.{◌≡◌, ℕ, zero, suc, ◌/◌, ◌<◌, ◌≤◌, true, List, [], ◌∷◌, ◌++◌, length, refl, sym, ap, subst, ◌∙◌, arith, inl, inr}
use Rattle.std.specs.Prelude.{ℤ}
use Rattle.std.specs.List.{AllByRecursion}
use Rattle.std.proofs.lemmas.Bool.{cases_lt}
use Rattle.icb_schema.specs.Shape.{Shape, arrays_take_bytes}
use Rattle.icb_avro.specs.declared.value.Value.{Value}
use Rattle.icb_avro.specs.Numbers.{IsLong, IsVarint, zigzag}
use Rattle.icb_avro.specs.Reading.{value_at}
use Rattle.icb_avro.specs.Spelling.{Spells}
use Rattle.icb_avro.specs.Writing.{shortest, written_long}
use Rattle.icb_avro.proofs.Complete.{value_again}
use Rattle.icb_avro.proofs.Steps.{value_is, rest_is}
use Rattle.icb_avro.proofs.WriteLemmas.{last_byte, one_more}

pub one_value : (shape : Shape) → arrays_take_bytes shape ≡ true → (v w : Value) (a b x y : List ℕ) → Spells shape v a → Spells shape w b → a ++ x ≡ b ++ y → (v ≡ w) × (x ≡ y)
one_value shape t v w a b x y p q e =
    let same = sym (value_again shape t v a x p) ∙ ap (value_at shape) e ∙ value_again shape t w b y q in
    (value_is v w x y same, rest_is v w x y same)

has_byte : (bytes : List ℕ) (n : ℕ) → IsVarint bytes n → 0 < length bytes
has_byte [] n h = absurd h
has_byte (b ∷ bytes) n h = omega arith

single : (n : ℕ) → length (shortest zero n) ≡ 1
unfolding shortest
single n = refl

fewest : (more n : ℕ) (bytes : List ℕ) → AllByRecursion (λ b. b < 256) bytes → IsVarint bytes n → length (shortest more n) ≤ length bytes
fewest zero n bytes small h = omega (arith, has_byte bytes n h, single n)
fewest (suc more) n [] small h = absurd h
fewest (suc more) n (b ∷ []) small h = let e : n < 128 = omega (arith, h.0, h.1) in omega (arith, ap length (last_byte (suc more) n e))
fewest (suc more) n (b ∷ c ∷ bytes) small h = elim (cases_lt n 128) [
  | inl lt ↦ omega (arith, ap length (last_byte (suc more) n lt))
  | inr ge ↦
      let high : h.1 ≡ n / 128 = omega (arith, h.0, h.2, small.0) in
      omega (arith, ap length (one_more more n ge), fewest more (n / 128) (c ∷ bytes) small.1 (subst (λ (m : ℕ). IsVarint (c ∷ bytes) m) high h.3))
]

pub numbers_are_shortest : (n : ℤ) (bytes : List ℕ) → AllByRecursion (λ b. b < 256) bytes → IsLong n bytes → length (written_long n) ≤ length bytes
numbers_are_shortest n bytes small h = fewest 9 (zigzag n) bytes small h.number
