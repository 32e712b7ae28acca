-- A value of a shape that takes bytes takes one, so there are no more records than bytes.
use Rattle.std.proofs.Common.{◌≡◌, ℕ, ◌<◌, ◌≤◌, Bool, true, false, ◌||◌, List, [], ◌∷◌, length, refl, ap, arith, length-append, inl, inr}
use Rattle.std.specs.Prelude.{ℤ, pos, ◌⊎◌}
use Rattle.std.proofs.lemmas.Bool.{ltb-true}
use Rattle.icb_schema.specs.Tree as tree
use Rattle.icb_schema.specs.Tree.{Primitive}
use Rattle.icb_schema.specs.Shape.{Shape, Shapes, any_takes_bytes, array, enumeration, fields, fixed, map_of, no_shapes, primitive, shape_then, takes_bytes, union}
use Rattle.icb_avro.specs.declared.value.Value.{Value}
use Rattle.icb_avro.specs.Numbers.{IsLong}
use Rattle.icb_avro.specs.Spelling.{IsCounted, SpellAll, SpellBlocks, SpellEntry, SpellFields, Spells, SpellsPrimitive}

-- a number has a byte
pub long_has : (n : ℤ) (front : List ℕ) → IsLong n front → 0 < length front
long_has n [] h = absurd h.number
long_has n (b ∷ front) h = omega arith

counted_has : (content front : List ℕ) → IsCounted content front → 0 < length front
counted_has content front h = omega (arith, long_has (pos (length content)) h.0 h.2, ap length h.1, length-append h.0 content)

blocks_have : {A : Type 0} (Spell : A → List ℕ → Type 0) (xs : List A) (all : List ℕ) → SpellBlocks Spell xs all → 0 < length all
blocks_have Spell xs all h = omega (arith, long_has (pos 0) h.2 h.6, ap length h.4, length-append h.1 h.2)

primitive_has : (p : Primitive) → takes_bytes (primitive p) ≡ true → (v : Value) (front : List ℕ) → SpellsPrimitive p v front → 0 < length front
primitive_has tree.null t v front h = absurd cc
primitive_has tree.boolean t v front h = omega (arith, ap length h.2)
primitive_has tree.int t v front h = long_has h.0 front h.2.long
primitive_has tree.long t v front h = long_has h.0 front h.2
primitive_has tree.float t v front h = omega (arith, h.1)
primitive_has tree.double t v front h = omega (arith, h.1)
primitive_has tree.bytes t v front h = counted_has h.0 front h.2
primitive_has tree.text t v front h = counted_has h.0 front h.3

either : (a b : Bool) → (a || b) ≡ true → (a ≡ true) ⊎ (b ≡ true)
either true b e = inl refl
either false b e = inr e

mutual
  pub value_has : (s : Shape) → takes_bytes s ≡ true → (v : Value) (front : List ℕ) → Spells s v front → 0 < length front
  value_has (primitive p) t v front h = primitive_has p t v front h
  value_has (fixed n) t v front h = omega (arith, ltb-true 0 n t, h.1)
  value_has (enumeration n) t v front h = long_has (pos h.0) front h.3.long
  value_has (fields ss) t v front h = fields_have ss t h.0 front h.2
  value_has (array s) t v front h = blocks_have (Spells s) h.0 front h.2
  value_has (map_of s) t v front h = blocks_have (SpellEntry (Spells s)) h.0 front h.2
  value_has (union ss) t v front h = omega (arith, long_has (pos h.0) h.2 h.6.long, ap length h.5, length-append h.2 h.3)

  fields_have : (ss : Shapes) → any_takes_bytes ss ≡ true → (vs : List Value) (front : List ℕ) → SpellFields ss vs front → 0 < length front
  fields_have no_shapes t vs front h = absurd cc
  fields_have (shape_then s ss) t [] front h = absurd h
  fields_have (shape_then s ss) t (v ∷ vs) front h = elim (either (takes_bytes s) (any_takes_bytes ss) t) [
    | inl k ↦ omega (arith, value_has s k v h.0 h.3, ap length h.2, length-append h.0 h.1)
    | inr k ↦ omega (arith, fields_have ss k vs h.1 h.4, ap length h.2, length-append h.0 h.1)
  ]

-- records that take bytes are no more than their bytes
pub records_take : (s : Shape) → takes_bytes s ≡ true → (vs : List Value) (all : List ℕ) → SpellAll (Spells s) vs all → length vs ≤ length all
records_take s t [] all h = omega arith
records_take s t (v ∷ vs) all h = omega (arith, value_has s t v h.0 h.3, records_take s t vs h.1 h.4, ap length h.2, length-append h.0 h.1)
