-- What is written is one of the spellings.
use Rattle.std.proofs.Common.{◌≡◌, ℕ, ◌*◌, ◌^◌, ◌<◌, Bool, true, false, inl, inr, ◌||◌, List, [], ◌∷◌, ◌++◌, length, Option, Some, None, Result, Ok, refl, ap, ◌∙◌, arith, append_assoc}
use Rattle.std.specs.Prelude.{pos, IsTrue, OnOk, Err, ◌==◌, ◌⊎◌}
use Rattle.std.proofs.lemmas.Bool.{eqb-true}
use Rattle.std.specs.Option.{ForSome}
use Rattle.std.proofs.lemmas.List.{append-nil}
use Rattle.icb_base.specs.KeyMetadata.{KeyRecord, IsKeyRecord, is_key_length}
use Rattle.icb_schema.specs.Tree as tree
use Rattle.icb_schema.specs.Shape.{Shape, primitive}
use Rattle.icb_avro.specs.declared.value.Value.{Value}
use Rattle.icb_avro.specs.declared.value.Value.TheVariants as value
use Rattle.icb_avro.specs.Writing.{Fits, written, written_bytes, written_long}
use Rattle.icb_avro.proofs.WriteLemmas.{written_Null, written_Bytes, written_Long, written_Union, written_Record}
use Rattle.icb_avro.proofs.WrittenIsSpelled.{value_spells}
use Rattle.icb_keymeta.specs.Decoded.{key_metadata_of}
use Rattle.icb_keymeta.specs.Encoded.{optional, record_shape, optional_value, record_value, encoded, written_optional}
use Rattle.icb_keymeta.specs.Laws.{SpellsMetadata}
use Rattle.icb_keymeta.proofs.AgainLemmas.{metadata_again}

optional_written : {A : Type 0} (make : A → Value) (write : A → List ℕ) → ((x : A) → written (make x) ≡ write x) → (o : Option A) → written (optional_value make o) ≡ written_optional write o
optional_written make write same None = written_Union 0 value.Null ∙ ap (λ (xs : List ℕ). written_long (pos 0) ++ xs) written_Null ∙ append-nil (written_long (pos 0))
optional_written make write same (Some x) = written_Union 1 (make x) ∙ ap (λ (xs : List ℕ). written_long (pos 1) ++ xs) (same x)

-- the bytes, field by field
pub encoded_is : (meta : KeyRecord) → encoded meta ≡ 1 ∷ (written_bytes meta.key ++ (written_optional written_bytes meta.prefix ++ written_optional (λ n. written_long (pos n)) meta.length_told))
unfolding encoded
encoded_is meta = ap (λ (xs : List ℕ). 1 ∷ xs)
    (written_Record _ ∙ rw (
      written_Bytes meta.key,
      optional_written value.Bytes written_bytes written_Bytes meta.prefix,
      optional_written (λ n. value.Long (pos n)) (λ n. written_long (pos n)) (λ n. written_Long (pos n)) meta.length_told,
      append-nil,
    ) refl)

optional_fits : {A : Type 0} (make : A → Value) (shape : Shape) (o : Option A) → ForSome o (λ x. Fits shape (make x)) → Fits (optional shape) (optional_value make o)
optional_fits make shape None h = (0, value.Null, refl, omega arith, refl)
optional_fits make shape (Some x) h = (1, make x, refl, omega arith, h x refl)

or_true : (a b : Bool) → (a || b) ≡ true → (a ≡ true) ⊎ (b ≡ true)
or_true true b e = inl refl
or_true false b e = inr e

key_small : (n : ℕ) → IsTrue (is_key_length n) → n < 2 ^ 63
key_small n h = elim (or_true ((n == 16) || (n == 24)) (n == 32) h) [
  | inl a ↦ elim (or_true (n == 16) (n == 24) a) [
    | inl b ↦ let e : n ≡ 16 = eqb-true n 16 b in omega arith
    | inr b ↦ let e : n ≡ 24 = eqb-true n 24 b in omega arith
  ]
  | inr c ↦ let e : n ≡ 32 = eqb-true n 32 c in omega arith
]

twice_small : (n : ℕ) → n < 2 ^ 63 → 2 * n < 2 ^ 64
twice_small n h = omega arith

record_fits : (meta : KeyRecord) → IsKeyRecord meta.key meta.length_told → ForSome meta.prefix (λ p. length p < 2 ^ 63) → Fits record_shape (record_value meta)
record_fits meta form p = (
  _,
  refl,
  (
    (meta.key, refl, key_small (length meta.key) form.key_length),
    (
      optional_fits value.Bytes (primitive tree.bytes) meta.prefix (λ x e. (x, refl, p x e)),
      (optional_fits (λ n. value.Long (pos n)) (primitive tree.long) meta.length_told (λ n e. (pos n, refl, twice_small n (form.below n e))), tt),
    ),
  ),
)

encoded_spells : (meta : KeyRecord) → IsKeyRecord meta.key meta.length_told → ForSome meta.prefix (λ p. length p < 2 ^ 63) → SpellsMetadata meta (encoded meta)
unfolding encoded
encoded_spells meta form p = record {
  spelling = written (record_value meta);
  versioned = refl;
  spelled = value_spells record_shape (record_value meta) (record_fits meta form p);
  key_length = form.key_length;
}

-- what is written is read back
pub encoded_again : (meta : KeyRecord) → IsKeyRecord meta.key meta.length_told → ForSome meta.prefix (λ p. length p < 2 ^ 63) → key_metadata_of (encoded meta) ≡ Ok meta
encoded_again meta form p = metadata_again meta (encoded meta) (encoded_spells meta form p)

-- the fields that were put one after another
pub fields_put : (old first second third a b c whole : List ℕ) → first ≡ old ++ 1 ∷ [] → second ≡ first ++ a → third ≡ second ++ b → whole ≡ 1 ∷ (a ++ (b ++ c)) → third ++ c ≡ old ++ whole
fields_put old first second third a b c whole e f g h = rw (g, f, e, h) (simp append_assoc)

-- the same bytes in other words
pub same_bytes : {E : Type 0} (r : Result (Unit {0}) E) (new x y : List ℕ) → x ≡ y → OnOk r (new ≡ x) → OnOk r (new ≡ y)
same_bytes (Ok done) new x y e h = h ∙ e
same_bytes (Err fault) new x y e h = tt
