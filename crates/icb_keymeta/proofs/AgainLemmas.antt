-- What is spelled is read.
use Rattle.std.proofs.Common.{◌≡◌, ℕ, zero, suc, List, [], ◌∷◌, ◌++◌, length, Some, None, Ok, refl, sym, ap, subst, ◌∙◌, arith, append_assoc}
use Rattle.std.specs.Prelude.{ℤ, pos, IsTrue}
use Rattle.std.proofs.lemmas.List.{append-nil}
use Rattle.icb_base.specs.KeyMetadata.{KeyRecord, is_key_length}
use Rattle.icb_schema.specs.Tree as tree
use Rattle.icb_schema.specs.Shape.{Shape, primitive, no_shapes, shape_then}
use Rattle.icb_avro.specs.declared.value.Value.{Value, out-Value, out-roll-Value}
use Rattle.icb_avro.specs.declared.value.Value.TheOpen.{Value-F}
use Rattle.icb_avro.specs.declared.value.Value.TheVariants as value
use Rattle.icb_avro.specs.Numbers.{IsInt, IsLong}
use Rattle.icb_avro.specs.Reading.{bytes_at}
use Rattle.icb_avro.specs.Spelling.{IsCounted, Spells, SpellFields, SpellsBranch}
use Rattle.icb_avro.proofs.Complete.{bytes_again, index_again, long_again}
use Rattle.icb_keymeta.specs.Decoded.{Item, avro, key_at, length_at, optional_at, record_at, versioned_at, key_metadata_of}
use Rattle.icb_keymeta.specs.Encoded.{optional, record_shape, optional_value, record_value}
use Rattle.icb_keymeta.specs.Laws.{SpellsMetadata}

-- what is spelled by a front is read
abbrev pub Again : {A : Type 0} → (A → List ℕ → Type 0) → (List ℕ → Item A) → Type 0
Again {A} Spell item = (x : A) (front more : List ℕ) → Spell x front → item (front ++ more) ≡ Ok (x, more)

-- ---- one level of a value

record_is : (xs ys : List Value) → value.Record xs ≡ value.Record ys → xs ≡ ys
record_is xs ys e =
    let out : Value-F.Record xs ≡ Value-F.Record ys = sym (out-roll-Value (Value-F.Record xs)) ∙ ap out-Value (value.rolls-Record xs ∙ e ∙ sym (value.rolls-Record ys)) ∙ out-roll-Value (Value-F.Record ys) in
    cc

union_is : (k l : ℕ) (v w : Value) → value.Union k v ≡ value.Union l w → (k ≡ l) × (v ≡ w)
union_is k l v w e =
    let out : Value-F.Union k v ≡ Value-F.Union l w = sym (out-roll-Value (Value-F.Union k v)) ∙ ap out-Value (value.rolls-Union k v ∙ e ∙ sym (value.rolls-Union l w)) ∙ out-roll-Value (Value-F.Union l w) in
    (cc, cc)

bytes_are : (xs ys : List ℕ) → value.Bytes xs ≡ value.Bytes ys → xs ≡ ys
bytes_are xs ys e = cc

long_is : (n m : ℤ) → value.Long n ≡ value.Long m → n ≡ m
long_is n m e = cc

pub bytes_spelled : (content front : List ℕ) → Spells (primitive tree.bytes) (value.Bytes content) front → IsCounted content front
bytes_spelled content front h = subst (λ (xs : List ℕ). IsCounted xs front) (sym (bytes_are content h.0 h.1)) h.2

long_spelled : (n : ℤ) (front : List ℕ) → Spells (primitive tree.long) (value.Long n) front → IsLong n front
long_spelled n front h = subst (λ (m : ℤ). IsLong m front) (sym (long_is n h.0 h.1)) h.2

-- ---- items

pub key_again : (key front more : List ℕ) → IsCounted key front → IsTrue (is_key_length (length key)) → key_at (front ++ more) ≡ Ok (key, more)
unfolding key_at
key_again key front more h sized = rw (bytes_again key front more h, sized) refl

pub prefix_again : Again (λ prefix front. Spells (primitive tree.bytes) (value.Bytes prefix) front) (λ rest. avro (bytes_at rest))
prefix_again prefix front more h = rw (bytes_again prefix front more (bytes_spelled prefix front h)) refl

pub length_again : Again (λ n front. Spells (primitive tree.long) (value.Long (pos n)) front) length_at
unfolding length_at
length_again n front more h = rw (long_again (pos n) front more (long_spelled (pos n) front h)) refl

null_branch : (shape : Shape) (w : Value) (k : ℕ) (rest : List ℕ) → 0 ≡ k → SpellsBranch (shape_then (primitive tree.null) (shape_then shape no_shapes)) k w rest → rest ≡ []
null_branch shape w zero rest e h = h.1
null_branch shape w (suc k) rest e h = absurd (let f : ⊥ = omega (arith, e) in f)

other_branch : (shape : Shape) (v w : Value) (k : ℕ) (rest : List ℕ) → 1 ≡ k → v ≡ w → SpellsBranch (shape_then (primitive tree.null) (shape_then shape no_shapes)) k w rest → Spells shape v rest
other_branch shape v w zero rest e s h = absurd (let f : ⊥ = omega (arith, e) in f)
other_branch shape v w (suc zero) rest e s h = subst (λ (u : Value). Spells shape u rest) (sym s) h
other_branch shape v w (suc (suc k)) rest e s h = absurd (let f : ⊥ = omega (arith, e) in f)

pub optional_again : {A : Type 0} (make : A → Value) (shape : Shape) (item : List ℕ → Item A) → Again (λ x front. Spells shape (make x) front) item
    → Again (λ o front. Spells (optional shape) (optional_value make o) front) (optional_at item)
unfolding optional_at
optional_again make shape item again None front more h =
    let u = union_is 0 h.0 value.Null h.1 h.4 in
    let index : IsInt (pos 0) h.2 = subst (λ (k : ℕ). IsInt (pos k) h.2) (sym u.0) h.6 in
    let nothing : h.3 ≡ [] = null_branch shape h.1 h.0 h.3 u.0 h.7 in
    let whole : front ++ more ≡ h.2 ++ more = rw (h.5, nothing, append-nil h.2) refl in
    rw (whole, index_again 2 0 h.2 more (omega arith) index) refl
optional_again make shape item again (Some x) front more h =
    let u = union_is 1 h.0 (make x) h.1 h.4 in
    let index : IsInt (pos 1) h.2 = subst (λ (k : ℕ). IsInt (pos k) h.2) (sym u.0) h.6 in
    let there_is : Spells shape (make x) h.3 = other_branch shape (make x) h.1 h.0 h.3 u.0 u.1 h.7 in
    let whole : front ++ more ≡ h.2 ++ (h.3 ++ more) = rw (h.5, append_assoc h.2 h.3 more) refl in
    rw (whole, index_again 2 1 h.2 (h.3 ++ more) (omega arith) index, again x h.3 more there_is) refl

-- ---- the record

-- what stands behind the key, the prefix and the length
record_fields : (meta : KeyRecord) (key prefix told more : List ℕ) → IsCounted meta.key key → IsTrue (is_key_length (length meta.key))
    → Spells (optional (primitive tree.bytes)) (optional_value value.Bytes meta.prefix) prefix
    → Spells (optional (primitive tree.long)) (optional_value (λ n. value.Long (pos n)) meta.length_told) told
    → record_at (key ++ (prefix ++ (told ++ more))) ≡ Ok (meta, more)
unfolding record_at
record_fields meta key prefix told more k sized p t =
    rw (
      key_again meta.key key (prefix ++ (told ++ more)) k sized,
      optional_again value.Bytes (primitive tree.bytes) (λ rest. avro (bytes_at rest)) prefix_again meta.prefix prefix (told ++ more) p,
      optional_again (λ n. value.Long (pos n)) (primitive tree.long) length_at length_again meta.length_told told more t,
    ) refl

abbrev values_of : KeyRecord → List Value
values_of meta = value.Bytes meta.key ∷ optional_value value.Bytes meta.prefix ∷ optional_value (λ n. value.Long (pos n)) meta.length_told ∷ []

fields_again : (meta : KeyRecord) (all : List ℕ) → SpellFields (shape_then (primitive tree.bytes) (shape_then (optional (primitive tree.bytes)) (shape_then (optional (primitive tree.long)) no_shapes))) (values_of meta) all
    → IsTrue (is_key_length (length meta.key)) → record_at all ≡ Ok (meta, [])
fields_again meta all s sized =
    let whole : all ≡ s.0 ++ (s.4.0 ++ (s.4.4.0 ++ [])) = rw (s.2, s.4.2, s.4.4.2, s.4.4.4) refl in
    rw whole (record_fields meta s.0 s.4.0 s.4.4.0 [] (bytes_spelled meta.key s.0 s.3) sized s.4.3 s.4.4.3)

record_again : (meta : KeyRecord) (all : List ℕ) → Spells record_shape (record_value meta) all → IsTrue (is_key_length (length meta.key)) → record_at all ≡ Ok (meta, [])
record_again meta all h sized =
    fields_again meta all (subst (λ (vs : List Value). SpellFields (shape_then (primitive tree.bytes) (shape_then (optional (primitive tree.bytes)) (shape_then (optional (primitive tree.long)) no_shapes))) vs all)
    (sym (record_is (values_of meta) h.0 h.1)) h.2) sized

pub metadata_again : (meta : KeyRecord) (all : List ℕ) → SpellsMetadata meta all → key_metadata_of all ≡ Ok meta
unfolding key_metadata_of versioned_at
metadata_again meta all h = rw (h.versioned, record_again meta h.spelling h.spelled h.key_length) refl
