-- The look-up of a field by its id, step by step.
use Rattle.std.proofs.Common.{◌≡◌, ◌<◌, ◌≤◌, ◌+◌, ℕ, ℤ, List, [], length, get_or, map, drop, true, false, Some, if◌then◌else◌, refl, sym, add-one, drop-cons, suc, ◌∷◌}
use Rattle.std.proofs.lemmas.List.{drop_all, drop-drop}
use Rattle.icb_schema.specs.Tree as tree
use Rattle.icb_schema.specs.Nodes.{fields_of, form_of, part_of, tree_of}
use Rattle.icb_schema.specs.declared.node.Field.{Field}
use Rattle.icb_schema.proofs.TreeLemmas.{tree_of_node}
use Rattle.icb_avro.specs.declared.value.Value.{Value, out-Value}
use Rattle.icb_fields.specs.Fields.{first_type, held, held_at, is_id, missing}

-- the type of the first field from a place on
pub type_step : (id : ℤ) (fs : List Field) (i : ℕ) (f : Field) → i < length fs → f ≡ get_or fs i f
    → first_type id (fields_of (map part_of (drop i fs))) ≡ (if is_id id f.id then Some (tree_of f.node) else first_type id (fields_of (map part_of (drop (i + 1) fs))))
unfolding first_type
type_step id fs i f within is = rw (add-one, drop-cons fs i f, ← is) refl

-- the field at a place has the id, and a value
pub has_value : (id : ℤ) (fs : List Field) (vs : List Value) (i : ℕ) (f : Field) (v : Value) → i < length fs → f ≡ get_or fs i f → i < length vs → v ≡ get_or vs i v
    → is_id id f.id ≡ true → held_at id (fields_of (map part_of (drop i fs))) (drop i vs) ≡ held (form_of f.node.kind) (out-Value v)
unfolding held_at
has_value id fs vs i f v within is inside it e = rw (drop-cons fs i f, drop-cons vs i v, ← is, ← it, e, tree_of_node f.node) refl

-- the field at a place has no value
pub has_none : (id : ℤ) (fs : List Field) (vs : List Value) (i : ℕ) (f : Field) → i < length fs → f ≡ get_or fs i f → length vs ≤ i
    → held_at id (fields_of (map part_of (drop i fs))) (drop i vs) ≡ missing
unfolding held_at
has_none id fs vs i f within is outside = rw (drop-cons fs i f, drop_all i vs outside) refl

-- no value, nothing held
pub nothing : (id : ℤ) (fs : tree.Fields) → held_at id fs [] ≡ missing
unfolding held_at
nothing id tree.no_fields = refl
nothing id (tree.field name field t fs) = refl

-- the first field has another id
next_field : (id : ℤ) (f : Field) (fs : List Field) (vs : List Value) → is_id id f.id ≡ false
    → held_at id (fields_of (map part_of (f ∷ fs))) vs ≡ held_at id (fields_of (map part_of fs)) (drop 1 vs)
unfolding held_at
next_field id f fs [] e = sym (nothing id (fields_of (map part_of fs)))
next_field id f fs (v ∷ vs) e = rw e refl

-- the field at a place has another id
pub passed : (id : ℤ) (fs : List Field) (vs : List Value) (i : ℕ) (f : Field) → i < length fs → f ≡ get_or fs i f → is_id id f.id ≡ false
    → held_at id (fields_of (map part_of (drop i fs))) (drop i vs) ≡ held_at id (fields_of (map part_of (drop (i + 1) fs))) (drop (i + 1) vs)
passed id fs vs i f within is e = rw (drop-cons fs i f, ← is, next_field id f (drop (suc i) fs) (drop i vs) e, drop-drop 1 i vs, add-one) refl
