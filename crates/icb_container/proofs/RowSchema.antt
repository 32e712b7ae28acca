-- The schema of a header, by what was found.
use Rattle.std.proofs.Common.{◌≡◌, ℕ, Bool, true, false, cond, codes, List, map, Option, Some, None, option_map, Result, Ok, Err, refl, sym, ap, ◌∙◌}
use Rattle.std.specs.Str.{IsUtf8, bytes_eq, is_utf8}
use Rattle.std.proofs.lemmas.Str.{IsUtf8-from_is_utf8, is_utf8-from_IsUtf8}
use Rattle.icb_schema.specs.Answers as answers
use Rattle.icb_schema.specs.Nodes.{fields_of, form_of, part_of, tree_of}
use Rattle.icb_schema.specs.Shape.{shape_of, takes_bytes}
use Rattle.icb_schema.specs.Tree as tree
use Rattle.icb_schema.specs.Tree.{Form, Tree}
use Rattle.icb_schema.specs.declared.fault.SchemaFault.{SchemaFault}
use Rattle.icb_schema.specs.declared.fault.SchemaFault.TheVariants as schema_fault
use Rattle.icb_schema.specs.declared.node.Field.{Field}
use Rattle.icb_schema.specs.declared.node.Kind.TheVariants as kind
use Rattle.icb_schema.specs.declared.node.Node.{Node}
use Rattle.icb_schema.proofs.TreeLemmas.{form_of_record, tree_of_node}
use Rattle.icb_avro.specs.declared.fault.AvroCause.TheVariants as cause
use Rattle.icb_container.specs.Wrong as wrong
use Rattle.icb_container.specs.Wrong.{Wrong}
use Rattle.icb_container.specs.Header.{Property, is_row, plain}
use Rattle.icb_container.specs.declared.found.PropertyValue.{PropertyValue}
use Rattle.icb_container.specs.Kept.{value_of}

-- a record is a row where it takes a byte
pub row_is_record : (n : Node) (name : List ℕ) (fs : List Field) → n.kind ≡ kind.Record name fs → is_row (tree_of n) ≡ takes_bytes (shape_of n)
row_is_record n name fs is =
    let e : tree_of n ≡ tree.node (tree.fields name (fields_of (map part_of fs))) n.logical n.utc =
    tree_of_node n ∙ ap (λ (f : Form). tree.node f n.logical n.utc) (ap form_of is ∙ form_of_record name fs) in
    rw e refl

-- nothing else is a row
pub other_is_none : (n : Node) (f : Form) → form_of n.kind ≡ f → is_row (tree.node f n.logical n.utc) ≡ false → false ≡ is_row (tree_of n)
other_is_none n f e h = sym (ap is_row (tree_of_node n ∙ ap (λ (g : Form). tree.node g n.logical n.utc) e) ∙ h)

-- a schema's fault is what it is, where memory was there
pub schema_fault_is : {A B : Type 0} (view : A → B) (e : SchemaFault) (r : Result B SchemaFault) → (e ≡ schema_fault.NoMemory → ⊥) → answers.Gives view (Err e) r → r ≡ Err e
schema_fault_is view schema_fault.NoMemory r other h = absurd (other refl)
schema_fault_is view schema_fault.Json r other h = h
schema_fault_is view schema_fault.Nodes r other h = h
schema_fault_is view (schema_fault.Depth n) r other h = h
schema_fault_is view (schema_fault.Shape n) r other h = h
schema_fault_is view (schema_fault.Recursive n) r other h = h

no_utf8 : (bytes : List ℕ) → (IsUtf8 bytes → ⊥) → is_utf8 bytes ≡ false
no_utf8 bytes none = by_test (is_utf8 bytes) refl
  where
    by_test : (b : Bool) → is_utf8 bytes ≡ b → b ≡ false
    by_test true e = absurd (none (IsUtf8-from_is_utf8 bytes e))
    by_test false e = refl

-- a codec that isn't UTF-8
pub codec_is_no_text : (p : Property) → (IsUtf8 p.value → ⊥) → plain (Some p) ≡ Err (wrong.avro p.place cause.Utf8)
codec_is_no_text p none = rw (no_utf8 p.value none) refl

-- a codec that is `null`, or another one
pub codec_is : (p : Property) (b : Bool) → IsUtf8 p.value → bytes_eq p.value (codes "null") ≡ b → plain (Some p) ≡ cond b (Ok tt) (Err (wrong.codec p.value))
codec_is p b text e = rw (is_utf8-from_IsUtf8 p.value text, e) refl

-- a codec that was kept is a property's
pub codec_cases : (codec : Option PropertyValue) (value : PropertyValue) (p : Option Property) (P : Option Property → Type 0) → codec ≡ Some value → codec ≡ option_map value_of p
    → ((q : Property) → value ≡ value_of q → P (Some q)) → P p
codec_cases codec value None P is e all = absurd (some_is_none value (sym is ∙ e))
  where
    some_is_none : (v : PropertyValue) → Some v ≡ None → ⊥
    some_is_none v f = absurd cc
codec_cases codec value (Some q) P is e all = all q (some_is value (value_of q) (sym is ∙ e))
  where
    some_is : (v w : PropertyValue) → Some v ≡ Some w → v ≡ w
    some_is v w f = cc
