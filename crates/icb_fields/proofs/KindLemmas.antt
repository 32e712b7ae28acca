-- What is defined of a type by its form, kind by kind.
use Rattle.std.proofs.Common.{◌≡◌, List, ℕ, ℤ, Option, false, refl, subst}
use Rattle.icb_schema.specs.Nodes.{form_of}
use Rattle.icb_schema.specs.declared.node.Kind.{Kind, out-Kind, roll-out-Kind}
use Rattle.icb_schema.specs.declared.node.Kind.TheVariants as kind
use Rattle.icb_schema.specs.declared.node.Node.{Node}
use Rattle.icb_schema.specs.declared.node.Field.{Field}
use Rattle.icb_schema.proofs.TreeLemmas as nodes
use Rattle.icb_schema.proofs.NodeLemmas.{layer_cases}
use Rattle.icb_avro.specs.declared.value.Value.{Value}
use Rattle.icb_avro.specs.declared.value.Value.TheOpen.{Value-F}
use Rattle.icb_fields.specs.Fields.{held, is_null, missing, other, plain, type_at}

-- only null is null
pub only_null : (c : Kind) → (c ≡ kind.Null → ⊥) → is_null (form_of c) ≡ false
only_null c =
    let P : Kind → Type 0 = λ c. (c ≡ kind.Null → ⊥) → is_null (form_of c) ≡ false in
    subst P (roll-out-Kind c) (layer_cases P
    (λ h0. absurd (h0 refl))
    (λ h0. rw nodes.form_of_boolean refl)
    (λ h0. rw nodes.form_of_int refl)
    (λ h0. rw nodes.form_of_long refl)
    (λ h0. rw nodes.form_of_float refl)
    (λ h0. rw nodes.form_of_double refl)
    (λ h0. rw nodes.form_of_bytes refl)
    (λ h0. rw nodes.form_of_text refl)
    (λ name size h0. rw (nodes.form_of_fixed name size) refl)
    (λ name symbols h0. rw (nodes.form_of_enum name symbols) refl)
    (λ name fs h0. rw (nodes.form_of_record name fs) refl)
    (λ items element h0. rw (nodes.form_of_array items element) refl)
    (λ values key value h0. rw (nodes.form_of_map values key value) refl)
    (λ branches h0. rw (nodes.form_of_union branches) refl)
    (out-Kind c))

-- a type that is no union is plain
pub no_union : (c : Kind) (v : Value-F Value) → ((branches : List Node) → c ≡ kind.Union branches → ⊥) → held (form_of c) v ≡ plain (form_of c) v
no_union c v =
    let P : Kind → Type 0 = λ c. ((branches : List Node) → c ≡ kind.Union branches → ⊥) → held (form_of c) v ≡ plain (form_of c) v in
    subst P (roll-out-Kind c) (layer_cases P
    (λ h0. rw nodes.form_of_null refl)
    (λ h0. rw nodes.form_of_boolean refl)
    (λ h0. rw nodes.form_of_int refl)
    (λ h0. rw nodes.form_of_long refl)
    (λ h0. rw nodes.form_of_float refl)
    (λ h0. rw nodes.form_of_double refl)
    (λ h0. rw nodes.form_of_bytes refl)
    (λ h0. rw nodes.form_of_text refl)
    (λ name size h0. rw (nodes.form_of_fixed name size) refl)
    (λ name symbols h0. rw (nodes.form_of_enum name symbols) refl)
    (λ name fs h0. rw (nodes.form_of_record name fs) refl)
    (λ items element h0. rw (nodes.form_of_array items element) refl)
    (λ values key value h0. rw (nodes.form_of_map values key value) refl)
    (λ branches h0. absurd (h0 branches refl))
    (out-Kind c))

-- any other type
pub other_plain : (c : Kind) (v : Value-F Value) → (c ≡ kind.Int → ⊥) → (c ≡ kind.Long → ⊥) → (c ≡ kind.Bytes → ⊥) → (c ≡ kind.Text → ⊥) → ((name : List ℕ) (fs : List Field) → c ≡ kind.Record name fs → ⊥) → ((items : Node) (element : Option ℤ) → c ≡ kind.Array items element → ⊥) → plain (form_of c) v ≡ other
other_plain c v =
    let P : Kind → Type 0 = λ c. (c ≡ kind.Int → ⊥) → (c ≡ kind.Long → ⊥) → (c ≡ kind.Bytes → ⊥) → (c ≡ kind.Text → ⊥) → ((name : List ℕ) (fs : List Field) → c ≡ kind.Record name fs → ⊥) → ((items : Node) (element : Option ℤ) → c ≡ kind.Array items element → ⊥) → plain (form_of c) v ≡ other in
    subst P (roll-out-Kind c) (layer_cases P
    (λ h0 h1 h2 h3 h4 h5. rw nodes.form_of_null refl)
    (λ h0 h1 h2 h3 h4 h5. rw nodes.form_of_boolean refl)
    (λ h0 h1 h2 h3 h4 h5. absurd (h0 refl))
    (λ h0 h1 h2 h3 h4 h5. absurd (h1 refl))
    (λ h0 h1 h2 h3 h4 h5. rw nodes.form_of_float refl)
    (λ h0 h1 h2 h3 h4 h5. rw nodes.form_of_double refl)
    (λ h0 h1 h2 h3 h4 h5. absurd (h2 refl))
    (λ h0 h1 h2 h3 h4 h5. absurd (h3 refl))
    (λ name size h0 h1 h2 h3 h4 h5. rw (nodes.form_of_fixed name size) refl)
    (λ name symbols h0 h1 h2 h3 h4 h5. rw (nodes.form_of_enum name symbols) refl)
    (λ name fs h0 h1 h2 h3 h4 h5. absurd (h4 name fs refl))
    (λ items element h0 h1 h2 h3 h4 h5. absurd (h5 items element refl))
    (λ values key value h0 h1 h2 h3 h4 h5. rw (nodes.form_of_map values key value) refl)
    (λ branches h0 h1 h2 h3 h4 h5. rw (nodes.form_of_union branches) refl)
    (out-Kind c))

-- a type that is no record has no field
pub no_record : (c : Kind) (id : ℤ) → ((name : List ℕ) (fs : List Field) → c ≡ kind.Record name fs → ⊥) → type_at id (form_of c) ≡ missing
no_record c id =
    let P : Kind → Type 0 = λ c. ((name : List ℕ) (fs : List Field) → c ≡ kind.Record name fs → ⊥) → type_at id (form_of c) ≡ missing in
    subst P (roll-out-Kind c) (layer_cases P
    (λ h. rw nodes.form_of_null refl)
    (λ h. rw nodes.form_of_boolean refl)
    (λ h. rw nodes.form_of_int refl)
    (λ h. rw nodes.form_of_long refl)
    (λ h. rw nodes.form_of_float refl)
    (λ h. rw nodes.form_of_double refl)
    (λ h. rw nodes.form_of_bytes refl)
    (λ h. rw nodes.form_of_text refl)
    (λ name size h. rw (nodes.form_of_fixed name size) refl)
    (λ name symbols h. rw (nodes.form_of_enum name symbols) refl)
    (λ name fs h. absurd (h name fs refl))
    (λ items element h. rw (nodes.form_of_array items element) refl)
    (λ values key value h. rw (nodes.form_of_map values key value) refl)
    (λ branches h. rw (nodes.form_of_union branches) refl)
    (out-Kind c))

-- the forms of kinds that hold no node
pub ruleset leaf_forms = (nodes.form_of_int, nodes.form_of_long, nodes.form_of_bytes, nodes.form_of_text)
