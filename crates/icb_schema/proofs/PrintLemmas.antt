-- JSON arrays that a loop makes, item by item.
use Rattle.std.proofs.Common.{◌≡◌, ℕ, ◌+◌, ◌<◌, List, [], ◌∷◌, ◌++◌, map, Bool, false, refl, sym, ap, ◌∙◌, add-one, arith, drop, drop-cons, length, get_or, subst}
use Rattle.serde_json.specs.Data as json
use Rattle.serde_json.specs.Data.{Data, Items}
use Rattle.serde_json.specs.View.{view, items_view}
use Rattle.serde_json.specs.declared.value.Value.{Value}
use Rattle.icb_schema.specs.Tree as tree
use Rattle.icb_schema.proofs.TreeLemmas as nodes
use Rattle.icb_schema.specs.Nodes.{tree_of, form_of, part_of, fields_of, trees_of}
use Rattle.icb_schema.proofs.TreeLemmas.{tree_of_node}
use Rattle.icb_schema.specs.Printing.{json_of, form_json, fields_json, trees_json, texts_json, field_json, default_json, is_null_form, form_begins_with_null}
use Rattle.icb_schema.specs.declared.node.Node.{Node}
use Rattle.icb_schema.specs.declared.node.Field.{Field}
use Rattle.icb_schema.specs.declared.node.Kind.{Kind, out-Kind, roll-out-Kind}
use Rattle.icb_schema.specs.declared.node.Kind.TheVariants as kind
use Rattle.icb_schema.specs.Printing.{is_null_tree}
use Rattle.icb_schema.proofs.NodeLemmas.{layer_cases}

-- items behind items
abbrev pub joined : Items → Items → Items
joined json.no_items more = more
joined (json.item d ds) more = json.item d (joined ds more)

pub joined_push : (vs : List Value) (v : Value) (more : Items) → joined (items_view (vs ++ v ∷ [])) more ≡ joined (items_view vs) (json.item (view v) more)
joined_push [] v more = refl
joined_push (x ∷ vs) v more = ap (json.item (view x)) (joined_push vs v more)

pub joined_none : (ds : Items) → joined ds json.no_items ≡ ds
joined_none json.no_items = refl
joined_none (json.item d ds) = ap (json.item d) (joined_none ds)

pub fields_step : (dotted : Bool) (fs : List Field) (i : ℕ) (f : Field) → i < length fs → f ≡ get_or fs i f
    → fields_json dotted (fields_of (map part_of (drop i fs))) ≡ json.item (field_json f.name f.id (default_json (tree_of f.node)) (json_of dotted (tree_of f.node))) (fields_json dotted (fields_of (map part_of (drop (i + 1) fs))))
fields_step dotted fs i f within is = rw (add-one, drop-cons fs i f, ← is) refl

pub trees_step : (dotted : Bool) (ns : List Node) (i : ℕ) (n : Node) → i < length ns → n ≡ get_or ns i n
    → trees_json dotted (trees_of (map tree_of (drop i ns))) ≡ json.item (json_of dotted (tree_of n)) (trees_json dotted (trees_of (map tree_of (drop (i + 1) ns))))
trees_step dotted ns i n within is = rw (add-one, drop-cons ns i n, ← is) refl

-- a node's JSON is its form's
pub json_of_node : (dotted : Bool) (n : Node) (f : tree.Form) → form_of n.kind ≡ f → json_of dotted (tree_of n) ≡ form_json dotted f n.logical n.utc
json_of_node dotted n f e = ap (json_of dotted) (tree_of_node n) ∙ ap (λ g. form_json dotted g n.logical n.utc) e

pub other_null : (c : Kind) → (c ≡ kind.Null → ⊥) → is_null_form (form_of c) ≡ false
other_null c =
    let P : Kind → Type 0 = λ c. (c ≡ kind.Null → ⊥) → is_null_form (form_of c) ≡ false in
    subst P (roll-out-Kind c) (layer_cases P
    (λ h. absurd (h refl))
    (λ h. rw nodes.form_of_boolean refl)
    (λ h. rw nodes.form_of_int refl)
    (λ h. rw nodes.form_of_long refl)
    (λ h. rw nodes.form_of_float refl)
    (λ h. rw nodes.form_of_double refl)
    (λ h. rw nodes.form_of_bytes refl)
    (λ h. rw nodes.form_of_text refl)
    (λ name size h. rw (nodes.form_of_fixed name size) refl)
    (λ name symbols h. rw (nodes.form_of_enum name symbols) refl)
    (λ name fs h. rw (nodes.form_of_record name fs) refl)
    (λ items element h. rw (nodes.form_of_array items element) refl)
    (λ values key value h. rw (nodes.form_of_map values key value) refl)
    (λ branches h. rw (nodes.form_of_union branches) refl)
    (out-Kind c))

pub other_union : (c : Kind) → ((branches : List Node) → c ≡ kind.Union branches → ⊥) → form_begins_with_null (form_of c) ≡ false
other_union c =
    let P : Kind → Type 0 = λ c. ((branches : List Node) → c ≡ kind.Union branches → ⊥) → form_begins_with_null (form_of c) ≡ false in
    subst P (roll-out-Kind c) (layer_cases P
    (λ h. rw nodes.form_of_null refl)
    (λ h. rw nodes.form_of_boolean refl)
    (λ h. rw nodes.form_of_int refl)
    (λ h. rw nodes.form_of_long refl)
    (λ h. rw nodes.form_of_float refl)
    (λ h. rw nodes.form_of_double refl)
    (λ h. rw nodes.form_of_bytes refl)
    (λ h. rw nodes.form_of_text refl)
    (λ name size h. rw (nodes.form_of_fixed name size) refl)
    (λ name symbols h. rw (nodes.form_of_enum name symbols) refl)
    (λ name fs h. rw (nodes.form_of_record name fs) refl)
    (λ items element h. rw (nodes.form_of_array items element) refl)
    (λ values key value h. rw (nodes.form_of_map values key value) refl)
    (λ branches h. absurd (h branches refl))
    (out-Kind c))

-- one more item was made
pub one_more : (whole : Items) (vs new : List Value) (v : Value) (rest more : Items) → whole ≡ joined (items_view vs) rest → rest ≡ json.item (view v) more
    → new ≡ vs ++ v ∷ [] → whole ≡ joined (items_view new) more
one_more whole vs new v rest more e f g =
    e ∙ ap (joined (items_view vs)) f ∙ sym (joined_push vs v more) ∙ ap (λ ws. joined (items_view ws) more) (sym g)

-- all items were made
pub all_made : (whole : Items) (vs : List Value) (rest : Items) → whole ≡ joined (items_view vs) rest → rest ≡ json.no_items → items_view vs ≡ whole
all_made whole vs rest e f = sym (e ∙ ap (joined (items_view vs)) f ∙ joined_none (items_view vs))

pub texts_step : (ss : List (List ℕ)) (i : ℕ) (s : List ℕ) → i < length ss → s ≡ get_or ss i s → texts_json (drop i ss) ≡ json.item (json.string s) (texts_json (drop (i + 1) ss))
texts_step ss i s within is = rw (add-one, drop-cons ss i s, ← is) refl

pub begins_none : (ns : List Node) → length ns < 1 → form_begins_with_null (tree.union (trees_of (map tree_of ns))) ≡ false
begins_none [] h = refl
begins_none (n ∷ ns) h = absurd (let f : ⊥ = omega (arith, h) in f)

pub begins_first : (ns : List Node) (n : Node) → 0 < length ns → n ≡ get_or ns 0 n → form_begins_with_null (tree.union (trees_of (map tree_of ns))) ≡ is_null_tree (tree_of n)
begins_first [] n h e = absurd (let f : ⊥ = omega (arith, h) in f)
begins_first (m ∷ ns) n h e = ap (λ k. is_null_tree (tree_of k)) (sym e)
