-- A node's tree, as the walks need it.
use Rattle.std.proofs.Common.{◌≡◌, ℕ, ◌+◌, ◌<◌, ◌≤◌, nat_le, Err, List, map, refl, sym, ap, ◌∙◌, arith, add-one, drop-cons, ◌||◌, drop, get_or, length, Option, None, Bool, true, false, ℤ, subst}
use Rattle.std.proofs.lemmas.Bool.{lt-ltb, le-ltb, le-leb, leb-true}
use Rattle.std.proofs.lemmas.List.{drop_all}
use Rattle.icb_schema.specs.Tree as tree
use Rattle.icb_schema.specs.Nodes.{tree_of, form_of}
use Rattle.icb_schema.proofs.TreeLemmas.{tree_of_node}
use Rattle.icb_schema.specs.Reading.{numbered, form_numbered}
use Rattle.icb_schema.specs.Shape.{takes_bytes, any_takes_bytes, shapes_of, shape_of}
use Rattle.icb_schema.proofs.TreeLemmas as nodes
use Rattle.icb_schema.specs.Reading.{with_ids, form_name, name_of}
use Rattle.icb_schema.specs.declared.node.Kind.{Kind, roll-Kind, out-Kind, roll-out-Kind}
use Rattle.icb_schema.specs.declared.node.Kind.TheOpen.{Kind-F}
use Rattle.icb_schema.specs.declared.node.Kind.TheVariants as kind
use Rattle.icb_schema.specs.declared.node.Node.{Node}
use Rattle.icb_schema.specs.declared.node.Field.{Field}
use Rattle.icb_schema.specs.declared.fault.SchemaFault.TheVariants as fault

-- a tree is its form and attributes
pub node_tree : (n : Node) (f : tree.Form) → form_of n.kind ≡ f → tree_of n ≡ tree.node f n.logical n.utc
node_tree n f e = tree_of_node n ∙ ap (λ g. tree.node g n.logical n.utc) e

pub numbered_nodes : (depth n : ℕ) (t : tree.Tree) → 4096 ≤ n → numbered depth t n ≡ Err fault.Nodes
numbered_nodes depth n (tree.node f l u) h = rw (le-ltb n 4096 h) refl

le_test : (a b : ℕ) → b < a → (r : Bool) → nat_le a b ≡ r → r ≡ false
le_test a b h true e = absurd (let f : ⊥ = omega (arith, leb-true a b e, h) in f)
le_test a b h false e = refl

lt_le : (a b : ℕ) → b < a → nat_le a b ≡ false
lt_le a b h = le_test a b h _ refl

pub numbered_depth : (depth n : ℕ) (t : tree.Tree) → n < 4096 → 32 < depth → numbered depth t n ≡ Err (fault.Depth n)
numbered_depth depth n (tree.node f l u) h k = rw (lt-ltb n 4096 h, lt_le depth 32 k) refl

pub numbered_fits : (depth n : ℕ) (m : Node) (f : tree.Form) → n < 4096 → depth ≤ 32 → form_of m.kind ≡ f → numbered depth (tree_of m) n ≡ form_numbered (depth + 1) f (n + 1)
numbered_fits depth n m f h k e = rw (node_tree m f e, lt-ltb n 4096 h, le-leb depth 32 k) refl

-- one of the fields from a place on takes bytes where the field there does, or one behind it
pub any_more : (fs : List Field) (i : ℕ) (f : Field) → i < length fs → f ≡ get_or fs i f
    → any_takes_bytes (shapes_of (map (λ g. shape_of g.node) (drop i fs))) ≡ (takes_bytes (shape_of f.node) || any_takes_bytes (shapes_of (map (λ g. shape_of g.node) (drop (i + 1) fs))))
any_more fs i f within is = rw (add-one, drop-cons fs i f, ← is) refl

pub any_all : (fs : List Field) (i : ℕ) → length fs ≤ i → any_takes_bytes (shapes_of (map (λ g. shape_of g.node) (drop i fs))) ≡ false
any_all fs i h = rw (drop_all i fs h) refl

pub layer_cases : (P : Kind → Type 0)
    → P kind.Null → P kind.Boolean → P kind.Int → P kind.Long → P kind.Float → P kind.Double → P kind.Bytes → P kind.Text
    → ((name : List ℕ) (size : ℕ) → P (kind.Fixed name size)) → ((name : List ℕ) (symbols : List (List ℕ)) → P (kind.Enum name symbols))
    → ((name : List ℕ) (fs : List Field) → P (kind.Record name fs)) → ((items : Node) (element : Option ℤ) → P (kind.Array items element))
    → ((values : Node) (key value : Option ℤ) → P (kind.Map values key value)) → ((branches : List Node) → P (kind.Union branches))
    → (x : Kind-F Kind Field Node) → P (roll-Kind x)
layer_cases P n0 n1 n2 n3 n4 n5 n6 n7 n8 n9 n10 n11 n12 n13 Kind-F.Null = subst P (sym kind.rolls-Null) n0
layer_cases P n0 n1 n2 n3 n4 n5 n6 n7 n8 n9 n10 n11 n12 n13 Kind-F.Boolean = subst P (sym kind.rolls-Boolean) n1
layer_cases P n0 n1 n2 n3 n4 n5 n6 n7 n8 n9 n10 n11 n12 n13 Kind-F.Int = subst P (sym kind.rolls-Int) n2
layer_cases P n0 n1 n2 n3 n4 n5 n6 n7 n8 n9 n10 n11 n12 n13 Kind-F.Long = subst P (sym kind.rolls-Long) n3
layer_cases P n0 n1 n2 n3 n4 n5 n6 n7 n8 n9 n10 n11 n12 n13 Kind-F.Float = subst P (sym kind.rolls-Float) n4
layer_cases P n0 n1 n2 n3 n4 n5 n6 n7 n8 n9 n10 n11 n12 n13 Kind-F.Double = subst P (sym kind.rolls-Double) n5
layer_cases P n0 n1 n2 n3 n4 n5 n6 n7 n8 n9 n10 n11 n12 n13 Kind-F.Bytes = subst P (sym kind.rolls-Bytes) n6
layer_cases P n0 n1 n2 n3 n4 n5 n6 n7 n8 n9 n10 n11 n12 n13 Kind-F.Text = subst P (sym kind.rolls-Text) n7
layer_cases P n0 n1 n2 n3 n4 n5 n6 n7 n8 n9 n10 n11 n12 n13 (Kind-F.Fixed name size) = subst P (sym (kind.rolls-Fixed name size)) (n8 name size)
layer_cases P n0 n1 n2 n3 n4 n5 n6 n7 n8 n9 n10 n11 n12 n13 (Kind-F.Enum name symbols) = subst P (sym (kind.rolls-Enum name symbols)) (n9 name symbols)
layer_cases P n0 n1 n2 n3 n4 n5 n6 n7 n8 n9 n10 n11 n12 n13 (Kind-F.Record name fs) = subst P (sym (kind.rolls-Record name fs)) (n10 name fs)
layer_cases P n0 n1 n2 n3 n4 n5 n6 n7 n8 n9 n10 n11 n12 n13 (Kind-F.Array items element) = subst P (sym (kind.rolls-Array items element)) (n11 items element)
layer_cases P n0 n1 n2 n3 n4 n5 n6 n7 n8 n9 n10 n11 n12 n13 (Kind-F.Map values key value) = subst P (sym (kind.rolls-Map values key value)) (n12 values key value)
layer_cases P n0 n1 n2 n3 n4 n5 n6 n7 n8 n9 n10 n11 n12 n13 (Kind-F.Union branches) = subst P (sym (kind.rolls-Union branches)) (n13 branches)

-- any other kind keeps its form
pub other_ids : (e k v : Option ℤ) (c : Kind) → ((items : Node) (element : Option ℤ) → c ≡ kind.Array items element → ⊥)
    → ((values : Node) (key value : Option ℤ) → c ≡ kind.Map values key value → ⊥) → form_of c ≡ with_ids e k v (form_of c)
other_ids e k v c =
    let P : Kind → Type 0 = λ c. ((items : Node) (element : Option ℤ) → c ≡ kind.Array items element → ⊥)
    → ((values : Node) (key value : Option ℤ) → c ≡ kind.Map values key value → ⊥) → form_of c ≡ with_ids e k v (form_of c) in
    subst P (roll-out-Kind c) (layer_cases P
    (λ a m. rw nodes.form_of_null refl)
    (λ a m. rw nodes.form_of_boolean refl)
    (λ a m. rw nodes.form_of_int refl)
    (λ a m. rw nodes.form_of_long refl)
    (λ a m. rw nodes.form_of_float refl)
    (λ a m. rw nodes.form_of_double refl)
    (λ a m. rw nodes.form_of_bytes refl)
    (λ a m. rw nodes.form_of_text refl)
    (λ name size a m. rw (nodes.form_of_fixed name size) refl)
    (λ name symbols a m. rw (nodes.form_of_enum name symbols) refl)
    (λ name fs a m. rw (nodes.form_of_record name fs) refl)
    (λ items element a m. absurd (a items element refl))
    (λ values key value a m. absurd (m values key value refl))
    (λ branches a m. rw (nodes.form_of_union branches) refl)
    (out-Kind c))

-- any other kind has no name
pub other_name : (c : Kind) → ((name : List ℕ) (size : ℕ) → c ≡ kind.Fixed name size → ⊥) → ((name : List ℕ) (symbols : List (List ℕ)) → c ≡ kind.Enum name symbols → ⊥)
    → ((name : List ℕ) (fs : List Field) → c ≡ kind.Record name fs → ⊥) → form_name (form_of c) ≡ None
other_name c =
    let P : Kind → Type 0 = λ c. ((name : List ℕ) (size : ℕ) → c ≡ kind.Fixed name size → ⊥) → ((name : List ℕ) (symbols : List (List ℕ)) → c ≡ kind.Enum name symbols → ⊥)
    → ((name : List ℕ) (fs : List Field) → c ≡ kind.Record name fs → ⊥) → form_name (form_of c) ≡ None in
    subst P (roll-out-Kind c) (layer_cases P
    (λ a b d. rw nodes.form_of_null refl)
    (λ a b d. rw nodes.form_of_boolean refl)
    (λ a b d. rw nodes.form_of_int refl)
    (λ a b d. rw nodes.form_of_long refl)
    (λ a b d. rw nodes.form_of_float refl)
    (λ a b d. rw nodes.form_of_double refl)
    (λ a b d. rw nodes.form_of_bytes refl)
    (λ a b d. rw nodes.form_of_text refl)
    (λ name size a b d. absurd (a name size refl))
    (λ name symbols a b d. absurd (b name symbols refl))
    (λ name fs a b d. absurd (d name fs refl))
    (λ items element a b d. rw (nodes.form_of_array items element) refl)
    (λ values key value a b d. rw (nodes.form_of_map values key value) refl)
    (λ branches a b d. rw (nodes.form_of_union branches) refl)
    (out-Kind c))

-- a node's name is its form's
pub name_of_node : (n : Node) → name_of (tree_of n) ≡ form_name (form_of n.kind)
name_of_node n = ap name_of (tree_of_node n)

pub ruleset primitive_forms = (nodes.form_of_null, nodes.form_of_boolean, nodes.form_of_int, nodes.form_of_long, nodes.form_of_float, nodes.form_of_double, nodes.form_of_bytes, nodes.form_of_text)
