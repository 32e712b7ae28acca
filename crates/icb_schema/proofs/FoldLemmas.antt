-- What is defined of a tree by its nodes, form by form.
use Rattle.std.specs.Prelude.{flat_map}
use Rattle.std.specs.List.{list_all, sum}
use Rattle.std.proofs.Common.{◌≡◌, ℕ, ◌+◌, max, List, [], ◌∷◌, ◌++◌, Bool, true, ◌&&◌, Option, refl, ap, ◌∙◌, arith}
use Rattle.std.proofs.lemmas.List.{append-nil}
use Rattle.std.proofs.lemmas.List.Sums.{sum_by-cons}
use Rattle.icb_schema.specs.Tree as tree
use Rattle.icb_schema.specs.Tree.{Tree, Form, Fields, Trees}
use Rattle.icb_schema.specs.Reading.{form_name}
use Rattle.icb_schema.specs.Rules.{form_keeps, keeps_rules, nodes_of, greatest, height, with_own, types_of}
use Rattle.icb_schema.proofs.NameLemmas.{both_left, both_right}

pub both : (a b : Bool) → a ≡ true → b ≡ true → (a && b) ≡ true
both a b e f = rw (e, f) refl

-- ---- rules

-- the nodes of the fields keep the rules
abbrev pub fields_keep : Fields → Bool
fields_keep fs = list_all (λ b. b) (tree.of_fields (λ form logical utc keep. form_keeps form && list_all (λ b. b) keep) fs)

-- the branches keep the rules
abbrev pub branches_keep : Trees → Bool
branches_keep ts = list_all (λ b. b) (tree.of_trees (λ form logical utc keep. form_keeps form && list_all (λ b. b) keep) ts)

-- the nodes inside a form keep the rules
abbrev pub InsideKeeps : Form → Type 0
InsideKeeps (tree.primitive p) = Unit {0}
InsideKeeps (tree.fixed name size) = Unit {0}
InsideKeeps (tree.enumeration name symbols) = Unit {0}
InsideKeeps (tree.fields name fs) = fields_keep fs ≡ true
InsideKeeps (tree.array items element) = keeps_rules items ≡ true
InsideKeeps (tree.map values key value) = keeps_rules values ≡ true
InsideKeeps (tree.union ts) = branches_keep ts ≡ true

pub rule_of : (form : Form) (l : Option (List ℕ)) (u : Option Bool) → keeps_rules (tree.node form l u) ≡ true → form_keeps form ≡ true
rule_of form l u k = both_left (form_keeps form) (list_all (λ b. b) (tree.of_form (λ form logical utc keep. form_keeps form && list_all (λ b. b) keep) form)) k

inside_at : (form : Form) → list_all (λ b. b) (tree.of_form (λ form logical utc keep. form_keeps form && list_all (λ b. b) keep) form) ≡ true → InsideKeeps form
inside_at (tree.primitive p) k = tt
inside_at (tree.fixed name size) k = tt
inside_at (tree.enumeration name symbols) k = tt
inside_at (tree.fields name fs) k = k
inside_at (tree.array items element) k = both_left (keeps_rules items) true k
inside_at (tree.map values key value) k = both_left (keeps_rules values) true k
inside_at (tree.union ts) k = k

pub inside_of : (form : Form) (l : Option (List ℕ)) (u : Option Bool) → keeps_rules (tree.node form l u) ≡ true → InsideKeeps form
inside_of form l u k = inside_at form (both_right (form_keeps form) (list_all (λ b. b) (tree.of_form (λ form logical utc keep. form_keeps form && list_all (λ b. b) keep) form)) k)

-- a node keeps the rules where its own and those inside it do
pub rules_from : (form : Form) (l : Option (List ℕ)) (u : Option Bool) → form_keeps form ≡ true → InsideKeeps form → keeps_rules (tree.node form l u) ≡ true
rules_from (tree.primitive p) l u k i = refl
rules_from (tree.fixed name size) l u k i = both (form_keeps (tree.fixed name size)) true k refl
rules_from (tree.enumeration name symbols) l u k i = both (form_keeps (tree.enumeration name symbols)) true k refl
rules_from (tree.fields name fs) l u k i = both (form_keeps (tree.fields name fs)) (fields_keep fs) k i
rules_from (tree.array items element) l u k i = both (form_keeps (tree.array items element)) (keeps_rules items && true) k (both (keeps_rules items) true i refl)
rules_from (tree.map values key value) l u k i = both (form_keeps (tree.map values key value)) (keeps_rules values && true) k (both (keeps_rules values) true i refl)
rules_from (tree.union ts) l u k i = both (form_keeps (tree.union ts)) (branches_keep ts) k i

-- ---- nodes

-- how many nodes the fields have
abbrev pub fields_nodes : Fields → ℕ
fields_nodes tree.no_fields = 0
fields_nodes (tree.field name id t fs) = nodes_of t + fields_nodes fs

sum_fields : (fs : Fields) → sum (tree.of_fields (λ form logical utc counts. 1 + sum counts) fs) ≡ fields_nodes fs
sum_fields tree.no_fields = refl
sum_fields (tree.field name id t fs) = sum_by-cons (λ n. n) (nodes_of t) (tree.of_fields (λ form logical utc counts. 1 + sum counts) fs) ∙ ap (λ n. nodes_of t + n) (sum_fields fs)

-- how many nodes the branches have
abbrev pub trees_nodes : Trees → ℕ
trees_nodes tree.no_trees = 0
trees_nodes (tree.branch t ts) = nodes_of t + trees_nodes ts

sum_trees : (ts : Trees) → sum (tree.of_trees (λ form logical utc counts. 1 + sum counts) ts) ≡ trees_nodes ts
sum_trees tree.no_trees = refl
sum_trees (tree.branch t ts) = sum_by-cons (λ n. n) (nodes_of t) (tree.of_trees (λ form logical utc counts. 1 + sum counts) ts) ∙ ap (λ n. nodes_of t + n) (sum_trees ts)

-- how many nodes are inside a form
abbrev pub form_nodes : Form → ℕ
form_nodes (tree.primitive p) = 0
form_nodes (tree.fixed name size) = 0
form_nodes (tree.enumeration name symbols) = 0
form_nodes (tree.fields name fs) = fields_nodes fs
form_nodes (tree.array items element) = nodes_of items
form_nodes (tree.map values key value) = nodes_of values
form_nodes (tree.union ts) = trees_nodes ts

pub nodes_form : (form : Form) (l : Option (List ℕ)) (u : Option Bool) → nodes_of (tree.node form l u) ≡ 1 + form_nodes form
nodes_form (tree.primitive p) l u = refl
nodes_form (tree.fixed name size) l u = refl
nodes_form (tree.enumeration name symbols) l u = refl
nodes_form (tree.fields name fs) l u = ap (λ n. 1 + n) (sum_fields fs)
nodes_form (tree.array items element) l u = omega arith
nodes_form (tree.map values key value) l u = omega arith
nodes_form (tree.union ts) l u = ap (λ n. 1 + n) (sum_trees ts)

-- ---- height

-- how deep the deepest field is
abbrev pub fields_height : Fields → ℕ
fields_height tree.no_fields = 0
fields_height (tree.field name id t fs) = max (height t) (fields_height fs)

greatest_field : (fs : Fields) → greatest (tree.of_fields (λ form logical utc heights. 1 + greatest heights) fs) ≡ fields_height fs
greatest_field tree.no_fields = refl
greatest_field (tree.field name id t fs) = ap (max (height t)) (greatest_field fs)

-- how deep the deepest branch is
abbrev pub trees_height : Trees → ℕ
trees_height tree.no_trees = 0
trees_height (tree.branch t ts) = max (height t) (trees_height ts)

greatest_branch : (ts : Trees) → greatest (tree.of_trees (λ form logical utc heights. 1 + greatest heights) ts) ≡ trees_height ts
greatest_branch tree.no_trees = refl
greatest_branch (tree.branch t ts) = ap (max (height t)) (greatest_branch ts)

-- how deep what is inside a form is
abbrev pub form_height : Form → ℕ
form_height (tree.primitive p) = 0
form_height (tree.fixed name size) = 0
form_height (tree.enumeration name symbols) = 0
form_height (tree.fields name fs) = fields_height fs
form_height (tree.array items element) = height items
form_height (tree.map values key value) = height values
form_height (tree.union ts) = trees_height ts

pub height_form : (form : Form) (l : Option (List ℕ)) (u : Option Bool) → height (tree.node form l u) ≡ 1 + form_height form
height_form (tree.primitive p) l u = refl
height_form (tree.fixed name size) l u = refl
height_form (tree.enumeration name symbols) l u = refl
height_form (tree.fields name fs) l u = ap (λ n. 1 + n) (greatest_field fs)
height_form (tree.array items element) l u = omega arith
height_form (tree.map values key value) l u = omega arith
height_form (tree.union ts) l u = ap (λ n. 1 + n) (greatest_branch ts)

-- ---- types

abbrev pub fields_types : Fields → List (List ℕ × Tree)
fields_types fs = flat_map (λ ts. ts) (tree.of_fields (λ form logical utc types. with_own (tree.node form logical utc) (form_name form) (flat_map (λ ts. ts) types)) fs)

abbrev pub trees_types : Trees → List (List ℕ × Tree)
trees_types ts = flat_map (λ us. us) (tree.of_trees (λ form logical utc types. with_own (tree.node form logical utc) (form_name form) (flat_map (λ ts. ts) types)) ts)

-- the types of a node, form by form
abbrev pub form_types : Form → Option (List ℕ) → Option Bool → List (List ℕ × Tree)
form_types (tree.primitive p) logical utc = []
form_types (tree.fixed name size) logical utc = (name, tree.node (tree.fixed name size) logical utc) ∷ []
form_types (tree.enumeration name symbols) logical utc = (name, tree.node (tree.enumeration name symbols) logical utc) ∷ []
form_types (tree.fields name fs) logical utc = fields_types fs ++ (name, tree.node (tree.fields name fs) logical utc) ∷ []
form_types (tree.array items element) logical utc = types_of items
form_types (tree.map values key value) logical utc = types_of values
form_types (tree.union ts) logical utc = trees_types ts

pub types_form : (form : Form) (l : Option (List ℕ)) (u : Option Bool) → types_of (tree.node form l u) ≡ form_types form l u
types_form (tree.primitive p) l u = refl
types_form (tree.fixed name size) l u = refl
types_form (tree.enumeration name symbols) l u = refl
types_form (tree.fields name fs) l u = refl
types_form (tree.array items element) l u = append-nil (types_of items)
types_form (tree.map values key value) l u = append-nil (types_of values)
types_form (tree.union ts) l u = refl
