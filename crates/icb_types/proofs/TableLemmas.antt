-- The Avro schema of columns keeps the rules of schemas.
use Rattle.std.proofs.Common.{◌≡◌, ◌≤◌, ◌+◌, ◌*◌, ℕ, ℤ, pos, negsuc, List, [], ◌∷◌, length, map, Bool, true, false, ◌&&◌, nat_lt, nat_le, Option, Some, refl, ap, arith}
use Rattle.std.specs.List.{list_all, sum}
use Rattle.std.proofs.lemmas.List.Sums.{sum_by-cons}
use Rattle.std.proofs.lemmas.Bool.{and_parts, le-leb}
use Rattle.icb_schema.specs.Tree as tree
use Rattle.icb_schema.specs.Tree.{Tree, Form}
use Rattle.icb_schema.specs.Nodes.{fields_of}
use Rattle.icb_schema.specs.Rules.{field_names, form_keeps, greatest, height, id_fits, ids_fit, is_schema, is_union_tree, keeps_rules, nodes_of}
use Rattle.icb_schema.proofs.TreeLemmas as nodes
use Rattle.icb_types.specs.Columns.{AreColumns, is_id, is_kind}
use Rattle.icb_types.specs.Table.{column_part, column_tree, kind_tree, or_null, table_tree}
use Rattle.icb_types.specs.declared.columns.ColType.{ColType}
use Rattle.icb_types.specs.declared.columns.ColType.TheVariants as kind
use Rattle.icb_types.specs.declared.columns.Column.{Column}

-- the forms of kinds that hold no node
pub ruleset kind_forms = (nodes.form_of_boolean, nodes.form_of_int, nodes.form_of_long, nodes.form_of_bytes, nodes.form_of_text)

-- a leaf that keeps the rules
record IsLeaf (t : Tree) : Type 0 where
  keeps : keeps_rules t ≡ true
  plain : is_union_tree t ≡ false
  one : nodes_of t ≡ 1
  flat : height t ≡ 1

kind_leaf : (id : ℤ) (k : ColType) → is_kind k ≡ true → IsLeaf (kind_tree id k)
kind_leaf id kind.Boolean h = record { keeps = refl; plain = refl; one = refl; flat = refl }
kind_leaf id kind.Int h = record { keeps = refl; plain = refl; one = refl; flat = refl }
kind_leaf id kind.Long h = record { keeps = refl; plain = refl; one = refl; flat = refl }
kind_leaf id kind.Date h = record { keeps = refl; plain = refl; one = refl; flat = refl }
kind_leaf id kind.Time h = record { keeps = refl; plain = refl; one = refl; flat = refl }
kind_leaf id kind.Timestamp h = record { keeps = refl; plain = refl; one = refl; flat = refl }
kind_leaf id kind.TimestampTz h = record { keeps = refl; plain = refl; one = refl; flat = refl }
kind_leaf id kind.Text h = record { keeps = refl; plain = refl; one = refl; flat = refl }
kind_leaf id kind.Uuid h = record { keeps = refl; plain = refl; one = refl; flat = refl }
kind_leaf id (kind.Fixed size) h = record { keeps = rw (and_parts (nat_le 1 size) (nat_le size 1048576) h).1 refl; plain = refl; one = refl; flat = refl }
kind_leaf id kind.Binary h = record { keeps = refl; plain = refl; one = refl; flat = refl }

-- a small tree that keeps the rules
record IsSmall (t : Tree) : Type 0 where
  keeps : keeps_rules t ≡ true
  few : nodes_of t ≤ 3
  flat : height t ≤ 2

small_leaf : (t : Tree) → IsLeaf t → IsSmall t
small_leaf t leaf = let one = leaf.one in let flat = leaf.flat in record { keeps = leaf.keeps; few = omega arith; flat = omega arith }

small_union : (t : Tree) → IsLeaf t → IsSmall (or_null t)
small_union t leaf =
    let one = leaf.one in
    let flat = leaf.flat in
    record { keeps = rw (leaf.keeps, leaf.plain) refl; few = omega arith; flat = omega arith }

column_small : (c : Column) → is_kind c.kind ≡ true → IsSmall (column_tree c)
column_small c h = by_required c.required refl
  where
    by_required : (b : Bool) → c.required ≡ b → IsSmall (column_tree c)
    by_required true e = rw e (small_leaf _ (kind_leaf c.id c.kind h))
    by_required false e = rw e (small_union _ (kind_leaf c.id c.kind h))

id_keeps : (id : ℤ) → is_id id ≡ true → id_fits (Some id) ≡ true
id_keeps (pos n) h = (and_parts (nat_lt 0 n) (nat_lt n 2147483648) h).1
id_keeps (negsuc n) h = absurd (let never : ⊥ = cc in never)

names_kept : (columns : List Column) → field_names (fields_of (map column_part columns)) ≡ map (λ c. c.name) columns
names_kept [] = refl
names_kept (c ∷ columns) = ap (λ names. c.name ∷ names) (names_kept columns)

-- one node's step of the rules, of the count of nodes and of the height
abbrev keep_step : Form → Option (List ℕ) → Option Bool → List Bool → Bool
keep_step form logical utc keep = form_keeps form && list_all (λ b. b) keep

abbrev count_step : Form → Option (List ℕ) → Option Bool → List ℕ → ℕ
count_step form logical utc counts = 1 + sum counts

abbrev height_step : Form → Option (List ℕ) → Option Bool → List ℕ → ℕ
height_step form logical utc heights = 1 + greatest heights

-- the fields of columns keep the rules, and are small
record AreSmall (columns : List Column) : Type 0 where
  ids : ids_fit (fields_of (map column_part columns)) ≡ true
  keep : list_all (λ b. b) (tree.of_fields keep_step (fields_of (map column_part columns))) ≡ true
  few : sum (tree.of_fields count_step (fields_of (map column_part columns))) ≤ 3 * length columns
  flat : greatest (tree.of_fields height_step (fields_of (map column_part columns))) ≤ 2

fields_small : (columns : List Column) → list_all is_id (map (λ c. c.id) columns) ≡ true → list_all is_kind (map (λ c. c.kind) columns) ≡ true
    → AreSmall columns
fields_small [] ids kinds = record { ids = refl; keep = refl; few = omega arith; flat = omega arith }
fields_small (c ∷ columns) ids kinds =
    let id = and_parts (is_id c.id) (list_all is_id (map (λ d. d.id) columns)) ids in
    let kind = and_parts (is_kind c.kind) (list_all is_kind (map (λ d. d.kind) columns)) kinds in
    let small = column_small c kind.0 in
    let rest = fields_small columns id.1 kind.1 in
    let first_few = small.few in
    let rest_few = rest.few in
    let first_flat = small.flat in
    let rest_flat = rest.flat in
    let both = sum_by-cons (λ n. n) (nodes_of (column_tree c)) (tree.of_fields count_step (fields_of (map column_part columns))) in
    record {
      ids = rw (id_keeps c.id id.0, rest.ids) refl;
      keep = rw (small.keeps, rest.keep) refl;
      few = omega arith;
      flat = omega arith;
    }

-- the schema of a table's columns keeps the rules and is within the limits
pub table_schema : (columns : List Column) → AreColumns columns → is_schema (table_tree columns) ≡ true
unfolding is_schema table_tree
table_schema columns are =
    let small = fields_small columns are.above are.kinds in
    let few = small.few in
    let flat = small.flat in
    let many = are.few in
    let nodes_fit : nodes_of (table_tree columns) ≤ 4096 = omega arith in
    let low : height (table_tree columns) ≤ 32 = omega arith in
    rw (names_kept columns, are.names, small.ids, small.keep, le-leb _ _ nodes_fit, le-leb _ _ low) refl
