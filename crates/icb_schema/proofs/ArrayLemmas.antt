-- No array of a schema has items that take no bytes.
use Rattle.std.proofs.Common.{◌≡◌, true, ◌&&◌, nat_le, refl}
use Rattle.icb_schema.specs.Tree as tree
use Rattle.icb_schema.specs.Tree.{Tree, Form, Fields, Trees}
use Rattle.icb_schema.specs.Shape.{shape, form_shape, fields_shapes, trees_shapes, takes_bytes, arrays_take_bytes, all_arrays_take_bytes}
use Rattle.icb_schema.specs.Rules.{keeps_rules, form_keeps, id_fits, nodes_of, height, is_schema}
use Rattle.icb_schema.proofs.NameLemmas.{both_left, both_right}
use Rattle.icb_schema.proofs.FoldLemmas.{both, fields_keep, branches_keep, InsideKeeps, rule_of, inside_of}

mutual
  rules_size_items : (t : Tree) → keeps_rules t ≡ true → arrays_take_bytes (shape t) ≡ true
  rules_size_items (tree.node form l u) k = form_sizes_items form (rule_of form l u k) (inside_of form l u k)

  form_sizes_items : (form : Form) → form_keeps form ≡ true → InsideKeeps form → arrays_take_bytes (form_shape form) ≡ true
  form_sizes_items (tree.primitive p) k i = refl
  form_sizes_items (tree.fixed name size) k i = refl
  form_sizes_items (tree.enumeration name symbols) k i = refl
  form_sizes_items (tree.fields name fs) k i = fields_size_items fs i
  form_sizes_items (tree.array items element) k i =
      both (takes_bytes (shape items)) (arrays_take_bytes (shape items)) (both_right (id_fits element) (takes_bytes (shape items)) k) (rules_size_items items i)
  form_sizes_items (tree.map values key value) k i = rules_size_items values i
  form_sizes_items (tree.union ts) k i = trees_size_items ts i

  fields_size_items : (fs : Fields) → fields_keep fs ≡ true → all_arrays_take_bytes (fields_shapes fs) ≡ true
  fields_size_items tree.no_fields k = refl
  fields_size_items (tree.field name id t fs) k =
      both (arrays_take_bytes (shape t)) (all_arrays_take_bytes (fields_shapes fs)) (rules_size_items t (both_left (keeps_rules t) (fields_keep fs) k)) (fields_size_items fs (both_right (keeps_rules t) (fields_keep fs) k))

  trees_size_items : (ts : Trees) → branches_keep ts ≡ true → all_arrays_take_bytes (trees_shapes ts) ≡ true
  trees_size_items tree.no_trees k = refl
  trees_size_items (tree.branch t ts) k =
      both (arrays_take_bytes (shape t)) (all_arrays_take_bytes (trees_shapes ts)) (rules_size_items t (both_left (keeps_rules t) (branches_keep ts) k)) (trees_size_items ts (both_right (keeps_rules t) (branches_keep ts) k))

-- no array of a schema has items that take no bytes
pub schema_has_sized_items : (t : Tree) → is_schema t ≡ true → arrays_take_bytes (shape t) ≡ true
unfolding is_schema
schema_has_sized_items t s = rules_size_items t (both_left (keeps_rules t) (nat_le (nodes_of t) 4096 && nat_le (height t) 32) s)
