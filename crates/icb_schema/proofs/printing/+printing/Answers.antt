use Rattle.std.proofs.Common.{◌≡◌, sym, ap, ◌∙◌, arith, drop, map, ◌+◌}
use Rattle.std.proofs.lemmas.List.{drop_all}
use Rattle.serde_json.specs.Data as json
use Rattle.serde_json.specs.View.{items_view}
use Rattle.serde_json.proofs.Views.{view-Array}
use Rattle.icb_schema.specs.Names.{has_dot}
use Rattle.icb_schema.specs.Tree as tree
use Rattle.icb_schema.proofs.TreeLemmas as nodes
use Rattle.icb_schema.specs.Nodes.{tree_of, part_of, fields_of, trees_of}
use Rattle.icb_schema.specs.Printing.{fields_json, trees_json, field_json, default_json}
use Rattle.icb_schema.proofs.PrintLemmas.{one_more, all_made, fields_step, trees_step, json_of_node}
use Rattle.icb_schema.proofs.printing.+printing.Goals as goal

pub branches_json-loop-node-preserved : goal.branches_json-loop-node-preserved
branches_json-loop-node-preserved t c =
    one_more (trees_json c.args.dotted (trees_of (map tree_of c.args.nodes.now))) c.loop-node.values.items c.push.new.self.items c.in_ok-json_of.field-0
    (trees_json c.args.dotted (trees_of (map tree_of (drop c.loop-node.node-index c.args.nodes.now)))) (trees_json c.args.dotted (trees_of (map tree_of (drop (c.loop-node.node-index + 1) c.args.nodes.now))))
    c.loop-node.invariant
    (trees_step c.args.dotted c.args.nodes.now c.loop-node.node-index c.node-item.result (omega arith) c.node-item.is
    ∙ ap (λ d. json.item d (trees_json c.args.dotted (trees_of (map tree_of (drop (c.loop-node.node-index + 1) c.args.nodes.now))))) (sym c.in_ok-json_of.ensures))
    c.in_ok-push.ensures.items

pub branches_json-returns : goal.branches_json-returns
branches_json-returns t c =
    all_made (trees_json c.args.dotted (trees_of (map tree_of c.args.nodes.now))) c.loop-node.values.items (trees_json c.args.dotted (trees_of (map tree_of (drop c.loop-node.node-index c.args.nodes.now))))
    c.loop-node.invariant (ap (λ ns. trees_json c.args.dotted (trees_of (map tree_of ns))) (drop_all c.loop-node.node-index c.args.nodes.now (omega arith)))

pub list_json-loop-field-preserved : goal.list_json-loop-field-preserved
list_json-loop-field-preserved t c =
    one_more (fields_json c.args.dotted (fields_of (map part_of c.args.fields.now))) c.loop-field.values.items c.push.new.self.items c.in_ok-field_json.field-0
    (fields_json c.args.dotted (fields_of (map part_of (drop c.loop-field.field-index c.args.fields.now)))) (fields_json c.args.dotted (fields_of (map part_of (drop (c.loop-field.field-index + 1) c.args.fields.now))))
    c.loop-field.invariant
    (fields_step c.args.dotted c.args.fields.now c.loop-field.field-index c.field-item.result (omega arith) c.field-item.is
    ∙ ap (λ d. json.item d (fields_json c.args.dotted (fields_of (map part_of (drop (c.loop-field.field-index + 1) c.args.fields.now)))))
    (sym (c.in_ok-field_json.ensures ∙ ap (field_json c.field-item.result.name c.field-item.result.id (default_json (tree_of c.field-item.result.node))) c.in_ok-schema.ensures)))
    c.in_ok-push.ensures.items

pub list_json-returns : goal.list_json-returns
list_json-returns t c =
    all_made (fields_json c.args.dotted (fields_of (map part_of c.args.fields.now))) c.loop-field.values.items (fields_json c.args.dotted (fields_of (map part_of (drop c.loop-field.field-index c.args.fields.now))))
    c.loop-field.invariant (ap (λ fs. fields_json c.args.dotted (fields_of (map part_of fs))) (drop_all c.loop-field.field-index c.args.fields.now (omega arith)))

pub json_of-returns-in-Null : goal.json_of-returns-in-Null
json_of-returns-in-Null t c = rw (json_of_node c.args.dotted c.args.node.now (tree.primitive tree.null) (rw c.in-Null.is nodes.form_of_null)) c.plain_text.ensures

pub json_of-returns-in-Boolean : goal.json_of-returns-in-Boolean
json_of-returns-in-Boolean t c = rw (json_of_node c.args.dotted c.args.node.now (tree.primitive tree.boolean) (rw c.in-Boolean.is nodes.form_of_boolean)) c.plain_text-in-Boolean.ensures

pub json_of-returns-in-Int : goal.json_of-returns-in-Int
json_of-returns-in-Int t c = rw (json_of_node c.args.dotted c.args.node.now (tree.primitive tree.int) (rw c.in-Int.is nodes.form_of_int)) c.plain_text-in-Int.ensures

pub json_of-returns-in-Long : goal.json_of-returns-in-Long
json_of-returns-in-Long t c = rw (json_of_node c.args.dotted c.args.node.now (tree.primitive tree.long) (rw c.in-Long.is nodes.form_of_long)) c.plain_text-in-Long.ensures

pub json_of-returns-in-Float : goal.json_of-returns-in-Float
json_of-returns-in-Float t c = rw (json_of_node c.args.dotted c.args.node.now (tree.primitive tree.float) (rw c.in-Float.is nodes.form_of_float)) c.plain_text-in-Float.ensures

pub json_of-returns-in-Double : goal.json_of-returns-in-Double
json_of-returns-in-Double t c = rw (json_of_node c.args.dotted c.args.node.now (tree.primitive tree.double) (rw c.in-Double.is nodes.form_of_double)) c.plain_text-in-Double.ensures

pub json_of-returns-in-Bytes : goal.json_of-returns-in-Bytes
json_of-returns-in-Bytes t c = rw (json_of_node c.args.dotted c.args.node.now (tree.primitive tree.bytes) (rw c.in-Bytes.is nodes.form_of_bytes)) c.plain_text-in-Bytes.ensures

pub json_of-returns-in-Text : goal.json_of-returns-in-Text
json_of-returns-in-Text t c = rw (json_of_node c.args.dotted c.args.node.now (tree.primitive tree.text) (rw c.in-Text.is nodes.form_of_text)) c.plain_text-in-Text.ensures

pub json_of-returns-in-Fixed : goal.json_of-returns-in-Fixed
json_of-returns-in-Fixed t c = rw (json_of_node c.args.dotted c.args.node.now (tree.fixed c.in-Fixed.name c.in-Fixed.size) (rw c.in-Fixed.is (nodes.form_of_fixed c.in-Fixed.name c.in-Fixed.size))) c.fixed_json.ensures

pub json_of-returns-in-Enum : goal.json_of-returns-in-Enum
json_of-returns-in-Enum t c = rw (json_of_node c.args.dotted c.args.node.now (tree.enumeration c.in-Enum.name c.in-Enum.symbols) (rw c.in-Enum.is (nodes.form_of_enum c.in-Enum.name c.in-Enum.symbols))) c.enum_json.ensures

pub json_of-returns-in_ok-fields-in-Record : goal.json_of-returns-in_ok-fields-in-Record
json_of-returns-in_ok-fields-in-Record t c =
    let e : items_view c.in_ok-fields-in-Record.fields.items ≡ fields_json (has_dot c.in-Record.name) (fields_of (map part_of c.in-Record.fields)) =
    rw (← c.as_slice.ensures, ← c.has_dot.ensures) c.in_ok-fields-in-Record.ensures in
    rw (
      json_of_node c.args.dotted c.args.node.now (tree.fields c.in-Record.name (fields_of (map part_of c.in-Record.fields))) (rw c.in-Record.is (nodes.form_of_record c.in-Record.name c.in-Record.fields)),
      ← e,
    ) c.record_json.ensures

pub json_of-returns-in_ok-items-in-Array : goal.json_of-returns-in_ok-items-in-Array
json_of-returns-in_ok-items-in-Array t c = rw (
  json_of_node c.args.dotted c.args.node.now (tree.array (tree_of c.in-Array.items) c.in-Array.element) (rw c.in-Array.is (nodes.form_of_array c.in-Array.items c.in-Array.element)),
  ← c.get.ensures,
  ← c.in_ok-items-in-Array.ensures,
) c.array_json.ensures

pub json_of-returns-in_ok-values-in-Map : goal.json_of-returns-in_ok-values-in-Map
json_of-returns-in_ok-values-in-Map t c = rw (
  json_of_node c.args.dotted c.args.node.now (tree.map (tree_of c.in-Map.values) c.in-Map.key c.in-Map.value) (rw c.in-Map.is (nodes.form_of_map c.in-Map.values c.in-Map.key c.in-Map.value)),
  ← c.get-in-Map.ensures,
  ← c.in_ok-values-in-Map.ensures,
) c.map_json.ensures

pub json_of-returns-in_ok-branches-in-Union : goal.json_of-returns-in_ok-branches-in-Union
json_of-returns-in_ok-branches-in-Union t c = rw (
  json_of_node c.args.dotted c.args.node.now (tree.union (trees_of (map tree_of c.in-Union.branches))) (rw c.in-Union.is (nodes.form_of_union c.in-Union.branches)),
  ← c.as_slice-in-Union.ensures,
  ← c.in_ok-branches-in-Union.ensures,
  ← view-Array c.in_ok-branches-in-Union.branches,
) c.plain.ensures
