use Rattle.std.proofs.Common.{◌≡◌, drop, map}
use Rattle.serde_json.specs.View.{items_view}
use Rattle.icb_schema.specs.Nodes.{tree_of, part_of, fields_of, trees_of}
use Rattle.icb_schema.specs.Printing.{fields_json, trees_json}
use Rattle.icb_schema.proofs.PrintLemmas.{joined}
use Rattle.icb_schema.proofs.printing.+printing.Given as goal

abbrev pub invariant-list_json-loop-field : goal.invariant-list_json-loop-field
invariant-list_json-loop-field l =
    fields_json l.dotted (fields_of (map part_of l.fields)) ≡ joined (items_view l.values.items) (fields_json l.dotted (fields_of (map part_of (drop l.field-index l.fields))))

abbrev pub invariant-branches_json-loop-node : goal.invariant-branches_json-loop-node
invariant-branches_json-loop-node l =
    trees_json l.dotted (trees_of (map tree_of l.nodes)) ≡ joined (items_view l.values.items) (trees_json l.dotted (trees_of (map tree_of (drop l.node-index l.nodes))))
