use Rattle.std.proofs.Common.{◌≡◌, drop, map}
use Rattle.icb_schema.specs.Nodes.{tree_of, part_of, fields_of, trees_of}
use Rattle.icb_schema.specs.Reading.{fields_numbered, trees_numbered}
use Rattle.icb_schema.proofs.walk.+number.Given as goal

abbrev pub invariant-number_fields-loop-field : goal.invariant-number_fields-loop-field
invariant-number_fields-loop-field l =
    fields_numbered l.depth (fields_of (map part_of l.fields)) l.initial.count ≡ fields_numbered l.depth (fields_of (map part_of (drop l.field-index l.fields))) l.count

abbrev pub invariant-number_nodes-loop-node : goal.invariant-number_nodes-loop-node
invariant-number_nodes-loop-node l =
    trees_numbered l.depth (trees_of (map tree_of l.nodes)) l.initial.count ≡ trees_numbered l.depth (trees_of (map tree_of (drop l.node-index l.nodes))) l.count
