use Rattle.std.proofs.Common.{◌≡◌, take, map}
use Rattle.icb_schema.specs.Nodes.{tree_of, part_of}
use Rattle.icb_schema.proofs.walk.+copy.Given as goal

abbrev pub invariant-copy_fields-loop-field : goal.invariant-copy_fields-loop-field
invariant-copy_fields-loop-field l = map part_of l.copies ≡ map part_of (take l.field-index l.fields)

abbrev pub invariant-copy_nodes-loop-node : goal.invariant-copy_nodes-loop-node
invariant-copy_nodes-loop-node l = map tree_of l.copies ≡ map tree_of (take l.node-index l.nodes)
