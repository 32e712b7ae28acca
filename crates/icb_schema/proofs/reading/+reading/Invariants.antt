use Rattle.std.proofs.Common.{◌≡◌, ◌+◌, ◌*◌, drop, map}
use Rattle.serde_json.specs.View.{view}
use Rattle.icb_schema.specs.Heads.{head_view}
use Rattle.icb_schema.specs.Nodes.{tree_of, part_of}
use Rattle.icb_schema.specs.Reading.{each, field_by, node_at, schema_by}
use Rattle.icb_schema.proofs.JsonLemmas.{prepended}
use Rattle.icb_schema.specs.Seen.{seen_of}
use Rattle.icb_schema.proofs.reading.+reading.Given as goal

abbrev pub decreases-read_schema : goal.decreases-read_schema
decreases-read_schema l = 10 * l.levels + 9

abbrev pub decreases-read_node : goal.decreases-read_node
decreases-read_node l = 10 * l.levels + 8

abbrev pub decreases-read_object : goal.decreases-read_object
decreases-read_object l = 10 * l.levels + 17

abbrev pub decreases-read_typed : goal.decreases-read_typed
decreases-read_typed l = 10 * l.levels + 16

abbrev pub decreases-read_word : goal.decreases-read_word
decreases-read_word l = 10 * l.levels + 15

abbrev pub decreases-read_record : goal.decreases-read_record
decreases-read_record l = 10 * l.levels + 14

abbrev pub decreases-read_fields : goal.decreases-read_fields
decreases-read_fields l = 10 * l.levels + 13

abbrev pub decreases-read_array : goal.decreases-read_array
decreases-read_array l = 10 * l.levels + 14

abbrev pub decreases-read_map : goal.decreases-read_map
decreases-read_map l = 10 * l.levels + 14

abbrev pub decreases-read_union : goal.decreases-read_union
decreases-read_union l = 10 * l.levels + 14

abbrev pub decreases-read_branches : goal.decreases-read_branches
decreases-read_branches l = 10 * l.levels + 13

abbrev pub invariant-read_fields-loop-head : goal.invariant-read_fields-loop-head
invariant-read_fields-loop-head l =
    each (field_by (schema_by (node_at l.levels)) l.depth l.scope) (map head_view l.heads) (seen_of l.initial.seen)
    ≡ prepended (map part_of l.fields) (each (field_by (schema_by (node_at l.levels)) l.depth l.scope) (map head_view (drop l.head-index l.heads)) (seen_of l.seen))

abbrev pub invariant-read_branches-loop-item : goal.invariant-read_branches-loop-item
invariant-read_branches-loop-item l =
    each (schema_by (node_at l.levels) l.depth l.scope) (map view l.items) (seen_of l.initial.seen)
    ≡ prepended (map tree_of l.branches) (each (schema_by (node_at l.levels) l.depth l.scope) (map view (drop l.item-index l.items)) (seen_of l.seen))
