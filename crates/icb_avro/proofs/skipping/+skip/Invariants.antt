use Rattle.std.proofs.Common.{◌≡◌, List, ℕ, map, drop, length, ◌+◌, ◌*◌, ◌^◌}
use Rattle.icb_schema.specs.Shape.{shape_of, shapes_of}
use Rattle.icb_avro.specs.declared.value.Value.{Value}
use Rattle.icb_avro.specs.Blocks.{standing}
use Rattle.icb_avro.specs.Reading.{all_blocks_at, behind, entry_at, fields_at, value_at}
use Rattle.icb_avro.proofs.BlockLemmas.{Along}
use Rattle.icb_avro.proofs.skipping.+skip.Given as goal

abbrev pub invariant-skip_entries-loop-walk : goal.invariant-skip_entries-loop-walk
invariant-skip_entries-loop-walk l =
    (entries : List (List ℕ × Value)) × Along (entry_at (value_at (shape_of l.node))) (all_blocks_at (entry_at (value_at (shape_of l.node))) l.all) entries (standing l.walk)

abbrev pub decreases-skip_entries-loop-walk : goal.decreases-skip_entries-loop-walk
decreases-skip_entries-loop-walk l = length l.walk.rest.now * 2 ^ 64 + l.walk.left

abbrev pub invariant-skip_fields-loop-field : goal.invariant-skip_fields-loop-field
invariant-skip_fields-loop-field l =
    behind (fields_at (shapes_of (map (λ f. shape_of f.node) l.fields)) l.all) ≡ behind (fields_at (shapes_of (map (λ f. shape_of f.node) (drop l.field-index l.fields))) l.rest)

abbrev pub invariant-skip_items-loop-walk : goal.invariant-skip_items-loop-walk
invariant-skip_items-loop-walk l =
    (items : List Value) × Along (value_at (shape_of l.node)) (all_blocks_at (value_at (shape_of l.node)) l.all) items (standing l.walk)

abbrev pub decreases-skip_items-loop-walk : goal.decreases-skip_items-loop-walk
decreases-skip_items-loop-walk l = length l.walk.rest.now * 2 ^ 64 + l.walk.left
