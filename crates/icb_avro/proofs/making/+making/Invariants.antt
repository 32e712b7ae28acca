use Rattle.std.proofs.Common.{◌≡◌, map, drop, length, ◌+◌, ◌*◌, ◌^◌}
use Rattle.icb_schema.specs.Shape.{shape_of, shapes_of}
use Rattle.icb_avro.specs.Blocks.{standing}
use Rattle.icb_avro.specs.Reading.{all_blocks_at, entry_at, fields_at, value_at}
use Rattle.icb_avro.proofs.BlockLemmas.{Along, with_front}
use Rattle.icb_avro.proofs.making.+making.Given as goal

abbrev pub invariant-entries_at-loop-walk : goal.invariant-entries_at-loop-walk
invariant-entries_at-loop-walk l = Along (entry_at (value_at (shape_of l.node))) (all_blocks_at (entry_at (value_at (shape_of l.node))) l.all) l.entries (standing l.walk)

abbrev pub decreases-entries_at-loop-walk : goal.decreases-entries_at-loop-walk
decreases-entries_at-loop-walk l = length l.walk.rest.now * 2 ^ 64 + l.walk.left

abbrev pub invariant-fields_at-loop-field : goal.invariant-fields_at-loop-field
invariant-fields_at-loop-field l =
    fields_at (shapes_of (map (λ f. shape_of f.node) l.fields)) l.all ≡ with_front l.values (fields_at (shapes_of (map (λ f. shape_of f.node) (drop l.field-index l.fields))) l.rest)

abbrev pub invariant-items_at-loop-walk : goal.invariant-items_at-loop-walk
invariant-items_at-loop-walk l = Along (value_at (shape_of l.node)) (all_blocks_at (value_at (shape_of l.node)) l.all) l.items (standing l.walk)

abbrev pub decreases-items_at-loop-walk : goal.decreases-items_at-loop-walk
decreases-items_at-loop-walk l = length l.walk.rest.now * 2 ^ 64 + l.walk.left
