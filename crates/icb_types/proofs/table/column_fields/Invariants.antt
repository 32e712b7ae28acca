use Rattle.std.proofs.Common.{◌≡◌, map, take}
use Rattle.icb_schema.specs.Nodes.{part_of}
use Rattle.icb_types.specs.Table.{column_part}
use Rattle.icb_types.proofs.table.column_fields.Given as goal

abbrev pub invariant-loop-column : goal.invariant-loop-column
invariant-loop-column l = map part_of l.fields ≡ map column_part (take l.column-index l.columns)
