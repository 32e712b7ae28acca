use Rattle.std.proofs.Common.{◌≡◌, drop, map}
use Rattle.icb_schema.specs.Nodes.{fields_of, part_of}
use Rattle.icb_rows.specs.Records.{field_from, field_of}
use Rattle.icb_rows.proofs.projection.field_of.Given as goal

abbrev pub invariant-loop-at : goal.invariant-loop-at
invariant-loop-at l = field_from l.at l.id (fields_of (map part_of (drop l.at l.fields))) ≡ field_of l.id (fields_of (map part_of l.fields))
