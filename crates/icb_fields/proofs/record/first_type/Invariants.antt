use Rattle.std.proofs.Common.{◌≡◌, map, drop}
use Rattle.icb_schema.specs.Nodes.{fields_of, part_of}
use Rattle.icb_fields.specs.Fields.{first_type}
use Rattle.icb_fields.proofs.record.first_type.Given as goal

abbrev pub invariant-loop-field : goal.invariant-loop-field
invariant-loop-field l = first_type l.id (fields_of (map part_of l.fields)) ≡ first_type l.id (fields_of (map part_of (drop l.field-index l.fields)))
