use Rattle.std.proofs.Common.{◌≡◌, map, drop}
use Rattle.icb_schema.specs.Nodes.{fields_of, part_of}
use Rattle.icb_fields.specs.Fields.{held_at}
use Rattle.icb_fields.proofs.record.Record.held_at.Given as goal

abbrev pub invariant-loop-i : goal.invariant-loop-i
invariant-loop-i l = held_at l.id (fields_of (map part_of l.self.fields.now)) l.self.values.now
    ≡ held_at l.id (fields_of (map part_of (drop l.i l.self.fields.now))) (drop l.i l.self.values.now)
