use Rattle.std.proofs.Common.{◌≡◌, map, take}
use Rattle.icb_schema.specs.Nodes.{part_of}
use Rattle.icb_fields.specs.Making.{slot_part}
use Rattle.icb_fields.proofs.making.slot_fields.Given as goal

abbrev pub invariant-loop-slot : goal.invariant-loop-slot
invariant-loop-slot l = map part_of l.fields ≡ map slot_part (take l.slot-index l.slots)
