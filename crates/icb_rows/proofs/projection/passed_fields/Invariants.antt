use Rattle.std.proofs.Common.{◌≡◌, ◌++◌, drop, map}
use Rattle.icb_schema.specs.Nodes.{fields_of, part_of}
use Rattle.icb_rows.specs.Views.{passed, passed_from}
use Rattle.icb_rows.proofs.projection.passed_fields.Given as goal

abbrev pub invariant-loop-at : goal.invariant-loop-at
invariant-loop-at l =
    map passed l.list ++ passed_from l.at l.columns (fields_of (map part_of (drop l.at l.fields))) ≡ passed_from 0 l.columns (fields_of (map part_of l.fields))
