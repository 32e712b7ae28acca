use Rattle.std.proofs.Common.{◌≡◌, ◌++◌, drop, map}
use Rattle.icb_schema.specs.Nodes.{fields_of, part_of}
use Rattle.icb_rows.specs.Records.{first_unfit}
use Rattle.icb_rows.specs.Views.{chosen, placed_of}
use Rattle.icb_rows.proofs.projection.placed_columns.Given as goal

abbrev pub invariant-loop-position : goal.invariant-loop-position
invariant-loop-position l =
    let fs = fields_of (map part_of l.fields) in
    (l.placed ++ map (placed_of fs) (chosen l.columns (drop l.position-index l.positions)) ≡ map (placed_of fs) (chosen l.columns l.positions))
    × (first_unfit (chosen l.columns (drop l.position-index l.positions)) fs ≡ first_unfit (chosen l.columns l.positions) fs)
