use Rattle.std.proofs.Common.{◌≡◌, take}
use Rattle.icb_rows.specs.Views.{chosen}
use Rattle.icb_datafile.specs.Plans.{ArePositions}
use Rattle.icb_datafile.proofs.opening.all_positions.Given as goal

abbrev pub invariant-loop-at : goal.invariant-loop-at
invariant-loop-at l = (chosen l.columns l.positions ≡ take l.at l.columns) × ArePositions l.columns l.positions
