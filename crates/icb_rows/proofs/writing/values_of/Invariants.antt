use Rattle.std.proofs.Common.{◌≡◌, ◌++◌, ◌<◌, ℕ, drop}
use Rattle.icb_types.specs.Fits.{IsDatum}
use Rattle.icb_rows.specs.Bounds.{datum_at}
use Rattle.icb_rows.specs.Data.{values_from}
use Rattle.icb_rows.proofs.writing.values_of.Given as goal

abbrev pub invariant-loop-at : goal.invariant-loop-at
invariant-loop-at l =
    (l.values ++ values_from l.at (drop l.at l.columns) l.row ≡ values_from 0 l.columns l.row)
    × ((i : ℕ) → i < l.at → IsDatum (datum_at i l.row))
