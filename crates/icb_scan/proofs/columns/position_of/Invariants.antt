use Rattle.std.proofs.Common.{◌≡◌, drop}
use Rattle.icb_rows.specs.Ranges.{column_named}
use Rattle.icb_scan.proofs.columns.position_of.Given as goal

abbrev pub invariant-loop-at : goal.invariant-loop-at
invariant-loop-at l = column_named l.name (drop l.at l.columns) ≡ column_named l.name l.columns
