use Rattle.std.proofs.Common.{◌≡◌, ◌+◌, ◌≤◌, drop, map}
use Rattle.icb_rows.specs.Bounds.{column_data, count_nulls}
use Rattle.icb_rows.proofs.bounds.count_nulls.Given as goal

abbrev pub invariant-loop-row : goal.invariant-loop-row
invariant-loop-row l =
    (l.nulls ≤ l.row-index)
    × (l.nulls + count_nulls (column_data l.at (map (λ row. row.items) (drop l.row-index l.rows))) ≡ count_nulls (column_data l.at (map (λ row. row.items) l.rows)))
