use Rattle.std.proofs.Common.{◌≡◌, drop, map}
use Rattle.std.specs.List.{list_all}
use Rattle.icb_rows.specs.Bounds.{column_data, is_short}
use Rattle.icb_rows.proofs.bounds.are_short.Given as goal

abbrev pub invariant-loop-row : goal.invariant-loop-row
invariant-loop-row l =
    list_all is_short (column_data l.at (map (λ row. row.items) (drop l.row-index l.rows))) ≡ list_all is_short (column_data l.at (map (λ row. row.items) l.rows))
