use Rattle.std.proofs.Common.{◌≡◌, drop, map, option_map}
use Rattle.std.specs.Prelude.{fold}
use Rattle.icb_rows.specs.Order.{above}
use Rattle.icb_rows.specs.Bounds.{column_data, first_by, greatest, present}
use Rattle.icb_rows.proofs.bounds.greatest.Given as goal

abbrev pub invariant-loop-row : goal.invariant-loop-row
invariant-loop-row l =
    fold (λ found d. first_by above found (present d)) (option_map (λ d. d.now) l.greatest) (column_data l.at (map (λ row. row.items) (drop l.row-index l.rows)))
    ≡ greatest (column_data l.at (map (λ row. row.items) l.rows))
