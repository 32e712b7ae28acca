use Rattle.std.proofs.Common.{◌≡◌, drop, map}
use Rattle.icb_rows.specs.Bounds.{bounds_from, bounds_of, then_bounds}
use Rattle.icb_rows.proofs.bounds.bounds_in.Given as goal

abbrev pub invariant-loop-at : goal.invariant-loop-at
invariant-loop-at l = then_bounds l.bounds (bounds_from l.at (drop l.at l.schema.columns) (map (λ row. row.items) l.rows)) ≡ bounds_of l.schema.columns (map (λ row. row.items) l.rows)
