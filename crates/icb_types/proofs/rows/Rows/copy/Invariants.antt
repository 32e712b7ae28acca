use Rattle.std.proofs.Common.{◌≡◌, map, take}
use Rattle.icb_types.proofs.rows.Rows.copy.Given as goal

abbrev pub invariant-loop-row : goal.invariant-loop-row
invariant-loop-row l = l.copies ≡ map (λ row. row.items) (take l.row-index l.row-items)
