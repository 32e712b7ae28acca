use Rattle.std.proofs.Common.{◌≡◌, ◌≤◌, ◌++◌, drop, map, take}
use Rattle.std.specs.List.{All}
use Rattle.icb_rows.specs.Data.{blocks_from, blocks_of, row_bytes}
use Rattle.icb_rows.specs.Rows.{HasData}
use Rattle.icb_rows.proofs.writing.blocks_of.Given as goal

abbrev pub invariant-loop-row : goal.invariant-loop-row
invariant-loop-row l =
    (l.last.count ≤ l.row-index)
    × (l.blocks ++ blocks_from l.size l.last (map (row_bytes l.columns) (map (λ row. row.items) (drop l.row-index l.rows))) ≡ blocks_of l.size l.columns (map (λ row. row.items) l.rows))
    × All (λ row. HasData l.columns row.items) (take l.row-index l.rows)
