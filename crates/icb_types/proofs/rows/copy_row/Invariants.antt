use Rattle.std.proofs.Common.{◌≡◌, take}
use Rattle.icb_types.proofs.rows.copy_row.Given as goal

abbrev pub invariant-loop-datum : goal.invariant-loop-datum
invariant-loop-datum l = l.copies.items ≡ take l.datum-index l.row
