use Rattle.std.proofs.Common.{◌≡◌, fold, pos, take}
use Rattle.icb_edits.specs.Tables.{greater_id}
use Rattle.icb_edits.proofs.columns.last_id.Given as goal

abbrev pub invariant-loop-column : goal.invariant-loop-column
invariant-loop-column l = l.last ≡ fold greater_id (pos 0) (take l.column-index l.columns)
