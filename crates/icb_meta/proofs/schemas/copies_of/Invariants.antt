use Rattle.std.proofs.Common.{◌≡◌, take}
use Rattle.icb_meta.proofs.schemas.copies_of.Given as goal

abbrev pub invariant-loop-column : goal.invariant-loop-column
invariant-loop-column l = l.copies ≡ take l.column-index l.columns
