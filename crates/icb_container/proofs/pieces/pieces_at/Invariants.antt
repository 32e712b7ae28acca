use Rattle.std.proofs.Common.{◌≡◌, ◌+◌, List, ℕ, Option, None, length}
use Rattle.icb_base.specs.Contents.{HasPart}
use Rattle.icb_container.specs.Known.{ReadsOnly}
use Rattle.icb_container.proofs.pieces.pieces_at.Given as goal

abbrev pub invariant-loop-left : goal.invariant-loop-left
invariant-loop-left g l = record {
  size : l.left + length l.bytes ≡ l.size;
  part : (known : List (Option ℕ)) → g.R.ReadAt.content l.initial.reader known → HasPart known l.at l.bytes;
  reader : ReadsOnly g.R.ReadAt None l.initial.reader l.reader;
}

abbrev pub decreases-loop-left : goal.decreases-loop-left
decreases-loop-left g l = l.left
