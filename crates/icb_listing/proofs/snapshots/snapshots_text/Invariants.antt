-- The lines of the snapshots before this one are written.
use Rattle.std.proofs.Common.{◌≡◌, ◌++◌, drop}
use Rattle.std.specs.Prelude.{flat_map}
use Rattle.icb_listing.specs.Lines.{snapshot_line, snapshots_text}
use Rattle.icb_meta.specs.Answers.{shown_of}
use Rattle.icb_listing.proofs.snapshots.snapshots_text.Given as goal

abbrev pub invariant-loop-snapshot : goal.invariant-loop-snapshot
invariant-loop-snapshot l =
    l.text.items ++ flat_map snapshot_line (drop l.snapshot-index (shown_of l.meta).state.snapshots)
    ≡ snapshots_text (shown_of l.meta)
