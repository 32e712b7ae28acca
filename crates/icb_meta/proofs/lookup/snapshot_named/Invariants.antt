use Rattle.std.proofs.Common.{◌≡◌, drop}
use Rattle.icb_meta.specs.Forms.{snapshot_named}
use Rattle.icb_meta.proofs.lookup.snapshot_named.Given as goal

abbrev pub invariant-loop-snapshot : goal.invariant-loop-snapshot
invariant-loop-snapshot l = snapshot_named l.id l.snapshots ≡ snapshot_named l.id (drop l.snapshot-index l.snapshots)
