-- The numbers that were passed are ids.
use Rattle.std.proofs.Common.{ℕ, ◌<◌, ◌+ℤ◌, pos, IsSome}
use Rattle.icb_append.specs.Committing.{next_sequence}
use Rattle.icb_meta.specs.Answers.{shown_of}
use Rattle.icb_meta.specs.Forms.{snapshot_named}
use Rattle.icb_append.proofs.reading.next_id.Given as goal

abbrev pub invariant-loop-more : goal.invariant-loop-more
invariant-loop-more l = (m : ℕ) → m < l.more
    → IsSome (snapshot_named (next_sequence (shown_of l.meta) +ℤ pos m) (shown_of l.meta).state.snapshots)
