-- Objects at other paths are found as before.
use Rattle.std.proofs.Common.{◌≡◌, ◌≢◌, List, ℕ, find, length}
use Rattle.icb_base.specs.Memory.{is_at}
use Rattle.icb_base.proofs.memory_objects.clear_in.Given as goal

abbrev pub invariant-loop-place : goal.invariant-loop-place
invariant-loop-place l = (other : List ℕ) → other ≢ l.path → find (is_at other) l.objects.items ≡ find (is_at other) l.initial.objects.items

abbrev pub decreases-loop-place : goal.decreases-loop-place
decreases-loop-place l = length l.objects.items
