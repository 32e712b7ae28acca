-- The paths of the objects so far, but for those that come again, and the paths of the others are all.
use Rattle.std.proofs.Common.{◌≡◌, ◌≤◌, ◌+◌, drop}
use Rattle.std.specs.FinMap.{len}
use Rattle.icb_base.specs.Memory.{objects_of}
use Rattle.icb_base.proofs.memory_objects.count_paths.Given as goal

abbrev pub invariant-loop-place : goal.invariant-loop-place
invariant-loop-place l =
    (l.count + len (objects_of (drop l.place l.objects)) ≡ len (objects_of l.objects)) × (l.count ≤ l.place)
