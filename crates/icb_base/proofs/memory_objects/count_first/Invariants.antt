-- Nothing is counted yet, and no object before the place is at the path.
use Rattle.std.proofs.Common.{◌≡◌, drop, take, ◌++◌}
use Rattle.icb_base.specs.Memory.{counted_at}
use Rattle.icb_base.proofs.memory_objects.count_first.Given as goal

abbrev pub invariant-loop-object : goal.invariant-loop-object
invariant-loop-object l =
    (l.objects ≡ l.initial.objects)
    × (counted_at l.path l.bytes l.initial.objects
    ≡ take l.object-index l.initial.objects ++ counted_at l.path l.bytes (drop l.object-index l.initial.objects))
