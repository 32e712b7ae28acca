-- The first object at the path is counted, and nothing else.
use Rattle.std.proofs.Common.{refl}
use Rattle.icb_base.proofs.MemoryLemmas.{objects_of-counted_at}
use Rattle.icb_base.proofs.MemoryProofs.{is_raised}
use Rattle.icb_base.proofs.memory_objects.count.Goals as goal

pub returns-clause-same : goal.returns-clause-same
returns-clause-same c = rw c.count_first.ensures (objects_of-counted_at c.args.path.now c.args.bytes c.args.objects.now)

pub returns-clause-asked : goal.returns-clause-asked
returns-clause-asked c =
    rw c.count_first.ensures (is_raised (λ object. object.asked) c.args.path.now c.args.bytes 1 c.args.objects.now (λ object. refl))

pub returns-clause-moved : goal.returns-clause-moved
returns-clause-moved c =
    rw c.count_first.ensures (is_raised (λ object. object.moved) c.args.path.now c.args.bytes c.args.bytes c.args.objects.now (λ object. refl))
