-- The object written is the first one at the path.
use Rattle.std.proofs.Common.{rules}
use Rattle.icb_base.proofs.MemoryProofs.{count_written}
use Rattle.icb_base.proofs.memory_objects.count_first.Goals as goal

pub returns-then-eq : goal.returns-then-eq
returns-then-eq c =
    count_written c.loop-object.objects c.args.objects.now c.args.path.now c.args.bytes c.loop-object.object-index c.object-item.result _
    c.loop-object.invariant.0 c.loop-object.invariant.1 c.count.ensures
    c.loop-object-test.true c.object-item.is (search rules)
