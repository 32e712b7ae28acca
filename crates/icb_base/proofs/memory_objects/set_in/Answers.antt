-- The object at the path is written in its place, or added.
use Rattle.icb_base.proofs.MemoryProofs.{set_added, set_written}
use Rattle.icb_base.proofs.memory_objects.set_in.Goals as goal

pub returns-in-Some-clause-ok : goal.returns-in-Some-clause-ok
returns-in-Some-clause-ok c =
    set_written c.args.path c.args.objects.now.items _ c.in-Some.place c.args.bytes c.deref.ensures.value c.in-Some.ensures

pub returns-in_ok-push-in-None-clause-ok : goal.returns-in_ok-push-in-None-clause-ok
returns-in_ok-push-in-None-clause-ok c =
    set_added c.args.path c.args.objects.now.items _ _ c.args.bytes c.deref.ensures.value c.in-None.ensures c.in_ok-push-in-None.ensures.items
