-- What is taken away is held no more, and its numbers go with it.
use Rattle.icb_base.proofs.MemoryProofs.{removed, uncounted_asked, uncounted_moved}
use Rattle.icb_base.proofs.memory_objects.take_away.Goals as goal

pub returns-clause-now : goal.returns-clause-now
returns-clause-now c = removed c.args.path.now c.args.objects.now.items _ c.clear_in.ensures

pub returns-clause-asked : goal.returns-clause-asked
returns-clause-asked c = uncounted_asked c.args.path.now c.args.objects.now.items _ c.clear_in.ensures

pub returns-clause-moved : goal.returns-clause-moved
returns-clause-moved c = uncounted_moved c.args.path.now c.args.objects.now.items _ c.clear_in.ensures
