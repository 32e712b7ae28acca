-- Taking an object away leaves those at other paths, and in the end none is left at the path.
use Rattle.std.proofs.Common.{◌∙◌}
use Rattle.icb_base.proofs.MemoryProofs.{all_removed, removed_stay}
use Rattle.icb_base.proofs.memory_objects.clear_in.Goals as goal

pub loop-place-preserved : goal.loop-place-preserved
loop-place-preserved c other ne =
    removed_stay c.args.path.now other c.loop-place.objects.items _ _ c.in-Some.place c.remove.result ne
    c.deref.ensures.value c.in-Some.ensures c.remove.ensures.items
    ∙ c.loop-place.invariant other ne

pub returns : goal.returns
returns c =
    all_removed c.args.path.now c.args.objects.now.items _ _ c.deref.ensures.value c.in_default.ensures c.loop-place.invariant
