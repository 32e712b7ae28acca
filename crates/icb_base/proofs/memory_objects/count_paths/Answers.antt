-- A path counts where no later object is at it.
use Rattle.std.proofs.Common.{rules, true, false, arith}
use Rattle.icb_base.proofs.MemoryProofs.{held_behind, no_paths_left, paths_from}
use Rattle.icb_base.proofs.memory_objects.count_paths.Goals as goal
use Rattle.icb_base.proofs.memory_objects.count_paths.Goals.{then-is_none, else-is_none}

pub loop-place-preserved : goal.loop-place-preserved
loop-place-preserved c = elim c.if-is_none.branch [
  | then-is_none w ↦ (
    rw w.count-is (paths_from c.args.objects.now c.loop-place.place _ c.loop-place.count c.index-objects-place.result false
        (omega arith) c.loop-place-test.true c.loop-place.invariant.0 c.index-objects-place.is
        (held_behind (λ bytes. bytes.now) c.look.result c.args.objects.now _ _ false c.look.ensures (search rules))),
    omega (arith, w.count-is, c.loop-place.invariant.1),
  )
  | else-is_none w ↦ (
    rw w.count-is (paths_from c.args.objects.now c.loop-place.place _ c.loop-place.count c.index-objects-place.result true
        (omega arith) c.loop-place-test.true c.loop-place.invariant.0 c.index-objects-place.is
        (held_behind (λ bytes. bytes.now) c.look.result c.args.objects.now _ _ true c.look.ensures (search rules))),
    omega (arith, w.count-is, c.loop-place.invariant.1),
  )
]

pub returns : goal.returns
returns c = no_paths_left c.args.objects.now c.loop-place.place c.loop-place.count (search rules) c.loop-place.invariant.0
