use Rattle.icb_container.proofs.Sorting.{Passed}
use Rattle.icb_container.proofs.properties.put.Given as goal

abbrev pub invariant-loop-place : goal.invariant-loop-place
invariant-loop-place l = Passed l.key l.value l.place l.list.items l.initial.list.items
