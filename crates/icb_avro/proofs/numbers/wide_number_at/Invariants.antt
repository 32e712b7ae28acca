use Rattle.icb_avro.proofs.NumberLemmas.{Partly}
use Rattle.icb_avro.proofs.numbers.wide_number_at.Given as goal

abbrev pub invariant-loop-done : goal.invariant-loop-done
invariant-loop-done l = Partly l.all l.number l.power l.done l.rest
