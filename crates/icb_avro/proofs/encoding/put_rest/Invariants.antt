use Rattle.icb_avro.proofs.WriteLemmas.{Written}
use Rattle.icb_avro.proofs.encoding.put_rest.Given as goal

abbrev pub invariant-loop-done : goal.invariant-loop-done
invariant-loop-done l = Written l.initial.out l.number l.out l.rest l.done
