use Rattle.std.proofs.Common.{arith}
use Rattle.icb_avro.proofs.NumberLemmas.{one_byte, no_byte}
use Rattle.icb_avro.proofs.numbers.number_at.Goals as goal

pub returns-then-byte-lt128 : goal.returns-then-byte-lt128
returns-then-byte-lt128 c = rw c.from.ensures (one_byte c.args.all.now c.in-Some.byte c.in-Some.rest.now (omega arith) c.in-Some.ensures.parts)

pub returns-in-None : goal.returns-in-None
returns-in-None c = rw c.refuse.ensures (no_byte c.args.all.now c.in-None.ensures.parts)
