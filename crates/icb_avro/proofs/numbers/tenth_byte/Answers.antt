use Rattle.std.proofs.Common.{arith}
use Rattle.icb_avro.proofs.NumberLemmas as numbers
use Rattle.icb_avro.proofs.numbers.tenth_byte.Goals as goal

pub returns-in-None : goal.returns-in-None
returns-in-None c = rw c.refuse-in-None.ensures (numbers.tenth_end c.args.all.now c.args.number c.args.rest.now c.in-None.ensures.parts)

pub returns-then-byte-gt1 : goal.returns-then-byte-gt1
returns-then-byte-gt1 c = rw c.refuse.ensures (numbers.tenth_high c.args.all.now c.args.number c.args.rest.now c.in-Some.byte c.in-Some.after.now c.in-Some.ensures.parts (omega arith))

pub returns-else-byte-gt1 : goal.returns-else-byte-gt1
returns-else-byte-gt1 c = rw c.from.ensures (numbers.tenth_byte c.args.all.now c.args.number c.args.rest.now c.in-Some.byte c.in-Some.after.now c.in-Some.ensures.parts (omega arith) c.requires)
