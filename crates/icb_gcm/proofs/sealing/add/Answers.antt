-- One byte more is a sum.
use Rattle.std.proofs.Common.{arith, add-one}
use Rattle.icb_gcm.proofs.BytesLemmas.{added_more}
use Rattle.icb_gcm.proofs.sealing.add.Goals as goal

pub loop-i-preserved : goal.loop-i-preserved
loop-i-preserved c =
    rw (c.loop-i.invariant, add-one)
    (added_more c.args.bytes.now c.args.others.now c.loop-i.i (omega arith) (omega arith))
