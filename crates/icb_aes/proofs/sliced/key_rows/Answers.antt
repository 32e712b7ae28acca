-- The rows of one round key more.
use Rattle.std.proofs.Common.{arith}
use Rattle.icb_aes.proofs.sliced.key_rows.Goals as goal

pub loop-i-init : goal.loop-i-init
loop-i-init c = λ n p h. absurd (let f : ⊥ = omega (arith, h) in f)

pub loop-i-preserved : goal.loop-i-preserved
loop-i-preserved c = c.add_key_rows.ensures c.loop-i.invariant

pub returns : goal.returns
returns c = λ n p h. c.loop-i.invariant n p (omega (arith, h))
