-- The last round, byte by byte.
use Rattle.icb_aes.proofs.PlaneLemmas.{holds_same}
use Rattle.icb_aes.proofs.RoundPlanes.{last_round_byte}
use Rattle.icb_aes.proofs.planes.last_round.Goals as goal

pub returns : goal.returns
returns c = λ s k h i.
    holds_same _ _ _ (c.sum.ensures _ _ (c.shifted.ensures _ (c.sub_bytes.ensures _ h)) i)
    (λ b p _ l. last_round_byte (s b) k p l)
