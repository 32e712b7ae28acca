-- A round, byte by byte.
use Rattle.icb_aes.proofs.PlaneLemmas.{holds_same}
use Rattle.icb_aes.proofs.RoundPlanes.{round_byte}
use Rattle.icb_aes.proofs.planes.round.Goals as goal

pub returns : goal.returns
returns c = λ s k h i.
    let a = c.shifted-a.ensures _ (c.sub_bytes.ensures _ h) in
    let b = c.next_row-b.ensures _ a in
    let pair = c.sum-both.ensures _ _ a b in
    holds_same _ _ _ (c.sum-3.ensures _ _ (c.sum-2.ensures _ _ (c.sum.ensures _ _ (c.doubled.ensures _ pair) b) (c.second_row.ensures _ pair)) i)
    (λ b p _ l. round_byte (s b) k p l)
