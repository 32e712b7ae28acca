-- The sum of planes holds the sums of bytes.
use Rattle.icb_aes.proofs.PlaneLemmas.{holds_of}
use Rattle.icb_aes.proofs.RoundPlanes.{sum_section, sum_bytes}
use Rattle.icb_aes.proofs.planes.sum.Goals as goal

pub returns : goal.returns
returns c = λ f g h i. holds_of _ _ (sum_bytes c.args.x c.args.y f g h i) (sum_section c.args.x c.args.y f g h i)
