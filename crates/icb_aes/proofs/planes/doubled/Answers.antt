-- The planes of the products by x.
use Rattle.icb_aes.proofs.PlaneLemmas.{holds_of}
use Rattle.icb_aes.proofs.RoundPlanes.{doubled_section, doubled_bytes}
use Rattle.icb_aes.proofs.planes.doubled.Goals as goal

pub returns : goal.returns
returns c = λ f h. holds_of _ _ (doubled_bytes c.args.x f h) (doubled_section c.args.x f h)
