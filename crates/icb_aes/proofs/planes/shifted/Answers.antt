-- Each plane is moved alike.
use Rattle.std.proofs.Common.{refl}
use Rattle.icb_aes.specs.declared.planes.TheConstants.{SHIFTED}
use Rattle.icb_aes.proofs.RoundPlanes.{moved_eight, shifted-below}
use Rattle.icb_aes.proofs.planes.shifted.Goals as goal

pub returns : goal.returns
returns c = λ f h. moved_eight c.args.x SHIFTED f refl shifted-below h
