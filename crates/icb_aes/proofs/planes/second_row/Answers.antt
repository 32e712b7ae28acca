-- Each plane is moved alike.
use Rattle.std.proofs.Common.{refl}
use Rattle.icb_aes.specs.declared.planes.TheConstants.{SECOND_ROW}
use Rattle.icb_aes.proofs.RoundPlanes.{moved_eight, second_row-below}
use Rattle.icb_aes.proofs.planes.second_row.Goals as goal

pub returns : goal.returns
returns c = λ f h. moved_eight c.args.x SECOND_ROW f refl second_row-below h
