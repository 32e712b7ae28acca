-- Each plane is moved alike.
use Rattle.std.proofs.Common.{refl}
use Rattle.icb_aes.specs.declared.planes.TheConstants.{NEXT_ROW}
use Rattle.icb_aes.proofs.RoundPlanes.{moved_eight, next_row-below}
use Rattle.icb_aes.proofs.planes.next_row.Goals as goal

pub returns : goal.returns
returns c = λ f h. moved_eight c.args.x NEXT_ROW f refl next_row-below h
