-- Before the first property nothing is kept.
use Rattle.icb_container.proofs.KeptProperties.{nothing_is_kept}
use Rattle.icb_container.proofs.found.Found.new.Goals as goal

pub returns : goal.returns
returns c = nothing_is_kept
