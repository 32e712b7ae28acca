use Rattle.icb_walk.proofs.LawLemmas.{fits_when_grown}
use Rattle.icb_walk.proofs.laws.walk_fits_when_grown.Goals as goal

pub returns : goal.returns
returns c = fits_when_grown
