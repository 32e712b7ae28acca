use Rattle.icb_append.proofs.FitLemmas.{fits_when_grown, new_fits}
use Rattle.icb_append.proofs.laws.fits_when_grown.Goals as goal

pub returns-clause-new : goal.returns-clause-new
returns-clause-new c = new_fits

pub returns-clause-grown : goal.returns-clause-grown
returns-clause-grown c = fits_when_grown
