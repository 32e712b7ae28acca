use Rattle.icb_types.proofs.FitLemmas.{lines_fit}
use Rattle.icb_types.proofs.laws.lines_fit.Goals as goal

pub returns : goal.returns
returns c = lines_fit
