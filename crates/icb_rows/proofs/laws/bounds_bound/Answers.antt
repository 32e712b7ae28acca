use Rattle.icb_rows.proofs.BoundLemmas.{bounds_bound}
use Rattle.icb_rows.proofs.laws.bounds_bound.Goals as goal

pub returns : goal.returns
returns c = bounds_bound
