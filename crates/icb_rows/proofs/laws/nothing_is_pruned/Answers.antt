use Rattle.icb_rows.proofs.BoundLemmas.{nothing_is_pruned}
use Rattle.icb_rows.proofs.laws.nothing_is_pruned.Goals as goal

pub returns : goal.returns
returns c = nothing_is_pruned
