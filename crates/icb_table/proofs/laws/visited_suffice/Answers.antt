use Rattle.icb_table.proofs.VisitedLemmas.{visited_suffice}
use Rattle.icb_table.proofs.laws.visited_suffice.Goals as goal

pub returns : goal.returns
returns c = visited_suffice
