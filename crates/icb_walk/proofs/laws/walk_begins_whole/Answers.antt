use Rattle.icb_walk.proofs.LawLemmas.{unopened_fits, unopened_has_all}
use Rattle.icb_walk.proofs.laws.walk_begins_whole.Goals as goal

pub returns-clause-fits : goal.returns-clause-fits
returns-clause-fits c = unopened_fits

pub returns-clause-left : goal.returns-clause-left
returns-clause-left c = unopened_has_all
