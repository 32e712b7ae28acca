use Rattle.icb_table.proofs.ReductionLemmas.{no_foreign_shows_no_more}
use Rattle.icb_table.proofs.laws.no_foreign_shows_no_more.Goals as goal

pub returns : goal.returns
returns c = no_foreign_shows_no_more
