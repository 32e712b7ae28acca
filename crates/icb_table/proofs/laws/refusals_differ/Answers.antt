use Rattle.icb_table.proofs.DifferingLemmas.{blocks_differ, openings_differ}
use Rattle.icb_table.proofs.laws.refusals_differ.Goals as goal

pub returns-clause-openings : goal.returns-clause-openings
returns-clause-openings c = openings_differ

pub returns-clause-blocks : goal.returns-clause-blocks
returns-clause-blocks c = blocks_differ
