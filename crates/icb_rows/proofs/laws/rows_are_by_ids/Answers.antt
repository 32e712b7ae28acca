use Rattle.icb_rows.proofs.RowLemmas.{no_more, their_data}
use Rattle.icb_rows.proofs.laws.rows_are_by_ids.Goals as goal

pub returns-clause-data : goal.returns-clause-data
returns-clause-data c = their_data

pub returns-clause-others : goal.returns-clause-others
returns-clause-others c = no_more
