use Rattle.icb_table.proofs.ContentLemmas.{records_are_content}
use Rattle.icb_table.proofs.DataLemmas.{data_rows_are_content, unfit_is_refused}
use Rattle.icb_table.proofs.laws.records_are_content.Goals as goal

pub returns-clause-records : goal.returns-clause-records
returns-clause-records c = records_are_content

pub returns-clause-rows : goal.returns-clause-rows
returns-clause-rows c = data_rows_are_content

pub returns-clause-unfit : goal.returns-clause-unfit
returns-clause-unfit c = unfit_is_refused
