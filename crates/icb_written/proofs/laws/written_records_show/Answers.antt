use Rattle.icb_written.proofs.ShownLemmas.{written_entries_show, written_list_rows_show}
use Rattle.icb_written.proofs.laws.written_records_show.Goals as goal

pub returns-clause-entries : goal.returns-clause-entries
returns-clause-entries c = written_entries_show

pub returns-clause-rows : goal.returns-clause-rows
returns-clause-rows c = written_list_rows_show
