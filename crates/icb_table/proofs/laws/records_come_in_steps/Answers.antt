use Rattle.icb_list.specs.Rows.{list_row}
use Rattle.icb_manifest.specs.Entries.{entry_of}
use Rattle.icb_table.proofs.StepLemmas.{opening_leaves_all, steps_leave_rest}
use Rattle.icb_table.proofs.laws.records_come_in_steps.Goals as goal

pub returns-clause-list : goal.returns-clause-list
returns-clause-list c = opening_leaves_all list_row

pub returns-clause-row : goal.returns-clause-row
returns-clause-row c = steps_leave_rest list_row

pub returns-clause-manifest : goal.returns-clause-manifest
returns-clause-manifest c = opening_leaves_all entry_of

pub returns-clause-entry : goal.returns-clause-entry
returns-clause-entry c = steps_leave_rest entry_of
