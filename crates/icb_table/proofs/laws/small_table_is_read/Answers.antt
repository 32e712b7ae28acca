use Rattle.icb_table.proofs.SmallLemmas.{small_inherited, small_lists, small_places, small_refusals, small_row_ids, small_rows, small_rows_judged, small_tree_stops, small_trees}
use Rattle.icb_table.proofs.laws.small_table_is_read.Goals as goal

pub returns-clause-trees : goal.returns-clause-trees
returns-clause-trees c = small_trees

pub returns-clause-stops : goal.returns-clause-stops
returns-clause-stops c = small_tree_stops

pub returns-clause-rows : goal.returns-clause-rows
returns-clause-rows c = small_rows

pub returns-clause-row_ids : goal.returns-clause-row_ids
returns-clause-row_ids c = small_row_ids

pub returns-clause-refusals : goal.returns-clause-refusals
returns-clause-refusals c = small_refusals

pub returns-clause-judged : goal.returns-clause-judged
returns-clause-judged c = small_rows_judged

pub returns-clause-inherited : goal.returns-clause-inherited
returns-clause-inherited c = small_inherited

pub returns-clause-lists : goal.returns-clause-lists
returns-clause-lists c = small_lists

pub returns-clause-places : goal.returns-clause-places
returns-clause-places c = small_places
