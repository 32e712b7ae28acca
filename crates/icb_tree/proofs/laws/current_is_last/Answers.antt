-- The laws are lemmas of proofs/VersionLemmas.antt.
use Rattle.icb_tree.proofs.VersionLemmas.{current_is_last, full_is_held, no_table_is_free}
use Rattle.icb_tree.proofs.laws.current_is_last.Goals as goal

pub returns-clause-last : goal.returns-clause-last
returns-clause-last c = current_is_last

pub returns-clause-none : goal.returns-clause-none
returns-clause-none c = no_table_is_free

pub returns-clause-full : goal.returns-clause-full
returns-clause-full c = full_is_held
