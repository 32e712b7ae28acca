use Rattle.icb_table.proofs.KnownLemmas.{all_allowed_by_less, grown_shows_no_less, own_plaintext_is_allowed, whole_allows_one}
use Rattle.icb_table.proofs.AllowedLemmas.{table_is_allowed}
use Rattle.icb_table.proofs.laws.knowledge_is_ordered.Goals as goal

pub returns-clause-grown : goal.returns-clause-grown
returns-clause-grown c = grown_shows_no_less

pub returns-clause-less : goal.returns-clause-less
returns-clause-less c = all_allowed_by_less

pub returns-clause-own : goal.returns-clause-own
returns-clause-own c = own_plaintext_is_allowed

pub returns-clause-table : goal.returns-clause-table
returns-clause-table c = table_is_allowed

pub returns-clause-one : goal.returns-clause-one
returns-clause-one c = whole_allows_one
