use Rattle.icb_table.proofs.SmallText.{small_bound, small_text, small_visits, small_words}
use Rattle.icb_table.proofs.laws.small_table_is_asked.Goals as goal

pub returns-clause-text : goal.returns-clause-text
returns-clause-text c = small_text

pub returns-clause-visits : goal.returns-clause-visits
returns-clause-visits c = small_visits

pub returns-clause-words : goal.returns-clause-words
returns-clause-words c = small_words

pub returns-clause-bound : goal.returns-clause-bound
returns-clause-bound c = small_bound
