-- The laws are lemmas of proofs/LawLemmas.antt.
use Rattle.icb_base.proofs.LawLemmas.{knows_itself, knows_through}
use Rattle.icb_base.proofs.laws.knowledge_is_ordered.Goals as goal

pub returns-clause-reflexive : goal.returns-clause-reflexive
returns-clause-reflexive c = knows_itself

pub returns-clause-transitive : goal.returns-clause-transitive
returns-clause-transitive c = knows_through
