-- The laws are lemmas of proofs/LawLemmas.antt.
use Rattle.icb_base.proofs.LawLemmas.{grows_at_rest, grows_twice, put_grows}
use Rattle.icb_base.proofs.laws.stores_grow.Goals as goal

pub returns-clause-at_rest : goal.returns-clause-at_rest
returns-clause-at_rest c = grows_at_rest

pub returns-clause-twice : goal.returns-clause-twice
returns-clause-twice c = grows_twice

pub returns-clause-put : goal.returns-clause-put
returns-clause-put c = put_grows
