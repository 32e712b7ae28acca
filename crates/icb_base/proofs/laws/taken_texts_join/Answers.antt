-- The laws are lemmas of proofs/CallLemmas.antt.
use Rattle.std.specs.Prelude.{IsTrue}
use Rattle.icb_base.proofs.CallLemmas.{takes_at_rest, takes_failed, takes_twice}
use Rattle.icb_base.proofs.laws.taken_texts_join.Goals as goal

pub returns-clause-at_rest : goal.returns-clause-at_rest
returns-clause-at_rest g c = λ x. takes_at_rest g.I.Source ⊥ x (λ f. f)

pub returns-clause-twice : goal.returns-clause-twice
returns-clause-twice g c = λ one two fault x y z. takes_twice g.I.Source one two ⊥ (IsTrue fault) x y z (λ f. f)

pub returns-clause-failed : goal.returns-clause-failed
returns-clause-failed g c = λ one two x y. takes_failed g.I.Source one two (Unit {0}) (Unit {0}) x y tt tt
