-- The laws are lemmas of proofs/CallLemmas.antt.
use Rattle.std.specs.Prelude.{IsTrue}
use Rattle.icb_base.proofs.CallLemmas.{draws_at_rest, draws_failed, draws_twice}
use Rattle.icb_base.proofs.laws.drawn_texts_join.Goals as goal

pub returns-clause-at_rest : goal.returns-clause-at_rest
returns-clause-at_rest g c = λ x. draws_at_rest g.D.Draws ⊥ x (λ f. f)

pub returns-clause-twice : goal.returns-clause-twice
returns-clause-twice g c = λ one two fault x y z. draws_twice g.D.Draws one two ⊥ (IsTrue fault) x y z (λ f. f)

pub returns-clause-failed : goal.returns-clause-failed
returns-clause-failed g c = λ one two x y. draws_failed g.D.Draws one two (Unit {0}) (Unit {0}) x y tt tt
