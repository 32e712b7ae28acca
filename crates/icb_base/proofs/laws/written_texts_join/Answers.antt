-- The laws are lemmas of proofs/CallLemmas.antt.
use Rattle.std.specs.Prelude.{IsTrue}
use Rattle.icb_base.proofs.CallLemmas.{writes_at_rest, writes_failed, writes_twice}
use Rattle.icb_base.proofs.laws.written_texts_join.Goals as goal

pub returns-clause-at_rest : goal.returns-clause-at_rest
returns-clause-at_rest g c = λ x. writes_at_rest g.O.Sink ⊥ x (λ f. f)

pub returns-clause-twice : goal.returns-clause-twice
returns-clause-twice g c = λ one two fault x y z. writes_twice g.O.Sink one two ⊥ (IsTrue fault) x y z (λ f. f)

pub returns-clause-failed : goal.returns-clause-failed
returns-clause-failed g c = λ one two x y. writes_failed g.O.Sink one two (Unit {0}) (Unit {0}) x y tt tt
