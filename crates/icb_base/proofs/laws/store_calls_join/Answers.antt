-- The laws are lemmas of proofs/CallLemmas.antt.
use Rattle.std.specs.Prelude.{IsTrue}
use Rattle.icb_base.proofs.CallLemmas.{puts_at_rest, reads_at_rest, reads_twice, reads_within}
use Rattle.icb_base.proofs.laws.store_calls_join.Goals as goal

pub returns-clause-at_rest : goal.returns-clause-at_rest
returns-clause-at_rest g c = λ path calls bytes x kept. reads_at_rest g.S.Store path calls bytes ⊥ x kept (λ f. f)

pub returns-clause-twice : goal.returns-clause-twice
returns-clause-twice g c = λ path m n k l fault x y z keeps. reads_twice g.S.Store path m n k l ⊥ (IsTrue fault) x y z keeps (λ f. f)

pub returns-clause-within : goal.returns-clause-within
returns-clause-within g c = λ path m n k l fault x y calls bytes. reads_within g.S.Store path m n k l (IsTrue fault) (IsTrue fault) x y calls bytes (λ f. f) (λ f. f)

pub returns-clause-no_put : goal.returns-clause-no_put
returns-clause-no_put g c = λ path object x kept. puts_at_rest g.S.Store path object ⊥ ⊥ ⊥ x kept (λ f. f) (λ f. f) (λ f. f)
