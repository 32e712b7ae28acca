-- The laws are lemmas of proofs/LawLemmas.antt.
use Rattle.std.specs.Prelude.{IsTrue}
use Rattle.icb_base.proofs.LawLemmas.{blames_at_rest, blames_twice, rose_since}
use Rattle.icb_base.proofs.laws.faults_are_blamed.Goals as goal

pub returns-clause-since : goal.returns-clause-since
returns-clause-since c = rose_since

pub returns-clause-at_rest : goal.returns-clause-at_rest
returns-clause-at_rest c = λ count. blames_at_rest ⊥ count (λ f. f)

pub returns-clause-twice : goal.returns-clause-twice
returns-clause-twice c = λ fault before mid now. blames_twice ⊥ (IsTrue fault) before mid now (λ f. f)
