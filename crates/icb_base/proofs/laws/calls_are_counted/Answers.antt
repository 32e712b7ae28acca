-- The laws are lemmas of proofs/LawLemmas.antt.
use Rattle.icb_base.proofs.LawLemmas.{counted_at_rest, counted_twice, may_raise_only, raised_only}
use Rattle.icb_base.proofs.laws.calls_are_counted.Goals as goal

pub returns-clause-at_rest : goal.returns-clause-at_rest
returns-clause-at_rest c = counted_at_rest

pub returns-clause-once : goal.returns-clause-once
returns-clause-once c = raised_only

pub returns-clause-failed : goal.returns-clause-failed
returns-clause-failed c = may_raise_only

pub returns-clause-twice : goal.returns-clause-twice
returns-clause-twice c = counted_twice
