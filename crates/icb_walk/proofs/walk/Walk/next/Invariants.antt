use Rattle.std.proofs.Common.{◌≡◌, IfSome}
use Rattle.icb_walk.proofs.NextLemmas.{IsOn}
use Rattle.icb_walk.specs.Steps.{ReadsStore}
use Rattle.icb_walk.proofs.walk.Walk.next.Given as goal

abbrev pub invariant-steps : goal.invariant-steps
invariant-steps g l = record {
  on : IfSome (g.S.Store.held l.initial.store) (λ files. IsOn g.S.Store files l.initial.self l.self l.initial.store l.store);
  same : (l.self.location ≡ l.initial.self.location) × (l.self.list ≡ l.initial.self.list);
  reads : ReadsStore g.S.Store ⊥ l.initial.store l.store;
}
