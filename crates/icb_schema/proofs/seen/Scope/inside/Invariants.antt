use Rattle.std.proofs.Common.{◌≡◌, ◌∷◌, take}
use Rattle.icb_schema.proofs.seen.Scope.inside.Given as goal

abbrev pub invariant-loop-outer : goal.invariant-loop-outer
invariant-loop-outer l = l.enclosing ≡ l.name ∷ take l.outer-index l.outer-items
