use Rattle.std.proofs.Common.{◌≡◌, take, map}
use Rattle.icb_schema.specs.Heads.{head_view}
use Rattle.icb_schema.proofs.heads.names_of.Given as goal

abbrev pub invariant-loop-head : goal.invariant-loop-head
invariant-loop-head l = map (λ n. n.now) l.names.items ≡ map (λ h. h.name) (map head_view (take l.head-index l.heads))
