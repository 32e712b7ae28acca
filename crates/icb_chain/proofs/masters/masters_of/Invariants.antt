-- The lines that are left make the ring of those that were read whole.
use Rattle.std.proofs.Common.{◌≡◌, ◌+◌, [], map, drop}
use Rattle.icb_chain.specs.Ring.{ring_behind}
use Rattle.icb_chain.specs.RingCalls.{pairs_of}
use Rattle.icb_chain.proofs.masters.masters_of.Given as goal

abbrev pub invariant-loop-i : goal.invariant-loop-i
invariant-loop-i l =
    ring_behind (l.i + 1) (pairs_of l.masters.items) (map (λ line. line.now) (drop l.i l.lines))
    ≡ ring_behind 1 [] (map (λ line. line.now) l.lines)
