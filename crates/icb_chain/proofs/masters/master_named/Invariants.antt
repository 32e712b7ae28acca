-- The id is looked for in the keys that are left.
use Rattle.std.proofs.Common.{◌≡◌, drop}
use Rattle.icb_chain.specs.Ring.{key_named}
use Rattle.icb_chain.specs.RingCalls.{pairs_of}
use Rattle.icb_chain.proofs.masters.master_named.Given as goal

abbrev pub invariant-loop-master : goal.invariant-loop-master
invariant-loop-master l = key_named l.id (pairs_of (drop l.master-index l.masters)) ≡ key_named l.id (pairs_of l.masters)
