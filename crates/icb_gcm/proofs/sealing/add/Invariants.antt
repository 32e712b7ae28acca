-- The first i bytes are sums, and the rest is as it was.
use Rattle.std.proofs.Common.{◌≡◌, ◌++◌, take, drop}
use Rattle.icb_gcm.specs.Gcm.{added}
use Rattle.icb_gcm.proofs.sealing.add.Given as goal

abbrev pub invariant-loop-i : goal.invariant-loop-i
invariant-loop-i l = l.bytes ≡ added (take l.i l.initial.bytes) l.others ++ drop l.i l.initial.bytes
