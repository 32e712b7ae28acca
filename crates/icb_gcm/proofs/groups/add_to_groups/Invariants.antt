-- The first g groups behind the first n blocks have the key stream added.
use Rattle.std.proofs.Common.{◌≡◌, ℕ, ◌+◌, ◌*◌, List, length}
use Rattle.icb_gcm.specs.Gcm.{crypted_front}
use Rattle.icb_gcm.proofs.groups.add_to_groups.Given as goal

abbrev pub invariant-loop-g : goal.invariant-loop-g
invariant-loop-g l = (whole : List ℕ) → length whole ≡ length l.initial.text
    → l.initial.text ≡ crypted_front l.key l.nonce l.n whole → l.text ≡ crypted_front l.key l.nonce (l.n + 8 * l.g) whole
