-- The first b of the blocks have their pads.
use Rattle.std.proofs.Common.{◌≡◌, ℕ, ◌+◌, ◌<◌, List, [], length}
use Rattle.std.specs.List.{slice_index_or}
use Rattle.icb_aes.specs.Fips197.{cipher}
use Rattle.icb_gcm.specs.Gcm.{counter_block, crypted_front}
use Rattle.icb_gcm.proofs.groups.add_some_pads.Given as goal

abbrev pub invariant-loop-b : goal.invariant-loop-b
invariant-loop-b l = (key nonce whole : List ℕ) → length whole ≡ length l.initial.text
    → l.initial.text ≡ crypted_front key nonce l.n whole
    → ((b : ℕ) → l.first + b < 8 → slice_index_or l.pads (l.first + b) [] ≡ cipher key (counter_block nonce (l.n + b + 2)))
    → l.text ≡ crypted_front key nonce (l.n + l.b) whole
