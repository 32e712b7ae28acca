-- There is no difference exactly where the first i bytes are the same.
use Rattle.std.proofs.Common.{◌≡◌, ℕ, ◌<◌, get_or}
use Rattle.icb_gcm.proofs.sealing.is_same.Given as goal

abbrev pub invariant-loop-i : goal.invariant-loop-i
invariant-loop-i l = record {
  only : l.difference ≡ 0 → (k : ℕ) → k < l.i → get_or l.tag k 0 ≡ get_or l.other k 0;
  same : l.tag ≡ l.other → l.difference ≡ 0;
}
