use Rattle.std.proofs.Common.{◌≡◌, ℕ, ◌≤◌, ◌<◌, true, option_map}
use Rattle.icb_meta.specs.Ids.{is_taken, key_name}
use Rattle.icb_meta.proofs.ids.next_key_id.Given as goal

abbrev pub invariant-loop-number : goal.invariant-loop-number
invariant-loop-number l =
    (m : ℕ) → 1 ≤ m → m < l.number → is_taken l.entries (option_map (λ x. x.now) l.master) (key_name m) ≡ true
