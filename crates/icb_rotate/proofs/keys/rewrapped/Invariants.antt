-- The entries before this one are sealed again, with the nonces before the place.
use Rattle.std.proofs.Common.{◌≡◌, ◌≤◌, ◌++◌, drop, length, true, option_map}
use Rattle.icb_chain.specs.Kept.{IsSound}
use Rattle.icb_chain.specs.Opening.{keys_of}
use Rattle.icb_rotate.specs.Keys.{all_ascend, rewrapped}
use Rattle.icb_rotate.proofs.keys.rewrapped.Given as goal

abbrev pub invariant-loop-entry : goal.invariant-loop-entry
invariant-loop-entry l = record {
  sound : IsSound (keys_of l.meta) l.ring l.chain;
  within : l.at ≤ length l.drawn;
  ascend : all_ascend l.sealed ≡ true;
  left : rewrapped (keys_of l.meta) l.ring l.master (keys_of l.meta).entries l.drawn
      ≡ option_map (λ es. l.sealed ++ es)
      (rewrapped (keys_of l.meta) l.ring l.master (drop l.entry-index (keys_of l.meta).entries) (drop l.at l.drawn));
}
