-- The entries before this one open, and what the chain keeps is sound.
use Rattle.std.proofs.Common.{◌≡◌, drop}
use Rattle.icb_chain.specs.Kept.{IsSound}
use Rattle.icb_chain.specs.Opening.{keys_of}
use Rattle.icb_rotate.specs.Keys.{all_open}
use Rattle.icb_rotate.proofs.keys.all_open.Given as goal

abbrev pub invariant-loop-entry : goal.invariant-loop-entry
invariant-loop-entry l = record {
  sound : IsSound (keys_of l.meta) l.ring l.chain;
  left : all_open (keys_of l.meta) l.ring (drop l.entry-index (keys_of l.meta).entries)
      ≡ all_open (keys_of l.meta) l.ring (keys_of l.meta).entries;
}
