-- The key-encryption keys before this entry are counted.
use Rattle.std.proofs.Common.{◌≡◌, ◌≤◌, ◌+◌, drop}
use Rattle.std.specs.Prelude.{count_by}
use Rattle.icb_chain.specs.Opening.{keys_of, seals_key}
use Rattle.icb_rotate.proofs.keys.key_count.Given as goal

abbrev pub invariant-loop-entry : goal.invariant-loop-entry
invariant-loop-entry l = record {
  few : l.count ≤ l.entry-index;
  left : l.count + count_by (seals_key (keys_of l.meta)) (drop l.entry-index (keys_of l.meta).entries)
      ≡ count_by (seals_key (keys_of l.meta)) (keys_of l.meta).entries;
}
