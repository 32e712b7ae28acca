-- No entry before this one seals a key-encryption key.
use Rattle.std.proofs.Common.{◌≡◌, drop}
use Rattle.std.specs.List.{list_any}
use Rattle.icb_chain.specs.Opening.{keys_of, seals_key}
use Rattle.icb_rotate.proofs.keys.has_key.Given as goal

abbrev pub invariant-loop-entry : goal.invariant-loop-entry
invariant-loop-entry l =
    list_any (seals_key (keys_of l.meta)) (keys_of l.meta).entries
    ≡ list_any (seals_key (keys_of l.meta)) (drop l.entry-index (keys_of l.meta).entries)
