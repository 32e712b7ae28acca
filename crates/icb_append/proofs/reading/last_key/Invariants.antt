-- The last of the entries that were passed.
use Rattle.std.proofs.Common.{◌≡◌, None, option_map, take}
use Rattle.std.specs.List.{fold}
use Rattle.icb_chain.specs.Opening.{keys_of}
use Rattle.icb_append.specs.Reading.{later_key}
use Rattle.icb_append.proofs.reading.last_key.Given as goal

abbrev pub invariant-loop-entry : goal.invariant-loop-entry
invariant-loop-entry l =
    option_map (λ e. e.now) l.last ≡ fold (later_key (keys_of l.meta)) None (take l.entry-index l.entry-items)
