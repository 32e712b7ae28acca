-- The lines of the keys before this one are written.
use Rattle.std.proofs.Common.{◌≡◌, ◌++◌, drop}
use Rattle.std.specs.Prelude.{flat_map}
use Rattle.icb_chain.specs.Opening.{table_of}
use Rattle.icb_listing.specs.Lines.{key_line, keys_text}
use Rattle.icb_meta.specs.Answers.{shown_of}
use Rattle.icb_listing.proofs.keys.keys_text.Given as goal

abbrev pub invariant-loop-entry : goal.invariant-loop-entry
invariant-loop-entry l =
    l.text.items ++ flat_map (key_line (table_of (shown_of l.meta).state)) (drop l.entry-index (shown_of l.meta).state.entries)
    ≡ keys_text (shown_of l.meta)
