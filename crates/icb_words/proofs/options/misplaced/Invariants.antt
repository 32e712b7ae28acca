-- Each word before this one has a place.
use Rattle.std.proofs.Common.{◌≡◌, map, string_bytes}
use Rattle.icb_words.specs.OptionTables.{options_of}
use Rattle.icb_words.specs.Options.{misplaced}
use Rattle.icb_words.proofs.OptionLemmas.{misplaced_from}
use Rattle.icb_words.proofs.options.misplaced.Given as goal

abbrev pub invariant-loop-at : goal.invariant-loop-at
invariant-loop-at l =
    misplaced_from (options_of l.options) (map string_bytes l.pairs) l.at
    ≡ misplaced (options_of l.options) (map string_bytes l.pairs)
