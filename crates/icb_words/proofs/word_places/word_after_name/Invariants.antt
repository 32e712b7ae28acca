-- No word before this one has the name.
use Rattle.std.proofs.Common.{◌≡◌, map, drop, string_bytes}
use Rattle.icb_words.specs.Places.{word_after}
use Rattle.icb_words.proofs.word_places.word_after_name.Given as goal

abbrev pub invariant-loop-at : goal.invariant-loop-at
invariant-loop-at l =
    word_after l.name (map string_bytes (drop l.at l.words)) ≡ word_after l.name (map string_bytes l.words)
