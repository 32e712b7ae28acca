-- The names that were read and those that are left are all of them.
use Rattle.std.proofs.Common.{◌≡◌, ◌++◌, option_map}
use Rattle.icb_types.specs.Words.{parts_of}
use Rattle.icb_types.proofs.WordLemmas.{left_length, parts_left}
use Rattle.icb_words.proofs.scan_words.names_in.Given as goal

abbrev pub invariant-loop-rest : goal.invariant-loop-rest
invariant-loop-rest l = l.names ++ parts_left (option_map (λ t. t.now) l.rest) ≡ parts_of l.word

abbrev pub decreases-loop-rest : goal.decreases-loop-rest
decreases-loop-rest l = left_length (option_map (λ t. t.now) l.rest)
