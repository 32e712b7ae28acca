-- How an `AesKey` stores its schedule.
use Rattle.std.specs.Prelude.{ℕ, ◌+◌, ◌-◌, ◌*◌, List, [], ◌∷◌, ◌++◌, replicate}
use Rattle.icb_aes.specs.Fips197.{Word, expanded_key, rounds}

-- the word of zeros
abbrev pub zero_word : Word
zero_word = 0 ∷ 0 ∷ 0 ∷ 0 ∷ []

-- the words of a key's schedule, and then words of zeros up to 60, the length of the longest
unfoldable pub stored_words : List ℕ → List Word
stored_words key = expanded_key key ++ replicate (60 - 4 * (rounds key + 1)) zero_word
