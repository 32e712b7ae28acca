-- How the code holds words, states and blocks: a word as one number of 32 bits, its first byte
-- highest.
use Rattle.std.specs.Prelude.{ℕ, List, slice_index, flat_map}
use Rattle.std.specs.Int.{w32, to_be_bytes}
use Rattle.icb_aes.specs.Fips197.{Word, State, four}

-- the word that a number of 32 bits holds: its bytes, high byte first
unfoldable pub word_of : ℕ → Word
word_of number = to_be_bytes w32 number

-- the state whose columns four numbers hold
abbrev pub state_of_numbers : List ℕ → State
state_of_numbers numbers = four (λ c. word_of (slice_index numbers c))

-- the block that four numbers hold: the bytes of each, one after another
unfoldable pub block_of : List ℕ → List ℕ
block_of numbers = flat_map word_of (four (λ i. slice_index numbers i))
