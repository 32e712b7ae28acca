-- Eight blocks held bit by bit, in eight planes of 16 bytes: bit b of byte p of plane j is bit j of
-- byte p of block b.
use Rattle.std.specs.Prelude.{◌≡◌, ℕ, ◌+◌, ◌*◌, ◌/◌, ◌%◌, ◌<◌, ◌≤◌, List, [], ◌∷◌, length}
use Rattle.std.specs.Prelude.{slice_index}
use Rattle.std.specs.Int.{bit_at}
use Rattle.std.specs.List.{slice_index_or}
use Rattle.icb_aes.specs.Fips197.{State, Word, cell, expanded_key, round_key, rounds}

-- 16 bytes
pub record IsBlock (block : List ℕ) : Type 0 where
  pub size : length block ≡ 16
  pub bytes : (p : ℕ) → p < 16 → slice_index block p < 256

-- the planes hold eight blocks, of which f b p is byte p of block b
pub record Holds (planes : List (List ℕ)) (f : ℕ → ℕ → ℕ) : Type 0 where
  pub size : (j : ℕ) → j < 8 → length (slice_index_or planes j []) ≡ 16
  pub byte : (b p : ℕ) → b < 8 → p < 16 → f b p < 256
  pub bit : (j b p : ℕ) → j < 8 → b < 8 → p < 16
      → bit_at (slice_index (slice_index_or planes j []) p) b ≡ bit_at (f b p) j

-- byte p of the block of a state
abbrev pub byte_of : State → ℕ → ℕ
byte_of s p = cell s (p % 4) (p / 4)

-- bit i of byte p of these 16 bytes is f i
pub record IsRow (bytes : List ℕ) (p : ℕ) (f : ℕ → ℕ) : Type 0 where
  pub size : length bytes ≡ 16
  pub bit : (i : ℕ) → i < 8 → bit_at (slice_index bytes p) i ≡ f i

-- the first rows, so many, are those of the words' round keys: row 8 i + j has bit j of each byte
-- of round key i, on all eight bits of that byte
abbrev pub AreKeyRows : List (List ℕ) → List Word → ℕ → Type 0
AreKeyRows rows words count = (n p : ℕ) → n < count → p < 16
    → IsRow (slice_index_or rows n []) p
    (λ _. bit_at (byte_of (round_key words (n / 8)) p) (n % 8))

-- the eight planes that begin at row 8 i
abbrev pub planes_of : List (List ℕ) → ℕ → List (List ℕ)
planes_of rows i =
    slice_index_or rows (8 * i) [] ∷ slice_index_or rows (8 * i + 1) []
    ∷ slice_index_or rows (8 * i + 2) [] ∷ slice_index_or rows (8 * i + 3) []
    ∷ slice_index_or rows (8 * i + 4) [] ∷ slice_index_or rows (8 * i + 5) []
    ∷ slice_index_or rows (8 * i + 6) [] ∷ slice_index_or rows (8 * i + 7) [] ∷ []

-- the rows hold each round key of a key, for each of eight blocks the same
abbrev pub HoldKeys : List (List ℕ) → List ℕ → Type 0
HoldKeys rows key = (i : ℕ) → i ≤ rounds key
    → Holds (planes_of rows i) (λ _. byte_of (round_key (expanded_key key) i))
