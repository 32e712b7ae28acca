-- What the fields of an `AesKey` hold.
use Rattle.std.specs.Prelude.{◌≡◌, ℕ, ◌-◌, ◌<◌, ◌^◌, List, ◌++◌, length, map, take, replicate, All}
use Rattle.std.specs.Int.{w32, from_be_bytes}
use Rattle.icb_aes.specs.declared.key.AesKey.TheInside.{Inside}
use Rattle.icb_aes.specs.Columns.{word_of}
use Rattle.icb_aes.specs.Fips197.{IsKeyLength}
use Rattle.icb_aes.specs.Stored.{stored_words}

-- the fields hold a key of bytes: its length, its bytes and then zeros, and its schedule and then
-- zeros, each word as a number of 32 bits
pub record IsKeyInside (k : Inside) : Type 0 where
  pub size : IsKeyLength k.length
  pub length : length (take k.length k.bytes) ≡ k.length
  pub are_bytes : All (λ b. b < 256) (take k.length k.bytes)
  pub bytes : k.bytes ≡ take k.length k.bytes ++ replicate (32 - k.length) 0
  pub words : map word_of k.words ≡ stored_words (take k.length k.bytes)
  pub numbers : All (λ n. n < 2 ^ 32) k.words

-- the fields: a length, bytes and words
abbrev pub fields_of : ℕ → List ℕ → List ℕ → Inside
fields_of length bytes words = record { length = length; bytes = bytes; words = words }

-- the fields that hold the key
abbrev pub inside_of : List ℕ → Inside
inside_of key = fields_of (length key) (key ++ replicate (32 - length key) 0)
    (map (from_be_bytes w32) (stored_words key))
