-- What key metadata says: the key of a file, the prefix of its additional data, and its length
-- (Iceberg Table Spec, "Table Encryption").
use Rattle.std.specs.Prelude.{ℕ, ◌<◌, ◌^◌, ◌||◌, Bool, IsTrue, ◌==◌, List, [], length, Option}
use Rattle.std.specs.Prelude.{unwrap_or}
use Rattle.std.specs.Option.{ForSome}

-- the key, the prefix and the length of a file, the last two where they are told
pub record KeyRecord : Type 0 where
  pub key : List ℕ
  pub prefix : Option (List ℕ)
  pub length_told : Option ℕ

-- an AES key has 16, 24 or 32 bytes (FIPS 197, 1)
abbrev pub is_key_length : ℕ → Bool
is_key_length n = (n == 16) || (n == 24) || (n == 32)

-- the key is an AES key, and a length that is told is below 2^63
pub record IsKeyRecord (key : List ℕ) (length_told : Option ℕ) : Type 0 where
  pub key_length : IsTrue (is_key_length (length key))
  pub below : ForSome length_told (λ n. n < 2 ^ 63)

-- the prefix that stands in additional data: an absent one counts as the empty one
abbrev pub prefix_of : KeyRecord → List ℕ
prefix_of meta = unwrap_or meta.prefix []
