-- What is drawn for a new table (ours, docs/FORMATS.md).
use Rattle.std.specs.Prelude.{ℕ, ◌≡◌, ◌+◌, List, [], ◌++◌, length, take, drop, Result, Ok, Err}
use Rattle.std.specs.Int.{w128, from_be_bytes}
use Rattle.icb_base.specs.declared.storage.Failed.{Failed}
use Rattle.icb_create.specs.declared.drawing.Drawn.{Drawn}
use Rattle.uuid.specs.Parts.{with_variant, with_version}
use Rattle.uuid.specs.declared.Variant.TheVariants.{RFC4122}
use Rattle.uuid.specs.declared.Version.TheVariants.{Random}

-- the bytes that were drawn, in their order, or none after a failure
abbrev pub drawn_bytes : Result Drawn Failed → List ℕ
drawn_bytes (Ok drawn) = drawn.random ++ (drawn.key ++ drawn.nonce)
drawn_bytes (Err failed) = []

-- what drawn bytes are, where the key has this length: 16 bytes, the key, and then the nonce
abbrev pub parts_of : ℕ → List ℕ → Drawn
parts_of size bytes = record {
  random = take 16 bytes;
  key = take size (drop 16 bytes);
  nonce = drop (16 + size) bytes;
}

-- what was drawn has a key of this length, and its bytes are so many and have these parts
pub record IsWhole (size : ℕ) (drawn : Drawn) : Type 0 where
  pub whole : length (drawn_bytes (Ok drawn)) ≡ 28 + size
  pub parts : parts_of size (drawn_bytes (Ok drawn)) ≡ drawn

-- the identifier of 16 random bytes: its version is 4 and its variant that of RFC 9562, and all
-- other bits are the drawn ones (RFC 9562, 5.4)
unfoldable pub uuid_of : List ℕ → ℕ
uuid_of random = from_be_bytes w128 (with_version (with_variant random RFC4122) Random)
