-- What a file's key, its sealer and its opener are.
use Rattle.std.specs.Prelude.{ℕ, ◌-◌, ◌≡◌, ◌≤◌, List, [], ◌++◌, map, length, take, IsTrue, Some}
use Rattle.std.specs.Prelude.{Result, Ok, Err, bytes_eq}
use Rattle.std.specs.List.{range_with_len, IsDistinct}
use Rattle.icb_base.specs.KeyMetadata.{KeyRecord, is_key_length}
use Rattle.icb_base.specs.declared.storage.Failed.{Failed}
use Rattle.icb_seal.specs.Block.{nonce_of}
use Rattle.icb_seal.specs.declared.file_key.KeySize.{KeySize}
use Rattle.icb_seal.specs.declared.file_key.KeySize.TheVariants.{Bytes16, Bytes24, Bytes32}

-- how many bytes a key of this size has (FIPS 197, 1)
abbrev pub key_bytes : KeySize → ℕ
key_bytes Bytes16 = 16
key_bytes Bytes24 = 24
key_bytes Bytes32 = 32

-- a file's key, and the bytes that were drawn with it, with which the nonces of its blocks begin
pub record FileKeyValue : Type 0 where
  pub key : List ℕ
  pub seed : List ℕ

-- what was drawn of a file's key: its bytes and then those for nonces, or none after a failure
abbrev pub drawn_bytes : Result FileKeyValue Failed → List ℕ
drawn_bytes (Ok key) = key.key ++ key.seed
drawn_bytes (Err failed) = []

-- it is an AES key, and the drawn bytes are 8
pub record IsFileKey (key seed : List ℕ) : Type 0 where
  pub key_length : IsTrue (is_key_length (length key))
  pub seed_length : length seed ≡ 8

-- a file's key, the prefix of its blocks' additional data, the bytes with which their nonces begin,
-- and the number of the block that comes next
pub record SealerValue : Type 0 where
  pub key : List ℕ
  pub prefix : List ℕ
  pub seed : List ℕ
  pub next : ℕ

-- the nonces of all blocks that a sealer has written, in order
abbrev pub nonces_of : SealerValue → List (List ℕ)
nonces_of sealer = map (nonce_of sealer.seed) (range_with_len 0 sealer.next)

-- no nonce is there twice
abbrev pub NoneTwice : List (List ℕ) → Type 0
NoneTwice nonces = IsDistinct bytes_eq nonces

-- a file's key, and the prefix of its blocks' additional data
pub record OpenerValue : Type 0 where
  pub key : List ℕ
  pub prefix : List ℕ

-- the prefix in additional data: all but the 4 bytes of the number
abbrev pub prefix_inside : List ℕ → List ℕ
prefix_inside aad = take (length aad - 4) aad

-- the key metadata that a sealer keeps is that of its key and prefix
pub record IsSealerInside (key : List ℕ) (meta : KeyRecord) (aad : List ℕ) : Type 0 where
  pub room : 4 ≤ length aad
  pub same_key : meta.key ≡ key
  pub same_prefix : meta.prefix ≡ Some (prefix_inside aad)
