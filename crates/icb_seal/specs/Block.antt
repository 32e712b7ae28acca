-- Cipher blocks: a nonce, a ciphertext and a tag, one after another (Iceberg, AES GCM Stream file
-- format, "Encryption algorithm"). A sealed key is one too.
use Rattle.std.specs.Prelude.{ℕ, ◌-◌, ◌≡◌, nat_lt, if◌then◌else◌, List, ◌++◌, length, take, drop}
use Rattle.std.specs.Prelude.{slice_range, Option, None, option_map}
use Rattle.std.specs.Int.{w32, to_le_bytes, to_be_bytes}
use Rattle.icb_gcm.specs.Gcm.{sealed, opened}

-- the additional data of block i: the prefix, and then i in 4 bytes, low byte first
unfoldable pub additional_data : List ℕ → ℕ → List ℕ
additional_data prefix i = prefix ++ to_le_bytes w32 i

-- what a cipher block opens to under a key and additional data, by its own nonce (its first 12
-- bytes) and its own tag (its last 16), if it opens
unfoldable pub opened_cipher_block : List ℕ → List ℕ → List ℕ → Option (List ℕ)
opened_cipher_block key aad block =
    opened key (take 12 block) aad (slice_range block 12 (length block - 16))
    (drop (length block - 16) block)

-- what the cipher block with the number i opens to under a key and a prefix, if it opens
abbrev pub opened_block : List ℕ → List ℕ → ℕ → List ℕ → Option (List ℕ)
opened_block key prefix i block = opened_cipher_block key (additional_data prefix i) block

-- a cipher block has the nonce and the tag that it had
pub record KeepsEnds (before now : List ℕ) : Type 0 where
  pub nonce : take 12 now ≡ take 12 before
  pub tag : drop (length before - 16) now ≡ drop (length before - 16) before

-- the nonce of block i of a file: the 8 bytes that were drawn for the file, and then i in 4 bytes,
-- high byte first
unfoldable pub nonce_of : List ℕ → ℕ → List ℕ
nonce_of seed i = seed ++ to_be_bytes w32 i

-- the cipher block of a text under a key, a nonce and additional data: the nonce, the ciphertext
-- and the tag. A text that is too long for a ciphertext has none.
unfoldable pub sealed_cipher_block : List ℕ → List ℕ → List ℕ → List ℕ → Option (List ℕ)
sealed_cipher_block key nonce aad text =
    option_map (λ seal. nonce ++ seal.0 ++ seal.1) (sealed key nonce aad text)

-- block i of a file with this key, prefix and drawn bytes
abbrev pub sealed_block : List ℕ → List ℕ → List ℕ → ℕ → List ℕ → Option (List ℕ)
sealed_block key prefix seed i text =
    sealed_cipher_block key (nonce_of seed i) (additional_data prefix i) text

-- what a sealed key opens to under a key and additional data, if it opens: it has at least a nonce
-- and a tag, and is a cipher block
unfoldable pub unwrapped : List ℕ → List ℕ → List ℕ → Option (List ℕ)
unwrapped key aad sealed_key =
    if nat_lt (length sealed_key) 28 then None else opened_cipher_block key aad sealed_key
