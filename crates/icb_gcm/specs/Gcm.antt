-- GCM with nonces of 96 bits and tags of 128 bits (NIST SP 800-38D, section 7). Bytes are numbers
-- below 256. A key is the list of its bytes, and `cipher` is the block cipher under it.
use Rattle.std.specs.Prelude.{◌≡◌, ℕ, zero, suc, ◌+◌, ◌-◌, ◌*◌, ◌/◌, ◌%◌, ◌^◌, nat_le, Bool, false}
use Rattle.std.specs.Prelude.{◌&&◌, if◌then◌else◌, List, [], ◌++◌, length, replicate, Option, Some}
use Rattle.std.specs.Prelude.{None, bit_xor, bytes_eq, All, ◌<◌, take, drop}
use Rattle.std.specs.Int.{w32, w64, to_be_bytes}
use Rattle.std.specs.Simd.Lanes.{zip2}
use Rattle.icb_aes.specs.Fips197.{cipher}
use Rattle.icb_ghash.specs.Ghash.{polynomial, ghash, padded}

-- the numbers are bytes
abbrev pub AreBytes : List ℕ → Type 0
AreBytes numbers = All (λ b. b < 256) numbers

-- the sum of two strings of bytes, bit by bit, as long as the shorter one
abbrev pub added : List ℕ → List ℕ → List ℕ
added bytes others = zip2 bit_xor bytes others

-- counter block j: the nonce, and then j modulo 2^32 as 4 bytes, high byte first (7.1, step 2, and
-- the function inc of 6.2)
unfoldable pub counter_block : List ℕ → ℕ → List ℕ
counter_block nonce j = nonce ++ to_be_bytes w32 (j % 2 ^ 32)

-- the ciphers of the n counter blocks from block 2 on, one after another (6.5 and 7.1, step 3)
unfoldable pub key_stream : List ℕ → List ℕ → ℕ → List ℕ
key_stream key nonce zero = []
key_stream key nonce (suc n) = key_stream key nonce n ++ cipher key (counter_block nonce (n + 2))

-- the text with the key stream added: its block i, from 0, and the cipher of counter block i + 2
-- (6.5 and 7.1, step 3). The last block may be a part of one.
unfoldable pub crypted : List ℕ → List ℕ → List ℕ → List ℕ
crypted key nonce text = added text (key_stream key nonce ((length text + 15) / 16))

-- the text with the key stream added to its first n blocks alone
abbrev pub crypted_front : List ℕ → List ℕ → ℕ → List ℕ → List ℕ
crypted_front key nonce n text =
    added (take (16 * n) text) (key_stream key nonce n) ++ drop (16 * n) text

-- a number of bytes, as a number of bits modulo 2^64 in 8 bytes, high byte first (7.1, step 5)
unfoldable pub bit_length : ℕ → List ℕ
bit_length n = to_be_bytes w64 (8 * n % 2 ^ 64)

-- what the tag hashes: the padded additional data, the padded ciphertext, and both lengths (7.1,
-- step 5)
unfoldable pub hashed : List ℕ → List ℕ → List ℕ
hashed aad ciphertext =
    padded aad ++ padded ciphertext ++ (bit_length (length aad) ++ bit_length (length ciphertext))

-- the tag: that hash under the cipher of the zero block, added to the cipher of counter block 1
-- (7.1, steps 1, 5 and 6)
unfoldable pub tag_of : List ℕ → List ℕ → List ℕ → List ℕ → List ℕ
tag_of key nonce aad ciphertext =
    added (ghash (polynomial (cipher key (replicate 16 0))) (hashed aad ciphertext))
    (cipher key (counter_block nonce 1))

-- the ciphertext and the tag of a text (7.1). A text above 2^36 - 32 bytes, which are 2^39 - 256
-- bits, has none (5.2.1.1).
unfoldable pub sealed : List ℕ → List ℕ → List ℕ → List ℕ → Option (List ℕ × List ℕ)
sealed key nonce aad text =
    if nat_le (length text) (2 ^ 36 - 32)
    then Some (crypted key nonce text, tag_of key nonce aad (crypted key nonce text))
    else None

-- the text seals to this ciphertext and this tag
abbrev pub SealsTo : List ℕ → List ℕ → List ℕ → List ℕ → List ℕ → List ℕ → Type 0
SealsTo key nonce aad text ciphertext tag = sealed key nonce aad text ≡ Some (ciphertext, tag)

-- whether a seal is there and is this ciphertext and this tag
unfoldable pub is_seal : Option (List ℕ × List ℕ) → List ℕ → List ℕ → Bool
is_seal None ciphertext tag = false
is_seal (Some seal) ciphertext tag = bytes_eq seal.0 ciphertext && bytes_eq seal.1 tag

-- the text that seals to this ciphertext and this tag, if there is one (7.2). Only one text can:
-- the ciphertext with the key stream added. So it is that text where its seal is these two, and
-- else none.
unfoldable pub opened : List ℕ → List ℕ → List ℕ → List ℕ → List ℕ → Option (List ℕ)
opened key nonce aad ciphertext tag =
    if is_seal (sealed key nonce aad (crypted key nonce ciphertext)) ciphertext tag
    then Some (crypted key nonce ciphertext)
    else None
