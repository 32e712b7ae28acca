-- The laws of cipher blocks: they open to what was sealed, and their nonces and additional data
-- tell them apart.
use Rattle.std.specs.Prelude.{◌≡◌, ◌≢◌, ℕ, ◌+◌, ◌-◌, ◌^◌, ◌<◌, ◌≤◌, List, length, take, Some}
use Rattle.icb_seal.specs.Block.{additional_data, nonce_of, opened_block, opened_cipher_block}
use Rattle.icb_seal.specs.Block.{sealed_block, sealed_cipher_block, unwrapped}

-- a sealed block opens to its text under the same key, prefix and number
abbrev pub SealedBlockOpens : Type 0
SealedBlockOpens = (key prefix seed text block : List ℕ) (i : ℕ) → length seed ≡ 8
    → sealed_block key prefix seed i text ≡ Some block → opened_block key prefix i block ≡ Some text

-- it is 28 bytes longer than its text, and begins with its nonce
abbrev pub SealedBlockHasForm : Type 0
SealedBlockHasForm = (key prefix seed text block : List ℕ) (i : ℕ) → length seed ≡ 8
    → sealed_block key prefix seed i text ≡ Some block
    → (length block ≡ length text + 28) × (take 12 block ≡ nonce_of seed i)

-- every text that isn't too long has a block
abbrev pub TextIsSealed : Type 0
TextIsSealed = (key prefix seed text : List ℕ) (i : ℕ) → length text ≤ 2 ^ 36 - 32
    → (block : List ℕ) × (sealed_block key prefix seed i text ≡ Some block)

-- a block that opens is the one that its text seals to under the block's own nonce
abbrev pub OpensOnlySealed : Type 0
OpensOnlySealed = (key aad block text : List ℕ) → 28 ≤ length block
    → opened_cipher_block key aad block ≡ Some text
    → sealed_cipher_block key (take 12 block) aad text ≡ Some block

-- two blocks of one file have different nonces
abbrev pub NoncesDiffer : Type 0
NoncesDiffer = (seed : List ℕ) (i j : ℕ) → i < 2 ^ 32 → j < 2 ^ 32 → i ≢ j
    → nonce_of seed i ≢ nonce_of seed j

-- additional data tell the prefix and the number
abbrev pub AdditionalDataDiffer : Type 0
AdditionalDataDiffer = (prefix other : List ℕ) (i j : ℕ) → i < 2 ^ 32 → j < 2 ^ 32
    → additional_data prefix i ≡ additional_data other j → (prefix ≡ other) × (i ≡ j)

-- a sealed key opens to its bytes under the same key and additional data
abbrev pub SealedKeyOpens : Type 0
SealedKeyOpens = (key nonce aad bytes sealed_key : List ℕ) → length nonce ≡ 12
    → sealed_cipher_block key nonce aad bytes ≡ Some sealed_key
    → unwrapped key aad sealed_key ≡ Some bytes
