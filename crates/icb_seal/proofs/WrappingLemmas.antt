-- A sealed key that is opened by its parts.
use Rattle.std.proofs.Common.{◌≡◌, ℕ, ◌-◌, ◌≤◌, List, length, take, drop, refl, ◌∙◌}
use Rattle.icb_gcm.specs.Gcm.{opened}
use Rattle.icb_seal.specs.Block.{opened_cipher_block, unwrapped}
use Rattle.icb_seal.proofs.BlockLemmas.{unwrapped_block}

-- a sealed key opens to what its parts open to
pub unwrapped_parts : (key aad sealed_key nonce tag middle : List ℕ) → 28 ≤ length sealed_key
    → nonce ≡ take 12 sealed_key
    → tag ≡ drop (length sealed_key - 16) sealed_key
    → middle ≡ take (length sealed_key - 16 - 12) (drop 12 sealed_key)
    → unwrapped key aad sealed_key ≡ opened key nonce aad middle tag
unfolding opened_cipher_block
unwrapped_parts key aad sealed_key nonce tag middle room n t m =
    unwrapped_block key aad sealed_key room ∙ (rw (n, t, m) refl)
