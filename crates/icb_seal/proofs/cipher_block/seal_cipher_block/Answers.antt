-- What is written is the nonce, the ciphertext and the tag.
use Rattle.std.proofs.Common.{ℕ, List, ◌++◌, refl, ap, sym, ◌∙◌}
use Rattle.std.specs.Prelude.{option_map}
use Rattle.icb_gcm.specs.Gcm.{sealed, SealsTo}
use Rattle.icb_seal.specs.Block.{sealed_cipher_block}
use Rattle.icb_seal.proofs.cipher_block.seal_cipher_block.Goals as goal

pub returns : goal.returns
unfolding sealed_cipher_block
returns c =
    let made : List ℕ × List ℕ → List ℕ = λ seal. c.args.nonce.now ++ seal.0 ++ seal.1 in
    let seals : SealsTo c.args.key.now c.args.nonce.now c.args.aad.now c.args.text.now
    c.seal-tag.new.text c.seal-tag.result =
    ap (sealed c.args.key.now c.args.nonce.now c.args.aad.now) (sym c.copy_from_slice-2.ensures.after)
    ∙ c.seal-tag.ensures in
    ap (option_map made) seals ∙ (rw (c.copy_from_slice.ensures.after, c.copy_from_slice-3.ensures.after) refl)
