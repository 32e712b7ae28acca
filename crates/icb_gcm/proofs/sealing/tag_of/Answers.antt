-- The hash has taken in the padded additional data, the padded ciphertext and the lengths.
use Rattle.std.proofs.Common.{◌≡◌, ℕ, List, [], ◌++◌, length, replicate, ap, ◌∙◌}
use Rattle.icb_aes.specs.Fips197.{cipher}
use Rattle.icb_ghash.specs.Ghash.{polynomial, ghash, padded}
use Rattle.icb_gcm.specs.Gcm.{added, bit_length, hashed, tag_of}
use Rattle.icb_gcm.proofs.GcmLemmas.{length-lengths}
use Rattle.icb_ghash.proofs.GhashLemmas.{padded_whole}
use Rattle.icb_gcm.proofs.sealing.tag_of.Goals as goal

pub returns : goal.returns
unfolding tag_of hashed
returns c = λ key nonce is own.
    let h = c.args.hash_key.now in
    let aad = c.args.aad.now in
    let ciphertext = c.args.ciphertext.now in
    let taken = c.update-3.ensures h (padded aad ++ padded ciphertext)
    (c.update-2.ensures h (padded aad) (c.update.ensures h [] c.new-hash.ensures)) in
    let last : padded c.lengths.result ≡ bit_length (length aad) ++ bit_length (length ciphertext) =
    ap padded c.lengths.ensures
    ∙ padded_whole (bit_length (length aad) ++ bit_length (length ciphertext))
    (length-lengths (length aad) (length ciphertext)) in
    c.add.ensures
    ∙ ap (λ (bs : List ℕ). added bs c.args.pad.now)
    (c.finish-tag.ensures h (padded aad ++ padded ciphertext ++ padded c.lengths.result) taken
    ∙ ap (λ (bs : List ℕ). ghash h (padded aad ++ padded ciphertext ++ bs)) last
    ∙ ap (λ (n : ℕ). ghash n (padded aad ++ padded ciphertext ++ (bit_length (length aad) ++ bit_length (length ciphertext)))) is)
    ∙ ap (added (ghash (polynomial (cipher key (replicate 16 0))) (padded aad ++ padded ciphertext ++ (bit_length (length aad) ++ bit_length (length ciphertext)))))
    own
