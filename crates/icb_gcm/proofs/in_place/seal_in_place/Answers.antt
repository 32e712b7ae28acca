-- The ciphertext is the text with the key stream added, and the tag is that of the ciphertext.
use Rattle.std.proofs.Common.{◌≡◌, ◌∙◌, ap, List, ℕ, arith}
use Rattle.icb_ghash.specs.Ghash.{polynomial}
use Rattle.icb_gcm.specs.Gcm.{crypted, tag_of}
use Rattle.icb_gcm.proofs.GcmLemmas.{SealsTo_itself}
use Rattle.icb_gcm.proofs.in_place.seal_in_place.Goals as goal

pub returns : goal.returns
returns c =
    let same = c.new-sliced.ensures in
    let made = c.ciphers_of-ciphers.ensures in
    let tag : c.tag_of.result ≡ tag_of c.args.key.now c.args.nonce.now c.args.aad.now c.add_key_stream.new.text =
    c.tag_of.ensures c.new-sliced.result c.args.nonce.now (c.new.ensures ∙ ap polynomial made.zeros) (made.pads 1 (omega arith) (omega arith))
    ∙ ap (λ (k : List ℕ). tag_of k c.args.nonce.now c.args.aad.now c.add_key_stream.new.text) same in
    let stream : c.add_key_stream.new.text ≡ crypted c.args.key.now c.args.nonce.now c.args.text.now =
    c.add_key_stream.ensures ∙ ap (λ (k : List ℕ). crypted k c.args.nonce.now c.args.text.now) same in
    rw (tag, stream)
    (SealsTo_itself c.args.key.now c.args.nonce.now c.args.aad.now c.args.text.now c.requires)
