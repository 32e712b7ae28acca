-- The ciphertext is the text with the key stream added, and the tag is that of the ciphertext.
use Rattle.std.proofs.Common.{◌≡◌, ◌∙◌, ap, List, ℕ, arith}
use Rattle.icb_gcm.specs.Gcm.{crypted, tag_of}
use Rattle.icb_gcm.proofs.GcmLemmas.{SealsTo_itself}
use Rattle.icb_gcm.proofs.gcm_key.GcmKey.seal.Goals as goal

pub returns : goal.returns
returns c =
    let tag : c.tag_of.result ≡ tag_of c.args.self.now c.args.nonce.now c.args.aad.now c.add_key_stream.new.text =
    c.tag_of.ensures c.self.inside.key c.args.nonce.now c.self.inside.hash (c.pads_of-pads.ensures 0 (omega arith)) ∙ ap (λ (k : List ℕ). tag_of k c.args.nonce.now c.args.aad.now c.add_key_stream.new.text) c.self.view_is in
    let stream : c.add_key_stream.new.text ≡ crypted c.args.self.now c.args.nonce.now c.args.text.now =
    c.add_key_stream.ensures ∙ ap (λ (k : List ℕ). crypted k c.args.nonce.now c.args.text.now) c.self.view_is in
    rw (tag, stream)
    (SealsTo_itself c.args.self.now c.args.nonce.now c.args.aad.now c.args.text.now c.requires)
