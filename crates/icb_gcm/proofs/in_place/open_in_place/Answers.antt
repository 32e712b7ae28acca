-- The text opens exactly where the tag is the ciphertext's.
use Rattle.std.proofs.Common.{◌≡◌, ◌∙◌, sym, ap, List, ℕ, arith}
use Rattle.std.proofs.lemmas.Bool.{both_ways}
use Rattle.icb_ghash.specs.Ghash.{polynomial}
use Rattle.icb_gcm.specs.Gcm.{crypted, tag_of}
use Rattle.icb_gcm.proofs.GcmLemmas.{not_opened, opened_by_tag}
use Rattle.icb_gcm.proofs.in_place.open_in_place.Goals as goal

pub returns-then-not-is_same-clause-not_authentic :
    goal.returns-then-not-is_same-clause-not_authentic
returns-then-not-is_same-clause-not_authentic c =
    let made = c.ciphers_of-ciphers.ensures in
    let own : c.tag_of-expected.result ≡ tag_of c.args.key.now c.args.nonce.now c.args.aad.now c.args.text.now =
    c.tag_of-expected.ensures c.new-sliced.result c.args.nonce.now (c.new.ensures ∙ ap polynomial made.zeros) (made.pads 1 (omega arith) (omega arith))
    ∙ ap (λ (k : List ℕ). tag_of k c.args.nonce.now c.args.aad.now c.args.text.now) c.new-sliced.ensures in
    not_opened c.args.key.now c.args.nonce.now c.args.aad.now c.args.text.now c.args.tag.now
    (λ e. both_ways c.is_same.result c.if-not-is_same.true (c.is_same.ensures.1 (own ∙ sym e)))

pub returns-clause-ok : goal.returns-clause-ok
returns-clause-ok c =
    let made = c.ciphers_of-ciphers.ensures in
    let own : c.tag_of-expected.result ≡ tag_of c.args.key.now c.args.nonce.now c.args.aad.now c.args.text.now =
    c.tag_of-expected.ensures c.new-sliced.result c.args.nonce.now (c.new.ensures ∙ ap polynomial made.zeros) (made.pads 1 (omega arith) (omega arith))
    ∙ ap (λ (k : List ℕ). tag_of k c.args.nonce.now c.args.aad.now c.args.text.now) c.new-sliced.ensures in
    let tag : c.args.tag.now ≡ tag_of c.args.key.now c.args.nonce.now c.args.aad.now c.args.text.now =
    sym (c.is_same.ensures.0 c.if-not-is_same.false) ∙ own in
    let stream : c.add_key_stream.new.text ≡ crypted c.args.key.now c.args.nonce.now c.args.text.now =
    c.add_key_stream.ensures ∙ ap (λ (k : List ℕ). crypted k c.args.nonce.now c.args.text.now) c.new-sliced.ensures in
    rw stream
    (opened_by_tag c.args.key.now c.args.nonce.now c.args.aad.now c.args.text.now c.args.tag.now c.requires tag)
