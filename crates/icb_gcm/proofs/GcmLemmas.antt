-- What follows from the definitions of GCM: the lengths of what they make, and that opening is the
-- inverse of sealing.
use Rattle.std.proofs.Common.{◌≡◌, ℕ, zero, suc, ◌+◌, ◌-◌, ◌*◌, ◌/◌, ◌^◌, ◌<◌, ◌≤◌, Bool, true, false, List, [], ◌∷◌, ◌++◌, length, replicate, Option, Some, None, refl, ap, sym, ◌∙◌, arith, lit≤, length-append}
use Rattle.std.proofs.lemmas.Nat.{xor_of_8}
use Rattle.std.proofs.lemmas.List.Elements.{All-nil, All-cons, All-head, All-tail, All-same, All-append}
use Rattle.icb_aes.proofs.Bytes.{All-cipher, length-cipher}
use Rattle.std.proofs.lemmas.Bool.{le-leb, leb-true, and_from, and_parts, cond-true}
use Rattle.std.proofs.lemmas.Slice.Eq.{bytes_eq-Decides}
use Rattle.std.specs.Prelude.{if◌then◌else◌, bit_xor, bytes_eq, nat_le}
use Rattle.std.specs.Int.Bits.{xor_assoc, xor_self, xor_zero_r}
use Rattle.icb_aes.specs.Fips197.{cipher}
use Rattle.icb_gcm.specs.Gcm.{AreBytes, added, bit_length, counter_block, key_stream, crypted, hashed, tag_of, sealed, SealsTo, is_seal, opened}
use Rattle.icb_ghash.specs.Ghash.{polynomial, ghash}
use Rattle.icb_ghash.proofs.GhashLemmas.{All-ghash, length-ghash}

-- ---- lengths

-- a sum is as long as its first string, where the second is at least as long
pub length-added : (bytes others : List ℕ) → length bytes ≤ length others
    → length (added bytes others) ≡ length bytes
length-added [] others h = refl
length-added (b ∷ bytes) [] h = omega (arith, h)
length-added (b ∷ bytes) (o ∷ others) h =
    let e : length (added bytes others) ≡ length bytes = length-added bytes others (omega (arith, h)) in
    ap suc e

-- the key stream of n blocks
pub length-key_stream : (key nonce : List ℕ) (n : ℕ) → length (key_stream key nonce n) ≡ 16 * n
unfolding key_stream
length-key_stream key nonce zero = refl
length-key_stream key nonce (suc n) =
    rw (length-append, length-key_stream key nonce n, length-cipher) (omega arith)

-- the key stream of a text is at least as long as the text
pub key_stream_covers : (key nonce text : List ℕ)
    → length text ≤ length (key_stream key nonce ((length text + 15) / 16))
key_stream_covers key nonce text =
    rw (length-key_stream key nonce ((length text + 15) / 16)) (omega arith)

-- a ciphertext is as long as its text
pub length-crypted : (key nonce text : List ℕ) → length (crypted key nonce text) ≡ length text
unfolding crypted
length-crypted key nonce text = length-added text _ (key_stream_covers key nonce text)

-- two lengths make a block
pub length-lengths : (m n : ℕ) → length (bit_length m ++ bit_length n) ≡ 16
unfolding bit_length
length-lengths m n = refl

-- a tag has 16 bytes
pub length-tag_of : (key nonce aad ciphertext : List ℕ) → length (tag_of key nonce aad ciphertext) ≡ 16
unfolding tag_of
length-tag_of key nonce aad ciphertext =
    length-added _ _ (rw (length-ghash, length-cipher) (lit≤ tt)) ∙ length-ghash _ _

-- ---- opening is the inverse of sealing

-- the sum with a string that is long enough, twice, changes nothing
pub added_twice : (bytes others : List ℕ) → length bytes ≤ length others
    → added (added bytes others) others ≡ bytes
added_twice [] others h = refl
added_twice (b ∷ bytes) [] h = absurd (let f : ⊥ = omega (arith, h) in f)
added_twice (b ∷ bytes) (o ∷ others) h =
    let rest : added (added bytes others) others ≡ bytes = added_twice bytes others (omega (arith, h)) in
    let first : bit_xor (bit_xor b o) o ≡ b =
    xor_assoc b o o ∙ ap (bit_xor b) (xor_self o) ∙ xor_zero_r b in
    cc

-- the key stream takes the key stream away
pub crypted_twice : (key nonce text : List ℕ) → crypted key nonce (crypted key nonce text) ≡ text
unfolding crypted
crypted_twice key nonce text =
    let n = (length text + 15) / 16 in
    let e : length (added text (key_stream key nonce n)) ≡ length text = length-crypted key nonce text in
    rw e (added_twice text (key_stream key nonce n) (key_stream_covers key nonce text))

-- what a choice between a value and nothing says where there is a value
chosen : {A : Type 0} (b : Bool) (x y : A) → (if b then Some x else None) ≡ Some y
    → (b ≡ true) × (x ≡ y)
chosen true x y h = (refl, (cc))
chosen false x y h = absurd (let f : ⊥ = cc in f)

-- what it says of a text that it seals to a ciphertext and a tag
pub SealsTo-parts : (key nonce aad text ciphertext tag : List ℕ)
    → SealsTo key nonce aad text ciphertext tag
    → (length text ≤ 2 ^ 36 - 32) × (ciphertext ≡ crypted key nonce text)
    × (tag ≡ tag_of key nonce aad ciphertext)
unfolding sealed
SealsTo-parts key nonce aad text ciphertext tag h =
    let seal : List ℕ × List ℕ = (crypted key nonce text, tag_of key nonce aad (crypted key nonce text)) in
    let pair : List ℕ × List ℕ = (ciphertext, tag) in
    let parts = chosen (nat_le (length text) (2 ^ 36 - 32)) seal pair h in
    let first : crypted key nonce text ≡ ciphertext = ap (λ (s : List ℕ × List ℕ). s.0) parts.1 in
    let second : tag_of key nonce aad (crypted key nonce text) ≡ tag = ap (λ (s : List ℕ × List ℕ). s.1) parts.1 in
    (leb-true _ _ parts.0, sym first, sym second ∙ ap (tag_of key nonce aad) first)

-- and the other way round: a text that isn't too long seals to its ciphertext and their tag
pub SealsTo_itself : (key nonce aad text : List ℕ) → length text ≤ 2 ^ 36 - 32
    → SealsTo key nonce aad text (crypted key nonce text) (tag_of key nonce aad (crypted key nonce text))
unfolding sealed
SealsTo_itself key nonce aad text h = cond-true _ _ _ (le-leb _ _ h)

-- a text that seals to a ciphertext and a tag is the ciphertext with the key stream added
pub text_from_SealsTo : (key nonce aad text ciphertext tag : List ℕ)
    → SealsTo key nonce aad text ciphertext tag → crypted key nonce ciphertext ≡ text
text_from_SealsTo key nonce aad text ciphertext tag h =
    ap (crypted key nonce) (SealsTo-parts key nonce aad text ciphertext tag h).1
    ∙ crypted_twice key nonce text

-- the test of a seal
is_seal_itself : (ciphertext tag : List ℕ) → is_seal (Some (ciphertext, tag)) ciphertext tag ≡ true
unfolding is_seal
is_seal_itself ciphertext tag = and_from _ _ ((bytes_eq-Decides ciphertext ciphertext).1 refl)
    ((bytes_eq-Decides tag tag).1 refl)

-- and what it says where it is passed
seal_from_test : (seal : Option (List ℕ × List ℕ)) (ciphertext tag : List ℕ)
    → is_seal seal ciphertext tag ≡ true → seal ≡ Some (ciphertext, tag)
unfolding is_seal
seal_from_test None ciphertext tag h = absurd (let f : ⊥ = cc in f)
seal_from_test (Some seal) ciphertext tag h =
    let parts = and_parts (bytes_eq seal.0 ciphertext) (bytes_eq seal.1 tag) h in
    let first : seal.0 ≡ ciphertext = (bytes_eq-Decides seal.0 ciphertext).0 parts.0 in
    let second : seal.1 ≡ tag = (bytes_eq-Decides seal.1 tag).0 parts.1 in
    rw (sym first, sym second) refl

-- where no value is there, there is nothing
pub none_from_all : {A : Type 0} (o : Option A) → ((x : A) → o ≡ Some x → ⊥) → o ≡ None
none_from_all None h = refl
none_from_all (Some x) h = absurd (h x refl)

-- what opens was sealed
pub SealsTo_from_opened : (key nonce aad ciphertext tag text : List ℕ)
    → opened key nonce aad ciphertext tag ≡ Some text → SealsTo key nonce aad text ciphertext tag
unfolding opened
SealsTo_from_opened key nonce aad ciphertext tag text h =
    let parts = chosen (is_seal (sealed key nonce aad (crypted key nonce ciphertext)) ciphertext tag)
    (crypted key nonce ciphertext) text h in
    ap (sealed key nonce aad) (sym parts.1)
    ∙ seal_from_test (sealed key nonce aad (crypted key nonce ciphertext)) ciphertext tag parts.0

-- what was sealed opens
pub opened_from_SealsTo : (key nonce aad ciphertext tag text : List ℕ)
    → SealsTo key nonce aad text ciphertext tag → opened key nonce aad ciphertext tag ≡ Some text
unfolding opened
opened_from_SealsTo key nonce aad ciphertext tag text h =
    let e : crypted key nonce ciphertext ≡ text = text_from_SealsTo key nonce aad text ciphertext tag h in
    let test : is_seal (sealed key nonce aad text) ciphertext tag ≡ true =
    ap (λ (s : Option (List ℕ × List ℕ)). is_seal s ciphertext tag) h ∙ is_seal_itself ciphertext tag in
    rw e (cond-true _ _ _ test)

-- a ciphertext that isn't too long, with its own tag, opens to itself with the key stream added
pub opened_by_tag : (key nonce aad ciphertext tag : List ℕ) → length ciphertext ≤ 2 ^ 36 - 32
    → tag ≡ tag_of key nonce aad ciphertext
    → opened key nonce aad ciphertext tag ≡ Some (crypted key nonce ciphertext)
opened_by_tag key nonce aad ciphertext tag h e =
    let text = crypted key nonce ciphertext in
    let back : crypted key nonce text ≡ ciphertext = crypted_twice key nonce ciphertext in
    let fits : length text ≤ 2 ^ 36 - 32 = (rw (length-crypted key nonce ciphertext) h) in
    let with_ciphertext : List ℕ → Option (List ℕ × List ℕ) =
    λ c. let seal : List ℕ × List ℕ = (c, tag_of key nonce aad c) in Some seal in
    let with_tag : List ℕ → Option (List ℕ × List ℕ) =
    λ t. let seal : List ℕ × List ℕ = (ciphertext, t) in Some seal in
    let seals : SealsTo key nonce aad text ciphertext tag =
    SealsTo_itself key nonce aad text fits ∙ ap with_ciphertext back ∙ ap with_tag (sym e) in
    opened_from_SealsTo key nonce aad ciphertext tag text seals

-- with any other tag it doesn't open
pub not_opened : (key nonce aad ciphertext tag : List ℕ)
    → (tag ≡ tag_of key nonce aad ciphertext → ⊥) → opened key nonce aad ciphertext tag ≡ None
not_opened key nonce aad ciphertext tag other =
    none_from_all (opened key nonce aad ciphertext tag)
    (λ text h. other (SealsTo-parts key nonce aad text ciphertext tag
    (SealsTo_from_opened key nonce aad ciphertext tag text h)).2)

-- ---- what was sealed and what was opened

-- a ciphertext is as long as its text, and a tag has 16 bytes
pub length-sealed : (key nonce aad text ciphertext tag : List ℕ)
    → SealsTo key nonce aad text ciphertext tag
    → (length ciphertext ≡ length text) × (length tag ≡ 16)
length-sealed key nonce aad text ciphertext tag h =
    let parts = SealsTo-parts key nonce aad text ciphertext tag h in (
      ap length parts.1 ∙ length-crypted key nonce text,
      ap length parts.2 ∙ length-tag_of key nonce aad ciphertext,
    )

-- what opens is as long as its ciphertext
pub length-opened : (key nonce aad ciphertext tag text : List ℕ)
    → opened key nonce aad ciphertext tag ≡ Some text → length text ≡ length ciphertext
length-opened key nonce aad ciphertext tag text h =
    sym (length-sealed key nonce aad text ciphertext tag
    (SealsTo_from_opened key nonce aad ciphertext tag text h)).0

-- a text has at most 2^36 - 32 bytes
pub opened_fits : (key nonce aad ciphertext tag text : List ℕ)
    → opened key nonce aad ciphertext tag ≡ Some text → length text ≤ 2 ^ 36 - 32
opened_fits key nonce aad ciphertext tag text h =
    (SealsTo-parts key nonce aad text ciphertext tag
    (SealsTo_from_opened key nonce aad ciphertext tag text h)).0

-- one text is opened from one ciphertext and tag alone
pub same_pair : (key nonce aad ciphertext tag other_ciphertext other_tag text : List ℕ)
    → opened key nonce aad ciphertext tag ≡ Some text
    → opened key nonce aad other_ciphertext other_tag ≡ Some text
    → (ciphertext ≡ other_ciphertext) × (tag ≡ other_tag)
same_pair key nonce aad ciphertext tag other_ciphertext other_tag text first second =
    let one = SealsTo-parts key nonce aad text ciphertext tag
    (SealsTo_from_opened key nonce aad ciphertext tag text first) in
    let two = SealsTo-parts key nonce aad text other_ciphertext other_tag
    (SealsTo_from_opened key nonce aad other_ciphertext other_tag text second) in
    let same : ciphertext ≡ other_ciphertext = one.1 ∙ sym two.1 in
    (same, one.2 ∙ ap (tag_of key nonce aad) same ∙ sym two.2)

-- where nothing opens, nothing was sealed
pub none_sealed : (key nonce aad ciphertext tag text : List ℕ)
    → opened key nonce aad ciphertext tag ≡ None → SealsTo key nonce aad text ciphertext tag → ⊥
none_sealed key nonce aad ciphertext tag text none seals =
    let opens : opened key nonce aad ciphertext tag ≡ Some text =
    opened_from_SealsTo key nonce aad ciphertext tag text seals in
    cc

-- ---- bytes

-- the sum of bytes is bytes
pub AreBytes-added : (bytes others : List ℕ) → AreBytes bytes → AreBytes others → AreBytes (added bytes others)
AreBytes-added [] others first second = All-nil (λ b. b < 256)
AreBytes-added (b ∷ bytes) [] first second = All-nil (λ b. b < 256)
AreBytes-added (b ∷ bytes) (o ∷ others) first second =
    All-cons (λ b. b < 256) (bit_xor b o) (added bytes others)
    (xor_of_8 b o (All-head (λ b. b < 256) b bytes first) (All-head (λ b. b < 256) o others second))
    (AreBytes-added bytes others (All-tail (λ b. b < 256) b bytes first)
    (All-tail (λ b. b < 256) o others second))

-- under a key of bytes, the key stream is bytes
pub AreBytes-key_stream : (key nonce : List ℕ) (n : ℕ) → AreBytes key → AreBytes (key_stream key nonce n)
unfolding key_stream
AreBytes-key_stream key nonce zero h = All-nil (λ b. b < 256)
AreBytes-key_stream key nonce (suc n) h =
    All-append (λ b. b < 256) (key_stream key nonce n) (cipher key (counter_block nonce (n + 2)))
    (AreBytes-key_stream key nonce n h) (All-cipher key (counter_block nonce (n + 2)) h)

-- and so is what it is added to
pub AreBytes-crypted : (key nonce text : List ℕ) → AreBytes key → AreBytes text
    → AreBytes (crypted key nonce text)
unfolding crypted
AreBytes-crypted key nonce text h t =
    AreBytes-added text (key_stream key nonce ((length text + 15) / 16)) t
    (AreBytes-key_stream key nonce ((length text + 15) / 16) h)

-- what opens under a key of bytes from a ciphertext of bytes is bytes
pub AreBytes-opened : (key nonce aad ciphertext tag text : List ℕ) → AreBytes key → AreBytes ciphertext
    → opened key nonce aad ciphertext tag ≡ Some text → AreBytes text
AreBytes-opened key nonce aad ciphertext tag text h c opens =
    let e : text ≡ crypted key nonce ciphertext =
    sym (text_from_SealsTo key nonce aad text ciphertext tag
    (SealsTo_from_opened key nonce aad ciphertext tag text opens)) in
    All-same (λ b. b < 256) text (crypted key nonce ciphertext) e (AreBytes-crypted key nonce ciphertext h c)

-- under a key of bytes, a tag is bytes
pub AreBytes-tag_of : (key nonce aad ciphertext : List ℕ) → AreBytes key
    → AreBytes (tag_of key nonce aad ciphertext)
unfolding tag_of
AreBytes-tag_of key nonce aad ciphertext h =
    let hash = ghash (polynomial (cipher key (replicate 16 0))) (hashed aad ciphertext) in
    AreBytes-added hash (cipher key (counter_block nonce 1))
    (All-ghash (polynomial (cipher key (replicate 16 0))) (hashed aad ciphertext))
    (All-cipher key (counter_block nonce 1) h)
