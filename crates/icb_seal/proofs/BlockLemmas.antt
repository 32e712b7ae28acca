-- What follows from the definitions of cipher blocks: their parts and lengths, that opening is the
-- inverse of sealing, and that nonces and additional data tell their numbers.
use Rattle.std.proofs.Common.{◌≡◌, ℕ, zero, suc, ◌+◌, ◌-◌, ◌^◌, ◌<◌, ◌≤◌, false, List, ◌++◌, map, length, take, drop, Option, Some, None, refl, ap, sym, ◌∙◌, arith, length-append, length-take, length-drop}
use Rattle.std.specs.Prelude.{slice_range, option_map, bytes_eq, nat_lt}
use Rattle.std.specs.List.{range_with_len, IsDistinct, AllByRecursion}
use Rattle.std.specs.Int.{w32, to_le_bytes, to_be_bytes, from_le_bytes, from_be_bytes}
use Rattle.std.proofs.lemmas.Bool.{cond-false, cond-true, le-ltb, lt-ltb, false_from_ne_true}
use Rattle.std.proofs.lemmas.Nat.{from_le_bytes-to_le_bytes_4, from_be_bytes-to_be_bytes_4}
use Rattle.std.proofs.lemmas.List.{append_assoc, append_cancel_left, append_cancel_right, take_at, drop_at}
use Rattle.std.proofs.lemmas.List.Edits.{split_between}
use Rattle.std.proofs.lemmas.Slice.Eq.{bytes_eq-Decides}
use Rattle.icb_gcm.specs.Gcm.{sealed, SealsTo, opened, crypted, tag_of}
use Rattle.icb_gcm.proofs.GcmLemmas.{SealsTo_itself, SealsTo_from_opened, opened_from_SealsTo, length-sealed, length-opened, opened_fits, none_from_all}
use Rattle.icb_seal.specs.Block.{additional_data, nonce_of, opened_cipher_block, opened_block, sealed_cipher_block, unwrapped}
use Rattle.icb_seal.specs.Laws.{SealedBlockOpens, SealedBlockHasForm, TextIsSealed}

-- ---- parts and lengths

-- a cipher block of a text is a nonce, and the ciphertext and the tag that the text seals to
pub record IsCipherBlock (key nonce aad text block : List ℕ) : Type 0 where
  pub ciphertext : List ℕ
  pub tag : List ℕ
  pub seals : SealsTo key nonce aad text ciphertext tag
  pub whole : nonce ++ ciphertext ++ tag ≡ block

-- what was made of a seal
made_of_seal : (found : Option (List ℕ × List ℕ)) (nonce block : List ℕ)
    → option_map (λ seal. nonce ++ seal.0 ++ seal.1) found ≡ Some block
    → (seal : List ℕ × List ℕ) × ((found ≡ Some seal) × (nonce ++ seal.0 ++ seal.1 ≡ block))
made_of_seal None nonce block h = absurd (let f : ⊥ = cc in f)
made_of_seal (Some seal) nonce block h = (seal, (refl, (cc)))

-- the parts of a sealed block
pub parts_of_sealed : (key nonce aad text block : List ℕ)
    → sealed_cipher_block key nonce aad text ≡ Some block → IsCipherBlock key nonce aad text block
unfolding sealed_cipher_block
parts_of_sealed key nonce aad text block h =
    let made = made_of_seal (sealed key nonce aad text) nonce block h in
    record { ciphertext = made.0.0; tag = made.0.1; seals = made.1.0; whole = made.1.1 }

-- a sealed block is 28 bytes longer than its text
pub length-sealed_cipher_block : (key nonce aad text block : List ℕ) → length nonce ≡ 12
    → sealed_cipher_block key nonce aad text ≡ Some block → length block ≡ length text + 28
length-sealed_cipher_block key nonce aad text block size h =
    let parts = parts_of_sealed key nonce aad text block h in
    let sizes = length-sealed key nonce aad text parts.ciphertext parts.tag parts.seals in
    let e : length (nonce ++ parts.ciphertext ++ parts.tag) ≡ length nonce + length parts.ciphertext + length parts.tag =
    simp (length-append) refl in
    omega (arith, ap length (sym parts.whole), e, size, sizes.0, sizes.1)

-- it begins with its nonce
pub nonce_of_sealed : (key nonce aad text block : List ℕ) → length nonce ≡ 12
    → sealed_cipher_block key nonce aad text ≡ Some block → take 12 block ≡ nonce
nonce_of_sealed key nonce aad text block size h =
    let parts = parts_of_sealed key nonce aad text block h in
    ap (take 12) (sym parts.whole ∙ append_assoc nonce parts.ciphertext parts.tag)
    ∙ take_at nonce (parts.ciphertext ++ parts.tag) 12 size

-- the text of an opened block is 28 bytes shorter
pub length-opened_cipher_block : (key aad block text : List ℕ)
    → opened_cipher_block key aad block ≡ Some text → length text ≡ length block - 28
unfolding opened_cipher_block
length-opened_cipher_block key aad block text h =
    let size = length-opened key (take 12 block) aad (slice_range block 12 (length block - 16))
    (drop (length block - 16) block) text h in
    let middle : length (slice_range block 12 (length block - 16)) ≡ length block - 28 =
    simp (length-take, length-drop) (omega arith) in
    size ∙ middle

-- ---- opening is the inverse of sealing

-- the part between nonce and tag
middle_of : (nonce ciphertext tag : List ℕ) → length nonce ≡ 12 → length tag ≡ 16
    → slice_range (nonce ++ ciphertext ++ tag) 12 (length (nonce ++ ciphertext ++ tag) - 16) ≡ ciphertext
middle_of nonce ciphertext tag n t =
    let size : length (nonce ++ ciphertext ++ tag) ≡ length nonce + length ciphertext + length tag =
    simp (length-append) refl in
    let count : length (nonce ++ ciphertext ++ tag) - 16 - 12 ≡ length ciphertext = omega (arith, size, n, t) in
    let rest : drop 12 (nonce ++ ciphertext ++ tag) ≡ ciphertext ++ tag =
    ap (drop 12) (append_assoc nonce ciphertext tag) ∙ drop_at nonce (ciphertext ++ tag) 12 n in
    ap (take (length (nonce ++ ciphertext ++ tag) - 16 - 12)) rest
    ∙ take_at ciphertext tag (length (nonce ++ ciphertext ++ tag) - 16 - 12) (sym count)

-- the part behind it
end_of : (nonce ciphertext tag : List ℕ) → length tag ≡ 16
    → drop (length (nonce ++ ciphertext ++ tag) - 16) (nonce ++ ciphertext ++ tag) ≡ tag
end_of nonce ciphertext tag t =
    let size : length (nonce ++ ciphertext ++ tag) ≡ length (nonce ++ ciphertext) + length tag =
    length-append (nonce ++ ciphertext) tag in
    drop_at (nonce ++ ciphertext) tag (length (nonce ++ ciphertext ++ tag) - 16) (omega (arith, size, t))

-- a block of these parts opens to what they open to
opened_parts : (key nonce aad ciphertext tag : List ℕ) → length nonce ≡ 12 → length tag ≡ 16
    → opened_cipher_block key aad (nonce ++ ciphertext ++ tag) ≡ opened key nonce aad ciphertext tag
unfolding opened_cipher_block
opened_parts key nonce aad ciphertext tag n t =
    let first : take 12 (nonce ++ ciphertext ++ tag) ≡ nonce =
    ap (take 12) (append_assoc nonce ciphertext tag) ∙ take_at nonce (ciphertext ++ tag) 12 n in
    rw (first, middle_of nonce ciphertext tag n t, end_of nonce ciphertext tag t) refl

-- a sealed block opens to its text
pub opened_from_sealed : (key nonce aad text block : List ℕ) → length nonce ≡ 12
    → sealed_cipher_block key nonce aad text ≡ Some block → opened_cipher_block key aad block ≡ Some text
opened_from_sealed key nonce aad text block size h =
    let parts = parts_of_sealed key nonce aad text block h in
    let sizes = length-sealed key nonce aad text parts.ciphertext parts.tag parts.seals in
    ap (opened_cipher_block key aad) (sym parts.whole)
    ∙ opened_parts key nonce aad parts.ciphertext parts.tag size sizes.1
    ∙ opened_from_SealsTo key nonce aad parts.ciphertext parts.tag text parts.seals

-- an opened block is the one that its text seals to under its own nonce
pub sealed_from_opened : (key aad block text : List ℕ) → 28 ≤ length block
    → opened_cipher_block key aad block ≡ Some text
    → sealed_cipher_block key (take 12 block) aad text ≡ Some block
unfolding opened_cipher_block sealed_cipher_block
sealed_from_opened key aad block text room h =
    let middle = slice_range block 12 (length block - 16) in
    let tag = drop (length block - 16) block in
    let seals : SealsTo key (take 12 block) aad text middle tag =
    SealsTo_from_opened key (take 12 block) aad middle tag text h in
    let whole : take 12 block ++ middle ++ tag ≡ block =
    append_assoc (take 12 block) middle tag
    ∙ sym (split_between block 12 (length block - 16) (omega (arith, room))) in
    let made : List ℕ × List ℕ → List ℕ = λ seal. take 12 block ++ seal.0 ++ seal.1 in
    ap (option_map made) seals ∙ ap Some whole

-- a text that isn't too long has a cipher block
pub sealed_exists : (key nonce aad text : List ℕ) → length text ≤ 2 ^ 36 - 32
    → (block : List ℕ) × (sealed_cipher_block key nonce aad text ≡ Some block)
unfolding sealed_cipher_block
sealed_exists key nonce aad text h =
    let ciphertext = crypted key nonce text in
    let tag = tag_of key nonce aad ciphertext in
    let made : List ℕ × List ℕ → List ℕ = λ seal. nonce ++ seal.0 ++ seal.1 in
    (nonce ++ ciphertext ++ tag, ap (option_map made) (SealsTo_itself key nonce aad text h))

-- a sealed key opens to its bytes
pub unwrapped_from_sealed : (key nonce aad bytes sealed_key : List ℕ) → length nonce ≡ 12
    → sealed_cipher_block key nonce aad bytes ≡ Some sealed_key
    → unwrapped key aad sealed_key ≡ Some bytes
unfolding unwrapped
unwrapped_from_sealed key nonce aad bytes sealed_key size h =
    let e = length-sealed_cipher_block key nonce aad bytes sealed_key size h in
    let long : nat_lt (length sealed_key) 28 ≡ false = le-ltb (length sealed_key) 28 (omega (arith, e)) in
    cond-false _ _ _ long ∙ opened_from_sealed key nonce aad bytes sealed_key size h

-- what is shorter than a nonce and a tag is no sealed key
pub unwrapped_too_short : (key aad sealed_key : List ℕ) → length sealed_key < 28
    → unwrapped key aad sealed_key ≡ None
unfolding unwrapped
unwrapped_too_short key aad sealed_key h = cond-true _ _ _ (lt-ltb (length sealed_key) 28 h)

-- and everything else is a cipher block
pub unwrapped_block : (key aad sealed_key : List ℕ) → 28 ≤ length sealed_key
    → unwrapped key aad sealed_key ≡ opened_cipher_block key aad sealed_key
unfolding unwrapped
unwrapped_block key aad sealed_key h = cond-false _ _ _ (le-ltb (length sealed_key) 28 h)

-- a text has at most 2^36 - 32 bytes
fits_opened : (key aad block text : List ℕ) → opened_cipher_block key aad block ≡ Some text
    → length text ≤ 2 ^ 36 - 32
unfolding opened_cipher_block
fits_opened key aad block text h =
    opened_fits key (take 12 block) aad (slice_range block 12 (length block - 16))
    (drop (length block - 16) block) text h

-- so what is longer than such a text with a nonce and a tag opens to nothing
pub unwrapped_too_long : (key aad sealed_key : List ℕ) → 68719476732 < length sealed_key
    → unwrapped key aad sealed_key ≡ None
unwrapped_too_long key aad sealed_key h =
    unwrapped_block key aad sealed_key (omega (arith, h))
    ∙ none_from_all (opened_cipher_block key aad sealed_key)
    (λ text e. let f : ⊥ = omega (
      arith,
      h,
      fits_opened key aad sealed_key text e,
      length-opened_cipher_block key aad sealed_key text e,
    ) in f)

-- ---- numbers

-- a nonce has 12 bytes
pub length-nonce_of : (seed : List ℕ) (i : ℕ) → length seed ≡ 8 → length (nonce_of seed i) ≡ 12
unfolding nonce_of
length-nonce_of seed i h =
    let e : length (seed ++ to_be_bytes w32 i) ≡ length seed + 4 = length-append seed (to_be_bytes w32 i) in
    omega (arith, e, h)

-- a nonce tells its number
pub number_of_nonce : (seed : List ℕ) (i j : ℕ) → i < 2 ^ 32 → j < 2 ^ 32
    → nonce_of seed i ≡ nonce_of seed j → i ≡ j
unfolding nonce_of
number_of_nonce seed i j a b h =
    let bytes : to_be_bytes w32 i ≡ to_be_bytes w32 j =
    append_cancel_left seed (to_be_bytes w32 i) (to_be_bytes w32 j) h in
    sym (from_be_bytes-to_be_bytes_4 i a) ∙ ap (from_be_bytes w32) bytes ∙ from_be_bytes-to_be_bytes_4 j b

-- the last 4 bytes of additional data are the number
number_bytes : (prefix : List ℕ) (i : ℕ)
    → drop (length (additional_data prefix i) - 4) (additional_data prefix i) ≡ to_le_bytes w32 i
unfolding additional_data
number_bytes prefix i =
    let size : length (prefix ++ to_le_bytes w32 i) ≡ length prefix + 4 = length-append prefix (to_le_bytes w32 i) in
    drop_at prefix (to_le_bytes w32 i) (length (prefix ++ to_le_bytes w32 i) - 4) (omega (arith, size))

-- additional data tell their number
pub number_of_additional_data : (prefix other : List ℕ) (i j : ℕ) → i < 2 ^ 32 → j < 2 ^ 32
    → additional_data prefix i ≡ additional_data other j → i ≡ j
number_of_additional_data prefix other i j a b h =
    let bytes : to_le_bytes w32 i ≡ to_le_bytes w32 j =
    sym (number_bytes prefix i) ∙ ap (λ (aad : List ℕ). drop (length aad - 4) aad) h ∙ number_bytes other j in
    sym (from_le_bytes-to_le_bytes_4 i a) ∙ ap (from_le_bytes w32) bytes ∙ from_le_bytes-to_le_bytes_4 j b

-- and their prefix
pub prefix_of_additional_data : (prefix other : List ℕ) (i j : ℕ) → i < 2 ^ 32 → j < 2 ^ 32
    → additional_data prefix i ≡ additional_data other j → prefix ≡ other
unfolding additional_data
prefix_of_additional_data prefix other i j a b h =
    let same : i ≡ j = number_of_additional_data prefix other i j a b h in
    append_cancel_right prefix other (to_le_bytes w32 i)
    (h ∙ ap (λ n. other ++ to_le_bytes w32 n) (sym same))

-- the nonces of later numbers are others
others_differ : (seed : List ℕ) (n a i : ℕ) → i < a → a + n ≤ 2 ^ 32
    → AllByRecursion (λ y. bytes_eq (nonce_of seed i) y ≡ false) (map (nonce_of seed) (range_with_len a n))
others_differ seed zero a i h le = tt
others_differ seed (suc n) a i h le =
    let other : nonce_of seed i ≡ nonce_of seed a → ⊥ =
    λ e. let same : i ≡ a = number_of_nonce seed i a (omega (arith, h, le)) (omega (arith, le)) e in
    let f : ⊥ = omega (arith, same, h) in f in (
      false_from_ne_true _ (λ e. other ((bytes_eq-Decides (nonce_of seed i) (nonce_of seed a)).0 e)),
      others_differ seed n (a + 1) i (omega (arith, h)) (omega (arith, le)),
    )

-- n nonces from the number a on are different
pub nonces_distinct : (seed : List ℕ) (n a : ℕ) → a + n ≤ 2 ^ 32
    → IsDistinct bytes_eq (map (nonce_of seed) (range_with_len a n))
unfolding IsDistinct
nonces_distinct seed zero a le = tt
nonces_distinct seed (suc n) a le = (
  others_differ seed n (a + 1) a (omega arith) (omega (arith, le)),
  nonces_distinct seed n (a + 1) (omega (arith, le)),
)

-- ---- the laws of blocks

-- a sealed block opens to its text
pub sealed_block_opens : SealedBlockOpens
sealed_block_opens key prefix seed text block i h e =
    opened_from_sealed key (nonce_of seed i) (additional_data prefix i) text block (length-nonce_of seed i h) e

-- it is 28 bytes longer than its text, and begins with its nonce
pub sealed_block_form : SealedBlockHasForm
sealed_block_form key prefix seed text block i h e = (
  length-sealed_cipher_block key (nonce_of seed i) (additional_data prefix i) text block (length-nonce_of seed i h) e,
  nonce_of_sealed key (nonce_of seed i) (additional_data prefix i) text block (length-nonce_of seed i h) e,
)

-- every text that isn't too long has a block
pub text_is_sealed : TextIsSealed
text_is_sealed key prefix seed text i h = sealed_exists key (nonce_of seed i) (additional_data prefix i) text h

-- the text of an opened block is 28 bytes shorter
pub length-opened_block : (key prefix block plain : List ℕ) (i : ℕ)
    → opened_block key prefix i block ≡ Some plain → length plain ≡ length block - 28
length-opened_block key prefix block plain i h =
    length-opened_cipher_block key (additional_data prefix i) block plain h
