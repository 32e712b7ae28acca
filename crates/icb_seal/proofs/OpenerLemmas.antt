-- A cipher block that is opened in place.
use Rattle.std.proofs.Common.{◌≡◌, ℕ, ◌+◌, ◌-◌, ◌≤◌, List, ◌++◌, length, take, drop, replicate, Option, Some, None, Result, Ok, Err, refl, ap, ◌∙◌, arith, length-take, length-drop, length-append}
use Rattle.std.specs.Prelude.{slice_range, IsOk, IsErr, OnOk, OnErr, MatchOption}
use Rattle.std.proofs.lemmas.Slice.{between-put_mid, drop-put_mid, take-put_mid_below}
use Rattle.std.specs.Int.{w32, to_le_bytes}
use Rattle.std.proofs.lemmas.List.{length-take-le, take_at}
use Rattle.icb_gcm.specs.Gcm.{opened}
use Rattle.icb_seal.specs.Block.{KeepsEnds, additional_data, opened_cipher_block}
use borrow.Rule.Slice.PartMut.{put_mid}

-- the bytes between nonce and tag after the write there are what was written
between_ends : (block text : List ℕ) → 28 ≤ length block → length text ≡ length block - 28
    → slice_range (put_mid 12 (length block - 16 - 12) block text) 12 (length block - 16) ≡ text
between_ends block text h e = between-put_mid 12 (length block - 16 - 12) block text (length block - 16)
    (omega (arith, h)) (omega (arith, e))

-- so many bytes lie between nonce and tag
pub middle_length : (block : List ℕ) → 28 ≤ length block
    → length (take (length block - 16 - 12) (drop 12 block)) ≡ length block - 28
middle_length block h = simp (length-take, length-drop) (omega (arith, h))

-- what the call in place leaves of the text is what it leaves of the block
text_in_block : {E : Type 0} (found : Option (List ℕ)) (block text : List ℕ) (r : Result (Unit {0}) E) (n : ℕ)
    → 28 ≤ length block → n ≡ length block - 28 → length text ≡ n
    → MatchOption found (IsErr r × (text ≡ replicate n 0)) (λ plain. IsOk r × (text ≡ plain))
    → MatchOption found
    (IsErr r × (slice_range (put_mid 12 (length block - 16 - 12) block text) 12 (length block - 16)
    ≡ replicate (length block - 28) 0))
    (λ plain. IsOk r × (slice_range (put_mid 12 (length block - 16 - 12) block text) 12 (length block - 16) ≡ plain))
text_in_block None block text r n h e k (p, q) =
    (p, between_ends block text h (k ∙ e) ∙ q ∙ ap (λ m. replicate m 0) e)
text_in_block (Some plain) block text r n h e k (p, q) = (p, between_ends block text h (k ∙ e) ∙ q)

-- what the call in place answers, by what there is to open
answer_in_place : {E : Type 0} (found : Option (List ℕ)) (text : List ℕ) (r : Result (Unit {0}) E) (n : ℕ)
    → OnOk r (found ≡ Some text) → OnErr r (found ≡ None) → OnErr r (text ≡ replicate n 0)
    → MatchOption found (IsErr r × (text ≡ replicate n 0)) (λ plain. IsOk r × (text ≡ plain))
answer_in_place found text (Ok u) n ok none zeros = rw ok (refl, refl)
answer_in_place found text (Err e) n ok none zeros = rw none (refl, zeros)

-- the call in place, by copies of the nonce and the tag
pub block_opened : {E : Type 0} (key nonce aad block tag text : List ℕ) (r : Result (Unit {0}) E)
    → 28 ≤ length block
    → nonce ≡ take 12 block → tag ≡ drop (length block - 16) block
    → length text ≡ length (take (length block - 16 - 12) (drop 12 block))
    → OnOk r (opened key nonce aad (take (length block - 16 - 12) (drop 12 block)) tag ≡ Some text)
    → OnErr r (opened key nonce aad (take (length block - 16 - 12) (drop 12 block)) tag ≡ None)
    → OnErr r (text ≡ replicate (length (take (length block - 16 - 12) (drop 12 block))) 0)
    → MatchOption (opened_cipher_block key aad block)
    (IsErr r × (slice_range (put_mid 12 (length block - 16 - 12) block text) 12 (length block - 16)
    ≡ replicate (length block - 28) 0))
    (λ plain. IsOk r × (slice_range (put_mid 12 (length block - 16 - 12) block text) 12 (length block - 16) ≡ plain))
unfolding opened_cipher_block
block_opened key nonce aad block tag text r h e f k ok none zeros =
    let same : opened key (take 12 block) aad (take (length block - 16 - 12) (drop 12 block)) (drop (length block - 16) block)
    ≡ opened key nonce aad (take (length block - 16 - 12) (drop 12 block)) tag = rw (e, f) refl in
    rw same (text_in_block _ block text r _ h (middle_length block h) k (answer_in_place _ text r _ ok none zeros))

-- a write between nonce and tag leaves both
pub ends_stay : (block text : List ℕ) (n : ℕ) → 28 ≤ length block → n ≡ length block - 16 - 12 → length text ≡ n
    → KeepsEnds block (put_mid 12 n block text)
ends_stay block text n room middle size = record {
  nonce = take-put_mid_below 12 n block text 12 (omega arith) (omega (arith, room));
  tag = drop-put_mid 12 n block text (length block - 16) (omega (arith, room, middle)) (omega (arith, room)) size;
}

-- additional data with another number has the same prefix
pub same_prefix : (xs : List ℕ) (i : ℕ) → 4 ≤ length xs
    → take (length (additional_data (take (length xs - 4) xs) i) - 4) (additional_data (take (length xs - 4) xs) i)
    ≡ take (length xs - 4) xs
unfolding additional_data
same_prefix xs i h =
    let size : length (take (length xs - 4) xs ++ to_le_bytes w32 i) ≡ length xs =
    length-append (take (length xs - 4) xs) (to_le_bytes w32 i)
    ∙ ap (λ n. n + 4) (length-take-le (length xs - 4) xs (omega arith)) ∙ (let e : length xs - 4 + 4 ≡ length xs = omega (arith, h) in e) in
    rw size (take_at (take (length xs - 4) xs) (to_le_bytes w32 i) (length xs - 4) (length-take-le (length xs - 4) xs (omega arith)))

-- additional data has room for a number
pub room_for_number : (prefix : List ℕ) (i : ℕ) → 4 ≤ length (additional_data prefix i)
unfolding additional_data
room_for_number prefix i =
    let e : length (prefix ++ to_le_bytes w32 i) ≡ length prefix + 4 = length-append prefix (to_le_bytes w32 i) in
    omega (arith, e)
