-- Bytes that are written part by part.
use Rattle.std.proofs.Common.{◌≡◌, ℕ, zero, suc, inl, inr, ◌+◌, ◌-◌, ◌*◌, ◌/◌, ◌%◌, ◌^◌, ◌<◌, ◌≤◌, List, [], ◌∷◌, ◌++◌, length, get_or, set, take, drop, refl, ap, sym, ◌∙◌, arith, add-one}
use Rattle.std.specs.Prelude.{bit_or, bit_xor, min}
use Rattle.std.specs.Int.Bits.{xor_assoc, xor_self, xor_zero_l, xor_zero_r}
use Rattle.std.proofs.lemmas.Nat.{le_or_l, le_or_r}
use Rattle.std.proofs.Math.Seq.{take-add}
use Rattle.std.proofs.lemmas.Bool.{cases_lt}
use Rattle.std.specs.Int.{w32, to_be_bytes}
use Rattle.std.proofs.Math.Nat.{le_refl}
use Rattle.std.proofs.lemmas.List.{append-nil, append_assoc, length-take-le, length-drop, take_all, take_at, take_min, drop_min, drop-drop, drop_at, drop_all}
use borrow.Rule.Slice.PartMut.{put_mid}
use Rattle.std.specs.List.{slice_index_or}
use Rattle.icb_aes.specs.Fips197.{cipher}
use Rattle.icb_aes.proofs.StateLemmas.{eight}
use Rattle.icb_gcm.specs.Gcm.{added, counter_block, crypted, crypted_front, key_stream}
use Rattle.icb_gcm.proofs.GcmLemmas.{length-added, length-key_stream}

-- a second part in the place of what stood behind the first
pub second_part : (a k : ℕ) (first rest second : List ℕ) → length first ≡ a → length rest ≡ k
    → put_mid a k (first ++ rest) second ≡ first ++ second
second_part a k first rest second size left =
    rw (take_at first rest a size, drop_at first rest a size, drop_all k rest (omega (arith, left)))
    (ap (λ (bs : List ℕ). first ++ bs) (append-nil second))

-- one byte more of a sum
pub added_more : (bytes others : List ℕ) (i : ℕ) → i < length bytes → length bytes ≤ length others
    → set (added (take i bytes) others ++ drop i bytes) i
    (bit_xor (get_or (added (take i bytes) others ++ drop i bytes) i 0) (get_or others i 0))
    ≡ added (take (suc i) bytes) others ++ drop (suc i) bytes
added_more [] others i h l = absurd (let f : ⊥ = omega (arith, h) in f)
added_more (b ∷ bytes) [] i h l = absurd (let f : ⊥ = omega (arith, l) in f)
added_more (b ∷ bytes) (o ∷ others) zero h l = refl
added_more (b ∷ bytes) (o ∷ others) (suc i) h l =
    ap (λ (bs : List ℕ). bit_xor b o ∷ bs) (added_more bytes others i (omega (arith, h)) (omega (arith, l)))

-- two numbers whose sum is 0 are one
pub same_from_sum : (a b : ℕ) → bit_xor a b ≡ 0 → a ≡ b
same_from_sum a b e =
    sym (xor_zero_r a) ∙ ap (bit_xor a) (sym (xor_self b)) ∙ sym (xor_assoc a b b)
    ∙ ap (λ (n : ℕ). bit_xor n b) e ∙ xor_zero_l b

-- where nothing is set, neither part has anything set
pub parts_of_or : (a b : ℕ) → bit_or a b ≡ 0 → (a ≡ 0) × (b ≡ 0)
parts_of_or a b e = (omega (arith, le_or_l a b), omega (arith, le_or_r a b))

-- ---- a text with the key stream added, block by block

-- the sum of two strings in two parts
pub added_append : (first second others more : List ℕ) → length first ≡ length others
    → added (first ++ second) (others ++ more) ≡ added first others ++ added second more
added_append [] second [] more h = refl
added_append [] second (o ∷ others) more h = absurd (let f : ⊥ = omega (arith, h) in f)
added_append (b ∷ first) second [] more h = absurd (let f : ⊥ = omega (arith, h) in f)
added_append (b ∷ first) second (o ∷ others) more h =
    ap (λ (bs : List ℕ). bit_xor b o ∷ bs) (added_append first second others more (omega (arith, h)))

-- a block of the text, or its last part, is written with the pad added
pub block_written : (text now part pad stream : List ℕ) (a to : ℕ) → a ≤ length text
    → to ≡ min (length text) (a + 16) → length stream ≡ a
    → now ≡ added (take a text) stream ++ drop a text → part ≡ added (take (to - a) (drop a now)) pad
    → put_mid a (to - a) now part ≡ added (take (a + 16) text) (stream ++ pad) ++ drop (a + 16) text
block_written text now part pad stream a to inside end size is made =
    let taken : length (take a text) ≡ length stream = length-take-le a text inside ∙ sym size in
    let front : length (added (take a text) stream) ≡ a =
    length-added (take a text) stream (rw taken (le_refl (length stream))) ∙ taken ∙ size in
    let first : take a now ≡ added (take a text) stream =
    ap (take a) is ∙ take_at (added (take a text) stream) (drop a text) a front in
    let rest : drop a now ≡ drop a text =
    ap (drop a) is ∙ drop_at (added (take a text) stream) (drop a text) a front in
    let count : to - a ≡ min 16 (length (drop a text)) = (rw length-drop (omega arith)) in
    let piece : take (to - a) (drop a text) ≡ take 16 (drop a text) =
    ap (λ (n : ℕ). take n (drop a text)) count ∙ take_min 16 (drop a text) in
    let left : drop (to - a) (drop a text) ≡ drop (a + 16) text =
    ap (λ (n : ℕ). drop n (drop a text)) count ∙ drop_min 16 (drop a text) ∙ drop-drop 16 a text in
    let sum : part ≡ added (take 16 (drop a text)) pad =
    made ∙ ap (λ (bs : List ℕ). added (take (to - a) bs) pad) rest ∙ ap (λ (bs : List ℕ). added bs pad) piece in
    rw (
      first,
      rest,
      left,
      sum,
      take-add a 16 text,
      added_append (take a text) (take 16 (drop a text)) stream pad taken,
    )
    (sym (append_assoc (added (take a text) stream) (added (take 16 (drop a text)) pad) (drop (a + 16) text)))

-- after the last block, the whole text is written
pub all_written : (text now stream : List ℕ) (a : ℕ) → length text ≤ a
    → now ≡ added (take a text) stream ++ drop a text → now ≡ added text stream
all_written text now stream a beyond is =
    is ∙ (rw (take_all a text beyond, drop_all a text beyond) (append-nil (added text stream)))

-- the key stream of one block more
pub key_stream_more : (key nonce : List ℕ) (n : ℕ) (pad : List ℕ) → pad ≡ cipher key (counter_block nonce (n + 2))
    → key_stream key nonce (n + 1) ≡ key_stream key nonce n ++ pad
unfolding key_stream
key_stream_more key nonce n pad is =
    ap (key_stream key nonce) (add-one n) ∙ ap (λ (bs : List ℕ). key_stream key nonce n ++ bs) (sym is)

-- one block more of the front, or its last part
pub front_more : (key nonce whole now part pad : List ℕ) (m a to : ℕ) → a ≡ 16 * m → 16 * m ≤ length whole
    → to ≡ min (length whole) (a + 16)
    → now ≡ crypted_front key nonce m whole → pad ≡ cipher key (counter_block nonce (m + 2))
    → part ≡ added (take (to - a) (drop a now)) pad
    → put_mid a (to - a) now part ≡ crypted_front key nonce (m + 1) whole
front_more key nonce whole now part pad m a to at inside end is made sum =
    let stream = key_stream key nonce m in
    let next : 16 * (m + 1) ≡ 16 * m + 16 = omega arith in
    rw (next, key_stream_more key nonce m pad made, ← at)
    (block_written whole now part pad stream a to (omega arith) end (length-key_stream key nonce m ∙ sym at)
    (rw at is) sum)

-- ---- a key stream that is longer than the text

-- what is behind the text's length adds nothing
added_longer : (bytes others more : List ℕ) → length bytes ≤ length others
    → added bytes (others ++ more) ≡ added bytes others
added_longer [] others more h = refl
added_longer (b ∷ bytes) [] more h = absurd (let f : ⊥ = omega (arith, h) in f)
added_longer (b ∷ bytes) (o ∷ others) more h =
    ap (λ (bs : List ℕ). bit_xor b o ∷ bs) (added_longer bytes others more (omega (arith, h)))

stream_longer : (key nonce text : List ℕ) (c n : ℕ) → length text ≤ 16 * c → c ≤ n
    → added text (key_stream key nonce n) ≡ added text (key_stream key nonce c)
unfolding key_stream
stream_longer key nonce text c zero h l =
    let none : 0 ≡ c = omega (arith, l) in
    ap (λ (n : ℕ). added text (key_stream key nonce n)) none
stream_longer key nonce text c (suc n) h l = elim (cases_lt n c) [
  | inl below ↦
      let same : suc n ≡ c = omega (arith, l, below) in
      ap (λ (n : ℕ). added text (key_stream key nonce n)) same
  | inr past ↦
      added_longer text (key_stream key nonce n) (cipher key (counter_block nonce (n + 2)))
      (rw (length-key_stream key nonce n) (omega (arith, h, past)))
      ∙ stream_longer key nonce text c n h past
]

-- a front that takes in the whole text is the ciphertext
pub front_beyond : (key nonce text : List ℕ) (m : ℕ) → length text ≤ 16 * m
    → crypted_front key nonce m text ≡ crypted key nonce text
unfolding crypted
front_beyond key nonce text m h =
    all_written text (crypted_front key nonce m text) (key_stream key nonce m) (16 * m) h refl
    ∙ stream_longer key nonce text ((length text + 15) / 16) m (omega arith) (omega (arith, h))

-- and more blocks of it change nothing
pub front_same : (key nonce text : List ℕ) (m n : ℕ) → length text ≤ 16 * m → m ≤ n
    → crypted_front key nonce m text ≡ crypted_front key nonce n text
front_same key nonce text m n h l =
    front_beyond key nonce text m h ∙ sym (front_beyond key nonce text n (omega (arith, h, l)))

-- counter blocks count modulo 2^32
pub counter_block_mod : (nonce : List ℕ) (j : ℕ) → counter_block nonce (j % 2 ^ 32) ≡ counter_block nonce j
unfolding counter_block
counter_block_mod nonce j =
    let e : j % 2 ^ 32 % 2 ^ 32 ≡ j % 2 ^ 32 = omega arith in
    ap (λ (n : ℕ). nonce ++ to_be_bytes w32 n) e

-- eight blocks, each by its number
pub eight_blocks : (f : ℕ → List ℕ) (r0 r1 r2 r3 r4 r5 r6 r7 : List ℕ) → r0 ≡ f 0 → r1 ≡ f 1 → r2 ≡ f 2 → r3 ≡ f 3
    → r4 ≡ f 4 → r5 ≡ f 5 → r6 ≡ f 6 → r7 ≡ f 7
    → (b : ℕ) → b < 8 → slice_index_or (r0 ∷ r1 ∷ r2 ∷ r3 ∷ r4 ∷ r5 ∷ r6 ∷ r7 ∷ []) b [] ≡ f b
eight_blocks f r0 r1 r2 r3 r4 r5 r6 r7 = eight (λ b. slice_index_or (r0 ∷ r1 ∷ r2 ∷ r3 ∷ r4 ∷ r5 ∷ r6 ∷ r7 ∷ []) b [] ≡ f b)
