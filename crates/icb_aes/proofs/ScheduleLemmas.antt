-- The schedule, written word by word over words of zeros.
use Rattle.std.proofs.Common.{◌≡◌, refl, sym, ◌∙◌, ap, ℕ, zero, suc, ◌+◌, ◌-◌, ◌*◌, ◌/◌, ◌<◌, ◌≤◌, inl, inr, List, [], ◌∷◌, ◌++◌, length, get_or, map, append_assoc, length-append, arith}
use Rattle.std.specs.Prelude.{replicate}
use Rattle.std.specs.List.{range_with_len}
use Rattle.std.proofs.Math.ListN.{set, get_or-append}
use Rattle.std.proofs.Math.Seq.{set-append_seam}
use Rattle.std.proofs.lemmas.List.FromFn.{get_or-map-range_with_len, length-map-range_with_len, map-range_with_len_more}
use Rattle.std.proofs.lemmas.List.{get_or_at}
use Rattle.icb_aes.specs.Laws.{IsSchedule}
use Rattle.icb_aes.specs.Fips197.{Word, IsKeyLength, word_at, key_words, rounds, add_words, key_word, schedule_term, next_word, schedule, expanded_key}
use Rattle.icb_aes.specs.Stored.{zero_word, stored_words}

-- a word written over the first of the zeros
pub set_first_zero : (xs ws : List Word) (i m n : ℕ) (w : Word) → ws ≡ xs ++ replicate m zero_word → length xs ≡ i → m ≡ suc n
    → set ws i w ≡ (xs ++ w ∷ []) ++ replicate n zero_word
set_first_zero xs ws i m n w e f g =
    rw (e, g, ← f) (set-append_seam xs zero_word (replicate n zero_word) w ∙ sym (append_assoc xs (w ∷ []) (replicate n zero_word)))

pub length-schedule : (key : List ℕ) (n : ℕ) → length (schedule key n) ≡ key_words key + n
unfolding schedule
length-schedule key zero = length-map-range_with_len (key_word key) 0 (key_words key) ∙ omega arith
length-schedule key (suc n) =
    length-append (schedule key n) (next_word (key_words key) (key_words key + n) (schedule key n) ∷ [])
    ∙ omega (arith, length-schedule key n)

-- a key has 4 to 8 words
pub key_words_bounds : (n : ℕ) → IsKeyLength n → (4 ≤ n / 4) × (n / 4 ≤ 8)
key_words_bounds n h = elim h [
  | inl e ↦ (omega arith, omega arith)
  | inr k ↦ elim k [ inl e ↦ (omega arith, omega arith) | inr e ↦ (omega arith, omega arith) ]
]

pub own_step : (key : List ℕ) (ws : List Word) (i : ℕ) (w : Word)
    → ws ≡ map (key_word key) (range_with_len 0 i) ++ replicate (60 - i) zero_word → i < 60 → w ≡ key_word key i
    → set ws i w ≡ map (key_word key) (range_with_len 0 (i + 1)) ++ replicate (60 - (i + 1)) zero_word
own_step key ws i w e h f =
    set_first_zero _ ws i (60 - i) (60 - (i + 1)) w e (length-map-range_with_len (key_word key) 0 i) (omega arith)
    ∙ ap (λ (xs : List Word). xs ++ replicate (60 - (i + 1)) zero_word)
    (ap (λ (v : Word). map (key_word key) (range_with_len 0 i) ++ v ∷ []) f
    ∙ sym (map-range_with_len_more (key_word key) 0 i i (omega arith)))

-- a word of the list in front
word_in_front : (xs ys ws : List Word) (i : ℕ) → ws ≡ xs ++ ys → i < length xs → get_or ws i [] ≡ get_or xs i []
word_in_front xs ys ws i e h = rw e (get_or-append xs ys [] i h)

pub next_step : (key : List ℕ) (ws : List Word) (nk i : ℕ) (t w : Word)
    → ws ≡ schedule key (i - nk) ++ replicate (60 - i) zero_word → nk ≡ key_words key → 1 ≤ nk → nk ≤ i → i < 60
    → t ≡ schedule_term nk i (get_or ws (i - 1) []) → w ≡ add_words (get_or ws (i - nk) []) t
    → set ws i w ≡ schedule key (i + 1 - nk) ++ replicate (60 - (i + 1)) zero_word
unfolding schedule next_word
next_step key ws nk i t w e k some past room f g =
    let n = i - nk in
    let s = schedule key n in
    let long : length s ≡ i = omega (arith, length-schedule key n) in
    let before : get_or ws (i - 1) [] ≡ get_or s (i - 1) [] = word_in_front s (replicate (60 - i) zero_word) ws (i - 1) e (omega arith) in
    let first : get_or ws (i - nk) [] ≡ get_or s (i - nk) [] = word_in_front s (replicate (60 - i) zero_word) ws (i - nk) e (omega arith) in
    let at : key_words key + n ≡ i = omega arith in
    let more : i + 1 - nk ≡ suc n = omega arith in
    let word : w ≡ next_word (key_words key) (key_words key + n) s =
    rw (← k) (let here : nk + n ≡ i = omega arith in rw here
    (g ∙ ap (λ (v : Word). add_words v t) first ∙ ap (λ (v : Word). add_words (get_or s (i - nk) []) v) (f ∙ ap (λ (v : Word). schedule_term nk i v) before))) in
    set_first_zero s ws i (60 - i) (60 - (i + 1)) w e long (omega arith)
    ∙ ap (λ (xs : List Word). xs ++ replicate (60 - (i + 1)) zero_word)
    (ap (λ (v : Word). s ++ v ∷ []) word ∙ ap (schedule key) (sym more))

pub own_words : (key : List ℕ) (ws : List Word) (i nk : ℕ) → ws ≡ map (key_word key) (range_with_len 0 i) ++ replicate (60 - i) zero_word
    → i ≡ nk → nk ≡ key_words key → ws ≡ schedule key (nk - nk) ++ replicate (60 - nk) zero_word
unfolding schedule
own_words key ws i nk e f g =
    let none : nk - nk ≡ 0 = omega arith in rw (none, ← g, ← f) e

pub all_words : (key : List ℕ) (ws : List Word) (i nk : ℕ) → ws ≡ schedule key (i - nk) ++ replicate (60 - i) zero_word
    → i ≡ 4 * (nk + 7) → nk ≡ key_words key → ws ≡ stored_words key
unfolding stored_words expanded_key
all_words key ws i nk e f g =
    let end : i ≡ 4 * (rounds key + 1) = omega arith in rw (← end, ← g) e

-- ---- the recurrence

-- a longer schedule has the same words in front
schedule-longer : (key : List ℕ) (n k i : ℕ) → i < key_words key + n
    → word_at (schedule key (k + n)) i ≡ word_at (schedule key n) i
unfolding schedule
schedule-longer key n zero i h = let e : 0 + n ≡ n = omega arith in rw e refl
schedule-longer key n (suc k) i h =
    let e : suc k + n ≡ suc (k + n) = omega arith in
    let before = schedule key (k + n) in
    let last = next_word (key_words key) (key_words key + (k + n)) before in
    rw e (get_or-append before (last ∷ []) [] i (let long = length-schedule key (k + n) in omega (arith, long)) ∙ schedule-longer key n k i h)

-- the word that is written last
schedule-last : (key : List ℕ) (n i : ℕ) → key_words key + n ≡ i
    → word_at (schedule key (suc n)) i ≡ next_word (key_words key) i (schedule key n)
unfolding schedule
schedule-last key n i e =
    rw (← e) (get_or_at (schedule key n) (next_word (key_words key) (key_words key + n) (schedule key n)) [] [] (key_words key + n) (length-schedule key n))

schedule-first : (key : List ℕ) (m i : ℕ) → i < key_words key → word_at (schedule key m) i ≡ key_word key i
unfolding schedule
schedule-first key m i h =
    let e : m ≡ m + 0 = omega arith in
    rw e (schedule-longer key 0 m i (omega arith) ∙ get_or-map-range_with_len (key_word key) 0 (key_words key) i i [] h (omega arith))

schedule-next : (key : List ℕ) (m i : ℕ) → 1 ≤ key_words key → key_words key ≤ i → i < key_words key + m
    → word_at (schedule key m) i
    ≡ add_words (word_at (schedule key m) (i - key_words key)) (schedule_term (key_words key) i (word_at (schedule key m) (i - 1)))
unfolding next_word
schedule-next key m i some past room =
    let nk = key_words key in
    let n = i - nk in
    let k = m - suc n in
    let whole : m ≡ k + suc n = omega arith in
    let whole' : m ≡ (k + 1) + n = omega arith in
    let here : word_at (schedule key m) i ≡ next_word nk i (schedule key n) =
    ap (λ (t : ℕ). word_at (schedule key t) i) whole ∙ schedule-longer key (suc n) k i (omega arith) ∙ schedule-last key n i (omega arith) in
    let far : word_at (schedule key m) (i - nk) ≡ word_at (schedule key n) (i - nk) =
    ap (λ (t : ℕ). word_at (schedule key t) (i - nk)) whole' ∙ schedule-longer key n (k + 1) (i - nk) (omega arith) in
    let near : word_at (schedule key m) (i - 1) ≡ word_at (schedule key n) (i - 1) =
    ap (λ (t : ℕ). word_at (schedule key t) (i - 1)) whole' ∙ schedule-longer key n (k + 1) (i - 1) (omega arith) in
    here ∙ sym (ap (λ (w : Word). add_words w (schedule_term nk i (word_at (schedule key m) (i - 1)))) far
    ∙ ap (λ (w : Word). add_words (word_at (schedule key n) (i - nk)) (schedule_term nk i w)) near)

pub schedule_recurs : (key : List ℕ) → IsKeyLength (length key) → IsSchedule key (expanded_key key)
unfolding expanded_key
schedule_recurs key h =
    let few = key_words_bounds (length key) h in
    let m = 4 * (rounds key + 1) - key_words key in
    record {
      words = length-schedule key m ∙ omega arith;
      first = λ i p. schedule-first key m i p;
      next = λ i p q. schedule-next key m i (omega (arith, few)) p (omega (arith, q));
    }
