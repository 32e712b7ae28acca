-- What a reader of a range gets: all its bytes where each touched block has a part, else those before
-- the first one that has none.
use Rattle.std.proofs.Common.{◌≡◌, ℕ, zero, suc, ◌+◌, ◌-◌, ◌*◌, ◌<◌, ◌≤◌, ◌⊎◌, inl, inr, Bool, true, false, cond, ◌&&◌, List, [], ◌∷◌, ◌++◌, length, take, drop, map, replicate, Option, Some, None, refl, ap, sym, ◌∙◌, arith}
use Rattle.std.specs.Prelude.{find, is_none, IsSome}
use Rattle.std.specs.List.{flat_map, range_with_len}
use Rattle.std.proofs.lemmas.Bool.{lt-ltb, ltb-true, eqb-true, eq-eqb, and_parts, and_from, or_cases, or_left, or_right, cases_lt}
use Rattle.std.proofs.lemmas.List.{length-replicate, drop-drop, drop-append-le, take_all, drop-replicate}
use Rattle.icb_base.specs.Contents.{HasPart}
use Rattle.icb_stream.specs.Cut.{IsCut}
use Rattle.icb_stream.proofs.PartLemmas.{whole_part, last_part}
use Rattle.icb_stream.specs.Layout.{Layout, blocks, plain_length, part_length, part_at}
use Rattle.icb_stream.specs.Content.{with_gaps, content, touches, first_refused, up_to_gap, front_at}
use Rattle.icb_stream.proofs.ContentLemmas.{piece, drop_content, part_of_front}

-- ---- the first number that passes a test

find_step : (p : ℕ → Bool) (a : ℕ) (rest : List ℕ) (b : Bool) → p a ≡ b
    → find p (a ∷ rest) ≡ cond b (Some a) (find p rest)
find_step p a rest b e = rw e refl

-- no number of the range passes
pub find_none : (p : ℕ → Bool) (a n : ℕ) → ((i : ℕ) → a ≤ i → i < a + n → p i ≡ false)
    → find p (range_with_len a n) ≡ None
find_none p a zero h = refl
find_none p a (suc n) h =
    find_step p a (range_with_len (a + 1) n) false (h a (omega arith) (omega arith))
    ∙ find_none p (a + 1) n (λ i lo hi. h i (omega (arith, lo)) (omega (arith, hi)))

-- this one passes, and none before it
pub find_first : (p : ℕ → Bool) (a n i : ℕ) → a ≤ i → i < a + n → p i ≡ true
    → ((j : ℕ) → a ≤ j → j < i → p j ≡ false) → find p (range_with_len a n) ≡ Some i
find_first p a zero i lo hi e h = absurd (let f : ⊥ = omega (arith, lo, hi) in f)
find_first p a (suc n) i lo hi e h = elim (cases_lt a i) [
  | inl less ↦ find_step p a (range_with_len (a + 1) n) false (h a (omega arith) less)
      ∙ find_first p (a + 1) n i (omega (arith, less)) (omega (arith, hi)) e
      (λ j jlo jhi. h j (omega (arith, jlo)) jhi)
  | inr more ↦ (let same : a ≡ i = omega (arith, lo, more) in
      find_step p a (range_with_len (a + 1) n) true (rw same e) ∙ ap Some same)
]

-- two tests that agree on the range find the same
pub find_agree : (p q : ℕ → Bool) (a n : ℕ) → ((i : ℕ) → a ≤ i → i < a + n → p i ≡ q i)
    → find p (range_with_len a n) ≡ find q (range_with_len a n)
find_agree p q a zero h = refl
find_agree p q a (suc n) h =
    let rest = find_agree p q (a + 1) n (λ i lo hi. h i (omega (arith, lo)) (omega (arith, hi))) in
    rw (h a (omega arith) (omega arith), rest) refl

-- ---- the bytes up to the first gap

-- where no byte follows, they are those before
pub up_to_gap-append : (xs : List ℕ) (rest : List (Option ℕ)) → up_to_gap rest ≡ []
    → up_to_gap (map Some xs ++ rest) ≡ xs
up_to_gap-append [] rest h = h
up_to_gap-append (x ∷ xs) rest h = ap (λ ys. x ∷ ys) (up_to_gap-append xs rest h)

-- all of them where there is no gap
pub up_to_gap-map : (xs : List ℕ) → up_to_gap (map Some xs) ≡ xs
up_to_gap-map [] = refl
up_to_gap-map (x ∷ xs) = ap (λ ys. x ∷ ys) (up_to_gap-map xs)

-- none where a gap comes first
up_to_gap-gaps : (k n : ℕ) (rest : List (Option ℕ)) → 0 < n
    → up_to_gap (take k (replicate n None ++ rest)) ≡ []
up_to_gap-gaps zero n rest h = refl
up_to_gap-gaps (suc k) zero rest h = absurd (let f : ⊥ = omega (arith, h) in f)
up_to_gap-gaps (suc k) (suc n) rest h = refl

-- ---- the blocks that a range touches

-- a range touches a block that has a byte of it, and at the end of the plaintext the last block
abbrev pub Touches : Layout → ℕ → ℕ → ℕ → Type 0
Touches layout at n i = (0 < n)
    × (((i * layout.block_length < at + n) × (at < (i + 1) * layout.block_length))
    ⊎ ((at + n ≡ plain_length layout) × (i + 1 ≡ blocks layout)))

-- the test of touching says so
pub touches-true : (layout : Layout) (at n i : ℕ) → touches layout at n i ≡ true → Touches layout at n i
touches-true layout at n i h =
    let parts = and_parts _ _ h in (
      ltb-true 0 n parts.0,
      elim (or_cases _ _ parts.1) [
        | inl both ↦ (let p = and_parts _ _ both in inl (ltb-true _ _ p.0, ltb-true _ _ p.1))
        | inr both ↦ (let p = and_parts _ _ both in inr (eqb-true _ _ p.0, eqb-true _ _ p.1))
      ],
    )

-- a touched block passes the test
pub touches-from : (layout : Layout) (at n i : ℕ) → Touches layout at n i → touches layout at n i ≡ true
touches-from layout at n i (some, inl both) =
    and_from _ _ (lt-ltb _ _ some) (or_left _ _ (and_from _ _ (lt-ltb _ _ both.0) (lt-ltb _ _ both.1)))
touches-from layout at n i (some, inr both) =
    and_from _ _ (lt-ltb _ _ some) (or_right _ _ (and_from _ _ (eq-eqb _ _ both.0) (eq-eqb _ _ both.1)))

-- each touched block of some has a part
abbrev pub HasParts : List ℕ → Layout → ℕ → ℕ → ℕ → Type 0
HasParts bytes layout at n end =
    (i : ℕ) → i < end → touches layout at n i ≡ true → IsSome (part_at bytes layout i)

-- a touched block that has a part isn't refused
not_refused : (touched : Bool) (found : Option (List ℕ)) → (touched ≡ true → IsSome found)
    → (touched && is_none found) ≡ false
not_refused false found h = refl
not_refused true None h = sym (h refl)
not_refused true (Some plain) h = refl

-- ---- the front of a range

-- the whole range is known, and each touched block has a part
pub front_whole : (bytes : List ℕ) (layout : Layout) (at : ℕ) (out : List ℕ)
    → HasPart (content bytes layout) at out → HasParts bytes layout at (length out) (blocks layout)
    → front_at bytes layout at (length out) ≡ record { bytes = out; refused = None }
unfolding front_at first_refused
front_whole bytes layout at out known parts =
    let text : up_to_gap (take (length out) (drop at (content bytes layout))) ≡ out =
    ap up_to_gap (sym known) ∙ up_to_gap-map out in
    let none : find (λ i. touches layout at (length out) i && is_none (part_at bytes layout i))
    (range_with_len 0 (blocks layout)) ≡ None =
    find_none (λ i. touches layout at (length out) i && is_none (part_at bytes layout i)) 0 (blocks layout)
    (λ i lo hi. not_refused (touches layout at (length out) i) (part_at bytes layout i) (parts i (omega (arith, hi)))) in
    rw (text, none) refl

-- a gap stands where the block that is refused begins, or the range ends there
gap_at : (bytes : List ℕ) (layout : Layout) (at n i m : ℕ)
    → IsCut layout.block_length layout.recorded (blocks layout) → layout.recorded ≤ length bytes
    → at + n ≤ plain_length layout → i < blocks layout → Touches layout at n i
    → part_at bytes layout i ≡ None → m ≡ i * layout.block_length - at
    → up_to_gap (take (n - m) (drop (at + m) (content bytes layout))) ≡ []
gap_at bytes layout at n i m cut long range lt touched none e =
    let B : ℕ = layout.block_length in
    let place : at + m ≡ i * B + (at - i * B) = omega (arith, e) in
    let from : drop (i * B) (content bytes layout) ≡ piece bytes layout i
    ++ flat_map (piece bytes layout) (range_with_len (i + 1) (blocks layout - i - 1)) =
    drop_content bytes layout i (blocks layout - i - 1) cut long (omega (arith, lt)) in
    let gaps : piece bytes layout i ≡ replicate (part_length layout i) None =
    ap (with_gaps (part_length layout i)) none in
    let gap : Option ℕ = None in
    let size : length (replicate (part_length layout i) gap) ≡ part_length layout i =
    length-replicate (part_length layout i) gap in
    elim (cases_lt m n) [
      | inl less ↦ (let inside : at - i * B < part_length layout i = in_gap bytes layout at n i m cut range lt touched e less in
          let here : drop (at + m) (content bytes layout) ≡ replicate (part_length layout i - (at - i * B)) None
          ++ flat_map (piece bytes layout) (range_with_len (i + 1) (blocks layout - i - 1)) =
          rw (place, ← drop-drop (at - i * B) (i * B) (content bytes layout), from, gaps)
          (drop-append-le (at - i * B) (replicate (part_length layout i) None) _
          (rw size (omega (arith, inside)))
          ∙ ap (λ xs. xs ++ flat_map (piece bytes layout) (range_with_len (i + 1) (blocks layout - i - 1)))
          (drop-replicate (at - i * B) (part_length layout i) None)) in
          rw here (up_to_gap-gaps (n - m) (part_length layout i - (at - i * B)) _ (omega (arith, inside))))
      | inr more ↦ (let zero : n - m ≡ 0 = omega (arith, more) in rw zero refl)
    ]
  where
    in_gap : (bytes : List ℕ) (layout : Layout) (at n i m : ℕ)
        → IsCut layout.block_length layout.recorded (blocks layout)
        → at + n ≤ plain_length layout → i < blocks layout → Touches layout at n i
        → m ≡ i * layout.block_length - at → m < n → at - i * layout.block_length < part_length layout i
    in_gap bytes layout at n i m cut range lt (some, how) e less = elim (cases_lt (i + 1) (blocks layout)) [
      | inl before ↦ (let whole = whole_part layout.block_length layout.recorded (blocks layout) i cut before in
          elim how [
            | inl both ↦ (rw whole (omega (arith, both.1, cut.some_length)))
            | inr both ↦ absurd (let f : ⊥ = omega (arith, both.1, before) in f)
          ])
      | inr after ↦ (let last = last_part layout.block_length layout.recorded (blocks layout) i cut (omega (arith, lt, after)) in
          omega (arith, last, range, some, e, less))
    ]

-- a block that the range touches has no part, each touched block before it has one, and the bytes before
-- it are known
pub front_refused : (bytes : List ℕ) (layout : Layout) (at n i : ℕ) (seen : List ℕ)
    → IsCut layout.block_length layout.recorded (blocks layout) → layout.recorded ≤ length bytes
    → at + n ≤ plain_length layout → i < blocks layout → Touches layout at n i
    → part_at bytes layout i ≡ None → HasParts bytes layout at n i
    → length seen ≡ i * layout.block_length - at → length seen ≤ n → HasPart (content bytes layout) at seen
    → front_at bytes layout at n ≡ record { bytes = seen; refused = Some i }
unfolding front_at first_refused
front_refused bytes layout at n i seen cut long range lt touched none parts size fits known =
    let test : ℕ → Bool = λ j. touches layout at n j && is_none (part_at bytes layout j) in
    let m : ℕ = length seen in
    let split : take n (drop at (content bytes layout))
    ≡ map Some seen ++ take (n - m) (drop (at + m) (content bytes layout)) =
    split_take n m (drop at (content bytes layout)) fits
    ∙ ap (λ xs. xs ++ take (n - m) (drop m (drop at (content bytes layout)))) (sym known)
    ∙ ap (λ xs. map Some seen ++ take (n - m) xs) (drop-drop m at (content bytes layout)) in
    let text : up_to_gap (take n (drop at (content bytes layout))) ≡ seen =
    ap up_to_gap split
    ∙ up_to_gap-append seen (take (n - m) (drop (at + m) (content bytes layout)))
    (gap_at bytes layout at n i m cut long range lt touched none size) in
    let first : find test (range_with_len 0 (blocks layout)) ≡ Some i =
    find_first test 0 (blocks layout) i (omega arith) (omega (arith, lt))
    (rw (touches-from layout at n i touched, none) refl)
    (λ j lo hi. not_refused (touches layout at n j) (part_at bytes layout j) (parts j hi)) in
    rw (text, first) refl
  where
    split_take : (n m : ℕ) (xs : List (Option ℕ)) → m ≤ n → take n xs ≡ take m xs ++ take (n - m) (drop m xs)
    split_take n zero xs h = ap (λ k. take k xs) (let e : n ≡ n - 0 = omega arith in e)
    split_take zero (suc m) xs h = absurd (let f : ⊥ = omega (arith, h) in f)
    split_take (suc n) (suc m) [] h = sym (take_all (suc n - suc m) [] (omega arith))
    split_take (suc n) (suc m) (x ∷ xs) h =
        let e : suc n - suc m ≡ n - m = omega arith in
        rw e (ap (λ ys. x ∷ ys) (split_take n m xs (omega (arith, h))))

-- ---- bytes after the recorded length aren't read

-- two functions that agree make the same pieces
flat_map_agree : {X : Type 0} (f g : ℕ → List X) (xs : List ℕ) → ((x : ℕ) → f x ≡ g x)
    → flat_map f xs ≡ flat_map g xs
flat_map_agree f g [] h = refl
flat_map_agree f g (x ∷ xs) h = rw (h x, flat_map_agree f g xs h) refl

-- the front of a range is one of the bytes up to the recorded length
pub front_of_front : (bytes : List ℕ) (layout : Layout) (at n : ℕ)
    → front_at (take layout.recorded bytes) layout at n ≡ front_at bytes layout at n
unfolding front_at first_refused content
front_of_front bytes layout at n =
    let known : flat_map (λ i. with_gaps (part_length layout i) (part_at (take layout.recorded bytes) layout i))
    (range_with_len 0 (blocks layout))
    ≡ flat_map (λ i. with_gaps (part_length layout i) (part_at bytes layout i)) (range_with_len 0 (blocks layout)) =
    flat_map_agree (λ i. with_gaps (part_length layout i) (part_at (take layout.recorded bytes) layout i))
    (λ i. with_gaps (part_length layout i) (part_at bytes layout i)) (range_with_len 0 (blocks layout))
    (λ i. ap (with_gaps (part_length layout i)) (part_of_front bytes layout i)) in
    let first : find (λ i. touches layout at n i && is_none (part_at (take layout.recorded bytes) layout i))
    (range_with_len 0 (blocks layout))
    ≡ find (λ i. touches layout at n i && is_none (part_at bytes layout i)) (range_with_len 0 (blocks layout)) =
    find_agree (λ i. touches layout at n i && is_none (part_at (take layout.recorded bytes) layout i))
    (λ i. touches layout at n i && is_none (part_at bytes layout i)) 0 (blocks layout)
    (λ i lo hi. ap (λ p. touches layout at n i && is_none p) (part_of_front bytes layout i)) in
    rw (known, first) refl
