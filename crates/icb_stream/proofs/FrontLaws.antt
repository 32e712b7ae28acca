-- How the fronts of ranges follow one another, and how long they are.
use Rattle.std.proofs.Common.{◌≡◌, ℕ, zero, suc, ◌+◌, ◌-◌, ◌*◌, ◌<◌, ◌≤◌, ◌⊎◌, inl, inr, min, Bool, true, false, ◌&&◌, List, [], ◌∷◌, ◌++◌, length, take, drop, map, replicate, Option, Some, None, refl, ap, sym, subst, ◌∙◌, arith, length-take, length-drop, length-append, append_assoc}
use Rattle.std.specs.Prelude.{IsSome, is_none, find}
use Rattle.std.specs.List.{flat_map, range_with_len}
use Rattle.std.proofs.Math.Nat.{mul-le-mul_right}
use Rattle.std.proofs.lemmas.Bool.{cases_lt, and_parts}
use Rattle.std.proofs.lemmas.List.{length-map, length-replicate, length-take-le, take_at, drop-drop, take-append-le, drop-append-le, take-map, drop-map, map-append, append-nil, take_all}
use Rattle.icb_base.specs.Contents.{HasPart}
use Rattle.icb_stream.specs.Cut.{IsCut}
use Rattle.icb_stream.proofs.CutLemmas.{cut_facts}
use Rattle.icb_stream.proofs.PartLemmas.{part_begins, part_ends, place_in_part, whole_part, last_part, plain_fits}
use Rattle.icb_stream.specs.Layout.{Layout, blocks, plain_length, part_length, part_at}
use Rattle.icb_stream.specs.Content.{with_gaps, content, touches, first_refused, up_to_gap, Front, front_at, front_of, joined, plaintext}
use Rattle.icb_stream.proofs.ContentLemmas.{piece, length-piece, drop_content, length-part}
use Rattle.icb_stream.proofs.FrontLemmas.{Touches, touches-true, touches-from, HasParts, find_none, find_agree, up_to_gap-map, front_refused as refused_front}
use Rattle.icb_stream.specs.Opening.{IsOpen}
use Rattle.icb_stream.specs.Progress.{with_part}

-- ---- one more part of a range

-- the front of a list and a list after it
take_both : {X : Type 0} (xs ys zs : List X) (n : ℕ) → length xs + length ys ≡ n
    → take n (xs ++ (ys ++ zs)) ≡ xs ++ ys
take_both xs ys zs n e =
    rw (← append_assoc xs ys zs) (take_at (xs ++ ys) zs n (length-append xs ys ∙ e))

-- so many of a list, and so many of what is left
take_sum : {X : Type 0} (m c : ℕ) (xs : List X) → take (m + c) xs ≡ take m xs ++ take c (drop m xs)
take_sum zero c xs = let e : 0 + c ≡ c = omega arith in rw e refl
take_sum (suc m) c [] = take_all (suc m + c) [] (omega arith) ∙ sym (take_all c [] (omega arith))
take_sum (suc m) c (x ∷ xs) =
    let e : suc m + c ≡ suc (m + c) = omega arith in rw e (ap (λ ys. x ∷ ys) (take_sum m c xs))

-- a part's bytes in their places are known, and those before it
pub known_more : (known rest : List (Option ℕ)) (out plain : List ℕ) (at first k : ℕ)
    → first ≤ at + length out → at ≤ first + length plain
    → drop first known ≡ map Some plain ++ rest
    → HasPart known at (take (first - at) out)
    → (let n : ℕ = first - at + min (length plain - (at - first)) (length out - (first - at)) in
    (k ≡ n) ⊎ ((n ≡ length out) × (length out ≤ k)))
    → HasPart known at (take k (with_part plain first at out))
known_more known rest out plain at first k begins ends from before end =
    let m : ℕ = first - at in
    let s : ℕ = at - first in
    let c : ℕ = min (length plain - s) (length out - m) in
    let front : List ℕ = take m out in
    let new : List ℕ = take c (drop s plain) in
    let size : length front ≡ m = length-take-le m out (omega (arith, begins)) in
    let size_new : length new ≡ c = length-take-le c (drop s plain) (simp length-drop (omega arith)) in
    let place : at + m ≡ first + s = omega arith in
    let some : drop s (map Some plain ++ rest) ≡ map Some (drop s plain) ++ rest =
    drop-append-le s (map Some plain) rest (rw (length-map plain Some) (omega (arith, ends)))
    ∙ ap (λ xs. xs ++ rest) (drop-map Some s plain) in
    let here : drop m (drop at known) ≡ map Some (drop s plain) ++ rest =
    drop-drop m at known ∙ ap (λ n. drop n known) place ∙ sym (drop-drop s first known)
    ∙ ap (λ xs. drop s xs) from ∙ some in
    let bytes : take c (drop m (drop at known)) ≡ map Some new =
    ap (λ xs. take c xs) here
    ∙ take-append-le c (map Some (drop s plain)) rest
    (rw (length-map (drop s plain) Some) (simp length-drop (omega arith)))
    ∙ take-map Some c (drop s plain) in
    let old : map Some front ≡ take m (drop at known) = before ∙ ap (λ n. take n (drop at known)) size in
    let both : map Some (front ++ new) ≡ take (m + c) (drop at known) =
    map-append Some front new ∙ ap (λ xs. xs ++ map Some new) old
    ∙ ap (λ xs. take m (drop at known) ++ xs) (sym bytes) ∙ sym (take_sum m c (drop at known)) in
    let sizes : length front + length new ≡ m + c = omega (arith, size, size_new) in
    let written : take (m + c) (with_part plain first at out) ≡ front ++ new =
    take_both front new (drop (m + c) out) (m + c) sizes in
    let same : take k (with_part plain first at out) ≡ front ++ new = elim end [
      | inl e ↦ (rw e written)
      | inr e ↦ (let all : length (with_part plain first at out) ≡ m + c =
          length-append front (new ++ drop (m + c) out)
          ∙ ap (λ n. length front + n) (length-append new (drop (m + c) out))
          ∙ (let left : length (drop (m + c) out) ≡ 0 = simp length-drop (omega (arith, e.0)) in
          omega (arith, left, size, size_new)) in
          take_all k (with_part plain first at out) (omega (arith, all, e.0, e.1))
          ∙ sym (take_all (m + c) (with_part plain first at out) (omega (arith, all))) ∙ written)
    ] in
    rw same (both ∙ ap (λ n. take n (drop at known)) (sym (length-append front new ∙ sizes)))

-- a buffer with the bytes of one more part has as many bytes
pub length-with_part : (plain : List ℕ) (first at : ℕ) (out : List ℕ)
    → length (with_part plain first at out) ≡ length out
length-with_part plain first at out = simp (length-append, length-take, length-drop) (omega arith)

-- the end of a part's bytes in the buffer: where the next part begins, or the end of the buffer
pub part_reaches : (layout : Layout) (at n number size : ℕ)
    → IsCut layout.block_length layout.recorded (blocks layout)
    → number < blocks layout → at + n ≤ plain_length layout → number * layout.block_length ≤ at + n
    → at ≤ number * layout.block_length + part_length layout number → size ≡ part_length layout number
    → (let m : ℕ = number * layout.block_length - at
    + min (size - (at - number * layout.block_length)) (n - (number * layout.block_length - at)) in
    ((number + 1) * layout.block_length - at ≡ m)
    ⊎ ((m ≡ n) × (n ≤ (number + 1) * layout.block_length - at)))
part_reaches layout at n number k cut lt range begins ends size = elim (cases_lt (number + 1) (blocks layout)) [
  | inl inner ↦ (let whole = whole_part layout.block_length layout.recorded (blocks layout) number cut inner in
      elim (cases_lt ((number + 1) * layout.block_length) (at + n)) [
        | inl more ↦ inl (omega (arith, whole, size, more, ends, begins))
        | inr less ↦ inr (omega (arith, whole, size, less, ends, begins), omega (arith, less))
      ])
  | inr last ↦ (let last_number : number + 1 ≡ blocks layout = omega (arith, lt, last) in
      let plain_end = last_part layout.block_length layout.recorded (blocks layout) number cut last_number in
      let fits = plain_fits layout.block_length layout.recorded (blocks layout) cut in
      let more : (number + 1) * layout.block_length ≡ blocks layout * layout.block_length =
      ap (λ k. k * layout.block_length) last_number in
      inr (omega (arith, plain_end, size, range, begins), omega (arith, fits, more, range)))
]

-- ---- a range whose touched blocks have parts is known

-- the value of a part that is there
value_of : (found : Option (List ℕ)) → IsSome found → (plain : List ℕ) × (found ≡ Some plain)
value_of None h = absurd (let f : ⊥ = cc in f)
value_of (Some plain) h = (plain, refl)

-- some bytes, as many as the range has, of which those before block i are known
pub record KnownTo (bytes : List ℕ) (layout : Layout) (at n i : ℕ) : Type 0 where
  pub out : List ℕ
  pub size : length out ≡ n
  pub known : HasPart (content bytes layout) at (take (i * layout.block_length - at) out)

-- where each touched block before block i has a part
pub known_to : (bytes : List ℕ) (layout : Layout) (at n i : ℕ)
    → IsCut layout.block_length layout.recorded (blocks layout) → layout.recorded ≤ length bytes
    → 0 < n → at + n ≤ plain_length layout → i ≤ blocks layout → HasParts bytes layout at n i
    → KnownTo bytes layout at n i
known_to bytes layout at n zero cut long some range le parts =
    let none : zero * layout.block_length - at ≡ 0 = none_before layout.block_length at in
    record { out = replicate n 0; size = length-replicate n 0; known = rw none refl }
  where
    none_before : (B a : ℕ) → zero * B - a ≡ 0
    none_before B a = grind arith
known_to bytes layout at n (suc i) cut long some range le parts =
    let B : ℕ = layout.block_length in
    let next : suc i * B ≡ i * B + B = grind arith in
    let more : (i + 1) * B ≡ i * B + B = omega arith in
    let before = known_to bytes layout at n i cut long some range (omega (arith, le)) (λ j lt touched. parts j (omega (arith, lt)) touched) in
    elim (cases_lt at (i * B + B)) [
      | inl after ↦ elim (cases_lt (i * B) (at + n)) [
        | inl inside ↦ (let touched : Touches layout at n i = (some, inl (inside, (omega (arith, after)))) in
            let there = value_of (part_at bytes layout i) (parts i (omega arith) (touches-from layout at n i touched)) in
            let size : length there.0 ≡ part_length layout i =
            length-part bytes layout i there.0 cut long (omega (arith, le)) there.1 in
            let ends : at ≤ i * B + part_length layout i =
            place_in_part B layout.recorded (blocks layout) i at cut (omega (arith, le)) (omega (arith, range))
            (omega (arith, more, after)) in
            let from = drop_content bytes layout i (blocks layout - i - 1) cut long (omega (arith, le))
            ∙ ap (λ xs. with_gaps (part_length layout i) xs
            ++ flat_map (piece bytes layout) (range_with_len (i + 1) (blocks layout - i - 1))) there.1 in
            let begins : i * B ≤ at + length before.out = omega (arith, inside, before.size) in
            let reaches = part_reaches layout at (length before.out) i (length there.0) cut (omega (arith, le))
            (omega (arith, range, before.size)) begins ends size in
            let known = known_more (content bytes layout) _ before.out there.0 at (i * B) ((i + 1) * B - at) begins
            (omega (arith, ends, size)) from before.known reaches in
            let same : (i + 1) * B ≡ suc i * B = omega (arith, next, more) in
            let out : List ℕ = with_part there.0 (i * B) at before.out in
            let P : ℕ → Type 0 = λ k. HasPart (content bytes layout) at (take (k - at) out) in
            record {
              out = out;
              size = length-with_part there.0 (i * B) at before.out ∙ before.size;
              known = subst P same known;
            })
        | inr past ↦ (let all : take (suc i * B - at) before.out ≡ take (i * B - at) before.out =
            take_all (suc i * B - at) before.out (omega (arith, next, past, before.size))
            ∙ sym (take_all (i * B - at) before.out (omega (arith, past, before.size))) in
            record { out = before.out; size = before.size; known = rw all before.known })
      ]
      | inr early ↦ (let none : suc i * B - at ≡ 0 = omega (arith, next, early) in
          record { out = before.out; size = before.size; known = rw none refl })
    ]

-- ---- what a front says of the parts

-- no number of the range passes a test that finds none
none_passes : (p : ℕ → Bool) (a n : ℕ) → find p (range_with_len a n) ≡ None
    → (i : ℕ) → a ≤ i → i < a + n → p i ≡ false
none_passes p a zero e i lo hi = absurd (let f : ⊥ = omega (arith, lo, hi) in f)
none_passes p a (suc n) e i lo hi =
    elim (p a) as (λ b. p a ≡ b → p i ≡ false) [
      | true ↦ (λ k. absurd (let found : find p (range_with_len a (suc n)) ≡ Some a = rw k refl in
          let f : ⊥ = cc in f))
      | false ↦ (λ k. elim (cases_lt a i) [
        | inl less ↦ (let rest : find p (range_with_len (a + 1) n) ≡ None = rw k at e in
            none_passes p (a + 1) n rest i (omega (arith, less)) (omega (arith, hi)))
        | inr more ↦ (let same : i ≡ a = omega (arith, lo, more) in rw same k)
      ])
    ] refl

-- the number that is found passes, and none before it does
first_passes : (p : ℕ → Bool) (a n i : ℕ) → find p (range_with_len a n) ≡ Some i
    → (a ≤ i) × (i < a + n) × (p i ≡ true) × ((j : ℕ) → a ≤ j → j < i → p j ≡ false)
first_passes p a zero i e = absurd (let f : ⊥ = cc in f)
first_passes p a (suc n) i e =
    elim (p a) as (λ b. p a ≡ b
    → (a ≤ i) × (i < a + suc n) × (p i ≡ true) × ((j : ℕ) → a ≤ j → j < i → p j ≡ false)) [
      | true ↦ (λ k. (
          let found : find p (range_with_len a (suc n)) ≡ Some a = rw k refl in
          let same : a ≡ i = cc in (
            omega (arith, same),
            omega (arith, same),
            rw (sym same) k,
            λ j lo hi. absurd (let f : ⊥ = omega (arith, same, lo, hi) in f),
          )))
      | false ↦ (λ k. (
          let rest : find p (range_with_len (a + 1) n) ≡ Some i = rw k at e in
          let later = first_passes p (a + 1) n i rest in (
            omega (arith, later.0),
            omega (arith, later.1),
            later.2,
            λ j lo hi. elim (cases_lt a j) [
              | inl less ↦ later.3 j (omega (arith, less)) hi
              | inr more ↦ (let same : j ≡ a = omega (arith, lo, more) in rw same k)
            ],
          )))
    ] refl

-- a touched block that isn't refused has a part
part_of_test : (touched : Bool) (found : Option (List ℕ)) → (touched && is_none found) ≡ false
    → touched ≡ true → IsSome found
part_of_test true None h e = absurd (let f : ⊥ = cc in f)
part_of_test true (Some plain) h e = refl
part_of_test false found h e = absurd (let f : ⊥ = cc in f)

-- a block that is refused has none
no_part : (found : Option (List ℕ)) → is_none found ≡ true → found ≡ None
no_part None h = refl
no_part (Some plain) h = absurd (let f : ⊥ = cc in f)

-- where no block is refused each touched one has a part
pub parts_of_front : (bytes : List ℕ) (layout : Layout) (at n : ℕ)
    → (front_at bytes layout at n).refused ≡ None → HasParts bytes layout at n (blocks layout)
unfolding front_at first_refused
parts_of_front bytes layout at n h i lt touched =
    part_of_test (touches layout at n i) (part_at bytes layout i)
    (none_passes (λ j. touches layout at n j && is_none (part_at bytes layout j)) 0 (blocks layout) h i (omega arith)
    (omega (arith, lt))) touched

-- what is said by the number of the block that is refused
pub record IsRefused (bytes : List ℕ) (layout : Layout) (at n number : ℕ) : Type 0 where
  pub below : number < blocks layout
  pub touched : Touches layout at n number
  pub none : part_at bytes layout number ≡ None
  pub parts : HasParts bytes layout at n number

-- it is the first touched block that has no part
pub refused_of_front : (bytes : List ℕ) (layout : Layout) (at n number : ℕ)
    → (front_at bytes layout at n).refused ≡ Some number → IsRefused bytes layout at n number
unfolding front_at first_refused
refused_of_front bytes layout at n number h =
    let test : ℕ → Bool = λ j. touches layout at n j && is_none (part_at bytes layout j) in
    let first = first_passes test 0 (blocks layout) number h in
    let both = and_parts (touches layout at n number) (is_none (part_at bytes layout number)) first.2 in
    record {
      below = omega (arith, first.1);
      touched = touches-true layout at n number both.0;
      none = no_part (part_at bytes layout number) both.1;
      parts = λ i lt touched. part_of_test (touches layout at n i) (part_at bytes layout i)
          (first.3 i (omega arith) lt) touched;
    }

-- a block that is refused begins in the range or at its end
refused_begins : (layout : Layout) (at n number : ℕ) → IsCut layout.block_length layout.recorded (blocks layout)
    → number < blocks layout → Touches layout at n number → number * layout.block_length ≤ at + n
refused_begins layout at n number cut lt (some, inl both) = omega (arith, both.0)
refused_begins layout at n number cut lt (some, inr both) =
    let begins = part_begins layout.block_length layout.recorded (blocks layout) number cut lt in
    omega (arith, begins, both.0)

-- the bytes before a block that is refused are known
pub record RefusedFront (bytes : List ℕ) (layout : Layout) (at n number : ℕ) : Type 0 where
  pub seen : List ℕ
  pub size : length seen ≡ number * layout.block_length - at
  pub fits : length seen ≤ n
  pub known : HasPart (content bytes layout) at seen
  pub is : front_at bytes layout at n ≡ record { bytes = seen; refused = Some number }

-- a front that ends at a refused block is one
pub refused_front_is : (bytes : List ℕ) (layout : Layout) (at n number : ℕ)
    → IsCut layout.block_length layout.recorded (blocks layout) → layout.recorded ≤ length bytes
    → at + n ≤ plain_length layout → IsRefused bytes layout at n number → RefusedFront bytes layout at n number
refused_front_is bytes layout at n number cut long range r =
    let known = known_to bytes layout at n number cut long r.touched.0 range (omega (arith, r.below)) r.parts in
    let begins = refused_begins layout at n number cut r.below r.touched in
    let m : ℕ = number * layout.block_length - at in
    let fits : m ≤ n = omega (arith, begins) in
    let size : length (take m known.out) ≡ m = length-take-le m known.out (omega (arith, fits, known.size)) in
    record {
      seen = take m known.out;
      size = size;
      fits = omega (arith, size, fits);
      known = known.known;
      is = refused_front bytes layout at n number (take m known.out) cut long range r.below r.touched r.none r.parts
          size (omega (arith, size, fits)) known.known;
    }

-- ---- the laws of fronts

-- the front of an empty range is empty
pub front_empty : (bytes : List ℕ) (layout : Layout) (at : ℕ)
    → front_at bytes layout at 0 ≡ record { bytes = []; refused = None }
unfolding front_at first_refused
front_empty bytes layout at =
    let none : find (λ i. touches layout at 0 i && is_none (part_at bytes layout i)) (range_with_len 0 (blocks layout)) ≡ None =
    find_none (λ i. touches layout at 0 i && is_none (part_at bytes layout i)) 0 (blocks layout) (λ i lo hi. refl) in
    rw none refl

-- the front ends where the block that is refused begins
pub front_length : (bytes : List ℕ) (layout : Layout) (at n number : ℕ)
    → IsOpen bytes layout → at + n ≤ plain_length layout → (front_at bytes layout at n).refused ≡ Some number
    → length (front_at bytes layout at n).bytes ≡ number * layout.block_length - at
front_length bytes layout at n number is_open range h =
    let front = refused_front_is bytes layout at n number (cut_facts _ _ is_open.cut) is_open.long range
    (refused_of_front bytes layout at n number h) in
    let bytes_of : Front → ℕ = λ f. length f.bytes in
    ap bytes_of front.is ∙ front.size

-- a range in which a block is refused has the front of any longer one
pub front_refused : (bytes : List ℕ) (layout : Layout) (at a n number : ℕ)
    → IsOpen bytes layout → at + (a + n) ≤ plain_length layout → (front_at bytes layout at a).refused ≡ Some number
    → front_at bytes layout at (a + n) ≡ front_at bytes layout at a
front_refused bytes layout at a n number is_open range h =
    let cut = cut_facts _ _ is_open.cut in
    let r = refused_of_front bytes layout at a number h in
    let front = refused_front_is bytes layout at a number cut is_open.long (omega (arith, range)) r in
    let begins = refused_begins layout at a number cut r.below r.touched in
    refused_front bytes layout at (a + n) number front.seen cut is_open.long range r.below
    (longer r.touched) r.none (λ j lt touched. r.parts j lt (touches-from layout at a j
    (earlier j lt cut begins r.touched (touches-true layout at (a + n) j touched))))
    front.size (omega (arith, front.fits)) front.known
    ∙ sym front.is
  where
    longer : Touches layout at a number → Touches layout at (a + n) number
    longer (some, inl both) = (omega (arith, some), inl (omega (arith, both.0), both.1))
    longer (some, inr both) = (omega (arith, some), inr (omega (arith, both.0, range), both.1))

    last_below : (j : ℕ) → j < number → j + 1 ≡ blocks layout → ⊥
    last_below j lt last =
        let r = refused_of_front bytes layout at a number h in
        let below = r.below in omega (arith, lt, last, below)

    earlier : (j : ℕ) → j < number → IsCut layout.block_length layout.recorded (blocks layout)
        → number * layout.block_length ≤ at + a → Touches layout at a number
        → Touches layout at (a + n) j → Touches layout at a j
    earlier j lt cut begins whole (some, inl both) =
        let le : (j + 1) * layout.block_length ≤ number * layout.block_length =
        mul-le-mul_right layout.block_length (omega (arith, lt)) in
        let some_length = cut.some_length in
        (whole.0, inl (omega (arith, le, begins, some_length), both.1))
    earlier j lt cut begins whole (some, inr both) = absurd (last_below j lt both.1)

-- two tests that are true together are equal
same_test : (b c : Bool) → (b ≡ true → c ≡ true) → (c ≡ true → b ≡ true) → b ≡ c
same_test true true f g = refl
same_test false false f g = refl
same_test true false f g = sym (f refl)
same_test false true f g = g refl

-- known bytes, and then those up to the first gap after them
up_to_gap-known : (xs : List ℕ) (rest : List (Option ℕ)) → up_to_gap (map Some xs ++ rest) ≡ xs ++ up_to_gap rest
up_to_gap-known [] rest = refl
up_to_gap-known (x ∷ xs) rest = ap (λ ys. x ∷ ys) (up_to_gap-known xs rest)

-- the same blocks are refused in a range and in the second part of it, where none is in the first
same_refused : (bytes : List ℕ) (layout : Layout) (at a n i : ℕ) (found : Option (List ℕ))
    → IsCut layout.block_length layout.recorded (blocks layout) → 0 < a → at + (a + n) ≤ plain_length layout
    → (touches layout at a i ≡ true → IsSome found)
    → (touches layout at (a + n) i && is_none found) ≡ (touches layout (at + a) n i && is_none found)
same_refused bytes layout at a n i (Some plain) cut some range there =
    and_none (touches layout at (a + n) i) ∙ sym (and_none (touches layout (at + a) n i))
  where
    and_none : (b : Bool) → (b && false) ≡ false
    and_none true = refl
    and_none false = refl
same_refused bytes layout at a n i None cut some range there =
    ap (λ b. b && true) (same_test (touches layout at (a + n) i) (touches layout (at + a) n i)
    (λ h. touches-from layout (at + a) n i (second (touches-true layout at (a + n) i h)))
    (λ h. touches-from layout at (a + n) i (whole (touches-true layout (at + a) n i h))))
  where
    not_first : Touches layout at a i → ⊥
    not_first h = let f : false ≡ true = there (touches-from layout at a i h) in cc

    whole : Touches layout (at + a) n i → Touches layout at (a + n) i
    whole (k, inl both) = (omega (arith, k), inl (omega (arith, both.0), omega (arith, both.1)))
    whole (k, inr both) = (omega (arith, k), inr (omega (arith, both.0), both.1))

    some_length : 1 ≤ layout.block_length
    some_length = cut.some_length

    inner : i * layout.block_length < at + (a + n) → at < (i + 1) * layout.block_length → Touches layout (at + a) n i
    inner lo hi = elim (cases_lt (at + a) ((i + 1) * layout.block_length)) [
      | inl less ↦ elim (cases_lt 0 n) [
        | inl k ↦ (k, inl ((omega (arith, lo)), less))
        | inr z ↦ absurd (not_first (some, inl ((omega (arith, lo, z)), hi)))
      ]
      | inr more ↦ (let length_some = some_length in
          absurd (not_first (some, inl ((omega (arith, more, length_some)), hi))))
    ]

    second : Touches layout at (a + n) i → Touches layout (at + a) n i
    second (k, inl both) = inner both.0 both.1
    second (k, inr both) = elim (cases_lt 0 n) [
      | inl more ↦ (more, inr ((omega (arith, both.0)), both.1))
      | inr z ↦ absurd (not_first (some, inr ((omega (arith, both.0, z)), both.1)))
    ]

-- where the first part has a byte
joined_some : (bytes : List ℕ) (layout : Layout) (at a n : ℕ) → 0 < a
    → IsOpen bytes layout → at + (a + n) ≤ plain_length layout → (front_at bytes layout at a).refused ≡ None
    → front_at bytes layout at (a + n) ≡ record {
      bytes = (front_at bytes layout at a).bytes ++ (front_at bytes layout (at + a) n).bytes;
      refused = (front_at bytes layout (at + a) n).refused;
    }
unfolding front_at first_refused
joined_some bytes layout at a n some is_open range whole =
    let cut = cut_facts _ _ is_open.cut in
    let parts = parts_of_front bytes layout at a whole in
    let known = known_to bytes layout at a (blocks layout) cut is_open.long some (omega (arith, range)) (omega arith) parts in
    let fits = plain_fits layout.block_length layout.recorded (blocks layout) cut in
    let here_on : List (Option ℕ) = drop at (content bytes layout) in
    let all : take (blocks layout * layout.block_length - at) known.out ≡ known.out =
    take_all (blocks layout * layout.block_length - at) known.out (omega (arith, fits, range, known.size)) in
    let here : map Some known.out ≡ take (length known.out) here_on = rw all at known.known in
    let first : take a here_on ≡ map Some known.out = ap (λ k. take k here_on) (sym known.size) ∙ sym here in
    let text : up_to_gap (take (a + n) here_on)
    ≡ up_to_gap (take a here_on) ++ up_to_gap (take n (drop (at + a) (content bytes layout))) =
    ap up_to_gap (take_sum a n here_on)
    ∙ ap (λ xs. up_to_gap (xs ++ take n (drop a here_on))) first
    ∙ up_to_gap-known known.out (take n (drop a here_on))
    ∙ ap (λ xs. xs ++ up_to_gap (take n (drop a here_on))) (sym (ap up_to_gap first ∙ up_to_gap-map known.out))
    ∙ ap (λ xs. up_to_gap (take a here_on) ++ up_to_gap (take n xs)) (drop-drop a at (content bytes layout)) in
    let refused : find (λ i. touches layout at (a + n) i && is_none (part_at bytes layout i)) (range_with_len 0 (blocks layout))
    ≡ find (λ i. touches layout (at + a) n i && is_none (part_at bytes layout i)) (range_with_len 0 (blocks layout)) =
    find_agree (λ i. touches layout at (a + n) i && is_none (part_at bytes layout i))
    (λ i. touches layout (at + a) n i && is_none (part_at bytes layout i)) 0 (blocks layout)
    (λ i lo hi. same_refused bytes layout at a n i (part_at bytes layout i) cut some range
    (λ touched. parts i (omega (arith, hi)) touched)) in
    rw (text, refused) refl

-- the front of a range that has no refused block, and then that of the range after it
pub front_joined : (bytes : List ℕ) (layout : Layout) (at a n : ℕ)
    → IsOpen bytes layout → at + (a + n) ≤ plain_length layout → (front_at bytes layout at a).refused ≡ None
    → front_at bytes layout at (a + n) ≡ record {
      bytes = (front_at bytes layout at a).bytes ++ (front_at bytes layout (at + a) n).bytes;
      refused = (front_at bytes layout (at + a) n).refused;
    }
front_joined bytes layout at zero n is_open range whole =
    let none : zero + n ≡ n = omega arith in
    let same : at + zero ≡ at = omega arith in
    rw (none, same, front_empty bytes layout at) refl
front_joined bytes layout at (suc m) n is_open range whole =
    joined_some bytes layout at (suc m) n (omega arith) is_open range whole

-- ---- the whole plaintext

-- parts that are all there, one after another, and what is known of them
pub record Joined (parts : ℕ → Option (List ℕ)) (size : ℕ → ℕ) (a n : ℕ) : Type 0 where
  pub plain : List ℕ
  pub joined : joined (map parts (range_with_len a n)) ≡ Some plain
  pub known : flat_map (λ i. with_gaps (size i) (parts i)) (range_with_len a n) ≡ map Some plain

-- one more part before them
joined_more : (parts : ℕ → Option (List ℕ)) (size : ℕ → ℕ) (a n : ℕ) (plain : List ℕ)
    → parts a ≡ Some plain → Joined parts size (a + 1) n → Joined parts size a (suc n)
joined_more parts size a n plain e rest = record {
  plain = plain ++ rest.plain;
  joined = rw (e, rest.joined) refl;
  known = rw (e, rest.known) (sym (map-append Some plain rest.plain));
}

joined_parts : (parts : ℕ → Option (List ℕ)) (size : ℕ → ℕ) (a n : ℕ)
    → ((i : ℕ) → a ≤ i → i < a + n → IsSome (parts i)) → Joined parts size a n
joined_parts parts size a zero there = record { plain = []; joined = refl; known = refl }
joined_parts parts size a (suc n) there =
    let first = value_of (parts a) (there a (omega arith) (omega arith)) in
    joined_more parts size a n first.0 first.1
    (joined_parts parts size (a + 1) n (λ i lo hi. there i (omega (arith, lo)) (omega (arith, hi))))

-- no more is known than the plaintext's length
content_fits : (bytes : List ℕ) (layout : Layout)
    → IsCut layout.block_length layout.recorded (blocks layout) → layout.recorded ≤ length bytes
    → length (content bytes layout) ≤ plain_length layout
content_fits bytes layout cut long =
    let B : ℕ = layout.block_length in
    let i : ℕ = blocks layout - 1 in
    let some = cut.some_blocks in
    let from = drop_content bytes layout i 0 cut long (omega (arith, some)) in
    let size : length (piece bytes layout i) ≡ part_length layout i =
    length-piece bytes layout i cut long (omega (arith, some)) in
    let last = last_part B layout.recorded (blocks layout) i cut (omega (arith, some)) in
    let left : length (content bytes layout) - i * B ≡ part_length layout i =
    sym (length-drop (i * B) (content bytes layout)) ∙ ap length from
    ∙ ap length (append-nil (piece bytes layout i)) ∙ size in
    omega (arith, left, last)

-- where no block is refused the front of the whole plaintext is the plaintext
pub whole_front : (bytes : List ℕ) (layout : Layout) → IsOpen bytes layout
    → (front_of bytes layout).refused ≡ None → plaintext bytes layout ≡ Some (front_of bytes layout).bytes
unfolding front_at content
whole_front bytes layout is_open h =
    let cut = cut_facts _ _ is_open.cut in
    let parts = parts_of_front bytes layout 0 (plain_length layout) h in
    let all = joined_parts (part_at bytes layout) (part_length layout) 0 (blocks layout)
    (λ i lo hi. part_there bytes layout i cut is_open.first_part parts (omega (arith, hi))) in
    let fits = content_fits bytes layout cut is_open.long in
    let text : up_to_gap (take (plain_length layout) (flat_map (λ i. with_gaps (part_length layout i) (part_at bytes layout i))
    (range_with_len 0 (blocks layout)))) ≡ all.plain =
    ap up_to_gap (take_all (plain_length layout) _ fits ∙ all.known) ∙ up_to_gap-map all.plain in
    all.joined ∙ ap Some (sym text)
  where
    part_there : (bytes : List ℕ) (layout : Layout) (i : ℕ) → IsCut layout.block_length layout.recorded (blocks layout)
        → IsSome (part_at bytes layout 0) → HasParts bytes layout 0 (plain_length layout) (blocks layout)
        → i < blocks layout → IsSome (part_at bytes layout i)
    part_there bytes layout zero cut first parts lt = first
    part_there bytes layout (suc i) cut first parts lt =
        let begins = part_begins layout.block_length layout.recorded (blocks layout) (suc i) cut lt in
        let some_length = cut.some_length in
        let product : suc i * layout.block_length ≡ i * layout.block_length + layout.block_length = grind arith in
        let next : (suc i + 1) * layout.block_length ≡ suc i * layout.block_length + layout.block_length = omega arith in
        let some : 0 < plain_length layout = omega (arith, begins, product, some_length) in
        parts (suc i) lt (touches-from layout 0 (plain_length layout) (suc i) (
          some,
          elim (cases_lt (suc i + 1) (blocks layout)) [
            | inl inner ↦ inl (let ends = part_ends layout.block_length layout.recorded (blocks layout) (suc i) cut inner in
                (omega (arith, ends, next, some_length), omega (arith, next, some_length)))
            | inr last ↦ inr ((omega arith), (omega (arith, lt, last)))
          ],
        ))
