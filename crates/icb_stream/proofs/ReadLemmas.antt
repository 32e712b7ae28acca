-- How far a read of a range has come, block by block.
use Rattle.std.proofs.Common.{◌≡◌, ℕ, suc, ◌+◌, ◌-◌, ◌*◌, ◌<◌, ◌≤◌, ◌⊎◌, inl, inr, min, List, [], ◌∷◌, ◌++◌, length, take, drop, map, replicate, get_or, true, Option, Some, None, Ok, Err, refl, ap, sym, subst, ◌∙◌, arith, length-take, length-drop}
use Rattle.std.specs.Prelude.{IfSome, IsSomeAnd, nat_lt}
use Rattle.std.specs.List.{flat_map, range_with_len}
use Rattle.std.proofs.Math.Nat.{mul-le-mul_right, lt_of_mul-lt-mul_right}
use Rattle.std.proofs.lemmas.Bool.{cases_lt, eqb-true, ltb-true}
use Rattle.std.proofs.lemmas.List.{get_or_append_left, get_or-append_right, get_or-drop, get_or-map, get_or-replicate, get_or-take, length-map, length-replicate, length-take-le}
use Rattle.icb_base.specs.Contents.{HasPart}
use Rattle.icb_base.specs.Objects.{Objects, object_at}
use Rattle.icb_stream.specs.Asking.{has_number}
use Rattle.icb_stream.specs.Belongs.{BelongsTo, HeldBlock, StreamValue}
use Rattle.icb_stream.specs.Content.{content, front_at}
use Rattle.icb_stream.specs.Cut.{IsCut}
use Rattle.icb_stream.specs.Layout.{Layout, blocks, plain_length, part_length, part_at}
use Rattle.icb_stream.specs.Progress.{Loads, ReadsPart, with_block, with_part}
use Rattle.icb_stream.specs.Reading.{IsZeroOrKnown, ReadsSlice}
use Rattle.icb_stream.proofs.ContentLemmas.{piece, part_facts, drop_content, length-part}
use Rattle.icb_stream.proofs.CutLemmas.{cut_facts}
use Rattle.icb_stream.proofs.FrontLaws.{length-with_part}
use Rattle.icb_stream.proofs.FrontLemmas.{Touches, touches-true, HasParts, front_whole, front_refused}
use Rattle.icb_stream.proofs.OpeningLemmas.{at_object}
use Rattle.icb_stream.proofs.PartLemmas.{last_part, part_begins, whole_part}
use Rattle.icb_stream.specs.declared.fault.StreamFault.{StreamFault}
use Rattle.icb_stream.specs.declared.fault.StreamFault.TheVariants.{BadLength, Block, BlockLength, Magic, Missing, NoMemory, Short, Store}

-- ---- places of a buffer

-- a byte of a buffer with the bytes of one more part: the part's byte where it has that place
pub with_part_at : (plain : List ℕ) (first at : ℕ) (out : List ℕ) (i : ℕ) → i < length out
    → first ≤ at + i → at + i < first + length plain
    → get_or (with_part plain first at out) i 0 ≡ get_or plain (at + i - first) 0
with_part_at plain first at out i lt lo hi =
    let m : ℕ = first - at in
    let s : ℕ = at - first in
    let c : ℕ = min (length plain - s) (length out - m) in
    let front : length (take m out) ≡ m = length-take-le m out (omega (arith, lt, lo)) in
    let new : length (take c (drop s plain)) ≡ c = length-take-le c (drop s plain) (simp length-drop (omega arith)) in
    let place : s + (i - m) ≡ at + i - first = omega (arith, lo) in
    get_or-append_right (take m out) (take c (drop s plain) ++ drop (m + c) out) m i 0 front (omega (arith, lo))
    ∙ get_or_append_left (take c (drop s plain)) (drop (m + c) out) 0 (i - m) (omega (arith, new, lt, lo, hi))
    ∙ get_or-take c (drop s plain) (i - m) 0 (omega (arith, lt, lo, hi))
    ∙ get_or-drop s plain (i - m) 0
    ∙ ap (λ k. get_or plain k 0) place

-- and the buffer's own before the part
pub with_part_before : (plain : List ℕ) (first at : ℕ) (out : List ℕ) (i : ℕ) → i < length out
    → at + i < first → get_or (with_part plain first at out) i 0 ≡ get_or out i 0
with_part_before plain first at out i lt before =
    let m : ℕ = first - at in
    let c : ℕ = min (length plain - (at - first)) (length out - m) in
    get_or_append_left (take m out) (take c (drop (at - first) plain) ++ drop (m + c) out) 0 i
    (simp length-take (omega (arith, lt, before)))
    ∙ get_or-take m out i 0 (omega (arith, before))

-- and after it
pub with_part_after : (plain : List ℕ) (first at : ℕ) (out : List ℕ) (i : ℕ) → i < length out
    → first + length plain ≤ at + i → get_or (with_part plain first at out) i 0 ≡ get_or out i 0
with_part_after plain first at out i lt after =
    let m : ℕ = first - at in
    let s : ℕ = at - first in
    let c : ℕ = min (length plain - s) (length out - m) in
    elim (cases_lt m (length out)) [
      | inl some ↦ (let front : length (take m out) ≡ m = length-take-le m out (omega (arith, some)) in
          let new : length (take c (drop s plain)) ≡ c = length-take-le c (drop s plain) (simp length-drop (omega arith)) in
          let place : m + c + (i - m - c) ≡ i = omega (arith, after, lt) in
          get_or-append_right (take m out) (take c (drop s plain) ++ drop (m + c) out) m i 0 front (omega (arith, after))
          ∙ get_or-append_right (take c (drop s plain)) (drop (m + c) out) c (i - m) 0 new (omega (arith, after, lt))
          ∙ get_or-drop (m + c) out (i - m - c) 0
          ∙ ap (λ k. get_or out k 0) place)
      | inr none ↦ get_or_append_left (take m out) (take c (drop s plain) ++ drop (m + c) out) 0 i
          (simp length-take (omega (arith, lt, none)))
          ∙ get_or-take m out i 0 (omega (arith, lt, none))
    ]

-- a byte of a part that is there is known at its place
pub known_in_part : (bytes : List ℕ) (layout : Layout) (i : ℕ) (plain : List ℕ) (k : ℕ)
    → IsCut layout.block_length layout.recorded (blocks layout) → layout.recorded ≤ length bytes
    → i < blocks layout → part_at bytes layout i ≡ Some plain → k < length plain
    → get_or (content bytes layout) (i * layout.block_length + k) None ≡ Some (get_or plain k 0)
known_in_part bytes layout i plain k cut long lt there inside =
    let from = drop_content bytes layout i (blocks layout - i - 1) cut long (omega (arith, lt)) in
    let rest : List (Option ℕ) = flat_map (piece bytes layout) (range_with_len (i + 1) (blocks layout - i - 1)) in
    let here : drop (i * layout.block_length) (content bytes layout) ≡ map Some plain ++ rest = rw there at from in
    sym (get_or-drop (i * layout.block_length) (content bytes layout) k None)
    ∙ ap (λ xs. get_or xs k None) here
    ∙ get_or_append_left (map Some plain) rest None k (rw (length-map plain Some) inside)
    ∙ get_or-map Some plain k 0 None inside

-- bytes that are each known at their place are a part of what is known
pub known_part : (known : List (Option ℕ)) (at : ℕ) (part : List ℕ)
    → ((i : ℕ) → i < length part → get_or known (at + i) None ≡ Some (get_or part i 0))
    → HasPart known at part
known_part known at part each = of_rest (drop at known) part (λ i lt. get_or-drop at known i None ∙ each i lt)
  where
    of_rest : (rest : List (Option ℕ)) (part : List ℕ)
        → ((i : ℕ) → i < length part → get_or rest i None ≡ Some (get_or part i 0))
        → map Some part ≡ take (length part) rest
    of_rest rest [] h = refl
    of_rest [] (b ∷ part) h = absurd (let k = h 0 (omega arith) in let f : ⊥ = cc in f)
    of_rest (k ∷ rest) (b ∷ part) h =
        let first : k ≡ Some b = h 0 (omega arith) in
        rw first (ap (λ ks. Some b ∷ ks) (of_rest rest part (λ i lt. h (suc i) (omega (arith, lt)))))

-- ---- how far a read has come

-- each byte of the range that lies in block i is known
abbrev pub KnownIn : List ℕ → Layout → ℕ → List ℕ → ℕ → Type 0
KnownIn bytes layout at out number = (i : ℕ) → i < length out → number * layout.block_length ≤ at + i
    → at + i < (number + 1) * layout.block_length
    → get_or (content bytes layout) (at + i) None ≡ Some (get_or out i 0)

-- the blocks below this number that the range touches have parts, whose bytes are in the buffer; so are
-- those of the block that was held, and all other bytes are zeros or known too
pub record ReadUpTo (bytes : List ℕ) (layout : Layout) (at : ℕ) (held : Option HeldBlock) (out : List ℕ) (number : ℕ) : Type 0 where
  pub known : (i : ℕ) → i < length out → at + i < number * layout.block_length
      → get_or (content bytes layout) (at + i) None ≡ Some (get_or out i 0)
  pub parts : HasParts bytes layout at (length out) number
  pub held_known : IfSome held (λ block. KnownIn bytes layout at out block.number)
  pub zeros : IsZeroOrKnown bytes layout at out

-- what is known of the bytes of an object and of a range
pub record IsRange (bytes : List ℕ) (layout : Layout) (at n : ℕ) : Type 0 where
  pub cut : IsCut layout.block_length layout.recorded (blocks layout)
  pub long : layout.recorded ≤ length bytes
  pub range : at + n ≤ plain_length layout

-- a byte of the plaintext that lies between the ends of a block lies in its part
in_part : (layout : Layout) (i place : ℕ) → IsCut layout.block_length layout.recorded (blocks layout)
    → i < blocks layout → place < plain_length layout → i * layout.block_length ≤ place
    → place < (i + 1) * layout.block_length → place < i * layout.block_length + part_length layout i
in_part layout i place cut lt below lo hi = elim (cases_lt (i + 1) (blocks layout)) [
  | inl inner ↦ (let whole = whole_part layout.block_length layout.recorded (blocks layout) i cut inner in
      let next : (i + 1) * layout.block_length ≡ i * layout.block_length + layout.block_length = grind arith in
      omega (arith, whole, hi, next))
  | inr last ↦ (let end = last_part layout.block_length layout.recorded (blocks layout) i cut (omega (arith, lt, last)) in
      omega (arith, end, below))
]

-- a part that is there is one of a block of the stream
part_below : (bytes : List ℕ) (layout : Layout) (i : ℕ) (plain : List ℕ)
    → part_at bytes layout i ≡ Some plain → i < blocks layout
unfolding part_at
part_below bytes layout i plain h = ltb-true i (blocks layout) (part_facts (nat_lt i (blocks layout)) _ plain h).0

-- what a part changes of a buffer: the bytes of its block are known, and every other one is as it was
record IsWritten (bytes : List ℕ) (layout : Layout) (at : ℕ) (before now : List ℕ) (number : ℕ) : Type 0 where
  size : length now ≡ length before
  here : KnownIn bytes layout at now number
  other : (i : ℕ) → i < length before
      → (get_or now i 0 ≡ get_or before i 0) ⊎ (get_or (content bytes layout) (at + i) None ≡ Some (get_or now i 0))

-- the buffer with a part of the object
part_written : (bytes : List ℕ) (layout : Layout) (at : ℕ) (out : List ℕ) (number : ℕ) (plain : List ℕ)
    → IsRange bytes layout at (length out) → part_at bytes layout number ≡ Some plain
    → IsWritten bytes layout at out (with_part plain (number * layout.block_length) at out) number
part_written bytes layout at out number plain is there =
    let B : ℕ = layout.block_length in
    let first : ℕ = number * B in
    let lt : number < blocks layout = part_below bytes layout number plain there in
    let size : length plain ≡ part_length layout number = length-part bytes layout number plain is.cut is.long lt there in
    let same : length (with_part plain first at out) ≡ length out = length-with_part plain first at out in
    let inside : (i : ℕ) → i < length out → first ≤ at + i → at + i < first + length plain
    → get_or (content bytes layout) (at + i) None ≡ Some (get_or (with_part plain first at out) i 0) =
    λ i less lo hi.
    let place : first + (at + i - first) ≡ at + i = omega (arith, lo) in
    ap (λ k. get_or (content bytes layout) k None) (sym place)
    ∙ known_in_part bytes layout number plain (at + i - first) is.cut is.long lt there (omega (arith, lo, hi))
    ∙ ap Some (sym (with_part_at plain first at out i less lo hi)) in
    record {
      size = same;
      here = λ i less lo hi.
          let whole : at + i < plain_length layout = omega (arith, is.range, less, same) in
          let end = in_part layout number (at + i) is.cut lt whole lo hi in
          inside i (omega (arith, less, same)) lo (omega (arith, end, size));
      other = λ i less. elim (cases_lt (at + i) first) [
        | inl early ↦ inl (with_part_before plain first at out i less early)
        | inr more ↦ elim (cases_lt (at + i) (first + length plain)) [
          | inl here ↦ inr (inside i less more here)
          | inr late ↦ inl (with_part_after plain first at out i less late)
        ]
      ];
    }

-- a byte that was known still is
still_known : (bytes : List ℕ) (layout : Layout) (at : ℕ) (before now : List ℕ) (number i : ℕ)
    → IsWritten bytes layout at before now number → i < length before
    → get_or (content bytes layout) (at + i) None ≡ Some (get_or before i 0)
    → get_or (content bytes layout) (at + i) None ≡ Some (get_or now i 0)
still_known bytes layout at before now number i is lt h = elim (is.other i lt) [
  | inl same ↦ h ∙ ap Some (sym same)
  | inr known ↦ known
]

-- zeros and known bytes stay so
still_zeros : (bytes : List ℕ) (layout : Layout) (at : ℕ) (before now : List ℕ) (number : ℕ)
    → IsWritten bytes layout at before now number → IsZeroOrKnown bytes layout at before
    → IsZeroOrKnown bytes layout at now
still_zeros bytes layout at before now number is h = λ i less. elim (is.other i (omega (arith, less, is.size))) [
  | inl same ↦ elim (h i (omega (arith, less, is.size))) [
    | inl none ↦ inl (same ∙ none)
    | inr known ↦ inr (known ∙ ap Some (sym same))
  ]
  | inr known ↦ inr known
]

-- no block before that of the first byte is touched
pub untouched_before : (layout : Layout) (at n first : ℕ) → first < blocks layout
    → first * layout.block_length ≤ at → (i : ℕ) → i < first → Touches layout at n i → ⊥
untouched_before layout at n first lt begins i less (some, inl both) =
    let le : (i + 1) * layout.block_length ≤ first * layout.block_length =
    mul-le-mul_right layout.block_length (omega (arith, less)) in
    omega (arith, le, begins, both.1)
untouched_before layout at n first lt begins i less (some, inr both) = omega (arith, less, lt, both.1)

-- and none from the end of the last byte's on
pub untouched_after : (layout : Layout) (at n end : ℕ) → at + n ≤ end * layout.block_length
    → (at + n ≡ plain_length layout → end ≡ blocks layout)
    → (i : ℕ) → i < blocks layout → end ≤ i → Touches layout at n i → ⊥
untouched_after layout at n end reaches last i less more (some, inl both) =
    let product : end * layout.block_length ≤ i * layout.block_length =
    mul-le-mul_right layout.block_length more in
    omega (arith, product, reaches, both.0)
untouched_after layout at n end reaches last i less more (some, inr both) =
    let e = last both.0 in omega (arith, e, less, more)

-- nothing is read yet
pub read_none : (bytes : List ℕ) (layout : Layout) (at n first : ℕ) (zeros : List ℕ)
    → first < blocks layout → first * layout.block_length ≤ at → zeros ≡ replicate n 0
    → ReadUpTo bytes layout at None zeros first
read_none bytes layout at n first zeros lt begins e = record {
  known = λ i less before. absurd (let f : ⊥ = omega (arith, begins, before) in f);
  parts = λ i less touched.
      absurd (untouched_before layout at _ first lt begins i less (touches-true layout at _ i touched));
  held_known = tt;
  zeros = λ i less. inl (ap (λ xs. get_or xs i 0) e
      ∙ get_or-replicate n i 0 0 (let size = ap length e ∙ length-replicate n 0 in omega (arith, less, size)));
}

-- the bytes of the held block are copied before any block is read
pub read_held : (bytes : List ℕ) (layout : Layout) (at : ℕ) (held : Option HeldBlock) (out : List ℕ) (first : ℕ)
    → IsRange bytes layout at (length out) → first * layout.block_length ≤ at
    → IfSome held (λ block. part_at bytes layout block.number ≡ Some block.part)
    → ReadUpTo bytes layout at None out first
    → ReadUpTo bytes layout at held (with_block held layout.block_length at out) first
read_held bytes layout at None out first is begins there before = before
read_held bytes layout at (Some block) out first is begins there before =
    let written = part_written bytes layout at out block.number block.part is there in
    record {
      known = λ i less early. absurd (let f : ⊥ = omega (arith, begins, early) in f);
      parts = λ i less touched. before.parts i less (rw written.size at touched);
      held_known = written.here;
      zeros = still_zeros bytes layout at out _ block.number written before.zeros;
    }

-- one more part is read
read_more : (bytes : List ℕ) (layout : Layout) (at : ℕ) (held : Option HeldBlock) (out : List ℕ) (number : ℕ) (plain : List ℕ)
    → IsRange bytes layout at (length out) → part_at bytes layout number ≡ Some plain
    → ReadUpTo bytes layout at held out number
    → ReadUpTo bytes layout at held (with_part plain (number * layout.block_length) at out) (number + 1)
read_more bytes layout at held out number plain is there before =
    let now : List ℕ = with_part plain (number * layout.block_length) at out in
    let written = part_written bytes layout at out number plain is there in
    record {
      known = λ i less below. elim (cases_lt (at + i) (number * layout.block_length)) [
        | inl early ↦ still_known bytes layout at out now number i written (omega (arith, less, written.size))
            (before.known i (omega (arith, less, written.size)) early)
        | inr late ↦ written.here i less late below
      ];
      parts = λ i less touched. elim (cases_lt i number) [
        | inl below ↦ before.parts i below (rw written.size at touched)
        | inr more ↦ (let here : i ≡ number = omega (arith, less, more) in rw (here, there) refl)
      ];
      held_known = still_held held now written before.held_known;
      zeros = still_zeros bytes layout at out now number written before.zeros;
    }
  where
    still_held : (held : Option HeldBlock) (now : List ℕ) → IsWritten bytes layout at out now number
        → IfSome held (λ block. KnownIn bytes layout at out block.number)
        → IfSome held (λ block. KnownIn bytes layout at now block.number)
    still_held None now written h = tt
    still_held (Some block) now written h = λ i less lo hi.
        still_known bytes layout at out now number i written (omega (arith, less, written.size))
        (h i (omega (arith, less, written.size)) lo hi)

-- the held block isn't read again
pub read_skipped : (bytes : List ℕ) (layout : Layout) (at : ℕ) (block : HeldBlock) (out : List ℕ) (number : ℕ)
    → block.number ≡ number → part_at bytes layout block.number ≡ Some block.part
    → ReadUpTo bytes layout at (Some block) out number → ReadUpTo bytes layout at (Some block) out (number + 1)
read_skipped bytes layout at block out number same there before = record {
  known = λ i less below. elim (cases_lt (at + i) (number * layout.block_length)) [
    | inl early ↦ before.known i less early
    | inr late ↦ before.held_known i less (rw same late) (rw same below)
  ];
  parts = λ i less touched. elim (cases_lt i number) [
    | inl below ↦ before.parts i below touched
    | inr more ↦ (let here : i ≡ block.number = omega (arith, less, more, same) in rw (here, there) refl)
  ];
  held_known = before.held_known;
  zeros = before.zeros;
}

-- ---- what a read answers

-- the step of one block, where it answers Ok
pub step_ok : (bytes : List ℕ) (layout : Layout) (at : ℕ) (held : Option HeldBlock) (out now : List ℕ) (number : ℕ)
    → IsRange bytes layout at (length out)
    → IsSomeAnd (part_at bytes layout number) (λ part. now ≡ with_part part (number * layout.block_length) at out)
    → ReadUpTo bytes layout at held out number → ReadUpTo bytes layout at held now (number + 1)
step_ok bytes layout at held out now number is part before = by_part (part_at bytes layout number) refl part
  where
    by_part : (found : Option (List ℕ)) → part_at bytes layout number ≡ found
        → IsSomeAnd found (λ part. now ≡ with_part part (number * layout.block_length) at out)
        → ReadUpTo bytes layout at held now (number + 1)
    by_part None e h = absurd h
    by_part (Some plain) e h = rw h (read_more bytes layout at held out number plain is e before)

-- what a read that is refused leaves in the buffer and answers
pub record IsRefusedAt (bytes : List ℕ) (layout : Layout) (at : ℕ) (now : List ℕ) (fault : StreamFault) : Type 0 where
  pub slice : ReadsSlice bytes layout at now (Err fault)
  pub zeros : IsZeroOrKnown bytes layout at now

-- and where it doesn't
pub step_err : (bytes : List ℕ) (layout : Layout) (at : ℕ) (held : Option HeldBlock) (out now : List ℕ) (number : ℕ)
    (fault : StreamFault) → IsRange bytes layout at (length out) → number < blocks layout
    → Touches layout at (length out) number → ReadsPart bytes layout number at out now (Err fault)
    → ReadUpTo bytes layout at held out number → IsRefusedAt bytes layout at now fault
step_err bytes layout at held out now number (Block other) is lt touched (name, none, same) before =
    let m : ℕ = number * layout.block_length - at in
    let begins = touched_in layout at (length out) number is.cut lt touched in
    let fits : m ≤ length out = omega (arith, begins) in
    let size : length (take m out) ≡ m = length-take-le m out fits in
    let seen : HasPart (content bytes layout) at (take m out) = known_part (content bytes layout) at (take m out)
    (λ i less. before.known i (omega (arith, less, size, fits)) (omega (arith, less, size))
    ∙ ap Some (sym (get_or-take m out i 0 (omega (arith, less, size))))) in
    let front : front_at bytes layout at (length now) ≡ record { bytes = take m out; refused = Some number } =
    ap (λ xs. front_at bytes layout at (length xs)) same
    ∙ front_refused bytes layout at (length out) number (take m out) is.cut is.long is.range lt touched none
    (λ i less. before.parts i less) size (omega (arith, size, fits)) seen in
    record {
      slice = rw name (rw front (refl, rw (size, same) refl));
      zeros = rw same before.zeros;
    }
  where
    touched_in : (layout : Layout) (at n number : ℕ) → IsCut layout.block_length layout.recorded (blocks layout)
        → number < blocks layout → Touches layout at n number → number * layout.block_length ≤ at + n
    touched_in layout at n number cut lt (some, inl both) = omega (arith, both.0)
    touched_in layout at n number cut lt (some, inr both) =
        let begins = part_begins layout.block_length layout.recorded (blocks layout) number cut lt in
        omega (arith, begins, both.0)
step_err bytes layout at held out now number Store is lt touched same before =
    record { slice = tt; zeros = rw same before.zeros }
step_err bytes layout at held out now number (BadLength n) is lt touched none before = absurd none
step_err bytes layout at held out now number Missing is lt touched none before = absurd none
step_err bytes layout at held out now number (Short n) is lt touched none before = absurd none
step_err bytes layout at held out now number (Magic found) is lt touched none before = absurd none
step_err bytes layout at held out now number (BlockLength n) is lt touched none before = absurd none
step_err bytes layout at held out now number NoMemory is lt touched none before = absurd none

-- all touched blocks were read
read_all : (bytes : List ℕ) (layout : Layout) (at : ℕ) (held : Option HeldBlock) (out : List ℕ) (end : ℕ)
    → end ≤ blocks layout → at + length out ≤ end * layout.block_length
    → (at + length out ≡ plain_length layout → end ≡ blocks layout)
    → ReadUpTo bytes layout at held out end → ReadsSlice bytes layout at out (Ok tt)
read_all bytes layout at held out end le reaches last done =
    let known : HasPart (content bytes layout) at out = known_part (content bytes layout) at out
    (λ i less. done.known i less (omega (arith, less, reaches))) in
    let front = front_whole bytes layout at out known
    (λ i less touched. elim (cases_lt i end) [
      | inl below ↦ done.parts i below touched
      | inr more ↦ absurd (untouched_after layout at (length out) end reaches last i less more
          (touches-true layout at (length out) i touched))
    ]) in
    rw front (refl, refl)

-- nothing was to be read
pub read_nothing : (bytes : List ℕ) (layout : Layout) (at : ℕ) (out : List ℕ) → length out ≡ 0
    → ReadsSlice bytes layout at out (Ok tt)
read_nothing bytes layout at [] e =
    let front = front_whole bytes layout at [] refl (λ i less touched. absurd (none i (touches-true layout at 0 i touched))) in
    rw front (refl, refl)
  where
    none : (i : ℕ) → Touches layout at 0 i → ⊥
    none i h = omega (arith, h.0)
read_nothing bytes layout at (b ∷ out) e = absurd (let f : ⊥ = omega (arith, e) in f)

-- each block from the first byte's on, below the end of the touched ones, is touched
pub next_touched : (layout : Layout) (at n whole first end number : ℕ)
    → 0 < n → whole ≡ at + n → at < (first + 1) * layout.block_length
    → ((i : ℕ) → i < end → (i * layout.block_length < whole)
    ⊎ ((whole ≡ plain_length layout) × (i + 1 ≡ blocks layout)))
    → first ≤ number → number < end → Touches layout at n number
next_touched layout at n whole first end number some e place touched lo hi =
    let product : (first + 1) * layout.block_length ≤ (number + 1) * layout.block_length =
    mul-le-mul_right layout.block_length (omega (arith, lo)) in (
      some,
      elim (touched number hi) [
        | inl less ↦ inl (omega (arith, less, e), omega (arith, product, place))
        | inr last ↦ inr (sym e ∙ last.0, last.1)
      ],
    )

-- where the blocks end that a range touches, which ends at a place
pub record IsEnd (layout : Layout) (at whole first end : ℕ) : Type 0 where
  pub begins : first * layout.block_length ≤ at
  pub reaches : whole ≤ end * layout.block_length
  pub most : end ≤ blocks layout
  pub last : whole ≡ plain_length layout → end ≡ blocks layout

-- a loop over them ends at their end
pub stops : (layout : Layout) (at n whole first end number : ℕ) → IsEnd layout at whole first end → 0 < n → whole ≡ at + n
    → (first ≤ end → number ≤ end) → number ≤ end
stops layout at n whole first end number ends some e bound =
    let less : first * layout.block_length < end * layout.block_length =
    omega (arith, ends.begins, ends.reaches, some, e) in
    let below : first < end = lt_of_mul-lt-mul_right layout.block_length less in
    bound (omega (arith, below))

-- all of them were read
pub read_to_end : (bytes : List ℕ) (layout : Layout) (at : ℕ) (held : Option HeldBlock) (out : List ℕ) (whole first end number : ℕ)
    → IsEnd layout at whole first end → 0 < length out → whole ≡ at + length out
    → (first ≤ end → number ≤ end) → end ≤ number
    → ReadUpTo bytes layout at held out number → ReadsSlice bytes layout at out (Ok tt)
read_to_end bytes layout at held out whole first end number ends some e bound more done =
    let stopped : number ≤ end = stops layout at (length out) whole first end number ends some e bound in
    let same : number ≡ end = omega (arith, stopped, more) in
    read_all bytes layout at held out end ends.most (omega (arith, ends.reaches, e)) (λ f. ends.last (e ∙ f))
    (rw (sym same) done)

-- ---- over a store

-- a read of a range is under way: the stream belongs to what the store holds, and the bytes of the range
-- up to a block are in the buffer
pub record IsReading (files : Objects) (object : List ℕ) (first now : StreamValue) (at : ℕ) (out : List ℕ) (number : ℕ) : Type 0 where
  pub belongs : BelongsTo now files
  pub read : ReadUpTo object first.layout at first.block out number

-- the same for each store that tells what it holds, where the stream belonged to that
abbrev pub Reading : Option Objects → StreamValue → StreamValue → ℕ → List ℕ → ℕ → Type 0
Reading known first now at out number = IfSome known (λ files. (belongs : BelongsTo first files)
    → IsReading files belongs.object first now at out number)

-- what a read of a range stands on
range_of : (files : Objects) (stream : StreamValue) (at n : ℕ) (belongs : BelongsTo stream files)
    → at + n ≤ plain_length stream.layout → IsRange belongs.object stream.layout at n
range_of files stream at n belongs range =
    record { cut = cut_facts _ _ belongs.is_open.cut; long = belongs.is_open.long; range = range }

-- a read begins with the bytes of the block that is held
pub reading_begins : (known : Option Objects) (stream : StreamValue) (at n first : ℕ) (zeros : List ℕ)
    → first < blocks stream.layout → first * stream.layout.block_length ≤ at
    → at + length zeros ≤ plain_length stream.layout → zeros ≡ replicate n 0
    → Reading known stream stream at (with_block stream.block stream.layout.block_length at zeros) first
reading_begins None stream at n first zeros lt begins range e = tt
reading_begins (Some files) stream at n first zeros lt begins range e = λ belongs. record {
  belongs = belongs;
  read = read_held belongs.object stream.layout at stream.block zeros first
      (range_of files stream at (length zeros) belongs range) begins belongs.keeps
      (read_none belongs.object stream.layout at n first zeros lt begins e);
}

-- what a step says of the object, which the stream's path and layout name as they did at first
step_says : (files : Objects) (first mid : StreamValue) (belongs : BelongsTo first files)
    (P : Layout → List ℕ → Type 0) → mid.path ≡ first.path → mid.layout ≡ first.layout
    → IfSome (object_at files mid.path) (λ object. mid.layout.recorded ≤ length object → P mid.layout object)
    → P first.layout belongs.object
step_says files first mid belongs P same_path same_layout h =
    let Q : List ℕ → Type 0 = λ path. IfSome (object_at files path)
    (λ object. mid.layout.recorded ≤ length object → P mid.layout object) in
    let R : Layout → Type 0 = λ layout. layout.recorded ≤ length belongs.object → P layout belongs.object in
    subst R same_layout (at_object files first.path belongs.object
    (λ object. mid.layout.recorded ≤ length object → P mid.layout object) belongs.held (subst Q same_path h))
    belongs.is_open.long

-- a stream that holds nothing, or a part of the object, belongs to what the store holds
still_belongs : (files : Objects) (first new : StreamValue) (belongs : BelongsTo first files)
    → new.path ≡ first.path → new.layout ≡ first.layout
    → IfSome new.block (λ block. part_at belongs.object first.layout block.number ≡ Some block.part)
    → BelongsTo new files
still_belongs files first new belongs same_path same_layout keeps = record {
  object = belongs.object;
  held = ap (λ p. object_at files p) same_path ∙ belongs.held;
  is_open = rw same_layout belongs.is_open;
  keeps = rw same_layout keeps;
}

-- a block that was loaded is held
keeps_loaded : (object : List ℕ) (layout : Layout) (number : ℕ) (now : Option HeldBlock)
    → Loads object layout number now (Ok tt)
    → IfSome now (λ block. part_at object layout block.number ≡ Some block.part)
keeps_loaded object layout number None h = tt
keeps_loaded object layout number (Some block) h = rw h.0 h.1

-- one more block is read
pub reading_more : (known now : Option Objects) (first mid new : StreamValue) (at : ℕ) (before after : List ℕ) (number : ℕ)
    → now ≡ known → mid.path ≡ first.path → mid.layout ≡ first.layout → new.path ≡ mid.path → new.layout ≡ mid.layout
    → at + length before ≤ plain_length first.layout
    → IfSome now (λ files. IfSome (object_at files mid.path) (λ object. mid.layout.recorded ≤ length object
    → ReadsPart object mid.layout number at before after (Ok tt)))
    → IfSome now (λ files. IfSome (object_at files mid.path) (λ object. mid.layout.recorded ≤ length object
    → Loads object mid.layout number new.block (Ok tt)))
    → Reading known first mid at before number → Reading known first new at after (number + 1)
reading_more None now first mid new at before after number same p l q k range part load reading = tt
reading_more (Some files) now first mid new at before after number same p l q k range part load reading = λ belongs.
    let part_here = step_says files first mid belongs
    (λ layout object. ReadsPart object layout number at before after (Ok tt)) p l (rw same at part) in
    let load_here = step_says files first mid belongs
    (λ layout object. Loads object layout number new.block (Ok tt)) p l (rw same at load) in
    record {
      belongs = still_belongs files first new belongs (q ∙ p) (k ∙ l)
          (keeps_loaded belongs.object first.layout number new.block load_here);
      read = step_ok belongs.object first.layout at first.block before after number
          (range_of files first at (length before) belongs range) part_here (reading belongs).read;
    }

-- the block that is held has its number
held_number : (held : Option HeldBlock) (number : ℕ) → has_number held number ≡ true
    → (block : HeldBlock) × (held ≡ Some block) × (block.number ≡ number)
held_number None number h = absurd (let f : ⊥ = cc in f)
held_number (Some block) number h = (block, refl, eqb-true _ _ h)

-- the block that is held isn't read again
pub reading_skips : (known : Option Objects) (first mid : StreamValue) (at : ℕ) (out : List ℕ) (number : ℕ)
    → has_number first.block number ≡ true
    → Reading known first mid at out number → Reading known first mid at out (number + 1)
reading_skips None first mid at out number h reading = tt
reading_skips (Some files) first mid at out number h reading = λ belongs.
    let there = held_number first.block number h in
    let keeps : part_at belongs.object first.layout there.0.number ≡ Some there.0.part =
    held_part belongs.object first.layout first.block there.0 there.1 belongs.keeps in
    let before : ReadUpTo belongs.object first.layout at (Some there.0) out number = rw there.1 at (reading belongs).read in
    let after : ReadUpTo belongs.object first.layout at (Some there.0) out (number + 1) =
    read_skipped belongs.object first.layout at there.0 out number there.2 keeps before in
    record { belongs = (reading belongs).belongs; read = rw there.1 after }
  where
    held_part : (object : List ℕ) (layout : Layout) (held : Option HeldBlock) (block : HeldBlock)
        → held ≡ Some block → IfSome held (λ b. part_at object layout b.number ≡ Some b.part)
        → part_at object layout block.number ≡ Some block.part
    held_part object layout held block e h = rw e at h

-- a read that is refused
pub reading_ends : (known now : Option Objects) (first mid new : StreamValue) (at : ℕ) (before after : List ℕ) (number : ℕ)
    (fault : StreamFault)
    → now ≡ known → mid.path ≡ first.path → mid.layout ≡ first.layout → new.path ≡ mid.path → new.layout ≡ mid.layout
    → new.block ≡ None → at + length before ≤ plain_length first.layout
    → number < blocks first.layout → Touches first.layout at (length before) number
    → IfSome now (λ files. IfSome (object_at files mid.path) (λ object. mid.layout.recorded ≤ length object
    → ReadsPart object mid.layout number at before after (Err fault)))
    → Reading known first mid at before number
    → IfSome known (λ files. (belongs : BelongsTo first files)
    → BelongsTo new files × IsRefusedAt belongs.object first.layout at after fault)
reading_ends None now first mid new at before after number fault same p l q k none range lt touched part reading = tt
reading_ends (Some files) now first mid new at before after number fault same p l q k none range lt touched part reading =
    λ belongs.
    let part_here = step_says files first mid belongs
    (λ layout object. ReadsPart object layout number at before after (Err fault)) p l (rw same at part) in (
      still_belongs files first new belongs (q ∙ p) (k ∙ l) (rw none tt),
      step_err belongs.object first.layout at first.block before after number fault
          (range_of files first at (length before) belongs range) lt touched part_here (reading belongs).read,
    )

-- a read to the end of its blocks
pub reading_whole : (known : Option Objects) (first now : StreamValue) (at : ℕ) (out : List ℕ) (whole start end number : ℕ)
    → IsEnd first.layout at whole start end → 0 < length out → whole ≡ at + length out
    → (start ≤ end → number ≤ end) → end ≤ number → Reading known first now at out number
    → IfSome known (λ files. (belongs : BelongsTo first files)
    → BelongsTo now files × ReadsSlice belongs.object first.layout at out (Ok tt)
    × IsZeroOrKnown belongs.object first.layout at out)
reading_whole None first now at out whole start end number ends some e bound more reading = tt
reading_whole (Some files) first now at out whole start end number ends some e bound more reading = λ belongs. (
  (reading belongs).belongs,
  read_to_end belongs.object first.layout at first.block out whole start end number ends some e bound more
      (reading belongs).read,
  (reading belongs).read.zeros,
)

-- a read of nothing
pub reading_nothing : (known : Option Objects) (stream : StreamValue) (at : ℕ) (out : List ℕ) → length out ≡ 0
    → IfSome known (λ files. (belongs : BelongsTo stream files)
    → ReadsSlice belongs.object stream.layout at out (Ok tt))
reading_nothing None stream at out e = tt
reading_nothing (Some files) stream at out e = λ belongs. read_nothing belongs.object stream.layout at out e

-- one clause of what is known where the stream belongs to the store
pub of_belonging : (known : Option Objects) (stream : StreamValue)
    (P Q : (files : Objects) → BelongsTo stream files → Type 0)
    → ((files : Objects) (belongs : BelongsTo stream files) → P files belongs → Q files belongs)
    → IfSome known (λ files. (belongs : BelongsTo stream files) → P files belongs)
    → IfSome known (λ files. (belongs : BelongsTo stream files) → Q files belongs)
of_belonging None stream P Q more h = tt
of_belonging (Some files) stream P Q more h = λ belongs. more files belongs (h belongs)

-- how a stream is read, from its fields
abbrev pub of_parts : List ℕ → List ℕ → ℕ → ℕ → Layout
of_parts key prefix recorded block_length =
    record { key = key; prefix = prefix; recorded = recorded; block_length = block_length }
