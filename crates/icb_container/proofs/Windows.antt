-- A number is read from the bytes that it takes, whatever follows them.
use Rattle.std.proofs.Common.{◌≡◌, ℕ, ◌+◌, ◌-◌, ◌≤◌, ◌<◌, ◌^◌, zero, suc, min, ltb, Bool, true, false, cond, List, [], ◌∷◌, ◌++◌, length, take, drop, ◌⊎◌, inl, inr, Option, Result, Ok, Err, refl, sym, ap, ◌∙◌, arith, ℤ}
use Rattle.std.proofs.lemmas.List.{drop-append-le, drop-drop, drop_all, length-drop, length-take-le}
use Rattle.std.proofs.lemmas.Bool.{cases_lt}
use Rattle.icb_avro.specs.declared.fault.AvroCause.{AvroCause}
use Rattle.icb_avro.specs.declared.fault.AvroCause.TheVariants as cause
use Rattle.icb_avro.specs.declared.fault.AvroFault.{AvroFault}
use Rattle.icb_avro.specs.declared.fault.Refusal.{Refusal}
use Rattle.icb_avro.specs.Cursor.{Input, Reads}
use Rattle.icb_base.specs.Contents.{FillsKnown, HasPart}
use Rattle.icb_container.specs.Known.{KnownFromTo}
use Rattle.icb_container.specs.Wrong as wrong
use Rattle.icb_container.specs.Wrong.{in_file}
use Rattle.icb_container.proofs.Knowledge.{front_is_known, known_part, part_and_rest}
use Rattle.icb_avro.specs.Reading.{below, long_at, number_at, number_of, read_as, refuse, unzigzag, varint_at}

-- more bytes behind what was read
abbrev extended : {E : Type 0} → List ℕ → Result (ℕ × List ℕ) E → Result (ℕ × List ℕ) E
extended rest (Ok x) = Ok (x.0, x.1 ++ rest)
extended rest (Err c) = Err c

varint_extends : (m : ℕ) (front rest : List ℕ) → (m ≤ length front) ⊎ (rest ≡ []) → varint_at m (front ++ rest) ≡ extended rest (varint_at m front)
unfolding varint_at
varint_extends zero front rest h = refl
varint_extends (suc m) [] rest h = elim h as (λ _. varint_at (suc m) rest ≡ Err cause.End)
    [ inl few ↦ absurd (let f : ⊥ = omega (arith, few) in f) | inr none ↦ rw none refl ]
varint_extends (suc m) (b ∷ front) rest h = by_test (varint_extends m front rest fewer) (ltb b 128)
  where
    fewer : (m ≤ length front) ⊎ (rest ≡ [])
    fewer = elim h as (λ _. (m ≤ length front) ⊎ (rest ≡ [])) [ inl few ↦ inl (omega (arith, few)) | inr none ↦ inr none ]

    lower : (r : Result (ℕ × List ℕ) AvroCause) → below b (extended rest r) ≡ extended rest (below b r)
    lower (Ok x) = refl
    lower (Err c) = refl

    by_test : varint_at m (front ++ rest) ≡ extended rest (varint_at m front) → (t : Bool)
        → cond t (Ok (b, front ++ rest)) (below b (varint_at m (front ++ rest))) ≡ extended rest (cond t (Ok (b, front)) (below b (varint_at m front)))
    by_test e true = refl
    by_test e false = ap (below b) e ∙ lower (varint_at m front)

-- what is read of the front is read of the whole, and is refused at the whole's first byte
abbrev pub of_whole : List ℕ → List ℕ → Result (ℤ × List ℕ) Refusal → Result (ℤ × List ℕ) Refusal
of_whole front rest (Ok x) = Ok (x.0, x.1 ++ rest)
of_whole front rest (Err r) = Err (record { left = length (front ++ rest); cause = r.cause })

pub long_extends : (front rest : List ℕ) → (10 ≤ length front) ⊎ (rest ≡ []) → long_at (front ++ rest) ≡ of_whole front rest (long_at front)
unfolding long_at number_at
long_extends front rest h = ap (λ (v : Result (ℕ × List ℕ) AvroCause). read_as unzigzag (number_of (front ++ rest) v)) (varint_extends 10 front rest h) ∙ by_varint (varint_at 10 front)
  where
    by_test : (x : ℕ × List ℕ) (t : Bool)
        → read_as unzigzag (cond t (Ok (x.0, x.1 ++ rest)) (refuse cause.Long (front ++ rest))) ≡ of_whole front rest (read_as unzigzag (cond t (Ok x) (refuse cause.Long front)))
    by_test x true = refl
    by_test x false = refl

    by_varint : (v : Result (ℕ × List ℕ) AvroCause) → read_as unzigzag (number_of (front ++ rest) (extended rest v)) ≡ of_whole front rest (read_as unzigzag (number_of front v))
    by_varint (Ok x) = by_test x (ltb x.0 (2 ^ 64))
    by_varint (Err c) = refl

-- the window has all bytes that a number may take, or ends where the file does
abbrev pub IsEnough : ℕ → List ℕ → List ℕ → Type 0
IsEnough at piece file = (10 ≤ length piece) ⊎ (at + length piece ≡ length file)

pub is_enough : (at size n : ℕ) (piece file : List ℕ) → at ≤ size → length file ≡ size → n ≡ min (size - at) 10 → length piece ≡ n → IsEnough at piece file
is_enough at size n piece file h whole e is = elim (cases_lt (size - at) 10) as (λ _. IsEnough at piece file)
    [ inl few ↦ inr (omega arith) | inr many ↦ inl (omega arith) ]

no_rest : (at : ℕ) (piece file : List ℕ) → IsEnough at piece file → (10 ≤ length piece) ⊎ (drop (at + length piece) file ≡ [])
no_rest at piece file h = elim h as (λ _. (10 ≤ length piece) ⊎ (drop (at + length piece) file ≡ []))
    [ inl many ↦ inl many | inr ends ↦ inr (drop_all (at + length piece) file (omega arith)) ]

of_file : (known : List (Option ℕ)) (file piece : List ℕ) (at : ℕ) → FillsKnown known file → HasPart known at piece → IsEnough at piece file
    → long_at (drop at file) ≡ of_whole piece (drop (at + length piece) file) (long_at piece)
of_file known file piece at fills is enough =
    ap long_at (part_and_rest known file piece at fills is) ∙ long_extends piece (drop (at + length piece) file) (no_rest at piece file enough)

-- a number that is read of a window is read of the file
pub number_is_read : (known : List (Option ℕ)) (file piece : List ℕ) (at : ℕ) (number : ℤ) (new : Input) (w : Result (ℤ × List ℕ) Refusal)
    → FillsKnown known file → HasPart known at piece → IsEnough at piece file → long_at piece ≡ w → Reads (λ n. n) (Ok number) (record { whole = piece; place = 0 }) new w
    → (in_file (length file) (long_at (drop at file)) ≡ Ok (number, drop (at + new.place) file)) × KnownFromTo known at (at + new.place)
number_is_read known file piece at number new (Err r) fills is enough e reads = absurd reads
number_is_read known file piece at number new (Ok y) fills is enough e reads =
    let rest : List ℕ = drop (at + length piece) file in
    let within : new.place ≤ length piece = omega (arith, reads.2) in
    let unread : drop new.place piece ≡ y.1 = ap (λ (l : List ℕ). drop new.place l) (sym reads.1) ∙ reads.3 in
    let behind : y.1 ++ rest ≡ drop (at + new.place) file =
    ap (λ (l : List ℕ). l ++ rest) (sym unread) ∙ sym (drop-append-le new.place piece rest within) ∙ ap (drop new.place) (sym (part_and_rest known file piece at fills is)) ∙ drop-drop new.place at file in
    let read : long_at (drop at file) ≡ Ok (number, drop (at + new.place) file) =
    of_file known file piece at fills is enough ∙ ap (of_whole piece rest) e ∙ rw (← reads.0, behind) refl in
    let there : KnownFromTo known at (at + new.place) =
    known_part known at (at + new.place) (take new.place piece) (front_is_known known at new.place piece within is) (omega (arith, length-take-le new.place piece within)) in
    (ap (in_file (length file)) read, there)

-- a number that is refused in a window is refused in the file
pub number_is_refused : (known : List (Option ℕ)) (file piece : List ℕ) (at : ℕ) (f : AvroFault) (new : Input) (w : Result (ℤ × List ℕ) Refusal)
    → at ≤ length file → FillsKnown known file → HasPart known at piece → IsEnough at piece file → long_at piece ≡ w
    → Reads {X = ℤ} (λ n. n) (Err f) (record { whole = piece; place = 0 }) new w
    → in_file (length file) (long_at (drop at file)) ≡ Err (wrong.avro at f.cause)
number_is_refused known file piece at f new (Ok y) h fills is enough e reads = absurd reads
number_is_refused known file piece at f new (Err r) h fills is enough e reads =
    let rest : List ℕ = drop (at + length piece) file in
    let all : length (piece ++ rest) ≡ length file - at = ap length (sym (part_and_rest known file piece at fills is)) ∙ length-drop at file in
    let place : length file - length (piece ++ rest) ≡ at = omega (arith, all) in
    let read : in_file (length file) (long_at (drop at file)) ≡ Err (wrong.avro (length file - length (piece ++ rest)) r.cause) =
    ap (in_file (length file)) (of_file known file piece at fills is enough ∙ ap (of_whole piece rest) e) in
    read ∙ rw (place, ← reads.0) refl

varint_shortens : (m : ℕ) (all : List ℕ) (x : ℕ × List ℕ) → varint_at m all ≡ Ok x → length x.1 < length all
unfolding varint_at
varint_shortens zero all x e = absurd cc
varint_shortens (suc m) [] x e = absurd cc
varint_shortens (suc m) (b ∷ all) x e = by_test (varint_shortens m all) (ltb b 128) e
  where
    by_rest : ((z : ℕ × List ℕ) → varint_at m all ≡ Ok z → length z.1 < length all) → (r : Result (ℕ × List ℕ) AvroCause) → varint_at m all ≡ r → below b r ≡ Ok x → length x.1 < length (b ∷ all)
    by_rest less (Ok z) is f = let same : z.1 ≡ x.1 = cc in omega (arith, less z is, ap length same)
    by_rest less (Err c) is f = absurd cc

    by_test : ((z : ℕ × List ℕ) → varint_at m all ≡ Ok z → length z.1 < length all) → (t : Bool) → cond t (Ok (b, all)) (below b (varint_at m all)) ≡ Ok x → length x.1 < length (b ∷ all)
    by_test less true f = let same : all ≡ x.1 = cc in omega (arith, ap length same)
    by_test less false f = by_rest less (varint_at m all) refl f

-- a number takes a byte
pub long_shortens : (all : List ℕ) (y : ℤ × List ℕ) → long_at all ≡ Ok y → length y.1 < length all
unfolding long_at number_at
long_shortens all y e = by_varint (varint_at 10 all) refl e
  where
    by_test : (x : ℕ × List ℕ) → length x.1 < length all → (t : Bool) → read_as unzigzag (cond t (Ok x) (refuse cause.Long all)) ≡ Ok y → length y.1 < length all
    by_test x less true f = let same : x.1 ≡ y.1 = cc in omega (arith, less, ap length same)
    by_test x less false f = absurd cc

    by_varint : (v : Result (ℕ × List ℕ) AvroCause) → varint_at 10 all ≡ v → read_as unzigzag (number_of all v) ≡ Ok y → length y.1 < length all
    by_varint (Ok x) is f = by_test x (varint_shortens 10 all x is) (ltb x.0 (2 ^ 64)) f
    by_varint (Err c) is f = absurd cc

-- a number that is read of a window ends behind its first byte, and in the window
pub number_moves : (piece : List ℕ) (number : ℤ) (new : Input) (w : Result (ℤ × List ℕ) Refusal) → long_at piece ≡ w → Reads (λ n. n) (Ok number) (record { whole = piece; place = 0 }) new w
    → (0 < new.place) × (new.place ≤ length piece)
number_moves piece number new (Err r) e reads = absurd reads
number_moves piece number new (Ok y) e reads = let less = long_shortens piece y e in (omega (arith, less, reads.2), omega (arith, reads.2))
