-- How the search for a word without a place goes on from word to word.
use Rattle.std.proofs.Common.{◌≡◌, ◌∙◌, ◌+◌, ◌-◌, ◌^◌, ◌%◌, ◌<◌, ◌≤◌, ℕ, zero, suc, min, true, false, Bool, not, cond, List, [], ◌∷◌, length, map, take, drop, Option, Some, None, Ok, Err, refl, ap, sym, arith, length-drop}
use Rattle.std.specs.Prelude.{find, slice_index_or, is_some, is_none, bytes_eq}
use Rattle.std.proofs.lemmas.List.{drop-map, take_all}
use Rattle.std.proofs.lemmas.Slice.Eq.{bytes_eq-Decides}
use Rattle.std.specs.List.{range_with_len}
use Rattle.icb_words.specs.Options.{Options, form_of, has_place, is_new_name, misplaced, pairs_from, pairs_unless, position, value_of}
use Rattle.icb_words.specs.declared.forms.ValueForm.{ValueForm}

-- the first word without a place from a number on
unfoldable pub misplaced_from : Options → List (List ℕ) → ℕ → Option ℕ
misplaced_from options pairs at =
    find (λ i. not (has_place options pairs i)) (range_with_len at (length pairs - at))

-- the search begins at the first word
pub first_step : (options : Options) (pairs : List (List ℕ)) → misplaced_from options pairs 0 ≡ misplaced options pairs
unfolding misplaced_from misplaced
first_step options pairs =
    ap (λ n. find (λ i. not (has_place options pairs i)) (range_with_len 0 n)) (let e : length pairs - 0 ≡ length pairs = omega arith in e)

-- one step of a search in a range
find_step : (p : ℕ → Bool) (at n : ℕ) (b : Bool) → p at ≡ b
    → find p (range_with_len at (suc n)) ≡ cond b (Some at) (find p (range_with_len (at + 1) n))
find_step p at n b e = rw e refl

-- a word without a place ends it
pub hit : (options : Options) (pairs : List (List ℕ)) (at : ℕ) → at < length pairs
    → has_place options pairs at ≡ false → misplaced_from options pairs at ≡ Some at
unfolding misplaced_from
hit options pairs at lt e =
    let test : ℕ → Bool = λ i. not (has_place options pairs i) in
    let some : length pairs - at ≡ suc (length pairs - at - 1) = omega arith in
    ap (λ n. find test (range_with_len at n)) some ∙ find_step test at (length pairs - at - 1) true (ap not e)

-- a word with a place is passed
pub miss : (options : Options) (pairs : List (List ℕ)) (at : ℕ) → at < length pairs
    → has_place options pairs at ≡ true → misplaced_from options pairs at ≡ misplaced_from options pairs (at + 1)
unfolding misplaced_from
miss options pairs at lt e =
    let test : ℕ → Bool = λ i. not (has_place options pairs i) in
    let some : length pairs - at ≡ suc (length pairs - (at + 1)) = omega arith in
    ap (λ n. find test (range_with_len at n)) some ∙ find_step test at (length pairs - (at + 1)) false (ap not e)

-- behind the last word none is found
pub last_step : (options : Options) (pairs : List (List ℕ)) (at : ℕ) → length pairs ≤ at
    → misplaced_from options pairs at ≡ None
unfolding misplaced_from
last_step options pairs at le =
    ap (λ n. find (λ i. not (has_place options pairs i)) (range_with_len at n)) (let e : length pairs - at ≡ 0 = omega arith in e)

-- the rest of a list behind its first items, item by item
pub rest_of : {X Y : Type 0} (f : X → Y) (xs : List X) (n : ℕ)
    → map f (take (length xs - n) (drop n xs)) ≡ drop n (map f xs)
rest_of f xs n =
    let all : take (length xs - n) (drop n xs) ≡ drop n xs =
    take_all (length xs - n) (drop n xs) (simp length-drop (omega arith)) in
    ap (map f) all ∙ sym (drop-map f n xs)

-- fewer than two words give no option a value
pub short_pairs : (name : List ℕ) (pairs : List (List ℕ)) → length pairs < 2 → None ≡ value_of name pairs
short_pairs name [] short = refl
short_pairs name (word ∷ []) short = refl
short_pairs name (word ∷ value ∷ pairs) short = absurd (let f : ⊥ = omega (arith, short) in f)

-- an item of a list, item by item
pub mapped_item : {X Y : Type 0} (f : X → Y) (xs : List X) (i : ℕ) (x : X) (other : Y) → i < length xs
    → x ≡ slice_index_or xs i x → f x ≡ slice_index_or (map f xs) i other
mapped_item f [] i x other lt is = absurd (let e : ⊥ = omega (arith, lt) in e)
mapped_item f (y ∷ ys) zero x other lt is = ap f is
mapped_item f (y ∷ ys) (suc i) x other lt is = mapped_item f ys i x other (omega (arith, lt)) is

-- a test that is false where there is a value
is_absent : {X : Type 0} (found : Option X) (absent : Bool) → is_some found ≡ not absent → absent ≡ is_none found
is_absent None true e = refl
is_absent None false e = cc
is_absent (Some x) true e = cc
is_absent (Some x) false e = refl

-- a name at its place among the pairs
pub name_place : (options : Options) (pairs earlier : List (List ℕ)) (i : ℕ) (word : List ℕ) (is_new : Bool)
    → i % 2 ≡ 0 → word ≡ slice_index_or pairs i [] → earlier ≡ take i pairs
    → is_new ≡ is_new_name options earlier word → is_new ≡ has_place options pairs i
name_place options pairs earlier i word is_new even at before new = rw (even, ← at, ← before) new

-- a name that the command has and that no earlier pair gives
pub new_name : (options : Options) (earlier : List (List ℕ)) (word : List ℕ) (is_new : Bool)
    → is_some (form_of options word) ≡ true → is_some (value_of word earlier) ≡ not is_new
    → is_new ≡ is_new_name options earlier word
new_name options earlier word is_new there given = rw there (is_absent (value_of word earlier) is_new given)

-- a position past 64 bits is past 32
pub far : (a b : ℕ) → position (min (a + b) (2 ^ 64 - 1)) ≡ position (a + b)
far a b = omega arith

-- the first word without a place decides
pub found : (options : Options) (words rest : List (List ℕ)) (first at : ℕ) → rest ≡ drop first words
    → Some at ≡ misplaced options rest → pairs_from options first words ≡ Err (position (first + at))
found options words rest first at is e =
    ap (pairs_unless first words) (sym (e ∙ ap (misplaced options) is))

-- where each word has a place and a value isn't there
pub odd : (options : Options) (words rest : List (List ℕ)) (first n : ℕ) → rest ≡ drop first words
    → length rest ≡ n → None ≡ misplaced options rest → n % 2 ≡ 1
    → pairs_from options first words ≡ Err (position (length words))
odd options words rest first n is size e parity =
    let last : length (drop first words) % 2 ≡ 1 = ap (λ xs. length xs % 2) (sym is) ∙ ap (λ k. k % 2) size ∙ parity in
    ap (pairs_unless first words) (sym (e ∙ ap (misplaced options) is)) ∙ rw last refl

-- where each word has a place and each value is there
pub whole : (options : Options) (words rest : List (List ℕ)) (first n : ℕ) → rest ≡ drop first words
    → length rest ≡ n → None ≡ misplaced options rest → (n % 2 ≡ 1 → ⊥)
    → pairs_from options first words ≡ Ok rest
whole options words rest first n is size e parity =
    let last : length (drop first words) % 2 ≡ 0 =
    ap (λ xs. length xs % 2) (sym is) ∙ ap (λ k. k % 2) size ∙ omega (arith, parity) in
    ap (pairs_unless first words) (sym (e ∙ ap (misplaced options) is)) ∙ rw last (ap Ok (sym is))

-- an option of another name is passed over
pub passed_over : (key name : List ℕ) (form : ValueForm) (options : Options) → (name ≡ key → ⊥)
    → form_of options name ≡ form_of ((key, form) ∷ options) name
passed_over key name form options other = by_test (bytes_eq key name) refl
  where
    by_test : (test : Bool) → bytes_eq key name ≡ test → form_of options name ≡ form_of ((key, form) ∷ options) name
    by_test false is = rw is refl
    by_test true is = absurd (other (sym ((bytes_eq-Decides key name).0 is)))
