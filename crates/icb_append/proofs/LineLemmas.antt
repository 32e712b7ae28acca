-- Lines, beside the definitions.
use Rattle.std.proofs.Common.{◌≡◌, ℕ, suc, ◌+◌, ◌-◌, Option, Some, None, take_all, length-drop, ◌<◌, Bool, true, false, List, [], ◌∷◌, ◌++◌, length, take, drop, Result, Ok, Err, refl, sym, ap, subst, ◌∙◌, arith, eq-eqb, append_assoc, append-nil, nat_lt, if◌then◌else◌, inl, inr}
use Rattle.std.specs.Prelude.{◌==◌, position}
use Rattle.std.specs.List.{AllByRecursion, position_or_len}
use Rattle.std.proofs.lemmas.Bool.{cases_eq, ltb-true, ne_eqb}
use Rattle.std.proofs.lemmas.Bool.Decides.{nat_tests}
use Rattle.icb_types.specs.Fits.{FitsColumns}
use Rattle.icb_types.specs.Lines.{row_of}
use Rattle.icb_types.specs.declared.columns.Column.{Column}
use Rattle.icb_types.specs.declared.datum.Datum.{Datum}
use Rattle.icb_types.specs.declared.fault.RowFault.{RowFault}
use Rattle.icb_types.proofs.FitLemmas.{lines_fit}
use Rattle.icb_append.specs.Lines.{◌>>=◌, ReadsLine, ReadsLines, at_line, lines_of, onto_line, rows_from}
use Rattle.icb_append.specs.declared.fault.InputFault.{InputFault}
use Rattle.icb_append.specs.declared.fault.InputFault.TheVariants as fault

-- ---- one line more

-- the line feed
abbrev pub is_feed : ℕ → Bool
is_feed c = c == 10

-- the lines of an input in which a line feed stands
pub cut_line : (input : List ℕ) → position_or_len is_feed input < length input
    → lines_of input ≡ take (position_or_len is_feed input) input ∷ lines_of (drop (position_or_len is_feed input + 1) input)
unfolding lines_of
cut_line [] h = absurd (let never : ⊥ = omega arith in never)
cut_line (c ∷ input) h = elim (cases_eq c 10) [
  | inl feed ↦ (let yes : (c == 10) ≡ true = eq-eqb c 10 feed in rw yes refl)
  | inr other ↦ (let no : (c == 10) ≡ false = ne_eqb c 10 other in
      let at : ℕ = position_or_len is_feed input in
      let later : 1 + at < suc (length input) = rw no at h in
      let one : 1 + at ≡ suc at = omega arith in
      let two : suc at + 1 ≡ suc (at + 1) = omega arith in
      rw (no, one, two) (ap (onto_line c) (cut_line input (omega arith))))
]

pub no_lines : lines_of [] ≡ []
unfolding lines_of
no_lines = refl

-- a line of its own, whose rest is one too
alone : (c : ℕ) (more : List ℕ) → (0 < length more → lines_of more ≡ more ∷ []) → onto_line c (lines_of more) ≡ (c ∷ more) ∷ []
alone c [] h = ap (onto_line c) no_lines
alone c (d ∷ more) h = ap (onto_line c) (h (omega arith))

-- an input without a line feed is one line
pub whole_line : (input : List ℕ) → 0 < length input → nat_lt (position_or_len is_feed input) (length input) ≡ false → lines_of input ≡ input ∷ []
unfolding lines_of
whole_line [] some h = absurd (let never : ⊥ = omega arith in never)
whole_line (c ∷ input) some h = elim (cases_eq c 10) [
  | inl feed ↦ (let yes : (c == 10) ≡ true = eq-eqb c 10 feed in
      let first : nat_lt 0 (suc (length input)) ≡ false = rw yes at h in
      absurd (let never : ⊥ = grind (arith, nat_tests, first) in never))
  | inr other ↦ (let no : (c == 10) ≡ false = ne_eqb c 10 other in
      let at : ℕ = position_or_len is_feed input in
      let past : nat_lt (1 + at) (suc (length input)) ≡ false = rw no at h in
      let past_text : nat_lt at (length input) ≡ false = grind (arith, nat_tests, past) in
      rw no (alone c input (λ more. whole_line input more past_text)))
]

-- what a search for the line feed found
place_is : (p n at : ℕ) → Some at ≡ (if nat_lt p n then Some p else None) → (at ≡ p) × (p < n)
place_is p n at e = by_test (nat_lt p n) refl e
  where
    by_test : (b : Bool) → nat_lt p n ≡ b → Some at ≡ (if b then Some p else None) → (at ≡ p) × (p < n)
    by_test true f g = (let same : at ≡ p = cc in same, ltb-true p n f)
    by_test false f g = absurd (let never : ⊥ = cc in never)

none_is : (p n : ℕ) → ◌≡◌ {A = Option ℕ} None (if nat_lt p n then Some p else None) → nat_lt p n ≡ false
none_is p n e = by_test (nat_lt p n) refl e
  where
    by_test : (b : Bool) → nat_lt p n ≡ b → ◌≡◌ {A = Option ℕ} None (if b then Some p else None) → nat_lt p n ≡ false
    by_test true f g = absurd (let never : ⊥ = cc in never)
    by_test false f g = f

-- the first line where a line feed was found, and what stands behind it
pub first_cut : (input : List ℕ) (at : ℕ) → Some at ≡ position is_feed input → lines_of input ≡ take at input ∷ lines_of (take (length input - (at + 1)) (drop (at + 1) input))
first_cut input at found =
    let is = place_is (position_or_len is_feed input) (length input) at found in
    let all : take (length input - (at + 1)) (drop (at + 1) input) ≡ drop (at + 1) input = take_all _ _ (omega (arith, length-drop (at + 1) input)) in
    rw (all, is.0) (cut_line input is.1)

-- the only line where none was found
pub first_whole : (input : List ℕ) → 0 < length input → ◌≡◌ {A = Option ℕ} None (position is_feed input) → lines_of input ≡ input ∷ lines_of (take (length input - length input) (drop (length input) input))
first_whole input some found =
    let past = none_is (position_or_len is_feed input) (length input) found in
    let none : length input - length input ≡ 0 = omega arith in
    rw (none, no_lines) (whole_line input some past)

-- ---- rows

-- rows that were read, and those behind them
abbrev pub behind : List (List Datum) → Result (List (List Datum)) InputFault → Result (List (List Datum)) InputFault
behind done r = r >>= (λ rest. Ok (done ++ rest))

behind-nil : (r : Result (List (List Datum)) InputFault) → behind [] r ≡ r
behind-nil (Ok rows) = refl
behind-nil (Err e) = refl

behind-twice : (done : List (List Datum)) (row : List Datum) (r : Result (List (List Datum)) InputFault) → behind done (r >>= (λ rest. Ok (row ∷ rest))) ≡ behind (done ++ row ∷ []) r
behind-twice done row (Ok rows) = ap Ok (sym (append_assoc done (row ∷ []) rows))
behind-twice done row (Err e) = refl

-- one more row
pub row_more : (number next : ℕ) (columns : List Column) (input line rest : List ℕ) (done : List (List Datum)) (row : List Datum) → next ≡ suc number → lines_of input ≡ line ∷ lines_of rest
    → at_line number (row_of columns line) ≡ Ok row → behind done (rows_from number columns (lines_of input)) ≡ behind (done ++ row ∷ []) (rows_from next columns (lines_of rest))
unfolding rows_from
row_more number next columns input line rest done row later cut found = rw (cut, found, later) (behind-twice done row (rows_from (suc number) columns (lines_of rest)))

-- a line that is no row
pub row_refused : (number : ℕ) (columns : List Column) (input line rest : List ℕ) (done : List (List Datum)) (e : InputFault) → lines_of input ≡ line ∷ lines_of rest
    → at_line number (row_of columns line) ≡ Err e → behind done (rows_from number columns (lines_of input)) ≡ Err e
unfolding rows_from
row_refused number columns input line rest done e cut found = rw (cut, found) refl

-- no line is left
pub none_left : (number : ℕ) (columns : List Column) (done : List (List Datum)) → behind done (rows_from number columns (lines_of [])) ≡ Ok done
unfolding rows_from
none_left number columns done = rw no_lines (ap Ok (append-nil done))

-- nothing is left behind the rows
pub all_read : (number : ℕ) (columns : List Column) (done : List (List Datum)) (rest : List ℕ) (whole : Result (List (List Datum)) InputFault) → length rest ≡ 0
    → behind done (rows_from number columns (lines_of rest)) ≡ whole → whole ≡ Ok done
all_read number columns done [] whole none same = sym same ∙ none_left number columns done
all_read number columns done (c ∷ rest) whole none same = absurd (let never : ⊥ = omega (arith, none) in never)

-- the refusal of a line is that of the input
pub refused_reads : {A : Type 0} (view : A → List Datum) (e : InputFault) (r : Result (List Datum) InputFault) (whole : Result (List (List Datum)) InputFault)
    → (let found : Result A InputFault = Err e in ReadsLine view found r) → ((x : InputFault) → r ≡ Err x → whole ≡ Err x) → ReadsLines (Err e) whole
refused_reads view fault.NoMemory r whole h same = tt
refused_reads view (fault.BadLine line row) r whole h same = same (fault.BadLine line row) h

-- ---- rows fit

the_rows : (x y : List (List Datum)) → ◌≡◌ {A = Result (List (List Datum)) InputFault} (Ok x) (Ok y) → x ≡ y
the_rows x y e = cc

no_rows : (e : InputFault) (y : List (List Datum)) → ◌≡◌ {A = Result (List (List Datum)) InputFault} (Err e) (Ok y) → ⊥
no_rows e y h = cc

-- the rows of lines fit the columns
pub rows_fit : (number : ℕ) (columns : List Column) (lines : List (List ℕ)) (rows : List (List Datum)) → rows_from number columns lines ≡ Ok rows → AllByRecursion (FitsColumns columns) rows
unfolding rows_from
rows_fit number columns [] rows e = subst (AllByRecursion (FitsColumns columns)) (the_rows [] rows e) tt
rows_fit number columns (line ∷ lines) rows e = by_row (λ rest f. rows_fit (suc number) columns lines rest f) (row_of columns line) refl e
  where
    by_rest : ((rest : List (List Datum)) → rows_from (suc number) columns lines ≡ Ok rest → AllByRecursion (FitsColumns columns) rest) → (row : List Datum) → FitsColumns columns row → (r : Result (List (List Datum)) InputFault) → rows_from (suc number) columns lines ≡ r
        → (r >>= (λ rest. Ok (row ∷ rest))) ≡ Ok rows → AllByRecursion (FitsColumns columns) rows
    by_rest later row fits (Ok rest) f g = subst (AllByRecursion (FitsColumns columns)) (the_rows (row ∷ rest) rows g) (fits, later rest f)
    by_rest later row fits (Err x) f g = absurd (no_rows x rows g)

    by_row : ((rest : List (List Datum)) → rows_from (suc number) columns lines ≡ Ok rest → AllByRecursion (FitsColumns columns) rest) → (r : Result (List Datum) RowFault) → row_of columns line ≡ r
        → (at_line number r >>= (λ row. rows_from (suc number) columns lines >>= (λ rest. Ok (row ∷ rest)))) ≡ Ok rows → AllByRecursion (FitsColumns columns) rows
    by_row later (Ok row) f g = by_rest later row (lines_fit columns line row f) (rows_from (suc number) columns lines) refl g
    by_row later (Err x) f g = absurd (no_rows (fault.BadLine number x) rows g)
