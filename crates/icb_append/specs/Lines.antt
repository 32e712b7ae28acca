-- The lines of an input, and the rows that they show (ours: docs/FORMATS.md, "Columns and rows").
use Rattle.std.specs.Prelude.{◌≡◌, ℕ, suc, ◌==◌, List, [], ◌∷◌, if◌then◌else◌, Result, Ok, Err}
use Rattle.icb_types.specs.declared.columns.Column.{Column}
use Rattle.icb_types.specs.declared.datum.Datum.{Datum}
use Rattle.icb_types.specs.declared.fault.RowFault.{RowFault}
use Rattle.icb_types.specs.Lines.{row_of}
use Rattle.icb_append.specs.declared.fault.InputFault.{InputFault}
use Rattle.icb_append.specs.declared.fault.InputFault.TheVariants as fault

-- a byte in front of the first line; a line of its own where there is none
abbrev pub onto_line : ℕ → List (List ℕ) → List (List ℕ)
onto_line c [] = (c ∷ []) ∷ []
onto_line c (line ∷ lines) = (c ∷ line) ∷ lines

-- the lines of an input, each ended by a line feed, which the last may lack
unfoldable pub lines_of : List ℕ → List (List ℕ)
lines_of [] = []
lines_of (c ∷ bytes) = if c == 10 then [] ∷ lines_of bytes else onto_line c (lines_of bytes)

infixl 10 ◌>>=◌
-- what comes next, where nothing is refused
abbrev pub ◌>>=◌ : {A B : Type 0} → Result A InputFault → (A → Result B InputFault)
    → Result B InputFault
(Ok x) >>= f = f x
(Err e) >>= f = Err e

-- the row of the line of a number, or the refusal of the line
abbrev pub at_line : ℕ → Result (List Datum) RowFault → Result (List Datum) InputFault
at_line number (Ok row) = Ok row
at_line number (Err e) = Err (fault.BadLine number e)

-- the rows of lines, of which the first has this number, or the refusal of the first that is no row
unfoldable pub rows_from : ℕ → List Column → List (List ℕ) → Result (List (List Datum)) InputFault
rows_from number columns [] = Ok []
rows_from number columns (line ∷ lines) = at_line number (row_of columns line) >>= (λ row.
    rows_from (suc number) columns lines >>= (λ rows. Ok (row ∷ rows)))

-- the rows of an input's lines, which are numbered from 1
abbrev pub rows_of_input : List Column → List ℕ → Result (List (List Datum)) InputFault
rows_of_input columns input = rows_from 1 columns (lines_of input)

-- the definition's value or its refusal, or want of memory
abbrev pub ReadsLine : {A B : Type 0} → (A → B) → Result A InputFault → Result B InputFault → Type 0
ReadsLine view (Ok a) r = r ≡ Ok (view a)
ReadsLine view (Err fault.NoMemory) r = Unit {0}
ReadsLine view (Err (fault.BadLine line row)) r = r ≡ Err (fault.BadLine line row)

-- the same of lists of rows
abbrev pub ReadsLines : Result (List (List Datum)) InputFault
    → Result (List (List Datum)) InputFault → Type 0
ReadsLines result r = ReadsLine (λ rows. rows) result r
