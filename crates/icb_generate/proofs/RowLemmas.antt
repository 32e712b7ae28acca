-- A generated row fits the table's columns, and a line may show it.
use Rattle.std.proofs.Common.{◌^◌, ◌%◌, ◌==◌, ◌++◌, [], ◌∷◌, ℕ, Bool, true, false, refl, arith}
use Rattle.std.specs.Prelude.{codes, decimal, pos, if◌then◌else◌}
use Rattle.std.proofs.lemmas.Bool.{lt-ltb}
use Rattle.std.proofs.lemmas.Fmt.{IsAscii-decimal}
use Rattle.std.proofs.lemmas.Str.{IsUtf8-from_ascii}
use Rattle.std.proofs.lemmas.Str.Ascii.{IsAscii-cons}
use Rattle.icb_types.specs.Fits.{FitsColumns, IsShown}
use Rattle.icb_types.specs.declared.datum.Datum.{Datum}
use Rattle.icb_types.specs.declared.datum.Datum.TheVariants as datum
use Rattle.icb_types.proofs.RowLemmas.{row_back}
use Rattle.icb_generate.specs.Laws.{RowsReadBack}
use Rattle.icb_generate.specs.Rows.{columns, day_of, row_of}

-- the text or null by a test
abbrev named : Bool → ℕ → Datum
named b i = if b then datum.Null else datum.Text (codes "r" ++ decimal (i % 97))

fits_by : (b : Bool) (seed i : ℕ) → FitsColumns columns (datum.Long (pos i) ∷ named b i ∷ datum.Date (pos (day_of seed i)) ∷ [])
fits_by true seed i = (refl, (refl, (refl, tt)))
fits_by false seed i = (refl, (refl, (refl, tt)))

shown_by : (b : Bool) (i : ℕ) → IsShown (named b i)
shown_by true i = tt
shown_by false i = IsUtf8-from_ascii (codes "r" ++ decimal (i % 97))
    (IsAscii-cons 114 (decimal (i % 97)) (omega arith) (IsAscii-decimal (i % 97) (omega arith)))

-- the line of a row shows the row
pub rows_read_back : RowsReadBack
rows_read_back seed i small = row_back columns (row_of seed i) (fits_by (i % 10 == 9) seed i) (
  lt-ltb i (2 ^ 63) small,
  (shown_by (i % 10 == 9) i, (lt-ltb (day_of seed i) (2 ^ 31) (omega arith), tt)),
)
