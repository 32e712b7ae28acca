-- The laws of the definitions. Each is the contract of a function of `src/laws.rt`.
use Rattle.std.specs.Prelude.{◌≡◌, ℕ, List, Some, Ok}
use Rattle.icb_types.specs.declared.columns.ColType.{ColType}
use Rattle.icb_types.specs.declared.columns.Column.{Column}
use Rattle.icb_types.specs.declared.datum.Datum.{Datum}
use Rattle.icb_types.specs.Fits.{AreShown, FitsColumns, IsDatum, kind_of}
use Rattle.icb_types.specs.Lines.{line_by_data, row_line, row_of}
use Rattle.icb_types.specs.Single.{datum_of_single, single_of}

-- the line of a row that fits its columns shows that row
abbrev pub LinesReadBack : Type 0
LinesReadBack = (columns : List Column) (row : List Datum)
    → FitsColumns columns row → AreShown row → row_of columns (row_line row) ≡ Ok row

-- a row that a line shows fits its columns
abbrev pub LinesFitTheirColumns : Type 0
LinesFitTheirColumns = (columns : List Column) (line : List ℕ) (row : List Datum)
    → row_of columns line ≡ Ok row → FitsColumns columns row

-- data that are put on a line one after another make the line of their row
abbrev pub PiecesMakeTheLine : Type 0
PiecesMakeTheLine = (row : List Datum) → line_by_data row ≡ row_line row

-- the single value of a datum is that datum's
abbrev pub SinglesReadBack : Type 0
SinglesReadBack = (k : ColType) (d : Datum) (bytes : List ℕ)
    → kind_of d ≡ Some k → IsDatum d → single_of d ≡ Some bytes → datum_of_single k bytes ≡ Some d
