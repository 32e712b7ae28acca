-- The rows of a generated table (ours: docs/FORMATS.md, "Generated tables").
use Rattle.std.specs.Prelude.{ℕ, ◌+◌, ◌*◌, ◌%◌, ◌==◌, pos, if◌then◌else◌, List, [], ◌∷◌}
use Rattle.std.specs.Prelude.{◌++◌, codes, decimal, false, true}
use Rattle.icb_types.specs.declared.columns.ColType.TheVariants as kind
use Rattle.icb_types.specs.declared.columns.Column.{Column}
use Rattle.icb_types.specs.declared.datum.Datum.{Datum}
use Rattle.icb_types.specs.declared.datum.Datum.TheVariants as datum

-- the columns: i:long!,name:string,day:date!
abbrev pub columns : List Column
columns = record { id = pos 1; name = codes "i"; required = true; kind = kind.Long }
    ∷ record { id = pos 2; name = codes "name"; required = false; kind = kind.Text }
    ∷ record { id = pos 3; name = codes "day"; required = true; kind = kind.Date }
    ∷ []

-- one of 97 texts, and null in each tenth row
abbrev pub name_of : ℕ → Datum
name_of i = if i % 10 == 9 then datum.Null else datum.Text (codes "r" ++ decimal (i % 97))

-- one of 20,000 days
abbrev pub day_of : ℕ → ℕ → ℕ
day_of seed i = (37 * i + seed % 20000) % 20000

-- the row with this number, from 0
abbrev pub row_of : ℕ → ℕ → List Datum
row_of seed i = datum.Long (pos i) ∷ name_of i ∷ datum.Date (pos (day_of seed i)) ∷ []
