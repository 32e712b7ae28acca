-- What a query chooses of a table's rows, and its text (ours: docs/FORMATS.md).
use Rattle.std.specs.Prelude.{ℕ, ℤ, List, [], ◌∷◌, map, take, drop, filter, Bool, true}
use Rattle.std.specs.Prelude.{Option, Some, None, unwrap_or, Result, Ok}
use Rattle.std.specs.List.{flat_map}
use Rattle.std.specs.FinMap as finite
use Rattle.icb_types.specs.declared.columns.Column.{Column}
use Rattle.icb_types.specs.declared.datum.Datum.{Datum}
use Rattle.icb_types.specs.declared.datum.Datum.TheVariants as datum
use Rattle.icb_types.specs.Lines.{row_line}
use Rattle.icb_types.specs.Steps.{◌>>=◌}
use Rattle.icb_rows.specs.declared.range.Range.{Range}
use Rattle.icb_rows.specs.declared.fault.RangeFault.{RangeFault}
use Rattle.icb_rows.specs.declared.fault.RangeFault.TheVariants as fault
use Rattle.icb_rows.specs.Ranges.{column_named, holds, or_refuse, range_of}
use Rattle.icb_rows.specs.Records.{Row}

-- ---- a query's words

-- a column by its name, and the ends of a range of it
pub record RangeWords : Type 0 where
  pub column : List ℕ
  pub low : Option (List ℕ)
  pub high : Option (List ℕ)

-- which snapshot, none for the current one; which columns, none for all; a range; how many of the
-- rows in it are left out, and how many at most are shown behind those
pub record Query : Type 0 where
  pub snapshot : Option ℤ
  pub columns : Option (List (List ℕ))
  pub range : Option RangeWords
  pub skip : ℕ
  pub most : Option ℕ

-- a range of the column with this id
pub record ColumnRange : Type 0 where
  pub id : ℤ
  pub range : Range

-- what a query's words mean under a schema: which columns are shown, in order, the range that their
-- rows are in, how many of those are left out, and how many at most are shown
pub record Selection : Type 0 where
  pub columns : List Column
  pub range : Option ColumnRange
  pub skip : ℕ
  pub most : Option ℕ

-- the columns of these names, or the first that isn't there
unfoldable pub columns_named : List Column → List (List ℕ) → Result (List Column) RangeFault
columns_named columns [] = Ok []
columns_named columns (name ∷ names) =
    or_refuse (fault.NoColumn name) (column_named name columns)
    >>= (λ c. columns_named columns names >>= (λ cs. Ok (c ∷ cs)))

-- the columns that are named, or all of them
abbrev pub columns_shown : List Column → Option (List (List ℕ)) → Result (List Column) RangeFault
columns_shown columns None = Ok columns
columns_shown columns (Some names) = columns_named columns names

-- the range of words, with the column's id
abbrev pub range_meant : List Column → Option RangeWords → Result (Option ColumnRange) RangeFault
range_meant columns None = Ok None
range_meant columns (Some words) =
    or_refuse (fault.NoColumn words.column) (column_named words.column columns)
    >>= (λ c. range_of columns words.column words.low words.high
    >>= (λ r. Ok (Some (record { id = c.id; range = r }))))

-- what a query's words mean under columns, or the first refusal: of its columns in their order, and
-- then of its range
unfoldable pub selection_of : List Column → Query → Result Selection RangeFault
selection_of columns query = columns_shown columns query.columns
    >>= (λ shown. range_meant columns query.range
    >>= (λ range. Ok (record {
      columns = shown;
      range = range;
      skip = query.skip;
      most = query.most;
    })))

-- ---- the rows that are chosen

-- the datum of a column in a row, null where it has none
abbrev pub datum_in : Row → ℤ → Datum
datum_in row id = unwrap_or (finite.get row id) datum.Null

-- a row is in a range, where one is asked
abbrev pub is_within : Option ColumnRange → Row → Bool
is_within None row = true
is_within (Some r) row = holds r.range (datum_in row r.id)

-- at most so many items, where a number is said
abbrev pub at_most : {A : Type 0} → Option ℕ → List A → List A
at_most None items = items
at_most (Some n) items = take n items

-- the rows in the range, without the first ones, and of these at most so many
abbrev pub chosen : Selection → List Row → List Row
chosen s rows = at_most s.most (drop s.skip (filter (is_within s.range) rows))

-- the line of a row: the data of the columns that are shown
abbrev pub line_of : List Column → Row → List ℕ
line_of columns row = row_line (map (λ c. datum_in row c.id) columns)

-- the text of the chosen rows: a line for each
abbrev pub text_of : Selection → List Row → List ℕ
text_of s rows = flat_map (line_of s.columns) (chosen s rows)
