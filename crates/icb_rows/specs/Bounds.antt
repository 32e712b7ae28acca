-- The counts and bounds of the columns of rows (Apache Iceberg Table Spec, "Manifests":
-- value_counts, null_value_counts, lower_bounds and upper_bounds; "Appendix D: Single-value
-- serialization").
use Rattle.std.specs.Prelude.{◌≡◌, ℕ, suc, ◌+◌, ℤ, pos, List, [], ◌∷◌, ◌++◌, length, map, fold}
use Rattle.std.specs.Prelude.{Bool, true, false, nat_le, if◌then◌else◌, ◌⊎◌}
use Rattle.std.specs.Prelude.{Option, Some, None, option_and_then, unwrap_or, slice_get}
use Rattle.std.specs.List.{list_all, AllByRecursion}
use Rattle.icb_types.specs.declared.columns.ColType.{ColType}
use Rattle.icb_types.specs.declared.columns.Column.{Column}
use Rattle.icb_types.specs.declared.datum.Datum.{Datum}
use Rattle.icb_types.specs.declared.datum.Datum.TheVariants as datum
use Rattle.icb_types.specs.Single.{datum_of_single, single_of}
use Rattle.icb_rows.specs.declared.bounds.Bounds.{Bounds}
use Rattle.icb_rows.specs.Order.{above, below, bytes_of, is_null}

-- ---- what a bound may be

-- a datum is null, or doesn't stand before this one
abbrev pub NotBefore : (Datum → Datum → Bool) → Datum → Datum → Type 0
NotBefore before first d = (is_null d ≡ true) ⊎ (before d first ≡ false)

-- bytes that are a single value of the kind are no more than each datum that isn't null
abbrev pub IsLowerBound : ColType → List ℕ → List Datum → Type 0
IsLowerBound k bytes ds =
    (low : Datum) → datum_of_single k bytes ≡ Some low → AllByRecursion (NotBefore below low) ds

-- bytes that are a single value of the kind are no less than each datum that isn't null
abbrev pub IsUpperBound : ColType → List ℕ → List Datum → Type 0
IsUpperBound k bytes ds =
    (high : Datum) → datum_of_single k bytes ≡ Some high → AllByRecursion (NotBefore above high) ds

-- ---- the bounds that are written

-- the datum of a row at a position, null behind its end
abbrev pub datum_at : ℕ → List Datum → Datum
datum_at at row = unwrap_or (slice_get row at) datum.Null

-- the data of the column at this position
abbrev pub column_data : ℕ → List (List Datum) → List Datum
column_data at rows = map (datum_at at) rows

-- how many data are null
abbrev pub count_nulls : List Datum → ℕ
count_nulls [] = 0
count_nulls (d ∷ ds) = if is_null d then suc (count_nulls ds) else count_nulls ds

-- a datum that isn't null
abbrev pub present : Datum → Option Datum
present d = if is_null d then None else Some d

-- the one of two data that stands before the other, where they are there; else the first
abbrev pub first_by : (Datum → Datum → Bool) → Option Datum → Option Datum → Option Datum
first_by before found None = found
first_by before None (Some d) = Some d
first_by before (Some a) (Some d) = if before d a then Some d else Some a

-- the one of the data that aren't null that stands before all others
abbrev pub first_of : (Datum → Datum → Bool) → List Datum → Option Datum
first_of before ds = fold (λ found d. first_by before found (present d)) None ds

-- the least of the data that aren't null
abbrev pub least : List Datum → Option Datum
least ds = first_of below ds

-- the greatest of the data that aren't null
abbrev pub greatest : List Datum → Option Datum
greatest ds = first_of above ds

-- A datum has at most 256 bytes; other data than texts and bytes have at most 16.
abbrev pub is_short : Datum → Bool
is_short d = nat_le (length (bytes_of d)) 256

-- A bound of data: the single value of the datum that was found, where one is, and where none of
-- the data is longer than 256 bytes.
abbrev pub bound_of : Option Datum → List Datum → Option (List ℕ)
bound_of found ds = if list_all is_short ds then option_and_then single_of found else None

-- the lower bound of data
abbrev pub lower_of : List Datum → Option (List ℕ)
lower_of ds = bound_of (least ds) ds

-- the upper bound of data
abbrev pub upper_of : List Datum → Option (List ℕ)
upper_of ds = bound_of (greatest ds) ds

-- a bound with its column's id, where it is there
abbrev pub entry_of : ℤ → Option (List ℕ) → List (ℤ × List ℕ)
entry_of id None = []
entry_of id (Some bytes) = (id, bytes) ∷ []

-- the counts and bounds of a column's data
abbrev pub column_bounds : ℤ → List Datum → Bounds
column_bounds id ds = record {
  values = (id, pos (length ds)) ∷ [];
  nulls = (id, pos (count_nulls ds)) ∷ [];
  lower = entry_of id (lower_of ds);
  upper = entry_of id (upper_of ds);
}

-- bounds, and those behind them
abbrev pub then_bounds : Bounds → Bounds → Bounds
then_bounds a b = record {
  values = a.values ++ b.values;
  nulls = a.nulls ++ b.nulls;
  lower = a.lower ++ b.lower;
  upper = a.upper ++ b.upper;
}

-- the bounds of columns, the first of which stands at this position
abbrev pub bounds_from : ℕ → List Column → List (List Datum) → Bounds
bounds_from at [] rows = record { values = []; nulls = []; lower = []; upper = [] }
bounds_from at (c ∷ columns) rows =
    then_bounds (column_bounds c.id (column_data at rows)) (bounds_from (at + 1) columns rows)

-- the bounds of the columns of rows
abbrev pub bounds_of : List Column → List (List Datum) → Bounds
bounds_of columns rows = bounds_from 0 columns rows
