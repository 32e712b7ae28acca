-- The laws of the definitions. Each is the contract of a function of `src/laws.rt`.
use Rattle.std.specs.Prelude.{◌≡◌, ◌↔◌, ℕ, ℤ, List, map, true, false, not, ◌&&◌, Option, Some, None}
use Rattle.std.specs.Prelude.{◌⊎◌, IfSome, Bool, Ok, slice_get}
use Rattle.std.specs.Ordering.{int_eq}
use Rattle.std.specs.FinMap as finite
use Rattle.std.specs.List.{AllByRecursion, Contains, list_all, list_any}
use Rattle.icb_schema.specs.Tree.{Fields}
use Rattle.icb_schema.specs.Shape.{fields_shapes}
use Rattle.icb_avro.specs.declared.value.Value.{Value}
use Rattle.icb_avro.specs.Reading.{fields_at}
use Rattle.icb_types.specs.Columns.{are_distinct_ids}
use Rattle.icb_types.specs.declared.columns.Column.{Column}
use Rattle.icb_types.specs.declared.columns.ColType.{ColType}
use Rattle.icb_types.specs.declared.datum.Datum.{Datum}
use Rattle.icb_types.specs.Fits.{IsDatum, kind_of}
use Rattle.icb_rows.specs.declared.range.Range.{Range}
use Rattle.icb_rows.specs.Order.{is_null}
use Rattle.icb_rows.specs.Ranges.{holds, may_hold}
use Rattle.icb_rows.specs.Bounds.{IsLowerBound, IsUpperBound, datum_at, lower_of, present, upper_of}
use Rattle.icb_rows.specs.Records.{datum_by_id, first_unfit, row_from}
use Rattle.icb_rows.specs.Views.{passed_of, record_at}

-- a datum of the code, null or of this kind
abbrev pub IsOfKind : ColType → Datum → Type 0
IsOfKind k d = IsDatum d × ((is_null d ≡ true) ⊎ (kind_of d ≡ Some k))

-- a bound that is written of a column's data bounds them
abbrev pub BoundsBound : Type 0
BoundsBound = (k : ColType) (ds : List Datum) (bytes : List ℕ) → AllByRecursion (IsOfKind k) ds
    → (lower_of ds ≡ Some bytes → IsLowerBound k bytes ds)
    × (upper_of ds ≡ Some bytes → IsUpperBound k bytes ds)

-- A file may hold a datum of the range, where it has data of which one is in the range and its
-- bounds bound them.
abbrev pub NothingIsPruned : Type 0
NothingIsPruned = (range : Range) (ds : List Datum) (d : Datum)
    (lower upper : Option (List ℕ)) → Contains ds d → holds range d ≡ true
    → IfSome lower (λ bytes. IsLowerBound range.kind bytes ds)
    → IfSome upper (λ bytes. IsUpperBound range.kind bytes ds)
    → may_hold range lower upper ≡ true

-- no required column is null in a record of these fields
abbrev pub has_required : List Column → Fields → List Value → Bool
has_required columns fs vs =
    list_all (λ c. not (c.required && is_null (datum_by_id c fs vs))) columns

-- A record is read under a projection exactly where Avro reads the file's fields and no required
-- column is null, and as the same values.
abbrev pub ViewsReadFields : Type 0
ViewsReadFields = (columns : List Column) (fs : Fields) (all : List ℕ) (vs : List Value)
    (rest : List ℕ) → first_unfit columns fs ≡ None
    → (record_at (passed_of columns fs) all ≡ Ok (vs, rest))
    ↔ ((fields_at (fields_shapes fs) all ≡ Ok (vs, rest)) × (has_required columns fs vs ≡ true))

-- A row has, at the id of a column, the datum at that column's position, where it isn't null.
abbrev pub RowsHaveTheirData : Type 0
RowsHaveTheirData = (columns : List Column) (row : List Datum)
    → are_distinct_ids (map (λ c. c.id) columns) ≡ true → (at : ℕ) (c : Column)
    → slice_get columns at ≡ Some c
    → finite.get (row_from columns row) c.id ≡ present (datum_at at row)

-- A row has nothing at any other id.
abbrev pub RowsHaveNoMore : Type 0
RowsHaveNoMore = (columns : List Column) (row : List Datum) (id : ℤ)
    → list_any (λ c. int_eq c.id id) columns ≡ false
    → finite.get (row_from columns row) id ≡ None
