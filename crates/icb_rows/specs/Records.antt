-- What the columns are of a decoded record: fields are known by their ids, and of two fields of one
-- id the first counts (Apache Iceberg Table Spec, "Column Projection", and "Appendix A:
-- Format-specific Requirements", Avro).
use Rattle.std.specs.Prelude.{ℕ, suc, ℤ, List, [], ◌∷◌, map, Bool, true, false, not, ◌&&◌, ◌||◌}
use Rattle.std.specs.Prelude.{◌==◌, if◌then◌else◌, slice_get, Option, Some, None, option_and_then}
use Rattle.std.specs.Ordering.{int_cmp, int_eq}
use Rattle.std.specs.FinMap as finite
use Rattle.icb_schema.specs.Tree as tree
use Rattle.icb_schema.specs.Tree.{Tree, Form, Fields, root_form}
use Rattle.icb_schema.specs.Shape.{Shape, primitive, fixed}
use Rattle.icb_schema.specs.Shape.{union, no_shapes, shape_then, shape}
use Rattle.icb_avro.specs.declared.value.Value.{Value, fold-Value}
use Rattle.icb_avro.specs.declared.value.Value.TheOpen.{Value-F}
use Rattle.icb_types.specs.declared.columns.ColType.{ColType}
use Rattle.icb_types.specs.declared.columns.ColType.TheVariants as kind
use Rattle.icb_types.specs.declared.columns.Column.{Column}
use Rattle.icb_types.specs.declared.datum.Datum.{Datum}
use Rattle.icb_types.specs.declared.datum.Datum.TheVariants as datum
use Rattle.icb_types.specs.Single.{datum_of_single}
use Rattle.icb_rows.specs.Order.{is_null}

-- ---- data of values

-- a datum that is there; else null
abbrev pub or_null : Option Datum → Datum
or_null None = datum.Null
or_null (Some d) = d

-- One level of a value as a datum of a kind, null where it has another type. The bytes of a fixed
-- type are the single value of its datum, and a value of a union is that of its branch.
abbrev pub datum_level : Value-F (ColType → Datum) → ColType → Datum
datum_level (Value-F.Boolean b) kind.Boolean = datum.Boolean b
datum_level (Value-F.Int n) kind.Int = datum.Int n
datum_level (Value-F.Int n) kind.Date = datum.Date n
datum_level (Value-F.Long n) kind.Long = datum.Long n
datum_level (Value-F.Long n) kind.Time = datum.Time n
datum_level (Value-F.Long n) kind.Timestamp = datum.Timestamp n
datum_level (Value-F.Long n) kind.TimestampTz = datum.TimestampTz n
datum_level (Value-F.Text text) kind.Text = datum.Text text
datum_level (Value-F.Bytes bytes) kind.Binary = datum.Binary bytes
datum_level (Value-F.Fixed bytes) kind.Uuid = or_null (datum_of_single kind.Uuid bytes)
datum_level (Value-F.Fixed bytes) (kind.Fixed size) =
    or_null (datum_of_single (kind.Fixed size) bytes)
datum_level (Value-F.Union branch inside) k = inside k
datum_level v k = datum.Null

-- the datum of a kind that a value is
unfoldable pub datum_of : Value → ColType → Datum
datum_of = fold-Value (ColType → Datum) datum_level

-- ---- fields by their ids

-- the fields of a record
abbrev pub form_fields : Form → Fields
form_fields (tree.fields name fs) = fs
form_fields form = tree.no_fields

-- the fields of a file's records
abbrev pub file_fields : Tree → Fields
file_fields t = form_fields (root_form t)

-- a field has this id
abbrev pub has_id : ℤ → Option ℤ → Bool
has_id id None = false
has_id id (Some own) = int_eq own id

-- the position and the shape of the first field with this id
abbrev pub field_from : ℕ → ℤ → Fields → Option (ℕ × Shape)
field_from at id tree.no_fields = None
field_from at id (tree.field name own t fs) =
    if has_id id own then Some (at, shape t) else field_from (suc at) id fs

-- the position and the shape of the first field with this id
abbrev pub field_of : ℤ → Fields → Option (ℕ × Shape)
field_of id fs = field_from 0 id fs

-- the datum of a kind that a value is, where it is there; else null
abbrev pub datum_there : ColType → Option Value → Datum
datum_there k None = datum.Null
datum_there k (Some v) = datum_of v k

-- the datum of a column in a record with these fields: null where no field has its id
abbrev pub datum_by_id : Column → Fields → List Value → Datum
datum_by_id c fs vs =
    datum_there c.kind (option_and_then (λ f. slice_get vs f.0) (field_of c.id fs))

-- ---- which files have the columns

-- the shape of null
abbrev pub is_null_shape : Shape → Bool
is_null_shape (primitive tree.null) = true
is_null_shape s = false

-- the Avro type of a kind, with its size; logical types are passed over
abbrev pub is_kind_shape : Shape → ColType → Bool
is_kind_shape (primitive tree.boolean) kind.Boolean = true
is_kind_shape (primitive tree.int) kind.Int = true
is_kind_shape (primitive tree.int) kind.Date = true
is_kind_shape (primitive tree.long) kind.Long = true
is_kind_shape (primitive tree.long) kind.Time = true
is_kind_shape (primitive tree.long) kind.Timestamp = true
is_kind_shape (primitive tree.long) kind.TimestampTz = true
is_kind_shape (primitive tree.text) kind.Text = true
is_kind_shape (primitive tree.bytes) kind.Binary = true
is_kind_shape (fixed size) kind.Uuid = size == 16
is_kind_shape (fixed size) (kind.Fixed own) = size == own
is_kind_shape s k = false

-- that type, or the union of null and it in either order
abbrev pub is_column_shape : Shape → ColType → Bool
is_column_shape (union (shape_then a (shape_then b no_shapes))) k =
    (is_null_shape a && is_kind_shape b k) || (is_kind_shape a k && is_null_shape b)
is_column_shape s k = is_kind_shape s k

-- a column is there with its type; an optional one may be missing
abbrev pub fits_field : Column → Option (ℕ × Shape) → Bool
fits_field c None = not c.required
fits_field c (Some f) = is_column_shape f.1 c.kind

-- the id of the first column that a file doesn't have so
abbrev pub first_unfit : List Column → Fields → Option ℤ
first_unfit [] fs = None
first_unfit (c ∷ columns) fs =
    if fits_field c (field_of c.id fs) then first_unfit columns fs else Some c.id

-- ---- rows

-- a row: the data of columns, by their ids, that aren't null
abbrev pub Row : Type 0
Row = finite.FinMap int_cmp Datum

-- the data that aren't null of columns with their data, by the columns' ids
abbrev pub present_data : List Column → List Datum → List (ℤ × Datum)
present_data [] row = []
present_data (c ∷ columns) [] = []
present_data (c ∷ columns) (d ∷ row) = if is_null d then present_data columns row
    else (c.id, d) ∷ present_data columns row

-- the row of a datum for each column
abbrev pub row_from : List Column → List Datum → Row
row_from columns row = finite.from_entries (present_data columns row)

-- the row that a record with these fields is
abbrev pub row_by_ids : List Column → Fields → List Value → Row
row_by_ids columns fs vs = row_from columns (map (λ c. datum_by_id c fs vs) columns)
