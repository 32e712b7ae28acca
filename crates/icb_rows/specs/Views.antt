-- What a projection is, and how a record is read under it: as Avro reads it, where a null of a
-- required column is refused.
use Rattle.std.specs.Prelude.{◌≡◌, ℕ, zero, suc, ◌+◌, ◌-◌, ◌==◌, ℤ}
use Rattle.std.specs.Prelude.{pos, negsuc, List, [], ◌∷◌, length, map, take}
use Rattle.std.specs.Prelude.{Bool, true, false, ◌&&◌, nat_lt, if◌then◌else◌, slice_get}
use Rattle.std.specs.Prelude.{Option, Some, None, option_map, Result, Ok, Err}
use Rattle.std.specs.List.{list_any, filter_map}
use Rattle.std.specs.Borrow.{Bor}
use Rattle.icb_schema.specs.Tree as tree
use Rattle.icb_schema.specs.Tree.{Fields}
use Rattle.icb_schema.specs.Shape.{Shape, Shapes, primitive}
use Rattle.icb_schema.specs.Shape.{union, no_shapes, shape_then, shape, shape_of}
use Rattle.icb_schema.specs.Shape.{fields_shapes, all_arrays_take_bytes}
use Rattle.icb_avro.specs.declared.fault.AvroCause.TheVariants as cause
use Rattle.icb_avro.specs.declared.fault.AvroFault.{AvroFault}
use Rattle.icb_avro.specs.Cursor.{Input, MovesBehind}
use Rattle.icb_avro.specs.declared.value.Value.{Value, fold-Value}
use Rattle.icb_avro.specs.declared.value.Value.TheOpen.{Value-F}
use Rattle.icb_avro.specs.Reading.{◌>>=◌, Read, int_at, refuse, value_at}
use Rattle.icb_types.specs.declared.columns.Column.{Column}
use Rattle.icb_rows.specs.declared.fault.ProjectionFault.{ProjectionFault}
use Rattle.icb_rows.specs.declared.fault.ProjectionFault.TheVariants as fault
use Rattle.icb_rows.specs.declared.projection.Passed as code
use Rattle.icb_rows.specs.declared.projection.Placed.{Placed}
use Rattle.icb_rows.specs.declared.projection.Projection.{Projection}
use Rattle.icb_rows.specs.Records.{field_of, first_unfit, fits_field, is_null_shape}

-- ---- fields that are passed

-- a field of a file's records: its shape, and whether its null is refused
pub record Passed : Type 0 where
  pub shape : Shape
  pub needs : Bool

-- a place is this one
abbrev pub is_at : ℕ → Option ℕ → Bool
is_at at None = false
is_at at (Some place) = place == at

-- a required column is the field at this place
abbrev pub is_needed : ℕ → List Placed → Bool
is_needed at columns = list_any (λ c. c.required && is_at at c.place) columns

-- the fields from this place on, where columns are placed so
abbrev pub passed_from : ℕ → List Placed → Fields → List Passed
passed_from at columns tree.no_fields = []
passed_from at columns (tree.field name id t fs) =
    record { shape = shape t; needs = is_needed at columns } ∷ passed_from (suc at) columns fs

-- where a column is among these fields: at the first with its id
abbrev pub placed_of : Fields → Column → Placed
placed_of fs c = record {
  kind = c.kind;
  required = c.required;
  place = option_map (λ f. f.0) (field_of c.id fs);
}

-- the fields of a file whose records are read for these columns
abbrev pub passed_of : List Column → Fields → List Passed
passed_of columns fs = passed_from 0 (map (placed_of fs) columns) fs

-- ---- reading a record

-- the branch of this number is null
abbrev pub is_null_branch : Shapes → ℤ → Bool
is_null_branch no_shapes k = false
is_null_branch (shape_then s ss) (pos zero) = is_null_shape s
is_null_branch (shape_then s ss) (pos (suc k)) = is_null_branch ss (pos k)
is_null_branch (shape_then s ss) (negsuc k) = false

-- one level of a value: the number of a union's branch, and 0 of other values
abbrev pub branch_level : Value-F ℕ → ℕ
branch_level (Value-F.Union branch inside) = branch
branch_level v = 0

-- the number of the branch of a value of a union
unfoldable pub branch_of : Value → ℕ
branch_of = fold-Value ℕ branch_level

-- a value of this shape is a null: its branch is, where it is one of a union
abbrev pub is_null_of : Shape → Value → Bool
is_null_of (primitive tree.null) v = true
is_null_of (union ss) v = is_null_branch ss (pos (branch_of v))
is_null_of s v = false

-- a field's value; a null that is refused is an index that its union doesn't have
abbrev pub field_at : Passed → List ℕ → Read Value
field_at p all = value_at p.shape all >>= (λ v.
    if p.needs && is_null_of p.shape v.0 then refuse cause.Index all else Ok v)

-- a value for each field, in order
abbrev pub record_at : List Passed → List ℕ → Read (List Value)
record_at [] all = Ok ([], all)
record_at (p ∷ ps) all =
    field_at p all >>= (λ v. record_at ps v.1 >>= (λ vs. Ok (v.0 ∷ vs.0, vs.1)))

-- the bytes of a record, and those behind it
abbrev pub taken_at : List Passed → List ℕ → Read (List ℕ)
taken_at ps all =
    record_at ps all >>= (λ vs. Ok (take (length all - length vs.1) all, vs.1))

-- ---- projections

-- the columns at positions; a position behind the last has none
abbrev pub chosen : List Column → List ℕ → List Column
chosen columns positions = filter_map (slice_get columns) positions

-- what the code keeps of a field
abbrev pub passed : code.Passed → Passed
passed p = record { shape = shape_of p.node; needs = p.needs }

-- the projection of these columns of a file with these fields, which has them all
pub record IsProjection (p : Projection) (columns : List Column) (fs : Fields) : Type 0 where
  pub fields : map passed p.fields ≡ passed_of columns fs
  pub places : p.columns ≡ map (placed_of fs) columns
  pub fit : first_unfit columns fs ≡ None
  pub arrays : all_arrays_take_bytes (fields_shapes fs) ≡ true

-- a call gave the projection, or the id of the first column that the file doesn't have with its
-- type, or memory was wanting
abbrev pub Projects : Result Projection ProjectionFault → List Column → Fields → Type 0
Projects (Ok p) columns fs = IsProjection p columns fs
Projects (Err (fault.Field id)) columns fs = first_unfit columns fs ≡ Some id
Projects (Err fault.NoMemory) columns fs = Unit {0}

-- columns were placed, or the first that the file doesn't have with its type, or memory was
-- wanting
abbrev pub Places : Result (List Placed) ProjectionFault → List Column → Fields → Type 0
Places (Ok placed) columns fs =
    (placed ≡ map (placed_of fs) columns) × (first_unfit columns fs ≡ None)
Places (Err (fault.Field id)) columns fs = first_unfit columns fs ≡ Some id
Places (Err fault.NoMemory) columns fs = Unit {0}

-- a column among these fields, where it has its type
abbrev pub placed_in : Fields → Column → Option Placed
placed_in fs c = if fits_field c (field_of c.id fs) then Some (placed_of fs c) else None

-- A call answers the bytes behind what is read and goes there, or names the refused item by its
-- place and its cause.
abbrev pub Passes : {A : Type 0} → Result (Bor (List ℕ)) AvroFault → Input → Input → Read A
    → Type 0
Passes (Ok rest) old new (Ok x) = MovesBehind rest.now old new (x.1, x.1)
Passes (Err f) old new (Err r) = (f.cause ≡ r.cause) × (f.place + r.left ≡ length old.whole)
    × (new.whole ≡ old.whole)
Passes (Ok rest) old new (Err r) = ⊥
Passes (Err f) old new (Ok x) = ⊥

-- a number was read, which is that of a branch that is null
abbrev pub is_null_index : Shapes → Read ℤ → Bool
is_null_index ss (Ok x) = is_null_branch ss x.0
is_null_index ss (Err r) = false

-- bytes of this shape begin with a null: with the number of a union's branch that is null
abbrev pub begins_null : Shape → List ℕ → Bool
begins_null (primitive tree.null) all = true
begins_null (union ss) all = is_null_index ss (int_at all)
begins_null s all = false

-- a number that is below a count
abbrev pub number_below : ℕ → ℤ → Option ℕ
number_below count (pos n) = if nat_lt n count then Some n else None
number_below count (negsuc n) = None
