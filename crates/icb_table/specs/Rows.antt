-- The rows of a data file (Apache Iceberg Table Spec, "Column Projection", and "Appendix A:
-- Format-specific Requirements", Avro). A row is the data that aren't null, by the columns' ids.
use Rattle.std.specs.Prelude.{ℕ, zero, suc, ◌+◌, ◌-◌, ℤ, List, [], length, Option, Some, None}
use Rattle.std.specs.Prelude.{Ok, Err}
use Rattle.icb_schema.specs.Shape.{Shape, fields, fields_shapes}
use Rattle.icb_schema.specs.Tree.{Fields}
use Rattle.icb_avro.specs.declared.value.Value.{Value}
use Rattle.icb_avro.specs.Reading.{Read}
use Rattle.icb_container.specs.Wrong as wrong
use Rattle.icb_container.specs.Header.{Header, header_of}
use Rattle.icb_container.specs.Blocks.{Part}
use Rattle.icb_types.specs.declared.columns.Column.{Column}
use Rattle.icb_rows.specs.Records.{Row, file_fields, first_unfit, row_by_ids}
use Rattle.icb_rows.specs.Views.{passed_of, record_at}
use Rattle.icb_table.specs.Listed.{Listed}
use Rattle.icb_table.specs.Why as why
use Rattle.icb_table.specs.Records.{blocks_behind, opened}
use Rattle.icb_table.specs.Trace.{Trace, one, stopped, then_read, through, whole}

-- The columns of a table: those whose data its rows have, and those that each data file must fit:
-- a required one is there and never null, and each that is there has its type.
pub record Columns : Type 0 where
  pub kept : List Column
  pub shown : List Column

-- the shape of a record with these fields
abbrev pub record_shape : Fields → Shape
record_shape fs = fields (fields_shapes fs)

-- a row and those behind it; a record that ends early, or has a null that a column doesn't take,
-- is refused at the item's place
abbrev pub then_rows : Listed → (List Value → Row) → (List ℕ → Trace Row) → ℕ
    → Read (List Value) → Trace Row
then_rows file make more end (Ok x) = then_read (one (make x.0)) (more x.1)
then_rows file make more end (Err r) =
    stopped file (why.no_container (wrong.avro (end - r.left) r.cause))

-- the rows of so many records that end at a place, in a file with these fields
unfoldable pub rows_to : Listed → Columns → Fields → ℕ → ℕ → List ℕ → Trace Row
rows_to file columns fs end zero bytes = whole []
rows_to file columns fs end (suc n) bytes =
    then_rows file (row_by_ids columns.kept fs) (rows_to file columns fs end n) end
    (record_at (passed_of columns.shown fs) bytes)

-- the rows of a block of a file with these fields
abbrev pub rows_in : Listed → Columns → Fields → Part → Trace Row
rows_in file columns fs part =
    rows_to file columns fs (part.place + length part.bytes) part.count part.bytes

-- nothing is read of a file that doesn't fit the column of this id
abbrev pub unfit : {A : Type 0} → Listed → ℤ → Trace A
unfit file id = stopped file (why.bad_field 0 id)

-- what is read of a file with these fields, or the first column that it doesn't fit
abbrev pub fitting : {A : Type 0} → Listed → Option ℤ → Trace A → Trace A
fitting file None read = read
fitting file (Some id) read = unfit file id

-- the rows behind a header
abbrev pub rows_behind : Columns → Listed → List ℕ → Header → Trace Row
rows_behind columns file bytes h =
    fitting file (first_unfit columns.shown (file_fields h.schema))
    (through (rows_in file columns (file_fields h.schema)) (blocks_behind file bytes h))

-- the rows of a data file
unfoldable pub rows_of : Columns → Listed → List ℕ → Trace Row
rows_of columns file bytes = opened file (rows_behind columns file bytes) (header_of bytes)
