-- The bytes of a data file: a container whose records are the rows (Apache Iceberg Table Spec,
-- "Appendix A: Format-specific Requirements", Avro; where blocks end is ours).
use Rattle.std.specs.Prelude.{ℕ, ◌+◌, ◌==◌, List, [], ◌∷◌, ◌++◌, length, map, nat_le}
use Rattle.std.specs.Prelude.{if◌then◌else◌}
use Rattle.std.specs.Int.{w128, to_be_bytes}
use Rattle.icb_schema.specs.Printing.{text_of}
use Rattle.icb_avro.specs.declared.value.Value.{Value}
use Rattle.icb_avro.specs.declared.value.Value.TheVariants as value
use Rattle.icb_avro.specs.Writing.{written}
use Rattle.icb_container.specs.declared.block.Block.{Block}
use Rattle.icb_container.specs.Written.{written_container}
use Rattle.icb_types.specs.declared.columns.Column.{Column}
use Rattle.icb_types.specs.declared.datum.Datum.{Datum}
use Rattle.icb_types.specs.declared.datum.Datum.TheVariants as datum
use Rattle.icb_types.specs.Table.{table_tree}
use Rattle.icb_rows.specs.Order.{is_null}
use Rattle.icb_rows.specs.Bounds.{datum_at}

-- the Avro value of a datum
abbrev pub value_of : Datum → Value
value_of datum.Null = value.Null
value_of (datum.Boolean b) = value.Boolean b
value_of (datum.Int n) = value.Int n
value_of (datum.Long n) = value.Long n
value_of (datum.Date days) = value.Int days
value_of (datum.Time time) = value.Long time
value_of (datum.Timestamp time) = value.Long time
value_of (datum.TimestampTz time) = value.Long time
value_of (datum.Text text) = value.Text text
value_of (datum.Uuid id) = value.Fixed (to_be_bytes w128 id)
value_of (datum.Fixed bytes) = value.Fixed bytes
value_of (datum.Binary bytes) = value.Bytes bytes

-- the value of a column: of the union of null and its type, where it isn't required
abbrev pub column_value : Column → Datum → Value
column_value c d = if c.required then value_of d
    else value.Union (if is_null d then 0 else 1) (value_of d)

-- the values of columns, the first of which stands at this position of the row
abbrev pub values_from : ℕ → List Column → List Datum → List Value
values_from at [] row = []
values_from at (c ∷ columns) row =
    column_value c (datum_at at row) ∷ values_from (at + 1) columns row

-- the bytes of a row: a record with a value for each column
abbrev pub row_bytes : List Column → List Datum → List ℕ
row_bytes columns row = written (value.Record (values_from 0 columns row))

-- a block with one more record
abbrev pub with_record : Block → List ℕ → Block
with_record b bytes = record {
  first = b.first;
  count = b.count + 1;
  place = b.place;
  bytes = b.bytes ++ bytes;
}

-- the block without records; where its records stand in the file isn't said
abbrev pub empty_block : Block
empty_block = record { first = 0; count = 0; place = 0; bytes = [] }

-- The blocks of records, of which the first have been put into this one. A block ends at the first
-- record that brings it to so many bytes or more.
abbrev pub blocks_from : ℕ → Block → List (List ℕ) → List Block
blocks_from size b [] = if b.count == 0 then [] else b ∷ []
blocks_from size b (bytes ∷ records) = if nat_le size (length (with_record b bytes).bytes)
    then with_record b bytes ∷ blocks_from size empty_block records
    else blocks_from size (with_record b bytes) records

-- the blocks of rows
abbrev pub blocks_of : ℕ → List Column → List (List Datum) → List Block
blocks_of size columns rows = blocks_from size empty_block (map (row_bytes columns) rows)

-- the data file of rows, with the columns' Avro schema, blocks of this size and this marker
abbrev pub data_file : List Column → List (List Datum) → ℕ → List ℕ → List ℕ
data_file columns rows size marker =
    written_container (text_of (table_tree columns)) [] marker (blocks_of size columns rows)
