-- The rows that a file holds, and what is asked of rows so that their file is read again as them
-- (Apache Iceberg Table Spec, "Column Projection").
use Rattle.std.specs.Prelude.{◌≡◌, ℕ, ◌<◌, ◌≤◌, List, [], length, map, nat_le, Bool, true, Ok}
use Rattle.std.specs.List.{AllByRecursion, list_all}
use Rattle.icb_schema.specs.Printing.{text_of}
use Rattle.icb_avro.specs.declared.value.Value.{Value, out-Value}
use Rattle.icb_avro.specs.declared.value.Value.TheOpen.{Value-F}
use Rattle.icb_container.specs.Blocks.{max_block}
use Rattle.icb_container.specs.Content.{Content, content_of}
use Rattle.icb_container.specs.Header.{max_header}
use Rattle.icb_container.specs.Written.{properties_of, written_header}
use Rattle.icb_container.specs.declared.block.Block.{Block}
use Rattle.icb_types.specs.declared.columns.Column.{Column}
use Rattle.icb_types.specs.declared.datum.Datum.{Datum}
use Rattle.icb_types.specs.Fits.{FitsColumns, IsDatum}
use Rattle.icb_types.specs.Table.{table_tree}
use Rattle.icb_rows.specs.Bounds.{datum_at}
use Rattle.icb_rows.specs.Data.{blocks_of}
use Rattle.icb_rows.specs.Records.{Row, file_fields, row_by_ids, row_from}

-- ---- the rows of a file

-- one level of a value as the values of a record; none of another value
abbrev pub level_values : Value-F Value → List Value
level_values (Value-F.Record vs) = vs
level_values v = []

-- the values of a record's fields; none of another value
abbrev pub field_values : Value → List Value
field_values v = level_values (out-Value v)

-- the rows that the records of a file's content are, with the file's own fields
abbrev pub rows_in : List Column → Content → List Row
rows_in columns content =
    map (λ v. row_by_ids columns (file_fields content.schema) (field_values v)) content.records

-- ---- a file that is read again

-- a datum of the code for each column, which fits it
abbrev pub IsRowOf : List Column → List Datum → Type 0
IsRowOf columns row = FitsColumns columns row × AllByRecursion IsDatum row

-- the data of a row at the positions of these columns are data of the code
abbrev pub HasData : List Column → List Datum → Type 0
HasData columns row = (at : ℕ) → at < length columns → IsDatum (datum_at at row)

-- each block is as short as a reader takes it
abbrev pub are_within : List Block → Bool
are_within blocks = list_all (λ b. nat_le (length b.bytes) max_block) blocks

-- each row fits the columns, and the header is as short as a reader takes it
pub record IsHeaded (columns : List Column) (rows : List (List Datum)) (marker : List ℕ)
    : Type 0 where
  pub fit : AllByRecursion (FitsColumns columns) rows
  pub header : length (written_header (properties_of (text_of (table_tree columns)) []) marker)
      ≤ max_header

-- each row fits the columns, and the header and each block are as short as a reader takes them
pub record IsReadable (columns : List Column) (rows : List (List Datum)) (size : ℕ)
    (marker : List ℕ) : Type 0 where
  pub headed : IsHeaded columns rows marker
  pub blocks : are_within (blocks_of size columns rows) ≡ true

-- A file has a content, under the columns' own schema, and the rows of that are these.
pub record HoldsRows (columns : List Column) (given : List (List Datum)) (file : List ℕ) : Type 0
  where
    pub content : Content
    pub read : content_of file ≡ Ok content
    pub schema : content.schema ≡ table_tree columns
    pub rows : rows_in columns content ≡ map (row_from columns) given
