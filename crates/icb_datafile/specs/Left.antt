-- The rows of a data file that are left where a reader stands, and what a refusal says of them.
use Rattle.std.specs.Prelude.{◌≡◌, ◌⊎◌, ℕ, suc, ◌-◌, ◌≤◌, List, [], length, Option, Some, None}
use Rattle.std.specs.Prelude.{option_map, IfSome}
use Rattle.icb_schema.specs.Nodes.{tree_of}
use Rattle.icb_container.specs.Blocks.{State}
use Rattle.icb_container.specs.Less.{wrong_of}
use Rattle.icb_container.specs.Opened.{state_of}
use Rattle.icb_types.specs.declared.columns.Column.{Column}
use Rattle.icb_reader.specs.Records.{Refusal}
use Rattle.icb_reader.specs.Records as refusal
use Rattle.icb_reader.specs.declared.fault.RecordsFault.{RecordsFault}
use Rattle.icb_reader.specs.declared.fault.RecordsFault.TheVariants as fault
use Rattle.icb_rows.specs.Records.{Row, file_fields}
use Rattle.icb_rows.specs.Views.{IsProjection}
use Rattle.icb_table.specs.Listed.{Listed}
use Rattle.icb_table.specs.Records.{blocks_from}
use Rattle.icb_table.specs.Rows.{Columns, rows_in}
use Rattle.icb_table.specs.Selection.{Selection}
use Rattle.icb_table.specs.Steps.{why_of}
use Rattle.icb_table.specs.Trace.{Trace, through}
use Rattle.icb_datafile.specs.declared.data_file.DataFile.{DataFile}

-- the columns of a table that has one schema
abbrev pub all_of : List Column → Columns
all_of columns = record { kept = columns; shown = columns }

-- the rows of the blocks from where a reader stands on
unfoldable pub rows_left : List Column → Listed → State → List ℕ → Trace Row
rows_left columns f s file = through (rows_in f (all_of columns) (file_fields s.schema))
    (blocks_from f (suc (length file) - s.block) s file)

-- the rows that are left to a data file
abbrev pub left_of : List Column → Listed → DataFile → List ℕ → Trace Row
left_of columns f d file = rows_left columns f (state_of d.container) file

-- where no range is asked, the rows don't stop among those that are left out
abbrev pub HasLeftOut : Selection → Trace Row → Type 0
HasLeftOut s rows = s.range ≡ None → (rows.stop ≡ None) ⊎ (s.skip ≤ length rows.items)

-- A data file is read for these columns, and stands in the file, behind fewer blocks than bytes.
pub record Stands (columns : List Column) (d : DataFile) (file : List ℕ) : Type 0 where
  pub is_projection : IsProjection d.projection columns (file_fields (tree_of d.container.schema))
  pub within : d.container.place ≤ length file
  pub passed : d.container.block ≤ d.container.place

-- what a fault says of the file: nothing where it is the reader's, or of memory
abbrev pub refusal_of : {F : Type 0} → RecordsFault F → Option Refusal
refusal_of (fault.Container e) = option_map refusal.container (wrong_of e)
refusal_of (fault.Field place id) = Some (refusal.field place id)
refusal_of fault.NoMemory = None

-- where a fault says why no more is read, that is why these rows end, and none is left before
pub record EndsSo {F : Type 0} (f : Listed) (rows : Trace Row) (left : List Row)
    (e : RecordsFault F) : Type 0 where
  pub none_left : IfSome (refusal_of e) (λ r. left ≡ [])
  pub why_ended : IfSome (refusal_of e) (λ r.
      rows.stop ≡ Some (record { file = f; why = why_of r }))
