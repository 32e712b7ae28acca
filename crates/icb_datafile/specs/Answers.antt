-- What each call answers, over a whole file that fills what is known of the reader.
use Rattle.std.specs.Prelude.{◌≡◌, ◌⊎◌, ℕ, ◌+◌, ◌<◌, ◌≤◌, List, [], length, Bool, true}
use Rattle.std.specs.Prelude.{false, Option, None}
use Rattle.std.specs.Prelude.{Result, Ok, Err, Some}
use Rattle.icb_schema.specs.Tree.{Fields}
use Rattle.icb_container.specs.declared.block.Block.{Block}
use Rattle.icb_types.specs.declared.columns.Column.{Column}
use Rattle.icb_reader.specs.Answers.{IsPlain, reader_fault_of}
use Rattle.icb_reader.specs.declared.fault.RecordsFault.{RecordsFault}
use Rattle.icb_reader.specs.declared.fault.RecordsFault.TheVariants as told
use Rattle.icb_rows.specs.declared.projection.Projection.{Projection}
use Rattle.icb_rows.specs.Records.{Row, first_unfit}
use Rattle.icb_rows.specs.Views.{IsProjection}
use Rattle.icb_table.specs.Listed.{Listed}
use Rattle.icb_table.specs.Rows.{rows_of, rows_to}
use Rattle.icb_table.specs.Trace.{Trace, whole}
use Rattle.icb_datafile.specs.declared.data_file.DataFile.{DataFile}
use Rattle.icb_datafile.specs.declared.fault.RowsFault.{RowsFault}
use Rattle.icb_datafile.specs.declared.fault.RowsFault.TheVariants as fault
use Rattle.icb_datafile.specs.declared.plan.Plan.{Plan}
use Rattle.icb_datafile.specs.Left.{EndsSo, HasLeftOut, Stands, all_of, left_of}
use Rattle.icb_datafile.specs.Plans.{IsPlanOf, Passes, asks_none, emptied, selection_by}

-- ---- faults

-- the fault of the reader that a call answered
abbrev pub rows_fault : {A F : Type 0} → Result A (RowsFault F) → Option F
rows_fault (Ok x) = None
rows_fault (Err (fault.File e)) = reader_fault_of e
rows_fault (Err fault.Sink) = None

-- want of memory isn't told as the container's
abbrev pub IsPlainRows : {F : Type 0} → RowsFault F → Type 0
IsPlainRows (fault.File e) = IsPlain e
IsPlainRows fault.Sink = Unit {0}

-- ---- opening

-- The data file stands before its first row, or nothing is read of it for the reason that is
-- answered.
abbrev pub OpensAs : {F : Type 0} → Result DataFile (RecordsFault F) → List Column → Listed
    → List ℕ → Type 0
OpensAs (Ok d) columns f file =
    Stands columns d file × (rows_of (all_of columns) f file ≡ left_of columns f d file)
OpensAs (Err e) columns f file =
    EndsSo f (rows_of (all_of columns) f file) (rows_of (all_of columns) f file).items e

-- so it is, whatever the file is listed as
abbrev pub OpensFile : {F : Type 0} → Result DataFile (RecordsFault F) → List Column
    → List (Option ℕ) → List ℕ → Type 0
OpensFile result columns known file = (f : Listed) → OpensAs result columns f file

-- ---- rows

-- Rows were passed up to where a fault says that they end, or to any of them, where it says nothing
-- of the file; and further rows are asked for.
pub record StopsAt {F : Type 0} (columns : List Column) (f : Listed) (old new : Plan)
    (rows : Trace Row) (e : RecordsFault F) : Type 0 where
  pub left : List Row
  pub passes : Passes columns old new rows.items left
  pub ends_so : EndsSo f rows left e
  pub asked : asks_none new.most ≡ false

-- The rows of a block were passed, and those behind it are left; or as many were passed as are
-- asked for.
pub record PassesBlock (columns : List Column) (f : Listed) (d now : DataFile) (old new : Plan)
    (file : List ℕ) : Type 0 where
  pub left : List Row
  pub passes : Passes columns old new (left_of columns f d file).items left
  pub ends : (asks_none new.most ≡ true) ⊎ ((left ≡ (left_of columns f now file).items)
      × ((left_of columns f now file).stop ≡ (left_of columns f d file).stop))
  pub stands : Stands columns now file

-- The rows of a block were passed; or nothing was left; or the rows end, or no memory was left.
abbrev pub Blocks : {F : Type 0} → Result Bool (RecordsFault F) → List Column → Listed
    → DataFile → DataFile → Plan → Plan → List ℕ → Type 0
Blocks (Ok true) columns f d now p q file = PassesBlock columns f d now p q file
Blocks (Ok false) columns f d now p q file =
    (left_of columns f d file ≡ whole []) × Passes columns p q [] []
Blocks (Err e) columns f d now p q file = StopsAt columns f p q (left_of columns f d file) e

-- the same with a sink, at whose failure some rows were passed
abbrev pub StepsBy : {F : Type 0} → Result Bool (RowsFault F) → List Column → Listed
    → DataFile → DataFile → Plan → Plan → List ℕ → Type 0
StepsBy {F = F} (Ok more) columns f d now p q file =
    Blocks {F = F} (Ok more) columns f d now p q file
StepsBy (Err (fault.File e)) columns f d now p q file =
    StopsAt columns f p q (left_of columns f d file) e
StepsBy (Err fault.Sink) columns f d now p q file =
    (left : List Row) × Passes columns p q (left_of columns f d file).items left

-- A step passes the rows of the next block. Its text is that of those that are chosen.
abbrev pub Steps : {F : Type 0} → Result Bool (RowsFault F) → DataFile → DataFile → Plan → Plan
    → List (Option ℕ) → List ℕ → Type 0
Steps result d now p q known file = (columns : List Column) (f : Listed) → Stands columns d file
    → IsPlanOf columns p → StepsBy result columns f d now (emptied p) q file

-- ---- rows that are left out

-- Rows of blocks were passed, and those behind them are left.
pub record PassesBlocks (columns : List Column) (f : Listed) (d now : DataFile) (old new : Plan)
    (file : List ℕ) : Type 0 where
  pub passes : Passes columns old new (left_of columns f d file).items
      (left_of columns f now file).items
  pub same_stop : (left_of columns f now file).stop ≡ (left_of columns f d file).stop
  pub stands : Stands columns now file

-- blocks were passed, or the rows end
abbrev pub LeavesOutBy : {A F : Type 0} → Result A (RecordsFault F) → List Column → Listed
    → DataFile → DataFile → Plan → Plan → List ℕ → Type 0
LeavesOutBy (Ok _) columns f d now p q file = PassesBlocks columns f d now p q file
LeavesOutBy (Err e) columns f d now p q file = StopsAt columns f p q (left_of columns f d file) e

-- so it is where the rows that are left out are there
abbrev pub LeavesOut : {A F : Type 0} → Result A (RecordsFault F) → DataFile → DataFile → Plan
    → Plan → List (Option ℕ) → List ℕ → Type 0
LeavesOut result d now p q known file = (columns : List Column) (f : Listed)
    → Stands columns d file → IsPlanOf columns p
    → HasLeftOut (selection_by columns p) (left_of columns f d file)
    → LeavesOutBy result columns f d now p q file

-- where there was a block, the data file stands further on, within so many bytes
pub record IsAhead (d now : DataFile) (size : ℕ) : Type 0 where
  pub on : d.container.place < now.container.place
  pub in_file : now.container.place ≤ size

-- ---- the crate's own calls

-- all columns were found among a file's fields, or the first is named that isn't there
abbrev pub FindsColumns : {F : Type 0} → Result Projection (RecordsFault F) → List Column → Fields
    → Type 0
FindsColumns (Ok p) columns fs = IsProjection p columns fs
FindsColumns (Err (told.Container e)) columns fs = ⊥
FindsColumns (Err (told.Field place id)) columns fs =
    (place ≡ 0) × (first_unfit columns fs ≡ Some id)
FindsColumns (Err told.NoMemory) columns fs = Unit {0}

-- all rows were passed, or as many as are asked for; or they end
abbrev pub PassesAll : {F : Type 0} → Result (Unit {0}) (RecordsFault F) → List Column → Listed
    → Plan → Plan → Trace Row → Type 0
PassesAll (Ok _) columns f p q rows = (left : List Row) × Passes columns p q rows.items left
    × ((asks_none q.most ≡ true) ⊎ ((left ≡ []) × (rows.stop ≡ None)))
PassesAll (Err e) columns f p q rows = StopsAt columns f p q rows e

-- the rows of a block were passed
abbrev pub PrintsRows : {F : Type 0} → Result (Unit {0}) (RecordsFault F) → Projection → Block
    → Plan → Plan → Type 0
PrintsRows result projection block p q = (columns : List Column) (fs : Fields) (f : Listed)
    → IsProjection projection columns fs → IsPlanOf columns p → PassesAll result columns f p q
    (rows_to f (all_of columns) fs (block.place + length block.bytes) block.count block.bytes)

-- the rows of the next block were passed
abbrev pub PrintsBlock : {F : Type 0} → Result Bool (RecordsFault F) → DataFile → DataFile
    → Plan → Plan → List (Option ℕ) → List ℕ → Type 0
PrintsBlock result d now p q known file = (columns : List Column) (f : Listed)
    → Stands columns d file → IsPlanOf columns p → Blocks result columns f d now (emptied p) q file
