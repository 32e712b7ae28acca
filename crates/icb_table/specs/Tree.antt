-- The files below a manifest list, in reading order (Apache Iceberg Table Spec, "Manifest Lists"
-- and "Manifests"): the list, then for each row that counts its manifest, and then for each entry
-- that counts its data file, before the next row.
use Rattle.std.specs.Prelude.{◌≡◌, ◌⊎◌, ℕ, List, [], if◌then◌else◌, Option, Some, None}
use Rattle.std.specs.Prelude.{Result, Ok, Err}
use Rattle.std.specs.List.{Contains, filter_map}
use Rattle.icb_list.specs.declared.row.ListRow.{ListRow}
use Rattle.icb_rows.specs.Records.{Row}
use Rattle.icb_manifest.specs.declared.file.DataFile.{DataFile}
use Rattle.icb_manifest.specs.declared.entry.Entry.{Entry}
use Rattle.icb_table.specs.Listed.{Listed}
use Rattle.icb_table.specs.Why.{Why}
use Rattle.icb_table.specs.Tests.{data_file_of, is_deleted, is_passed, manifest_of}
use Rattle.icb_table.specs.Trace.{Stop, Trace, numbered, one, stopped, then_read, through, whole}

-- What files show, each by what it is listed as: a list its rows, a manifest its entries, with the
-- place of each in the file, and a data file the table's rows.
pub record Contents : Type 0 where
  pub list_rows : Listed → Trace (ℕ × ListRow)
  pub entries : Listed → Trace (ℕ × Entry)
  pub data_rows : Listed → Trace Row

-- a live data file: how it is listed, what its entry says of it, and the position of its manifest's
-- row in the list
pub record LiveFile : Type 0 where
  pub listed : Listed
  pub file : DataFile
  pub row : ℕ

-- a file of a tree
pub data TreeFile : Type 0 where
  -- the manifest list
  list : Listed → TreeFile
  -- a manifest
  manifest : Listed → TreeFile
  -- a data file
  data_file : LiveFile → TreeFile

-- how a file is listed
abbrev pub listed_as : TreeFile → Listed
listed_as (list f) = f
listed_as (manifest f) = f
listed_as (data_file f) = f.listed

-- the data file of an entry in a manifest, or why it isn't read
abbrev pub file_in : Listed → ℕ → DataFile → Result Listed Why → Trace TreeFile
file_in parent row file (Ok f) = one (data_file (record { listed = f; file = file; row = row }))
file_in parent row file (Err why) = stopped parent why

-- what an entry of a manifest adds: nothing where its file is deleted, and else its data file
abbrev pub below_entry : List ℕ → Listed → ℕ → ℕ × Entry → Trace TreeFile
below_entry location parent row entry = if is_deleted entry.1 then whole []
    else file_in parent row entry.1.file (data_file_of location entry.0 entry.1.file)

-- a manifest, and its live data files
abbrev pub below_manifest : List ℕ → Contents → Listed → ℕ → Result Listed Why → Trace TreeFile
below_manifest location contents parent row (Ok f) =
    then_read (one (manifest f)) (through (below_entry location f row) (contents.entries f))
below_manifest location contents parent row (Err why) = stopped parent why

-- what a row of a list adds: nothing where it is passed over, and else its manifest and what is
-- below it
abbrev pub below_row : List ℕ → Contents → Listed → ℕ × (ℕ × ListRow) → Trace TreeFile
below_row location contents parent row = if is_passed row.1.1 then whole []
    else below_manifest location contents parent row.0 (manifest_of location row.1.0 row.1.1)

-- the files below a list, the list first, in a table at a location
unfoldable pub tree_below : List ℕ → Contents → Listed → Trace TreeFile
tree_below location contents f = then_read (one (list f))
    (through (below_row location contents f) (numbered (contents.list_rows f)))

-- the data file that a file of a tree is
abbrev pub live : TreeFile → Option LiveFile
live (list f) = None
live (manifest f) = None
live (data_file f) = Some f

-- the data files among files of a tree
abbrev pub live_files : List TreeFile → List LiveFile
live_files files = filter_map live files

-- the rows that a file of a tree has: those of a data file
abbrev pub rows_in : Contents → TreeFile → Trace Row
rows_in contents (list f) = whole []
rows_in contents (manifest f) = whole []
rows_in contents (data_file f) = contents.data_rows f.listed

-- the rows below a list: those of its data files, one file after another
abbrev pub rows_below : List ℕ → Contents → Listed → Trace Row
rows_below location contents f = through (rows_in contents) (tree_below location contents f)

-- ---- why a file of the tree isn't read further

-- where the reading of a file of a tree ends before the file's end
abbrev pub own_stop : Contents → TreeFile → Option Stop
own_stop contents (list f) = (contents.list_rows f).stop
own_stop contents (manifest f) = (contents.entries f).stop
own_stop contents (data_file f) = (contents.data_rows f.listed).stop

-- Reading below a list may stop so: it does, or a file that is reached isn't read to its end, which
-- a reader may see before it gives the file's first records.
abbrev pub MayStop : List ℕ → Contents → Listed → Stop → Type 0
MayStop location contents f stop = ((tree_below location contents f).stop ≡ Some stop)
    ⊎ ((file : TreeFile) × Contains (tree_below location contents f).items file
    × (own_stop contents file ≡ Some stop))
