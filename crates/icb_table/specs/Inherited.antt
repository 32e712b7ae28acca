-- What an entry of a manifest has from the row of its manifest list where it says nothing itself
-- (Apache Iceberg Table Spec, "Sequence Number Inheritance" and "First Row ID Inheritance").
use Rattle.std.specs.Prelude.{ℤ, pos, negsuc, ◌+ℤ◌, List, [], ◌∷◌, Option, Some, None}
use Rattle.std.specs.Prelude.{option_map, unwrap_or}
use Rattle.icb_list.specs.declared.row.ListRow.{ListRow}
use Rattle.icb_manifest.specs.declared.file.DataFile.{DataFile}
use Rattle.icb_manifest.specs.declared.entry.Entry.{Entry}

-- the snapshot that added or deleted the file: a null one is the row's
abbrev pub snapshot_of : ListRow → Entry → ℤ
snapshot_of row entry = unwrap_or entry.snapshot row.snapshot

-- the sequence number of the file's rows: a null one is the row's
abbrev pub sequence_of : ListRow → Entry → ℤ
sequence_of row entry = unwrap_or entry.sequence row.sequence

-- the sequence number with which the file was added: a null one is the row's
abbrev pub file_sequence_of : ListRow → Entry → ℤ
file_sequence_of row entry = unwrap_or entry.file_sequence row.sequence

-- how many row ids a file takes: as many as it has records, and none where that is below 0
abbrev pub ids_taken : DataFile → ℤ
ids_taken file = above file.records
  where
    above : ℤ → ℤ
    above (pos n) = pos n
    above (negsuc n) = pos 0

-- the first row id of a file, and the next one that is given: its own, or where it is null the next
abbrev pub first_row_of : Option ℤ → DataFile → Option ℤ × Option ℤ
first_row_of next file = own file.first_row
  where
    own : Option ℤ → Option ℤ × Option ℤ
    own None = (next, option_map (λ id. id +ℤ ids_taken file) next)
    own (Some id) = (Some id, next)

-- the first row ids of live files of a manifest, in order; the row's first row id is the next one
unfoldable pub first_rows : Option ℤ → List DataFile → List (Option ℤ)
first_rows next [] = []
first_rows next (file ∷ files) =
    (first_row_of next file).0 ∷ first_rows (first_row_of next file).1 files
