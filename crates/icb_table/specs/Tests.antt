-- Which rows of a manifest list and which entries of a manifest count, and the file that each
-- names (Apache Iceberg Table Spec, "Manifest Lists" and "Manifests"; the order of tests is ours).
use Rattle.std.specs.Prelude.{ℕ, ℤ, pos, List, codes, Bool, not, ◌&&◌, if◌then◌else◌, slice_get}
use Rattle.std.specs.Prelude.{bytes_eq, map, unwrap_or, Result, Err}
use Rattle.std.specs.Char.{to_ascii_lowercase}
use Rattle.std.specs.Ordering.{int_eq}
use Rattle.icb_list.specs.declared.row.ListRow.{ListRow}
use Rattle.icb_manifest.specs.declared.file.DataFile.{DataFile}
use Rattle.icb_manifest.specs.declared.entry.Entry.{Entry}
use Rattle.icb_table.specs.Listed.{Listed, listed_by}
use Rattle.icb_table.specs.Why.{Why}
use Rattle.icb_table.specs.Why as why

-- ---- rows of a manifest list ("Manifest Lists")

-- the manifest has delete files (517, content)
abbrev pub has_deletes : ListRow → Bool
has_deletes row = int_eq row.content (pos 1)

-- no file of the manifest is live: none was added (504), and none exists from before (505)
abbrev pub has_none : ListRow → Bool
has_none row =
    int_eq (count 0) (pos 0) && int_eq (count 1) (pos 0)
  where
    count : ℕ → ℤ
    count at = unwrap_or (slice_get row.files at) (pos 0)

-- a row is passed over where its manifest has delete files, none of which is live
abbrev pub is_passed : ListRow → Bool
is_passed row = has_deletes row && has_none row

-- the manifest of a row that isn't passed over, or the first test that refuses it
abbrev pub manifest_of : List ℕ → ℕ → ListRow → Result Listed Why
manifest_of location place row =
    if has_deletes row then Err (why.unread row.path why.delete_manifest)
    else listed_by location place row.path row.key row.length

-- ---- entries of a manifest ("Manifests")

-- the entry's file was deleted (0, status)
abbrev pub is_deleted : Entry → Bool
is_deleted entry = int_eq entry.status (pos 2)

-- the file has rows (134, content)
abbrev pub has_rows : DataFile → Bool
has_rows file = int_eq file.content (pos 0)

-- the format's name is `avro` in letters of either case (101, file_format)
abbrev pub is_avro : DataFile → Bool
is_avro file = bytes_eq (map to_ascii_lowercase file.format) (codes "avro")

-- the data file of an entry that isn't deleted, or the first test that refuses it
abbrev pub data_file_of : List ℕ → ℕ → DataFile → Result Listed Why
data_file_of location place file =
    if not (has_rows file) then Err (why.unread file.path why.delete_file)
    else (if not (is_avro file) then Err (why.unread file.path why.format)
    else listed_by location place file.path file.key file.size)
