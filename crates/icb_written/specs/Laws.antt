-- The laws of what is written. Each is the contract of a function of `src/laws.rt`.
use Rattle.std.specs.Prelude.{◌≡◌, ◌≤◌, ℕ, ℤ, pos, true, List, [], ◌++◌, length, map, codes, None}
use Rattle.std.specs.Prelude.{Some, Ok}
use Rattle.std.specs.List.{AllByRecursion}
use Rattle.icb_base.specs.KeyMetadata.{KeyRecord}
use Rattle.icb_base.specs.Objects.{Objects, object_at}
use Rattle.icb_base.specs.Paths.{is_object_path}
use Rattle.icb_schema.specs.Shape.{shape}
use Rattle.icb_avro.specs.Writing.{Fits}
use Rattle.icb_container.specs.Header.{max_header}
use Rattle.icb_keymeta.specs.Decoded.{key_metadata_of}
use Rattle.icb_stream.specs.Sealing.{IsStreamOf}
use Rattle.icb_meta.specs.declared.fields.Fields.{Fields}
use Rattle.icb_types.specs.Columns.{AreColumns}
use Rattle.icb_types.specs.Fits.{FitsColumns}
use Rattle.icb_types.specs.declared.columns.Column.{Column}
use Rattle.icb_types.specs.declared.columns.TableSchema.{TableSchema}
use Rattle.icb_types.specs.declared.datum.Datum.{Datum}
use Rattle.icb_records.specs.Laws.{max_record}
use Rattle.icb_list.specs.Laws.{IsRow}
use Rattle.icb_list.specs.Written.{row_tree, row_value, written_list}
use Rattle.icb_list.specs.declared.row.ListRow.{ListRow}
use Rattle.icb_manifest.specs.Laws.{IsEntry}
use Rattle.icb_manifest.specs.Written.{entry_tree, entry_value, written_manifest}
use Rattle.icb_manifest.specs.declared.entry.Entry.{Entry}
use Rattle.icb_rows.specs.Bounds.{bounds_of}
use Rattle.icb_rows.specs.Records.{row_from}
use Rattle.icb_rows.specs.Rows.{HoldsRows, IsRowOf}
use Rattle.icb_manifest.specs.declared.file.DataFile.{DataFile}
use Rattle.icb_table.specs.Contents.{plaintexts_in}
use Rattle.icb_table.specs.Listed.{Listed, listed}
use Rattle.icb_table.specs.Rows.{Columns, rows_of}
use Rattle.icb_table.specs.Snapshots.{columns_of}
use Rattle.icb_table.specs.Table.{BoundsHold, contents_in}
use Rattle.icb_table.specs.Tests.{data_file_of, manifest_of}
use Rattle.icb_table.specs.Trace.{Trace, whole}

-- the columns of a table whose rows have all that its files show
abbrev pub all_kept : List Column → Columns
all_kept columns = record { kept = columns; shown = columns }

-- a file that holds rows, which fit the columns, is read as them in a table with these columns
abbrev pub HeldRowsAreRead : Type 0
HeldRowsAreRead = (columns : List Column) (given : List (List Datum)) (f : Listed)
    (bytes : List ℕ) → AreColumns columns → AllByRecursion (FitsColumns columns) given
    → HoldsRows columns given bytes
    → rows_of (all_kept columns) f bytes ≡ whole (map (row_from columns) given)

-- an object that is the sealed stream of a plaintext has that plaintext, where it is listed with
-- its own key metadata and length
abbrev pub SealedIsPlain : Type 0
SealedIsPlain = (files : Objects) (key : KeyRecord) (path plain bytes : List ℕ) (block : ℕ)
    → IsStreamOf key plain block bytes → object_at files path ≡ Some bytes
    → plaintexts_in files (listed path key (length bytes)) ≡ Some plain

-- an object that is the sealed stream of a file that holds rows shows them in a table with the
-- same columns
abbrev pub SealedRowsAreRead : Type 0
SealedRowsAreRead = (meta : Fields) (files : Objects) (key : KeyRecord)
    (path plain bytes : List ℕ) (block : ℕ) (given : List (List Datum))
    → AreColumns (columns_of meta).kept
    → AllByRecursion (FitsColumns (columns_of meta).kept) given
    → HoldsRows (columns_of meta).kept given plain
    → IsStreamOf key plain block bytes → object_at files path ≡ Some bytes
    → (contents_in meta files).data_rows (listed path key (length bytes))
    ≡ whole (map (row_from (columns_of meta).kept) given)

-- a data file whose record names its own path and key metadata is listed so
abbrev pub WrittenFileIsListed : Type 0
WrittenFileIsListed = (location path : List ℕ) (place n : ℕ) (file : DataFile) (key : KeyRecord)
    (bytes : List ℕ) → is_object_path path ≡ true → file.content ≡ pos 0
    → file.format ≡ codes "avro" → file.path ≡ location ++ codes "/" ++ path
    → file.key ≡ Some bytes → key_metadata_of bytes ≡ Ok key → key.length_told ≡ Some n
    → data_file_of location place file ≡ Ok (listed path key n)

-- a file's record with the bounds of rows bounds what is read of each column
abbrev pub WrittenBoundsHold : Type 0
WrittenBoundsHold = (columns : List Column) (given : List (List Datum)) (file : DataFile)
    → AreColumns columns → AllByRecursion (IsRowOf columns) given
    → file.lower ≡ (bounds_of columns given).lower
    → file.upper ≡ (bounds_of columns given).upper
    → AllByRecursion (BoundsHold file (map (row_from columns) given)) columns

-- ---- manifests and lists

-- all of it is read, and without their places these are the items
pub record ShowsAll {A : Type 0} (read : Trace (ℕ × A)) (items : List A) : Type 0 where
  pub all : read.stop ≡ None
  pub same : map (λ r. r.1) read.items ≡ items

-- the file without records is as short as a reader takes a header, and the file with them as short
-- as one record may be
pub record IsShortFile (header file : List ℕ) : Type 0 where
  pub short_header : length header ≤ max_header
  pub short_file : length file ≤ max_record

-- an object that is the sealed stream of a manifest shows its entries, in order, where their values
-- are of the schema and the manifest is short
abbrev pub WrittenEntriesShow : Type 0
WrittenEntriesShow = (meta : Fields) (files : Objects) (key : KeyRecord)
    (path marker bytes : List ℕ) (block : ℕ) (schema : TableSchema) (spec : ℤ)
    (entries : List Entry) → AllByRecursion IsEntry entries
    → AllByRecursion (Fits (shape entry_tree)) (map entry_value entries)
    → length marker ≡ 16
    → IsShortFile (written_manifest schema spec [] marker)
    (written_manifest schema spec entries marker)
    → IsStreamOf key (written_manifest schema spec entries marker) block bytes
    → object_at files path ≡ Some bytes
    → ShowsAll ((contents_in meta files).entries (listed path key (length bytes))) entries

-- an object that is the sealed stream of a manifest list shows its rows, likewise
abbrev pub WrittenListRowsShow : Type 0
WrittenListRowsShow = (meta : Fields) (files : Objects) (key : KeyRecord)
    (path marker bytes : List ℕ) (block : ℕ) (rows : List ListRow) → AllByRecursion IsRow rows
    → AllByRecursion (Fits (shape row_tree)) (map row_value rows) → length marker ≡ 16
    → IsShortFile (written_list [] marker) (written_list rows marker)
    → IsStreamOf key (written_list rows marker) block bytes → object_at files path ≡ Some bytes
    → ShowsAll ((contents_in meta files).list_rows (listed path key (length bytes))) rows

-- a manifest whose row names its own path and key metadata is listed so
abbrev pub WrittenManifestIsListed : Type 0
WrittenManifestIsListed = (location path : List ℕ) (place n : ℕ) (row : ListRow)
    (key : KeyRecord) (bytes : List ℕ) → is_object_path path ≡ true → row.content ≡ pos 0
    → row.path ≡ location ++ codes "/" ++ path → row.key ≡ Some bytes
    → key_metadata_of bytes ≡ Ok key → key.length_told ≡ Some n
    → manifest_of location place row ≡ Ok (listed path key n)
