-- What a store holds of an append's own files before its commit (ours: docs/FORMATS.md, "Files of
-- an append").
use Rattle.std.specs.Prelude.{◌≡◌, ℕ, suc, ℤ, true, List, [], ◌∷◌, length, map, Option, None}
use Rattle.std.specs.Prelude.{Some, Ok}
use Rattle.std.specs.List.{AllByRecursion, Contains}
use Rattle.icb_base.specs.KeyMetadata.{KeyRecord}
use Rattle.icb_base.specs.Objects.{Objects, object_at}
use Rattle.icb_schema.specs.Names.{are_distinct}
use Rattle.icb_schema.specs.Shape.{shape}
use Rattle.icb_avro.specs.Writing.{Fits}
use Rattle.icb_chain.specs.Ring.{Ring}
use Rattle.icb_list.specs.Written.{row_tree, row_value, written_list}
use Rattle.icb_list.specs.declared.row.ListRow.{ListRow}
use Rattle.icb_manifest.specs.Written.{entry_tree, entry_value, written_manifest}
use Rattle.icb_manifest.specs.declared.entry.Entry.{Entry}
use Rattle.icb_meta.specs.Answers.{shown_of}
use Rattle.icb_meta.specs.declared.fields.Fields.{Fields}
use Rattle.icb_seal.specs.Keys.{FileKeyValue}
use Rattle.icb_table.specs.Listed.{Listed}
use Rattle.icb_table.specs.Snapshots.{list_of}
use Rattle.icb_table.specs.Table.{IsInTable, contents_in}
use Rattle.icb_types.specs.Fits.{FitsColumns}
use Rattle.icb_types.specs.declared.datum.Datum.{Datum}
use Rattle.icb_written.specs.Laws.{ShowsAll}
use Rattle.icb_append.specs.Data.{IsDataObject, file_record, is_file}
use Rattle.icb_append.specs.Drafts.{columns_for, holds_all, location_for, rows_at, settings_for}
use Rattle.icb_append.specs.NewLists.{list_rows_of, path_of_list}
use Rattle.icb_append.specs.Paths.{data_path, manifest_path}
use Rattle.icb_append.specs.Puts.{IsFresh}
use Rattle.icb_append.specs.Records.{added_entry, manifest_row}
use Rattle.icb_append.specs.Sealed.{IsSealed, may_be_put}
use Rattle.icb_append.specs.declared.draft.Draft.{Draft}
use Rattle.icb_append.specs.declared.tried.Tried.{Tried}

-- ---- paths

-- the paths of the data files of entries, the first of which has this number
abbrev pub data_paths : List ℕ → ℕ → List Entry → List (List ℕ)
data_paths unique number [] = []
data_paths unique number (entry ∷ entries) =
    data_path unique number ∷ data_paths unique (suc number) entries

-- the paths of a draft's files: its manifest, where it has one, and its data files
abbrev pub draft_paths : Draft → Option ListRow → List (List ℕ)
draft_paths draft None = []
draft_paths draft (Some row) =
    manifest_path draft.unique ∷ data_paths draft.unique 0 draft.entries

-- the paths of an append's own files: its list at an attempt, and those of its draft
abbrev pub own_paths : Draft → Option ListRow → Tried → ℕ → List (List ℕ)
own_paths draft manifest tried attempt =
    path_of_list draft.unique tried attempt ∷ draft_paths draft manifest

-- no file that the trees of a table list lies at one of these paths
abbrev pub AreUnlisted : List (List ℕ) → Objects → Fields → Ring → Type 0
AreUnlisted paths files meta ring =
    (f : Listed) → IsInTable files meta ring f → Contains paths f.path → ⊥

-- ---- files

-- the rows of the data file of a number
abbrev pub file_rows : Tried → Draft → ℕ → List (List Datum)
file_rows made draft number = rows_at (settings_for made).rows draft.rows number

-- A store holds the data file of a number, sealed for a version, at its path, and this is its
-- entry.
pub record HoldsFile (files : Objects) (made : Tried) (draft : Draft) (number : ℕ)
    (entry : Entry) : Type 0 where
  pub key : FileKeyValue
  pub marker : List ℕ
  pub object : List ℕ
  pub meta : KeyRecord
  pub fresh : IsFresh (settings_for made).key key marker
  pub may : is_file (settings_for made) (columns_for made) (file_rows made draft number) marker
      ≡ true
  pub is_object : IsDataObject (settings_for made) (columns_for made)
      (file_rows made draft number) (data_path draft.unique number) marker key object meta
  pub is_entry : entry ≡ added_entry (file_record (location_for made)
      (data_path draft.unique number) (columns_for made) (file_rows made draft number) meta
      (length object))
  pub held : object_at files (data_path draft.unique number) ≡ Some object

-- it holds those of entries, the first of which has this number
abbrev pub HoldsFiles : Objects → Tried → Draft → ℕ → List Entry → Type 0
HoldsFiles files made draft number [] = Unit {0}
HoldsFiles files made draft number (entry ∷ entries) =
    HoldsFile files made draft number entry × HoldsFiles files made draft (suc number) entries

-- It holds the manifest of the draft's entries, sealed for a version, at its path, and this is its
-- row.
pub record HoldsManifest (files : Objects) (made : Tried) (draft : Draft) (row : ListRow)
    : Type 0 where
  pub key : FileKeyValue
  pub marker : List ℕ
  pub object : List ℕ
  pub meta : KeyRecord
  pub fresh : IsFresh (settings_for made).key key marker
  pub may : may_be_put (written_manifest (shown_of made.meta).layout.schema
      (shown_of made.meta).layout.spec) draft.entries marker ≡ true
  pub is_sealed : IsSealed (settings_for made).block (manifest_path draft.unique)
      (written_manifest (shown_of made.meta).layout.schema (shown_of made.meta).layout.spec
      draft.entries marker) key object meta
  pub is_row : row ≡ manifest_row (location_for made) (manifest_path draft.unique)
      (shown_of made.meta).layout.spec (length draft.entries) made.rows meta (length object)
  pub held : object_at files (manifest_path draft.unique) ≡ Some object

-- It holds the list of these rows, sealed for a version, at its path at an attempt, and by this key
-- metadata it opens.
pub record HoldsList (files : Objects) (tried : Tried) (unique : List ℕ) (attempt : ℕ)
    (rows : List ListRow) (list : KeyRecord) : Type 0 where
  pub key : FileKeyValue
  pub marker : List ℕ
  pub object : List ℕ
  pub fresh : IsFresh (settings_for tried).key key marker
  pub may : may_be_put written_list rows marker ≡ true
  pub is_sealed : IsSealed (settings_for tried).block (path_of_list unique tried attempt)
      (written_list rows marker) key object list
  pub held : object_at files (path_of_list unique tried attempt) ≡ Some object

-- it holds all data files of a draft, which have all its rows, and their manifest, whose row is
-- this one
pub record HoldsAll (files : Objects) (made : Tried) (draft : Draft) (row : ListRow)
    : Type 0 where
  pub data_files : HoldsFiles files made draft 0 draft.entries
  pub all : holds_all (settings_for made).rows draft.rows (length draft.entries) ≡ true
  pub manifest : HoldsManifest files made draft row

-- so it is where a manifest is there; where none is there, the draft has no rows
abbrev pub HoldsDraft : Objects → Tried → Draft → Option ListRow → Type 0
HoldsDraft files made draft None = draft.rows ≡ []
HoldsDraft files made draft (Some row) = HoldsAll files made draft row

-- ---- the parent

-- the rows of the list of the current snapshot, and none where there is no current snapshot
abbrev pub AreParentRows : Objects → Fields → Ring → Option ℤ → List ListRow → Type 0
AreParentRows files meta ring None rows = rows ≡ []
AreParentRows files meta ring (Some id) rows = (list : Listed)
    × (list_of meta ring id ≡ Ok list)
    × ShowsAll ((contents_in meta files).list_rows list) rows

-- ---- what is committed

-- A store holds what an append commits behind a version: its data files and their manifest, made
-- for a version of a table at the same place and with the same layout, and the list of the parent's
-- rows and the manifest's.
pub record HoldsAppend (files : Objects) (ring : Ring) (made tried : Tried) (draft : Draft)
    (manifest : Option ListRow) (parent : List ListRow) (attempt : ℕ) (list : KeyRecord)
    : Type 0 where
  pub same_place : location_for made ≡ location_for tried
  pub same_layout : (shown_of made.meta).layout ≡ (shown_of tried.meta).layout
  pub are_parent : AreParentRows files (shown_of tried.meta) ring
      (shown_of tried.meta).state.current parent
  pub draft_held : HoldsDraft files made draft manifest
  pub list_held : HoldsList files tried draft.unique attempt
      (list_rows_of parent manifest tried) list

-- The values that an append of the code has: rows that fit the columns, and entries and list rows
-- whose values are of their schemas. No two of its own files lie at one path.
pub record HasValues (made tried : Tried) (draft : Draft) (manifest : Option ListRow)
    (parent : List ListRow) (attempt : ℕ) : Type 0 where
  pub rows : AllByRecursion (FitsColumns (columns_for made)) draft.rows
  pub entries : AllByRecursion (Fits (shape entry_tree)) (map entry_value draft.entries)
  pub list_rows : AllByRecursion (Fits (shape row_tree))
      (map row_value (list_rows_of parent manifest tried))
  pub distinct : are_distinct (own_paths draft manifest tried attempt) ≡ true
