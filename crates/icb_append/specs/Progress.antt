-- How far an append has come over a store: what it has tried, put and read (ours: docs/FORMATS.md,
-- "Files of an append").
use Rattle.std.specs.Prelude.{◌≡◌, ◌+◌, ℕ, true, List, length, map, Option, None, Ok}
use Rattle.std.specs.List.{AllByRecursion}
use Rattle.icb_base.specs.KeyMetadata.{KeyRecord}
use Rattle.icb_base.specs.Objects.{Objects, object_at}
use Rattle.icb_schema.specs.Shape.{shape}
use Rattle.icb_avro.specs.Writing.{Fits}
use Rattle.icb_chain.specs.Ring.{Ring}
use Rattle.icb_list.specs.Written.{row_tree, row_value}
use Rattle.icb_list.specs.declared.row.ListRow.{ListRow}
use Rattle.icb_manifest.specs.Written.{entry_tree, entry_value}
use Rattle.icb_meta.specs.Answers.{shown_of}
use Rattle.icb_schema.specs.Names.{are_distinct}
use Rattle.icb_table.specs.Standing.{ShowsMeta}
use Rattle.icb_table.specs.Table.{IsTable, Table}
use Rattle.icb_tree.specs.Versions.{version_path}
use Rattle.icb_types.specs.Fits.{FitsColumns}
use Rattle.icb_append.specs.Drafts.{columns_for}
use Rattle.icb_append.specs.Keeping.{AreParentRows, AreUnlisted, HoldsDraft, HoldsFiles, HoldsList}
use Rattle.icb_append.specs.Keeping.{data_paths, draft_paths, own_paths}
use Rattle.icb_append.specs.NewLists.{list_rows_of}
use Rattle.icb_append.specs.Tried.{Tries}
use Rattle.icb_append.specs.declared.draft.Draft.{Draft}
use Rattle.icb_append.specs.declared.tried.Tried.{Tried}

-- what is written of an append are values of the code: entries and list rows of their schemas
pub record AreOfCode (tried : Tried) (draft : Draft) (manifest : Option ListRow)
    (parent : List ListRow) : Type 0 where
  pub entries : AllByRecursion (Fits (shape entry_tree)) (map entry_value draft.entries)
  pub list_rows : AllByRecursion (Fits (shape row_tree))
      (map row_value (list_rows_of parent manifest tried))

-- no version is held behind the tried one
abbrev pub IsNewest : Objects → Tried → Type 0
IsNewest files tried = object_at files (version_path (tried.version + 1)) ≡ None

-- a version was tried for a draft's rows, which fit its columns; the store shows its metadata
pub record HasTried (files : Objects) (ring : Ring) (tried : Tried) (draft : Draft) : Type 0 where
  pub is_tried : Tries tried.meta ring tried.version (length draft.rows) (Ok tried)
  pub shows : ShowsMeta files (version_path tried.version) (shown_of tried.meta)
  pub fit : AllByRecursion (FitsColumns (columns_for tried)) draft.rows

-- the objects hold a table of the tried version's metadata, which lists no file at these paths
pub record HasTable (files : Objects) (ring : Ring) (tried : Tried) (paths : List (List ℕ))
    : Type 0 where
  pub table : Table
  pub is_table : IsTable files (shown_of tried.meta) ring table
  pub unlisted : AreUnlisted paths files (shown_of tried.meta) ring

-- data files of a draft are put, at paths of their own
pub record IsFiling (files : Objects) (ring : Ring) (tried : Tried) (draft : Draft) : Type 0 where
  pub has_tried : HasTried files ring tried draft
  pub data_files : HoldsFiles files tried draft 0 draft.entries
  pub distinct : are_distinct (data_paths draft.unique 0 draft.entries) ≡ true
  pub newest : IsNewest files tried
      → HasTable files ring tried (data_paths draft.unique 0 draft.entries)

-- all files of a draft are put
pub record IsFiled (files : Objects) (ring : Ring) (tried : Tried) (draft : Draft)
    (manifest : Option ListRow) : Type 0 where
  pub has_tried : HasTried files ring tried draft
  pub draft_held : HoldsDraft files tried draft manifest
  pub distinct : are_distinct (draft_paths draft manifest) ≡ true
  pub newest : IsNewest files tried → HasTable files ring tried (draft_paths draft manifest)

-- and the parent's rows are read
pub record IsWriting (files : Objects) (ring : Ring) (tried : Tried) (draft : Draft)
    (manifest : Option ListRow) (parent : List ListRow) : Type 0 where
  pub filed : IsFiled files ring tried draft manifest
  pub are_parent : IsNewest files tried → AreParentRows files (shown_of tried.meta) ring
      (shown_of tried.meta).state.current parent

-- the list of the parent's rows and the manifest's is put too
pub record IsCommitting (files : Objects) (ring : Ring) (tried : Tried) (draft : Draft)
    (manifest : Option ListRow) (attempt : ℕ) (list : KeyRecord) : Type 0 where
  pub parent : List ListRow
  pub of_code : AreOfCode tried draft manifest parent
  pub has_tried : HasTried files ring tried draft
  pub draft_held : HoldsDraft files tried draft manifest
  pub list_held : HoldsList files tried draft.unique attempt
      (list_rows_of parent manifest tried) list
  pub distinct : are_distinct (own_paths draft manifest tried attempt) ≡ true
  pub newest : IsNewest files tried
      → HasTable files ring tried (own_paths draft manifest tried attempt)
  pub are_parent : IsNewest files tried → AreParentRows files (shown_of tried.meta) ring
      (shown_of tried.meta).state.current parent
