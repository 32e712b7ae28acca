-- The laws of what an append commits. Each is the contract of a function of `src/laws.rt`.
use Rattle.std.specs.Prelude.{◌≡◌, ◌+◌, ℕ, ℤ, List, ◌∷◌, ◌++◌, length, map, true, Option, Some}
use Rattle.std.specs.Prelude.{None, Ok}
use Rattle.icb_base.specs.KeyMetadata.{KeyRecord}
use Rattle.icb_base.specs.Objects.{Objects, object_at, with_object}
use Rattle.icb_base.specs.Paths.{is_object_path}
use Rattle.icb_chain.specs.Opening.{kek_of, table_of}
use Rattle.icb_chain.specs.Ring.{Ring}
use Rattle.icb_edits.specs.Snapshots.{snapshot_fields}
use Rattle.icb_list.specs.declared.row.ListRow.{ListRow}
use Rattle.icb_meta.specs.Answers.{json_of, shown_of}
use Rattle.icb_meta.specs.Forms.{snapshot_named}
use Rattle.icb_meta.specs.declared.fields.Fields.{Fields}
use Rattle.icb_meta.specs.declared.records.KeyEntry.{KeyEntry}
use Rattle.icb_meta.specs.declared.records.Snapshot.{Snapshot}
use Rattle.icb_rows.specs.Records.{row_from}
use Rattle.icb_table.specs.Listed.{Listed, listed}
use Rattle.icb_table.specs.Snapshots.{list_of}
use Rattle.icb_table.specs.Standing.{ShowsMeta, Stands}
use Rattle.icb_table.specs.Table.{Table, rows_asked}
use Rattle.icb_table.specs.Trace.{each_in, numbered_from, whole}
use Rattle.icb_table.specs.Tree.{Contents, TreeFile, below_row, tree_below}
use Rattle.icb_table.specs.Tree as tree
use Rattle.icb_tree.specs.Versions.{version_path}
use Rattle.icb_turns.specs.Naming.{full_path}
use Rattle.icb_turns.specs.Turns.{IsTurn, adds_snapshot}
use Rattle.icb_append.specs.Committing.{IsListEntry, IsNextVersion}
use Rattle.icb_append.specs.Drafts.{columns_for}
use Rattle.icb_append.specs.Keeping.{AreUnlisted, HasValues, HoldsAppend, own_paths}
use Rattle.icb_append.specs.NewLists.{path_of_list}
use Rattle.icb_append.specs.Reading.{wrapper_for}
use Rattle.icb_append.specs.Tried.{Tries}
use Rattle.icb_append.specs.declared.draft.Draft.{Draft}
use Rattle.icb_append.specs.declared.reading.Wrapper.{Wrapper}
use Rattle.icb_append.specs.declared.tried.Tried.{Tried}

-- an entry is that of the key of an append's list, behind a version with this metadata
pub record IsOwnEntry (meta : Fields) (ring : Ring) (list : KeyRecord) (entry : KeyEntry)
    : Type 0 where
  pub version : ℕ
  pub rows : ℕ
  pub wrapper : Wrapper
  pub is_wrapper : wrapper_for meta ring version rows ≡ Ok wrapper
  pub nonce : List ℕ
  pub is_entry : IsListEntry meta wrapper nonce list entry

-- With an append's snapshot and the key of its list each key-encryption key opens as it did.
abbrev pub KeysStay : Type 0
KeysStay = (meta : Fields) (ring : Ring) (list : KeyRecord) (entry : KeyEntry) (s : Snapshot)
    (now : ℕ) (id : List ℕ) → IsOwnEntry meta ring list entry
    → kek_of (table_of (snapshot_fields meta s entry now).state) ring id
    ≡ kek_of (table_of meta.state) ring id

-- The list of each snapshot that could be read is where it was, and opens as it did.
abbrev pub ListsStay : Type 0
ListsStay = (meta : Fields) (ring : Ring) (list : KeyRecord) (entry : KeyEntry) (s : Snapshot)
    (now : ℕ) (id : ℤ) (f : Listed) → IsOwnEntry meta ring list entry
    → list_of meta ring id ≡ Ok f → list_of (snapshot_fields meta s entry now) ring id ≡ Ok f

-- The list of the append's own snapshot is the one that was put, and its key opens.
abbrev pub OwnListOpens : Type 0
OwnListOpens = (meta : Fields) (ring : Ring) (list : KeyRecord) (entry : KeyEntry)
    (s : Snapshot) (now : ℕ) (path : List ℕ) (size : ℕ) → IsOwnEntry meta ring list entry
    → snapshot_named s.id meta.state.snapshots ≡ None → s.key ≡ Some entry.id
    → s.list ≡ full_path meta.heading.location path → is_object_path path ≡ true
    → list.length_told ≡ Some size
    → list_of (snapshot_fields meta s entry now) ring s.id ≡ Ok (listed path list size)

-- The files below a list that has the rows of another one, and more behind them, are those below
-- that one, and then those below its own rows, whose positions come behind.
abbrev pub RowsBehindAddFiles : Type 0
RowsBehindAddFiles = (location : List ℕ) (c : Contents) (was now : Listed)
    (olds news : List (ℕ × ListRow)) (more : List ListRow) (files added : List TreeFile)
    → c.list_rows was ≡ whole olds → c.list_rows now ≡ whole news
    → map (λ r. r.1) news ≡ map (λ r. r.1) olds ++ more
    → tree_below location c was ≡ whole (tree.list was ∷ files)
    → ((own : List (ℕ × ListRow)) → map (λ r. r.1) own ≡ more
    → each_in (below_row location c now) (numbered_from (length olds) own) ≡ whole added)
    → tree_below location c now ≡ whole (tree.list now ∷ (files ++ added))

-- The version behind one that an append tried, over a store that stands for a table: the store
-- shows the tried version's metadata, holds what the append commits at paths at which the table
-- lists no file, and holds no version behind it; and the text is that of the next one.
pub record IsCommit (files : Objects) (meta : Fields) (ring : Ring) (made tried : Tried)
    (draft : Draft) (manifest : Option ListRow) (attempt : ℕ) (text : List ℕ) : Type 0 where
  pub rows : ℕ
  pub is_tried : Tries tried.meta ring tried.version rows (Ok tried)
  pub shows : ShowsMeta files (version_path tried.version) (shown_of tried.meta)
  pub free : object_at files (version_path (tried.version + 1)) ≡ None
  pub parent : List ListRow
  pub list : KeyRecord
  pub held : HoldsAppend files ring made tried draft manifest parent attempt list
  pub values : HasValues made tried draft manifest parent attempt
  pub unlisted : AreUnlisted (own_paths draft manifest tried attempt) files meta ring
  pub now : ℕ
  pub nonce : List ℕ
  pub is_next : IsNextVersion (json_of tried.meta) (shown_of tried.meta) tried.wrapper
      tried.version tried.id (path_of_list draft.unique tried attempt) list tried.rows now nonce
      text

-- The put of such a version is a turn that adds a snapshot, whose rows are those of the current one
-- and then the draft's, and that keeps the rows of all others.
abbrev pub CommitIsTurn : Type 0
CommitIsTurn = (files : Objects) (meta : Fields) (ring : Ring) (table : Table)
    (made tried : Tried) (draft : Draft) (manifest : Option ListRow) (attempt : ℕ)
    (text : List ℕ) → Stands files meta ring table
    → IsCommit files meta ring made tried draft manifest attempt text
    → IsTurn (own_paths draft manifest tried attempt) ring files meta
    (with_object files (version_path (tried.version + 1)) text) table
    (adds_snapshot tried.id (rows_asked table meta.state.current
    ++ map (row_from (columns_for tried)) draft.rows))
