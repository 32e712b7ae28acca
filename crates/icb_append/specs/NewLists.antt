-- The list of an append's snapshot: the parent's rows, and then its manifest (Apache Iceberg Table
-- Spec, "Manifest Lists"; its path is ours: docs/FORMATS.md, "Files of an append").
use Rattle.std.specs.Prelude.{◌≡◌, ℕ, ℤ, pos, negsuc, List, [], ◌∷◌, ◌++◌, Bool}
use Rattle.std.specs.Prelude.{if◌then◌else◌, Option, None, Some, is_some, Result, Ok, Err, IfSome}
use Rattle.std.specs.Prelude.{Vec}
use Rattle.std.specs.List.{list_all}
use Rattle.std.specs.declared.alloc.Global.{Global}
use Rattle.icb_base.specs.KeyMetadata.{KeyRecord}
use Rattle.icb_base.specs.declared.storage.Store as store
use Rattle.icb_base.specs.declared.transfer.Draws as draws
use Rattle.icb_chain.specs.Ring.{Ring}
use Rattle.icb_list.specs.Written.{written_list}
use Rattle.icb_list.specs.declared.row.ListRow.{ListRow}
use Rattle.icb_meta.specs.Answers.{shown_of}
use Rattle.icb_table.specs.Snapshots.{list_of}
use Rattle.icb_turns.specs.declared.fault.CannotWhat.TheVariants as form
use Rattle.icb_turns.specs.declared.fault.JobFault.{JobFault}
use Rattle.icb_turns.specs.declared.fault.JobFault.TheVariants as fault
use Rattle.icb_walk.specs.Steps.{ReadsStore}
use Rattle.icb_walk.specs.WholeLists.{AsksList, FindsList, ReadsList}
use Rattle.icb_walk.specs.declared.fault.TreeFault.{TreeFault}
use Rattle.icb_walk.specs.declared.fault.TreeFault.TheVariants as tree
use Rattle.icb_append.specs.Committing.{next_sequence}
use Rattle.icb_append.specs.Drafts.{settings_for}
use Rattle.icb_append.specs.Paths.{list_path}
use Rattle.icb_append.specs.Records.{row_in}
use Rattle.icb_append.specs.Sealed.{PutsRecords}
use Rattle.icb_append.specs.declared.tried.Tried.{Tried}

-- ---- the parent's rows

-- each row has a first row id
abbrev pub have_row_ids : List ListRow → Bool
have_row_ids rows = list_all (λ row. is_some row.first_row) rows

-- the rows of a parent's list, where each has a first row id, or why nothing is added to them
abbrev pub parent_rows : Result (Vec ListRow Global) TreeFault → Result (List ListRow) JobFault
parent_rows (Ok rows) =
    if have_row_ids rows.items then Ok rows.items else Err (fault.Cannot form.NoRowIds)
parent_rows (Err tree.Store) = Err fault.Store
parent_rows (Err tree.NoMemory) = Err fault.NoMemory
parent_rows (Err e) = Err (fault.Tree e)

-- the list of the parent is read
pub record ReadsParent {S : Type 0} (of : store.Ghosts S) (ring : Ring) (tried : Tried)
    (parent : ℤ) (answer : Result (List ListRow) JobFault) (before now : S) : Type 0 where
  pub rows : Result (Vec ListRow Global) TreeFault
  pub finds : FindsList (list_of (shown_of tried.meta) ring parent) rows
  pub are_rows : IfSome (of.held before) (λ files.
      ReadsList files (list_of (shown_of tried.meta) ring parent) rows)
  pub asks : IfSome (of.held before) (λ _.
      AsksList of (list_of (shown_of tried.meta) ring parent) before now)
  pub reads : ReadsStore of (rows ≡ Err tree.Store) before now
  pub answers : answer ≡ parent_rows rows

-- ---- the new list

-- a parent's rows as they are, and then the append's manifest, where it has one
abbrev pub list_rows_of : List ListRow → Option ListRow → Tried → List ListRow
list_rows_of rows None tried = rows
list_rows_of rows (Some row) tried = rows ++ row_in row tried.id
    (next_sequence (shown_of tried.meta)) (shown_of tried.meta).state.next_row ∷ []

-- a number that isn't below 0
abbrev pub natural : ℤ → ℕ
natural (pos n) = n
natural (negsuc n) = 0

-- the path of the list at an attempt, from 1 on
abbrev pub path_of_list : List ℕ → Tried → ℕ → List ℕ
path_of_list unique tried attempt = list_path unique (natural tried.id) attempt

-- it is put
abbrev pub PutsOwnList : {S D : Type 0} → store.Ghosts S → draws.Ghosts D → List ℕ → Tried
    → List ListRow → ℕ → Result KeyRecord JobFault → S → S → D → D → Type 0
PutsOwnList of random unique tried rows attempt result before now drew drawn =
    PutsRecords of random (settings_for tried) (path_of_list unique tried attempt) written_list
    rows (λ meta size own. own ≡ meta) result before now drew drawn
