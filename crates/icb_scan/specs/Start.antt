-- Where a scan begins, before a file is opened: the snapshot that is named is there, then each
-- column that is named, then the column of the range and its ends, and then the snapshot's list.
use Rattle.std.specs.Prelude.{◌≡◌, ℕ, ℤ, List, Option, Some, None, is_none, if◌then◌else◌}
use Rattle.std.specs.Prelude.{Result, Ok, Err}
use Rattle.icb_chain.specs.Ring.{Ring}
use Rattle.icb_meta.specs.Forms.{snapshot_named}
use Rattle.icb_meta.specs.declared.fields.Fields.{Fields}
use Rattle.icb_rows.specs.declared.fault.RangeFault.{RangeFault}
use Rattle.icb_rows.specs.declared.fault.RangeFault.TheVariants as words
use Rattle.icb_types.specs.declared.columns.Column.{Column}
use Rattle.icb_table.specs.Listed.{Listed}
use Rattle.icb_table.specs.Selection.{Query, Selection, selection_of}
use Rattle.icb_table.specs.Snapshots.{Refused, list_of, no_snapshot}
use Rattle.icb_table.specs.Table.{columns_asked, snapshot_asked}
use Rattle.icb_walk.specs.Start.{IsFirst, StandsBefore}
use Rattle.icb_walk.specs.declared.fault.TreeFault.{TreeFault}
use Rattle.icb_walk.specs.declared.fault.TreeFault.TheVariants as tree
use Rattle.icb_walk.specs.declared.walk.Walk.{Walk}
use Rattle.icb_scan.specs.Planning.{IsPlanFor}
use Rattle.icb_scan.specs.declared.fault.ScanFault.{ScanFault}
use Rattle.icb_scan.specs.declared.fault.ScanFault.TheVariants as fault
use Rattle.icb_scan.specs.declared.begin.Begun.{Begun}

-- ---- what is asked

-- why no file is opened: a query's words are refused, or the snapshot's list
pub data Unbegun : Type 0 where
  bad_words : RangeFault → Unbegun
  no_list : Refused → Unbegun

-- what is read: the rows below a list, none where there is no snapshot, and what is chosen of them
pub record Start : Type 0 where
  pub list : Option Listed
  pub selection : Selection

infixl 10 ◌>>=◌
-- the next test, where the ones before it were passed
abbrev pub ◌>>=◌ : {A B : Type 0} → Result A Unbegun → (A → Result B Unbegun) → Result B Unbegun
(Ok x) >>= f = f x
(Err e) >>= f = Err e

-- the snapshot is there, where there is to be one
abbrev pub snapshot_found : Fields → Option ℤ → Result (Unit {0}) Unbegun
snapshot_found meta None = Ok tt
snapshot_found meta (Some id) = if is_none (snapshot_named id meta.state.snapshots)
    then Err (no_list (no_snapshot id)) else Ok tt

-- what the words mean
abbrev pub words_found : Result Selection RangeFault → Result Selection Unbegun
words_found (Ok s) = Ok s
words_found (Err e) = Err (bad_words e)

-- the list is found
abbrev pub list_found : Result Listed Refused → Result (Option Listed) Unbegun
list_found (Ok f) = Ok (Some f)
list_found (Err e) = Err (no_list e)

-- the list of a snapshot, none where there is no snapshot
abbrev pub list_asked : Fields → Ring → Option ℤ → Result (Option Listed) Unbegun
list_asked meta ring None = Ok None
list_asked meta ring (Some id) = list_found (list_of meta ring id)

-- where a query's scan begins, or the first refusal
abbrev pub start_of : Fields → Ring → Query → Result Start Unbegun
start_of meta ring query = snapshot_found meta (snapshot_asked meta query)
    >>= (λ _. words_found (selection_of (columns_asked meta) query)
    >>= (λ s. list_asked meta ring (snapshot_asked meta query)
    >>= (λ list. Ok (record { list = list; selection = s }))))

-- ---- refusals

-- a walk's refusal; want of memory is told as the scan's own
abbrev pub of_tree : TreeFault → ScanFault
of_tree tree.NoMemory = fault.NoMemory
of_tree e = fault.Tree e

-- a refusal of words
abbrev pub of_words : RangeFault → ScanFault
of_words (words.NoColumn name) = fault.NoColumn name
of_words (words.BadRange name) = fault.BadRange name
of_words words.NoMemory = fault.NoMemory

-- the first refusal is answered, or no memory was left
abbrev pub IsUnbegun : Unbegun → ScanFault → Type 0
IsUnbegun u fault.NoMemory = Unit {0}
IsUnbegun (no_list e) (fault.Tree tree.NoMemory) = ⊥
IsUnbegun (no_list e) (fault.Tree f) = IsFirst {A = Listed} (Err e) f
IsUnbegun (bad_words e) (fault.NoColumn name) = e ≡ words.NoColumn name
IsUnbegun (bad_words e) (fault.BadRange name) = e ≡ words.BadRange name
IsUnbegun u e = ⊥

-- ---- beginning

-- a walk stands before the list, where there is one
abbrev pub StandsAt : List ℕ → Option Listed → Option Walk → Type 0
StandsAt location None None = Unit {0}
StandsAt location (Some f) (Some w) = StandsBefore location (Ok f) w
StandsAt location None (Some w) = ⊥
StandsAt location (Some f) None = ⊥

-- a plan and a walk to begin with
pub record IsBegun (columns : List Column) (location : List ℕ) (start : Start) (b : Begun)
    : Type 0 where
  pub plan : IsPlanFor columns start.selection b.plan
  pub walk : StandsAt location start.list b.walk

-- the snapshot that is asked for, which is there, or why not
abbrev pub FindsSnapshot : Fields → Option ℤ → Result (Option ℤ) ScanFault → Type 0
FindsSnapshot meta asked (Ok found) = (found ≡ asked) × (snapshot_found meta asked ≡ Ok tt)
FindsSnapshot meta asked (Err (fault.Tree (tree.NoSnapshot id))) =
    snapshot_found meta asked ≡ Err (no_list (no_snapshot id))
FindsSnapshot meta asked (Err e) = ⊥

-- a scan begins, or the first refusal; or no memory was left
abbrev pub Begins : List Column → List ℕ → Result Start Unbegun → Result Begun ScanFault → Type 0
Begins columns location (Ok start) (Ok b) = IsBegun columns location start b
Begins columns location (Ok start) (Err e) = e ≡ fault.NoMemory
Begins columns location (Err u) (Ok b) = ⊥
Begins columns location (Err u) (Err e) = IsUnbegun u e
