-- A scan is complete: over a store that has each file which a query visits as it was committed, all
-- chosen rows are shown, unless the store or the sink failed or no memory was left.
use Rattle.std.specs.Prelude.{◌≡◌, ℕ, ◌^◌, ◌<◌, ℤ, List, length, map, Some, IfSome, IsSome}
use Rattle.std.specs.Prelude.{Result, Ok, Err}
use Rattle.std.specs.List.{Contains}
use Rattle.icb_base.specs.Calls.{WritesText}
use Rattle.icb_base.specs.Causes.{Rose}
use Rattle.icb_base.specs.Objects.{Objects, object_at}
use Rattle.icb_base.specs.declared.storage.Store as store
use Rattle.icb_base.specs.declared.transfer.Sink as sink
use Rattle.icb_chain.specs.Ring.{Ring}
use Rattle.icb_meta.specs.Forms.{snapshot_named}
use Rattle.icb_meta.specs.declared.fields.Fields.{Fields}
use Rattle.icb_rows.specs.Records.{Row}
use Rattle.icb_table.specs.Listed.{Listed}
use Rattle.icb_table.specs.Selection.{Query, Selection, chosen, selection_of, text_of}
use Rattle.icb_table.specs.Table.{HasTree, IsTable, Table, columns_asked, contents_in}
use Rattle.icb_table.specs.Table.{rows_asked, snapshot_asked}
use Rattle.icb_table.specs.Tree.{TreeFile, listed_as}
use Rattle.icb_table.specs.Visited.{visited}
use Rattle.icb_walk.specs.declared.fault.TreeFault.TheVariants as tree
use Rattle.icb_scan.specs.declared.fault.ScanFault.{ScanFault}
use Rattle.icb_scan.specs.declared.fault.ScanFault.TheVariants as fault

-- a query visits this file of the table that some objects hold
pub record IsVisited (committed : Objects) (meta : Fields) (ring : Ring) (query : Query)
    (f : Listed) : Type 0 where
  pub id : ℤ
  pub asked : snapshot_asked meta query ≡ Some id
  pub tree : List TreeFile
  pub has_tree : HasTree committed meta ring id tree
  pub selection : Selection
  pub means : selection_of (columns_asked meta) query ≡ Ok selection
  pub is_in : Contains (map listed_as (visited (contents_in meta committed) selection tree)) f

-- each visited file is found as it was committed
abbrev pub HasVisited : Objects → Objects → Fields → Ring → Query → Type 0
HasVisited found committed meta ring query = (f : Listed)
    → IsVisited committed meta ring query f → object_at found f.path ≡ object_at committed f.path

-- all chosen rows were shown, and their number is answered; or the store or the sink failed, whose
-- count then rose; or no memory was left
abbrev pub IsComplete : {Self Out : Type 0} → store.Ghosts Self → sink.Ghosts Out → Selection
    → List Row → Self → Self → Out → Out → Result ℕ ScanFault → Type 0
IsComplete of out s rows x y before after (Ok n) =
    WritesText out (text_of s rows) ⊥ before after
    × (length (chosen s rows) < 2 ^ 64 → n ≡ length (chosen s rows))
IsComplete of out s rows x y before after (Err (fault.Tree tree.Store)) =
    Rose (of.faults x) (of.faults y)
IsComplete of out s rows x y before after (Err fault.Sink) =
    Rose (out.faults before) (out.faults after)
IsComplete of out s rows x y before after (Err fault.NoMemory) = Unit {0}
IsComplete of out s rows x y before after (Err e) = ⊥

-- Where some objects hold a table of this metadata and keyring, the snapshot that is asked for is
-- one of its, the query's words mean something, and the store has each visited file as committed,
-- the scan is complete.
abbrev pub ScansComplete : {Self Out : Type 0} → store.Ghosts Self → sink.Ghosts Out → Fields
    → Ring → Query → Self → Self → Out → Out → Result ℕ ScanFault → Type 0
ScansComplete of out meta ring query x y before after result = (committed : Objects)
    (table : Table) (s : Selection) → IsTable committed meta ring table
    → IfSome (snapshot_asked meta query) (λ id. IsSome (snapshot_named id meta.state.snapshots))
    → selection_of (columns_asked meta) query ≡ Ok s → IfSome (of.held x) (λ found.
    HasVisited found committed meta ring query
    → IsComplete of out s (rows_asked table (snapshot_asked meta query)) x y before after result)
