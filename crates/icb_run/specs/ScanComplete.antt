-- When `scan` prints all chosen rows of a committed table.
use Rattle.std.specs.Prelude.{◌≡◌, ℕ, List, Option, IfSome, IsSome, Result, Ok, Err}
use Rattle.icb_base.specs.Objects.{Objects}
use Rattle.icb_chain.specs.Ring.{Ring}
use Rattle.icb_meta.specs.Forms.{snapshot_named}
use Rattle.icb_meta.specs.declared.fields.Fields.{Fields}
use Rattle.icb_rows.specs.Records.{Row}
use Rattle.icb_run.specs.Answers.{Appends}
use Rattle.icb_scan.specs.Complete.{HasVisited}
use Rattle.icb_scan.specs.declared.fault.ScanFault.{ScanFault}
use Rattle.icb_scan.specs.declared.fault.ScanFault.TheVariants as fault
use Rattle.icb_table.specs.Selection.{Query, Selection, selection_of, text_of}
use Rattle.icb_table.specs.Table.{IsTable, Table, columns_asked, rows_asked, snapshot_asked}
use Rattle.icb_walk.specs.declared.fault.TreeFault.TheVariants as tree

-- the lines of all chosen rows were printed, unless the store or the output failed or no memory was
-- left
abbrev pub IsComplete : Selection → List Row → Option (List ℕ) → Option (List ℕ)
    → Result ℕ ScanFault → Type 0
IsComplete s rows before now (Ok count) = Appends before now (text_of s rows)
IsComplete s rows before now (Err (fault.Tree tree.Store)) = Unit {0}
IsComplete s rows before now (Err fault.Sink) = Unit {0}
IsComplete s rows before now (Err fault.NoMemory) = Unit {0}
IsComplete s rows before now (Err e) = ⊥

-- objects that were committed hold this table of the metadata and keyring, and a query fits it: the
-- snapshot that it asks for, if any, is there, and its words mean this choice
pub record IsFit (meta : Fields) (ring : Ring) (query : Query) (committed : Objects)
    (table : Table) (s : Selection) : Type 0 where
  pub is_table : IsTable committed meta ring table
  pub is_there : IfSome (snapshot_asked meta query)
      (λ id. IsSome (snapshot_named id meta.state.snapshots))
  pub is_choice : selection_of (columns_asked meta) query ≡ Ok s

-- where the store has each visited file as it was committed, so it is
abbrev pub PrintsComplete : Option Objects → Fields → Ring → Query → Option (List ℕ)
    → Option (List ℕ) → Result ℕ ScanFault → Type 0
PrintsComplete held meta ring query before now result = (committed : Objects) (table : Table)
    (s : Selection) → IsFit meta ring query committed table s → IfSome held (λ found.
    HasVisited found committed meta ring query
    → IsComplete s (rows_asked table (snapshot_asked meta query)) before now result)
