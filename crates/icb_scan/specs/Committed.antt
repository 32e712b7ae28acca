-- The rows of a table, as they were committed, unless a visited block is foreign to the table (the
-- statement that the product exists for).
use Rattle.std.specs.Prelude.{◌≡◌, ℕ, ℤ, List, map, Some, IfSome, Result, Ok}
use Rattle.std.specs.FinMap as finite
use Rattle.icb_base.specs.Objects.{Objects}
use Rattle.icb_base.specs.declared.storage.Store as store
use Rattle.icb_base.specs.declared.transfer.Sink as sink
use Rattle.icb_chain.specs.Ring.{Ring}
use Rattle.icb_meta.specs.declared.fields.Fields.{Fields}
use Rattle.icb_rows.specs.Records.{Row}
use Rattle.icb_table.specs.Foreign.{HasNoForeignBlock}
use Rattle.icb_table.specs.Selection.{Query, Selection, selection_of}
use Rattle.icb_table.specs.Table.{HasTree, IsTable, Table, columns_asked, contents_in}
use Rattle.icb_table.specs.Table.{snapshot_asked}
use Rattle.icb_table.specs.Tree.{TreeFile, listed_as}
use Rattle.icb_table.specs.Visited.{visited}
use Rattle.icb_scan.specs.Answers.{NamesChange, ShowsRows}
use Rattle.icb_scan.specs.declared.fault.ScanFault.{ScanFault}

-- Where some objects hold a table of this metadata and keyring, and no block of a file that the
-- query visits opens in the store that wasn't committed, the chosen rows of the table are shown,
-- and a refusal says where the file that it names differs from the committed one.
abbrev pub ScansCommitted : {Self Out : Type 0} → store.Ghosts Self → sink.Ghosts Out → Fields
    → Ring → Query → Self → Self → Out → Out → Result ℕ ScanFault → Type 0
ScansCommitted of out meta ring query x y before after result = (committed : Objects)
    (table : Table) (id : ℤ) (rows : List Row) (tree : List TreeFile) (s : Selection)
    → IsTable committed meta ring table → snapshot_asked meta query ≡ Some id
    → finite.get table id ≡ Some rows → HasTree committed meta ring id tree
    → selection_of (columns_asked meta) query ≡ Ok s → IfSome (of.held x) (λ found.
    HasNoForeignBlock committed found meta ring
    (map listed_as (visited (contents_in meta committed) s tree))
    → ShowsRows of out (contents_in meta committed) found s
    (visited (contents_in meta committed) s tree) rows x y before after result
    × NamesChange committed found (visited (contents_in meta committed) s tree) result)
