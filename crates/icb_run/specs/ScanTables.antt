-- Which rows `scan` prints of a committed table.
use Rattle.std.specs.Prelude.{◌≡◌, ℕ, ℤ, List, map, Option, Some, IfSome, Result, Ok}
use Rattle.std.specs.FinMap as finite
use Rattle.icb_base.specs.Objects.{Objects}
use Rattle.icb_chain.specs.Ring.{Ring}
use Rattle.icb_meta.specs.declared.fields.Fields.{Fields}
use Rattle.icb_rows.specs.Records.{Row}
use Rattle.icb_run.specs.ScanRows.{PrintsRows}
use Rattle.icb_scan.specs.Answers.{IsTableAnswer, NamesChange}
use Rattle.icb_scan.specs.declared.fault.ScanFault.{ScanFault}
use Rattle.icb_table.specs.Known.{ShowsNoMoreAt}
use Rattle.icb_table.specs.Foreign.{HasNoForeignBlock}
use Rattle.icb_table.specs.Listed.{Listed}
use Rattle.icb_table.specs.Selection.{Query, Selection, selection_of}
use Rattle.icb_table.specs.Table.{HasTree, IsTable, Table, columns_asked, contents_in}
use Rattle.icb_table.specs.Table.{snapshot_asked}
use Rattle.icb_table.specs.Tree.{TreeFile, listed_as}
use Rattle.icb_table.specs.Visited.{visited}

-- Objects that were committed hold a table of this metadata and keyring, with a snapshot that has
-- these rows and whose files are this tree, and of them a query means this choice.
pub record IsAsked (meta : Fields) (ring : Ring) (query : Query) (committed : Objects)
    (rows : List Row) (tree : List TreeFile) (s : Selection) : Type 0 where
  pub table : Table
  pub id : ℤ
  pub is_table : IsTable committed meta ring table
  pub is_snapshot : snapshot_asked meta query ≡ Some id
  pub are_rows : finite.get table id ≡ Some rows
  pub is_tree : HasTree committed meta ring id tree
  pub is_choice : selection_of (columns_asked meta) query ≡ Ok s

-- the files that are visited
abbrev pub files_visited : Fields → Objects → Selection → List TreeFile → List Listed
files_visited meta committed s tree =
    map listed_as (visited (contents_in meta committed) s tree)

-- Whatever a store holds, where no block of a visited file opens in it that wasn't committed, a
-- front of the chosen rows of the table is printed: all of them where the answer is Ok, and else
-- those of all files before the one that is named, of which the refusal says where it differs from
-- the committed one.
abbrev pub PrintsCommitted : Option Objects → Fields → Ring → Query → Option (List ℕ)
    → Option (List ℕ) → Result ℕ ScanFault → Type 0
PrintsCommitted table meta ring query before now result = (committed : Objects)
    (rows : List Row) (tree : List TreeFile) (s : Selection)
    → IsAsked meta ring query committed rows tree s → IfSome table (λ found.
    HasNoForeignBlock committed found meta ring (files_visited meta committed s tree)
    → PrintsRows s rows (λ shown unshown. IsTableAnswer (contents_in meta committed) found s
    (visited (contents_in meta committed) s tree) shown unshown result) before now result
    × NamesChange committed found (visited (contents_in meta committed) s tree) result)

-- the same where the store shows no more of the visited files than the objects that were committed
abbrev pub PrintsTable : Option Objects → Fields → Ring → Query → Option (List ℕ)
    → Option (List ℕ) → Result ℕ ScanFault → Type 0
PrintsTable table meta ring query before now result = (committed : Objects)
    (rows : List Row) (tree : List TreeFile) (s : Selection)
    → IsAsked meta ring query committed rows tree s → IfSome table (λ found.
    ShowsNoMoreAt (files_visited meta committed s tree) found committed
    → PrintsRows s rows (λ shown unshown. IsTableAnswer (contents_in meta committed) found s
    (visited (contents_in meta committed) s tree) shown unshown result) before now result)
