-- Which rows `scan` prints of a table, for each choice of plaintexts that its objects allow at the
-- files that are visited.
use Rattle.std.specs.Prelude.{◌≡◌, ◌⊎◌, ℕ, List, ◌++◌, map, Option, Some, None, IfSome}
use Rattle.std.specs.Prelude.{Result, Ok, Err}
use Rattle.std.specs.List.{flat_map}
use Rattle.icb_base.specs.Objects.{Objects}
use Rattle.icb_datafile.specs.Left.{all_of}
use Rattle.icb_rows.specs.Records.{Row}
use Rattle.icb_run.specs.Answers.{Appends, AppendsFront}
use Rattle.icb_scan.specs.Answers.{HaveLeftOut, IsAnswer, rows_read}
use Rattle.icb_scan.specs.Leaves.{IsSink}
use Rattle.icb_scan.specs.Start.{IsUnbegun, Start, Unbegun}
use Rattle.icb_scan.specs.declared.fault.ScanFault.{ScanFault}
use Rattle.icb_scan.specs.declared.fault.ScanFault.TheVariants as fault
use Rattle.icb_table.specs.Contents.{Plaintexts, contents_of}
use Rattle.icb_table.specs.Known.{AllowsAt}
use Rattle.icb_table.specs.Listed.{Listed}
use Rattle.icb_table.specs.Selection.{Selection, chosen, line_of}
use Rattle.icb_table.specs.Trace.{Trace}
use Rattle.icb_table.specs.Tree.{Contents, TreeFile, listed_as, tree_below}
use Rattle.icb_table.specs.Visited.{visited}
use Rattle.icb_types.specs.declared.columns.Column.{Column}

-- a line was printed for each of the first of the chosen rows; of them and of those behind this is
-- answered; a line was cut only where the output failed
pub record PrintsRows (s : Selection) (rows : List Row) (Answers : List Row → List Row → Type 0)
    (before now : Option (List ℕ)) (result : Result ℕ ScanFault) : Type 0 where
  pub shown : List Row
  pub unshown : List Row
  pub are_chosen : chosen s rows ≡ shown ++ unshown
  pub front : AppendsFront before now (flat_map (line_of s.columns) shown)
  pub whole : (IsSink result → ⊥) → Appends before now (flat_map (line_of s.columns) shown)
  pub answer : Answers shown unshown

-- the rows of a tree's files
abbrev pub PrintsTree : Contents → Objects → Selection → Trace TreeFile → Option (List ℕ)
    → Option (List ℕ) → Result ℕ ScanFault → Type 0
PrintsTree contents files s tree before now result =
    PrintsRows s (rows_read contents s tree).items (λ shown unshown.
    IsAnswer contents files s (visited contents s tree.items) (rows_read contents s tree)
    shown unshown result) before now result

-- so it is below a list, for each choice of plaintexts that the objects allow, in which the rows
-- that are left out are there
abbrev pub PrintsBelow : List Column → List ℕ → Selection → Listed → Option (List ℕ)
    → Option (List ℕ) → Result ℕ ScanFault → Objects → Type 0
PrintsBelow columns location s list before now result files = (plain : Plaintexts)
    → AllowsAt (map listed_as (visited (contents_of (all_of columns) plain) s
    (tree_below location (contents_of (all_of columns) plain) list).items)) files plain
    → HaveLeftOut (contents_of (all_of columns) plain) s (visited (contents_of (all_of columns)
    plain) s (tree_below location (contents_of (all_of columns) plain) list).items)
    → PrintsTree (contents_of (all_of columns) plain) files s
    (tree_below location (contents_of (all_of columns) plain) list) before now result

-- the rows below a snapshot's list; where there is no snapshot there are none
abbrev pub PrintsList : Option Objects → List Column → List ℕ → Selection → Option Listed
    → Option (List ℕ) → Option (List ℕ) → Result ℕ ScanFault → Type 0
PrintsList table columns location s None before now result =
    ((result ≡ Ok 0) ⊎ (result ≡ Err fault.NoMemory)) × (now ≡ before)
PrintsList table columns location s (Some list) before now result =
    IfSome table (PrintsBelow columns location s list before now result)

-- the first refusal is answered, before a file is opened; or the chosen rows were printed
abbrev pub PrintsStart : Option Objects → List Column → List ℕ → Result Start Unbegun
    → Option (List ℕ) → Option (List ℕ) → Result ℕ ScanFault → Type 0
PrintsStart table columns location (Err u) before now result =
    ((e : ScanFault) × (result ≡ Err e) × IsUnbegun u e) × (now ≡ before)
PrintsStart table columns location (Ok start) before now result =
    PrintsList table columns location start.selection start.list before now result
