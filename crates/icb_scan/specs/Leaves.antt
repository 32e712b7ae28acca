-- What printing one data file answers.
use Rattle.std.specs.Prelude.{◌≡◌, ◌⊎◌, List, [], true, false, Some, None}
use Rattle.std.specs.Prelude.{Result, Ok, Err}
use Rattle.icb_base.specs.Objects.{Objects}
use Rattle.icb_base.specs.declared.transfer.Sink as sink
use Rattle.icb_types.specs.declared.columns.Column.{Column}
use Rattle.icb_rows.specs.Records.{Row}
use Rattle.icb_table.specs.Contents.{Plaintexts, contents_of}
use Rattle.icb_table.specs.Known.{Allows, shown_in}
use Rattle.icb_table.specs.Listed.{Listed}
use Rattle.icb_table.specs.Trace.{Trace}
use Rattle.icb_table.specs.Why.{Why}
use Rattle.icb_datafile.specs.Left.{HasLeftOut, all_of}
use Rattle.icb_datafile.specs.Plans.{IsPlanOf, asks_none, selection_by}
use Rattle.icb_datafile.specs.Whole.{Prints}
use Rattle.icb_datafile.specs.declared.plan.Plan.{Plan}
use Rattle.icb_walk.specs.Causes.{cause_of}
use Rattle.icb_walk.specs.Fits.{IsUnshown}
use Rattle.icb_walk.specs.declared.fault.Cause.{Cause}
use Rattle.icb_walk.specs.declared.fault.TreeFault.TheVariants as tree
use Rattle.icb_scan.specs.declared.fault.ScanFault.{ScanFault}
use Rattle.icb_scan.specs.declared.fault.ScanFault.TheVariants as fault

-- the store failed
abbrev pub IsStore : {A : Type 0} → Result A ScanFault → Type 0
IsStore result = result ≡ Err (fault.Tree tree.Store)

-- the sink failed
abbrev pub IsSink : {A : Type 0} → Result A ScanFault → Type 0
IsSink result = result ≡ Err fault.Sink

-- the rows stop at a file, for the cause that is told, and none is left before
pub record StopsRows (f : Listed) (rows : Trace Row) (left : List Row) (c : Cause) : Type 0 where
  pub why : Why
  pub stops : rows.stop ≡ Some (record { file = f; why = why })
  pub told : cause_of why ≡ Some c
  pub none_left : left ≡ []

-- what is answered of a listed file with these rows, of which some are left; it is refused only
-- where further rows are asked for
abbrev pub IsPrinted : Objects → Listed → Trace Row → List Row → Plan
    → Result (Unit {0}) ScanFault → Type 0
IsPrinted files f rows left q (Ok _) =
    (asks_none q.most ≡ true) ⊎ ((left ≡ []) × (rows.stop ≡ None))
IsPrinted files f rows left q (Err (fault.Tree (tree.At path c))) =
    (path ≡ f.path) × (asks_none q.most ≡ false)
    × (IsUnshown files f c ⊎ StopsRows f rows left c)
IsPrinted files f rows left q (Err (fault.Tree tree.Store)) = Unit {0}
IsPrinted files f rows left q (Err fault.Sink) = Unit {0}
IsPrinted files f rows left q (Err fault.NoMemory) = Unit {0}
IsPrinted files f rows left q (Err e) = ⊥

-- rows of a listed file were printed, up to those that are left
pub record PrintsRows {Self : Type 0} (of : sink.Ghosts Self) (files : Objects) (f : Listed)
    (columns : List Column) (p q : Plan) (rows : Trace Row) (x y : Self)
    (result : Result (Unit {0}) ScanFault) : Type 0 where
  pub left : List Row
  pub prints : Prints of (IsSink result) columns p q rows.items left x y
  pub answer : IsPrinted files f rows left q result

-- so it is for each plaintext of the file that the store allows, in which the rows that are left
-- out are there
abbrev pub PrintsFile : {Self : Type 0} → sink.Ghosts Self → Objects → Listed → List Column → Plan
    → Plan → Self → Self → Result (Unit {0}) ScanFault → Type 0
PrintsFile of files f columns p q x y result = (plain : Plaintexts)
    → Allows (shown_in files f) (plain f) → IsPlanOf columns p
    → HasLeftOut (selection_by columns p) ((contents_of (all_of columns) plain).data_rows f)
    → PrintsRows of files f columns p q ((contents_of (all_of columns) plain).data_rows f)
    x y result
