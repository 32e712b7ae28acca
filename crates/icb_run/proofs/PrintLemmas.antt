-- What a scan answers is what the command prints.
use Rattle.std.proofs.Common.{ℕ, List, Option, Some, None, Result, Ok, Err, ap}
use Rattle.icb_base.specs.Objects.{Objects}
use Rattle.icb_base.specs.declared.storage.Store as store
use Rattle.icb_base.specs.declared.transfer.Sink as sink
use Rattle.icb_chain.specs.Ring.{Ring}
use Rattle.icb_meta.specs.declared.fields.Fields.{Fields}
use Rattle.icb_rows.specs.Records.{Row}
use Rattle.icb_run.specs.ScanComplete.{IsComplete, PrintsComplete}
use Rattle.icb_run.specs.ScanRows.{PrintsList, PrintsRows, PrintsStart, PrintsTree}
use Rattle.icb_run.specs.ScanTables.{PrintsCommitted, PrintsTable}
use Rattle.icb_run.proofs.ToldLemmas.{where_told}
use Rattle.icb_scan.specs.Answers.{IsTableAnswer, Shows}
use Rattle.icb_scan.specs.Answers as shown
use Rattle.icb_scan.specs.Committed.{ScansCommitted}
use Rattle.icb_scan.specs.Complete.{ScansComplete}
use Rattle.icb_scan.specs.Complete as complete
use Rattle.icb_scan.specs.Scans.{Scans, ShowsListed}
use Rattle.icb_scan.specs.Start.{Start, Unbegun}
use Rattle.icb_scan.specs.Tables.{ScansTable}
use Rattle.icb_scan.specs.declared.fault.ScanFault.{ScanFault}
use Rattle.icb_scan.specs.declared.fault.ScanFault.TheVariants as fault
use Rattle.icb_table.specs.Listed.{Listed}
use Rattle.icb_table.specs.Selection.{Query, Selection}
use Rattle.icb_table.specs.Table.{rows_asked, snapshot_asked}
use Rattle.icb_table.specs.Trace.{Trace}
use Rattle.icb_table.specs.Tree.{Contents, TreeFile}
use Rattle.icb_types.specs.declared.columns.Column.{Column}
use Rattle.icb_walk.specs.declared.fault.TreeFault.TheVariants as tree

-- the rows of a tree's files
prints_tree : {Self Out : Type 0} (of : store.Ghosts Self) (out : sink.Ghosts Out) (contents : Contents)
    (files : Objects) (s : Selection) (tree : Trace TreeFile) (x y : Self) (before after : Out)
    (result : Result ℕ ScanFault) → Shows of out contents files s tree x y before after result
    → PrintsTree contents files s tree (out.written before) (out.written after) result
prints_tree of out contents files s tree x y before after result shows = record {
  shown = shows.shown;
  unshown = shows.unshown;
  are_chosen = shows.are_chosen;
  front = shows.writes.front;
  whole = shows.writes.whole;
  answer = shows.answer;
}

-- the rows below a list
prints_list : {Self Out : Type 0} (of : store.Ghosts Self) (out : sink.Ghosts Out) (columns : List Column)
    (location : List ℕ) (s : Selection) (list : Option Listed) (x y : Self) (before after : Out)
    (result : Result ℕ ScanFault) → ShowsListed of out columns location s list x y before after result
    → PrintsList (of.held x) columns location s list (out.written before) (out.written after) result
prints_list of out columns location s None x y before after result shows =
    (shows.0, ap out.written shows.1.same_sink)
prints_list of out columns location s (Some list) x y before after result shows =
    where_told (of.held x) (λ files below plain allows has.
    prints_tree of out _ files s _ x y before after result (below plain allows has)) shows

-- the first refusal, or the rows
pub prints_start : {Self Out : Type 0} (of : store.Ghosts Self) (out : sink.Ghosts Out) (columns : List Column)
    (location : List ℕ) (start : Result Start Unbegun) (x y : Self) (before after : Out)
    (result : Result ℕ ScanFault) → Scans of out columns location start x y before after result
    → PrintsStart (of.held x) columns location start (out.written before) (out.written after) result
prints_start of out columns location (Err u) x y before after result scans =
    (scans.0, ap out.written scans.1.same_sink)
prints_start of out columns location (Ok start) x y before after result scans =
    prints_list of out columns location start.selection start.list x y before after result scans

-- the rows of a table
prints_rows : {Self Out : Type 0} (of : store.Ghosts Self) (out : sink.Ghosts Out) (contents : Contents)
    (files : Objects) (s : Selection) (visits : List TreeFile) (rows : List Row) (x y : Self) (before after : Out)
    (result : Result ℕ ScanFault)
    → shown.ShowsRows of out contents files s visits rows x y before after result
    → PrintsRows s rows (λ shown unshown. IsTableAnswer contents files s visits shown unshown result)
    (out.written before) (out.written after) result
prints_rows of out contents files s visits rows x y before after result shows = record {
  shown = shows.shown;
  unshown = shows.unshown;
  are_chosen = shows.are_chosen;
  front = shows.writes.front;
  whole = shows.writes.whole;
  answer = shows.answer;
}

-- over a store that shows no more of the visited files
pub prints_table : {Self Out : Type 0} (of : store.Ghosts Self) (out : sink.Ghosts Out) (meta : Fields)
    (ring : Ring) (query : Query) (x y : Self) (before after : Out) (result : Result ℕ ScanFault)
    → ScansTable of out meta ring query x y before after result
    → PrintsTable (of.held x) meta ring query (out.written before) (out.written after) result
prints_table of out meta ring query x y before after result scans committed rows tree s asked =
    where_told (of.held x) (λ found shows no_more.
    prints_rows of out _ found s _ rows x y before after result (shows no_more))
    (scans committed asked.table asked.id rows tree s asked.is_table asked.is_snapshot asked.are_rows asked.is_tree asked.is_choice)

-- over any store, unless a foreign block opens
pub prints_committed : {Self Out : Type 0} (of : store.Ghosts Self) (out : sink.Ghosts Out) (meta : Fields)
    (ring : Ring) (query : Query) (x y : Self) (before after : Out) (result : Result ℕ ScanFault)
    → ScansCommitted of out meta ring query x y before after result
    → PrintsCommitted (of.held x) meta ring query (out.written before) (out.written after) result
prints_committed of out meta ring query x y before after result scans committed rows tree s asked =
    where_told (of.held x) (λ found shows none.
    (prints_rows of out _ found s _ rows x y before after result (shows none).0, (shows none).1))
    (scans committed asked.table asked.id rows tree s asked.is_table asked.is_snapshot asked.are_rows asked.is_tree asked.is_choice)

-- a scan that is complete prints all rows
is_complete : {Self Out : Type 0} (of : store.Ghosts Self) (out : sink.Ghosts Out) (s : Selection)
    (rows : List Row) (x y : Self) (before after : Out) (result : Result ℕ ScanFault)
    → complete.IsComplete of out s rows x y before after result
    → IsComplete s rows (out.written before) (out.written after) result
is_complete of out s rows x y before after (Ok count) h = h.0.whole (λ never. never)
is_complete of out s rows x y before after (Err (fault.Tree tree.Store)) h = tt
is_complete of out s rows x y before after (Err fault.Sink) h = tt
is_complete of out s rows x y before after (Err fault.NoMemory) h = tt
is_complete of out s rows x y before after (Err (fault.Tree (tree.NoSnapshot id))) h = absurd h
is_complete of out s rows x y before after (Err (fault.Tree (tree.PlainList snapshot))) h = absurd h
is_complete of out s rows x y before after (Err (fault.Tree (tree.Chain e))) h = absurd h
is_complete of out s rows x y before after (Err (fault.Tree (tree.BadList snapshot file what))) h = absurd h
is_complete of out s rows x y before after (Err (fault.Tree (tree.At path c))) h = absurd h
is_complete of out s rows x y before after (Err (fault.Tree tree.NoMemory)) h = absurd h
is_complete of out s rows x y before after (Err (fault.NoColumn name)) h = absurd h
is_complete of out s rows x y before after (Err (fault.BadRange name)) h = absurd h

-- over a store that has each visited file as it was committed
pub prints_complete : {Self Out : Type 0} (of : store.Ghosts Self) (out : sink.Ghosts Out) (meta : Fields)
    (ring : Ring) (query : Query) (x y : Self) (before after : Out) (result : Result ℕ ScanFault)
    → ScansComplete of out meta ring query x y before after result
    → PrintsComplete (of.held x) meta ring query (out.written before) (out.written after) result
prints_complete of out meta ring query x y before after result scans committed table s fit =
    where_told (of.held x) (λ found shows has.
    is_complete of out s (rows_asked table (snapshot_asked meta query)) x y before after result (shows has))
    (scans committed table s fit.is_table fit.is_there fit.is_choice)
