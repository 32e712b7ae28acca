-- What printing a data file answers, over a whole file that fills what is known of the reader.
use Rattle.std.specs.Prelude.{◌≡◌, ◌⊎◌, ℕ, ◌+◌, ◌^◌, ◌<◌, List, [], ◌++◌, length, true, false}
use Rattle.std.specs.Prelude.{Option, None, Result, Ok, Err}
use Rattle.std.specs.List.{flat_map}
use Rattle.icb_base.specs.Calls.{WritesText}
use Rattle.icb_base.specs.declared.transfer.Sink as sink
use Rattle.icb_types.specs.declared.columns.Column.{Column}
use Rattle.icb_rows.specs.Records.{Row}
use Rattle.icb_table.specs.Listed.{Listed}
use Rattle.icb_table.specs.Rows.{rows_of}
use Rattle.icb_table.specs.Selection.{chosen, line_of}
use Rattle.icb_table.specs.Trace.{Trace}
use Rattle.icb_datafile.specs.declared.fault.RowsFault.{RowsFault}
use Rattle.icb_datafile.specs.declared.fault.RowsFault.TheVariants as fault
use Rattle.icb_datafile.specs.declared.plan.Plan.{Plan}
use Rattle.icb_datafile.specs.Left.{EndsSo, HasLeftOut, all_of}
use Rattle.icb_datafile.specs.Plans.{CountsDown, IsPlanOf, asks_none, selection_by}

-- The first of the rows were passed, up to those that are left, and counted. The lines of those of
-- them that are chosen were written.
pub record Prints {Self : Type 0} (of : sink.Ghosts Self) (failed : Type 0) (columns : List Column)
    (old new : Plan) (rows left : List Row) (before after : Self) : Type 0 where
  pub passed : List Row
  pub first : rows ≡ passed ++ left
  pub counts : CountsDown (selection_by columns old) (selection_by columns new) passed
  pub counted : old.shown + length (chosen (selection_by columns old) passed) < 2 ^ 64
      → new.shown ≡ old.shown + length (chosen (selection_by columns old) passed)
  pub writes : WritesText of (flat_map (line_of (selection_by columns old).columns)
      (chosen (selection_by columns old) passed)) failed before after

-- the rows of a file were printed: all of them, or as many as are asked for; or, where further ones
-- are asked for, up to where they end; or some of them, where the reader or the sink failed or no
-- memory was left
abbrev pub PrintsRows : {Self F : Type 0} → sink.Ghosts Self → Result (Unit {0}) (RowsFault F)
    → List Column → Listed → Plan → Plan → Trace Row → Self → Self → Type 0
PrintsRows of (Ok _) columns f p q rows x y = (left : List Row)
    × Prints of ⊥ columns p q rows.items left x y
    × ((asks_none q.most ≡ true) ⊎ ((left ≡ []) × (rows.stop ≡ None)))
PrintsRows of (Err (fault.File e)) columns f p q rows x y = (left : List Row)
    × Prints of ⊥ columns p q rows.items left x y × EndsSo f rows left e
    × (asks_none q.most ≡ false)
PrintsRows of (Err fault.Sink) columns f p q rows x y = (left : List Row)
    × Prints of (Unit {0}) columns p q rows.items left x y

-- so it is, whatever the file is listed as, where the rows that are left out are there
abbrev pub PrintsFile : {Self F : Type 0} → sink.Ghosts Self → Result (Unit {0}) (RowsFault F)
    → List Column → Plan → Plan → Self → Self → List (Option ℕ) → List ℕ → Type 0
PrintsFile of result columns p q x y known file = (f : Listed) → IsPlanOf columns p
    → HasLeftOut (selection_by columns p) (rows_of (all_of columns) f file)
    → PrintsRows of result columns f p q (rows_of (all_of columns) f file) x y
