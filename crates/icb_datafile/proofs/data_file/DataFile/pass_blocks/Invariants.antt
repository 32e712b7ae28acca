use Rattle.std.proofs.Common.{◌≡◌, None}
use Rattle.icb_container.specs.Known.{ForEachFile, ReadsOnly}
use Rattle.icb_table.specs.Listed.{Listed}
use Rattle.std.specs.Prelude.{List}
use Rattle.icb_types.specs.declared.columns.Column.{Column}
use Rattle.icb_datafile.specs.Answers.{PassesBlocks}
use Rattle.icb_datafile.specs.Left.{HasLeftOut, Stands, left_of}
use Rattle.icb_datafile.specs.Plans.{IsPlanOf, OnlySkips, emptied, selection_by}
use Rattle.icb_datafile.proofs.data_file.DataFile.pass_blocks.Given as goal

abbrev pub invariant-loop-plan : goal.invariant-loop-plan
invariant-loop-plan g l = record {
  only : OnlySkips (emptied l.fn.plan) l.plan;
  all : l.plan.range ≡ None;
  reader : ReadsOnly g.R.ReadAt None l.fn.reader l.reader;
  over : ForEachFile (g.R.ReadAt.content l.fn.reader) (λ known file. (columns : List Column) (f : Listed) → Stands columns l.fn.self file → IsPlanOf columns (emptied l.fn.plan)
      → HasLeftOut (selection_by columns (emptied l.fn.plan)) (left_of columns f l.fn.self file) → PassesBlocks columns f l.fn.self l.self (emptied l.fn.plan) l.plan file);
}

abbrev pub decreases-loop-plan : goal.decreases-loop-plan
decreases-loop-plan g l = l.plan.skip
