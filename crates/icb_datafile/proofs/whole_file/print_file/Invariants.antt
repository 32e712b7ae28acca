use Rattle.std.proofs.Common.{◌-◌, None}
use Rattle.icb_base.specs.Causes.{Blames}
use Rattle.icb_container.specs.Known.{ForEachFile, ReadsOnly}
use Rattle.icb_table.specs.Listed.{Listed}
use Rattle.icb_table.specs.Rows.{rows_of}
use Rattle.icb_datafile.specs.Left.{HasLeftOut, all_of}
use Rattle.icb_datafile.specs.Plans.{IsPlanOf, KeepsWords, selection_by}
use Rattle.icb_datafile.proofs.WholeLemmas.{PrintedFar}
use Rattle.icb_datafile.proofs.whole_file.print_file.Given as goal

abbrev pub invariant-loop-alloc : goal.invariant-loop-alloc
invariant-loop-alloc g l = record {
  words : KeepsWords l.fn.plan l.plan;
  reader : ReadsOnly g.R.ReadAt None l.fn.reader l.reader;
  count : Blames ⊥ (g.O.Sink.faults l.fn.sink) (g.O.Sink.faults l.sink);
  prints : ForEachFile (g.R.ReadAt.content l.fn.reader) (λ known file. (f : Listed) → IsPlanOf l.schema.columns l.fn.plan
      → HasLeftOut (selection_by l.schema.columns l.fn.plan) (rows_of (all_of l.schema.columns) f file)
      → PrintedFar g.O.Sink l.schema.columns f l.fn.plan l.plan l.file l.fn.sink l.sink file);
}

abbrev pub decreases-loop-alloc : goal.decreases-loop-alloc
decreases-loop-alloc g l = g.R.ReadAt.size l.fn.reader - l.file.container.place
