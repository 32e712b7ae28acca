use Rattle.std.proofs.Common.{◌-◌, ◌≤◌, None}
use Rattle.icb_container.specs.Known.{ForEachFile, ReadsOnly}
use Rattle.icb_reader.specs.Answers.{KeepsHeader}
use Rattle.icb_reader.proofs.Passing.{Passed}
use Rattle.icb_reader.proofs.filled.next_filled.Given as goal

abbrev pub invariant-loop-block : goal.invariant-loop-block
invariant-loop-block g l = record {
  counted : l.container.block ≤ l.container.place;
  passed : ForEachFile (g.R.ReadAt.content l.initial.reader) (Passed l.initial.container l.container);
  header : KeepsHeader l.initial.container l.container;
  reader : ReadsOnly g.R.ReadAt None l.initial.reader l.reader;
}

abbrev pub decreases-loop-block : goal.decreases-loop-block
decreases-loop-block g l = g.R.ReadAt.size l.initial.reader - l.container.place
