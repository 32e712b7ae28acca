use Rattle.std.proofs.Common.{◌-◌, ◌≤◌, None}
use Rattle.icb_container.specs.Known.{ForEachFile, ReadsOnly}
use Rattle.icb_container.proofs.HeaderParts.{PropertiesReading}
use Rattle.icb_container.proofs.opening.properties_at.Given as goal

abbrev pub invariant-loop-done : goal.invariant-loop-done
invariant-loop-done g l = record {
  behind : l.at ≤ l.place;
  inside : l.place ≤ g.R.ReadAt.size l.initial.reader;
  read : ForEachFile (g.R.ReadAt.content l.initial.reader) (PropertiesReading l.count (l.count - l.done) l.at l.place l.initial.found l.found);
  reader : ReadsOnly g.R.ReadAt None l.initial.reader l.reader;
}
