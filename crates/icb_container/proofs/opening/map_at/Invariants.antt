use Rattle.std.proofs.Common.{◌-◌, ◌≤◌, None}
use Rattle.icb_container.specs.Known.{ForEachFile, ReadsOnly}
use Rattle.icb_container.proofs.HeaderParts.{MapReading}
use Rattle.icb_container.proofs.opening.map_at.Given as goal

abbrev pub invariant-loop-found : goal.invariant-loop-found
invariant-loop-found g l = record {
  behind : l.at ≤ l.place;
  inside : l.place ≤ g.R.ReadAt.size l.initial.reader;
  read : ForEachFile (g.R.ReadAt.content l.initial.reader) (MapReading l.at l.place l.found);
  reader : ReadsOnly g.R.ReadAt None l.initial.reader l.reader;
}

abbrev pub decreases-loop-found : goal.decreases-loop-found
decreases-loop-found g l = g.R.ReadAt.size l.initial.reader - l.place
