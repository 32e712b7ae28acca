-- So far the rotation goes on: no call failed, and nothing was put.
use Rattle.std.proofs.Common.{◌≡◌}
use Rattle.icb_rotate.proofs.WholeLemmas.{Running, steps_left}
use Rattle.icb_rotate.proofs.whole.rotate.Given as goal

abbrev pub invariant-loop-version : goal.invariant-loop-version
invariant-loop-version g l = record {
  names : l.job.id ≡ l.fn.id;
  running : Running g.S.Store g.D.Draws l.ring l.fn.id l.now_ms l.job.place l.initial.store l.store l.initial.draws l.draws;
}

abbrev pub decreases-loop-version : goal.decreases-loop-version
decreases-loop-version g l = steps_left l.job.place
