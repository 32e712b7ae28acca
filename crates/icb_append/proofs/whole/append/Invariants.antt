-- So far each step went on, and no call failed.
use Rattle.icb_append.proofs.MeasureLemmas.{steps_left}
use Rattle.icb_append.proofs.RunLemmas.{Running}
use Rattle.icb_append.proofs.whole.append.Given as goal

abbrev pub invariant-loop-snapshot : goal.invariant-loop-snapshot
invariant-loop-snapshot g l = Running g.S.Store g.D.Draws l.ring l.fn.lines l.now_ms l.job l.initial.store l.store l.initial.draws l.draws

abbrev pub decreases-loop-snapshot : goal.decreases-loop-snapshot
decreases-loop-snapshot g l = steps_left l.job.place l.job.work
