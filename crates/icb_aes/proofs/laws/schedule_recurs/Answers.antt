-- The lemma of the recurrence.
use Rattle.icb_aes.proofs.ScheduleLemmas.{schedule_recurs}
use Rattle.icb_aes.proofs.laws.schedule_recurs.Goals as goal

pub returns : goal.returns
returns c = schedule_recurs
