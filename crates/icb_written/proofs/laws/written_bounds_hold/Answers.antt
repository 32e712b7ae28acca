use Rattle.icb_written.proofs.BoundLemmas.{written_bounds_hold}
use Rattle.icb_written.proofs.laws.written_bounds_hold.Goals as goal

pub returns : goal.returns
returns c = written_bounds_hold
