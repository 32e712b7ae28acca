use Rattle.icb_types.proofs.SingleLemmas.{single_back}
use Rattle.icb_types.proofs.laws.singles_read_back.Goals as goal

pub returns : goal.returns
returns c = single_back
