use Rattle.icb_edits.proofs.SetLemmas.{get_after}
use Rattle.icb_edits.proofs.laws.others_stay.Goals as goal

pub returns : goal.returns
returns c name sets ms = get_after name sets ms
