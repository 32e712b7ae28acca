use Rattle.icb_rotate.proofs.KeyLemmas.{keys_stay, only_master}
use Rattle.icb_rotate.proofs.laws.keys_stay.Goals as goal

pub returns-clause-keys : goal.returns-clause-keys
returns-clause-keys c = keys_stay

pub returns-clause-only : goal.returns-clause-only
returns-clause-only c = only_master
