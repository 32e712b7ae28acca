use Rattle.icb_keymeta.proofs.AgainLemmas.{metadata_again}
use Rattle.icb_keymeta.proofs.FoundLemmas.{metadata_found}
use Rattle.icb_keymeta.proofs.laws.decoding_is_spelling.Goals as goal

pub returns-clause-found : goal.returns-clause-found
returns-clause-found c = metadata_found

pub returns-clause-again : goal.returns-clause-again
returns-clause-again c = metadata_again
