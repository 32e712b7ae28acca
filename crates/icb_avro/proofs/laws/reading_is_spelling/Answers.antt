use Rattle.icb_avro.proofs.Complete.{value_again}
use Rattle.icb_avro.proofs.FoundValues.{value_found}
use Rattle.icb_avro.proofs.LawLemmas.{one_value}
use Rattle.icb_avro.proofs.laws.reading_is_spelling.Goals as goal

pub returns-clause-found : goal.returns-clause-found
returns-clause-found c = value_found

pub returns-clause-again : goal.returns-clause-again
returns-clause-again c = value_again

pub returns-clause-one : goal.returns-clause-one
returns-clause-one c = one_value
