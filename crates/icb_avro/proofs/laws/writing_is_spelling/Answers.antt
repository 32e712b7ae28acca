use Rattle.icb_avro.proofs.LawLemmas.{numbers_are_shortest}
use Rattle.icb_avro.proofs.WrittenIsSpelled.{value_spells}
use Rattle.icb_avro.proofs.laws.writing_is_spelling.Goals as goal

pub returns-clause-spelled : goal.returns-clause-spelled
returns-clause-spelled c = value_spells

pub returns-clause-shortest : goal.returns-clause-shortest
returns-clause-shortest c = numbers_are_shortest
