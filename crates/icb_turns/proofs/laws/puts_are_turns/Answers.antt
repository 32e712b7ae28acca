use Rattle.icb_turns.proofs.GrownLemmas.{file_put_is_turn, put_is_last, rest_is_turn}
use Rattle.icb_turns.proofs.laws.puts_are_turns.Goals as goal

pub returns-clause-rest : goal.returns-clause-rest
returns-clause-rest c = rest_is_turn

pub returns-clause-file : goal.returns-clause-file
returns-clause-file c = file_put_is_turn

pub returns-clause-version : goal.returns-clause-version
returns-clause-version c = put_is_last
