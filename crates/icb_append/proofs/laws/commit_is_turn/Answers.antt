use Rattle.icb_append.proofs.TurnLemmas.{commit_is_turn}
use Rattle.icb_append.proofs.laws.commit_is_turn.Goals as goal

pub returns : goal.returns
returns c = commit_is_turn
