use Rattle.icb_turns.proofs.TurnLemmas.{turns_grow, turns_keep_rows, turns_leave_others}
use Rattle.icb_turns.proofs.laws.turns_grow.Goals as goal

pub returns-clause-grows : goal.returns-clause-grows
returns-clause-grows c = turns_grow

pub returns-clause-others : goal.returns-clause-others
returns-clause-others c = turns_leave_others

pub returns-clause-rows : goal.returns-clause-rows
returns-clause-rows c = turns_keep_rows
