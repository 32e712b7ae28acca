use Rattle.icb_container.proofs.Steps.{count_is_told, skipping_is_reading}
use Rattle.icb_container.proofs.laws.steps_agree.Goals as goal

-- src/laws.rt:5:1
pub returns-clause-skipping : goal.returns-clause-skipping
returns-clause-skipping c = skipping_is_reading

-- src/laws.rt:5:1
pub returns-clause-count : goal.returns-clause-count
returns-clause-count c = count_is_told
