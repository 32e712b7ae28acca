use Rattle.icb_schema.proofs.Levels.{levels_enough}
use Rattle.icb_schema.proofs.laws.levels_are_enough.Goals as goal

pub returns : goal.returns
returns c = levels_enough
