use Rattle.icb_table.proofs.TableLemmas.{empty_stands}
use Rattle.icb_table.proofs.VersionLemmas.{one_version_is_last}
use Rattle.icb_table.proofs.laws.empty_stands.Goals as goal

pub returns-clause-stands : goal.returns-clause-stands
returns-clause-stands c = empty_stands

pub returns-clause-one : goal.returns-clause-one
returns-clause-one c = one_version_is_last
