use Rattle.icb_schema.proofs.NamedTypes.{types_agree, types_known}
use Rattle.icb_schema.proofs.laws.references_are_their_types.Goals as goal

pub returns-clause-form : goal.returns-clause-form
returns-clause-form c = types_agree

pub returns-clause-name : goal.returns-clause-name
returns-clause-name c = types_known
