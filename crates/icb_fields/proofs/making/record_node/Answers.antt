use Rattle.std.proofs.Common.{refl}
use Rattle.icb_schema.proofs.TreeLemmas.{form_of_record}
use Rattle.icb_fields.proofs.making.record_node.Goals as goal

pub returns : goal.returns
returns c = rw (c.bare.ensures, form_of_record, c.in_ok-name.ensures) refl
