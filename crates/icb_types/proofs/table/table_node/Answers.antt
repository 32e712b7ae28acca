use Rattle.std.proofs.Common.{refl}
use Rattle.icb_schema.proofs.TreeLemmas.{form_of_record}
use Rattle.icb_types.specs.Table.{table_tree}
use Rattle.icb_types.proofs.table.table_node.Goals as goal

pub returns : goal.returns
unfolding table_tree
returns c = rw (c.bare.ensures, form_of_record, c.in_ok-fields.ensures, c.in_ok-name.ensures) refl
