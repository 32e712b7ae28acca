use Rattle.icb_list.specs.Written.{row_tree}
use Rattle.icb_list.proofs.writing.row_node.Goals as goal

pub returns : goal.returns
unfolding row_tree
returns c = rw c.in_ok-fields.ensures at c.record_node.ensures
