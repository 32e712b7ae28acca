use Rattle.std.proofs.Common.{◌∙◌, refl}
use Rattle.icb_schema.proofs.TreeLemmas.{tree_of_made, tree_of_node}
use Rattle.icb_schema.proofs.leaves.with_attributes.Goals as goal

pub returns : goal.returns
returns c = tree_of_made c.with_ids.result c.or.result c.or-2.result ∙ rw (c.with_ids.ensures, c.or.ensures, c.or-2.ensures, ← c.attributes.view_is, tree_of_node c.args.node) refl
