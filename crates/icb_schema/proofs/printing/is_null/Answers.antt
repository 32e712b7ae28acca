use Rattle.std.proofs.Common.{refl, sym, ap, ◌∙◌}
use Rattle.icb_schema.proofs.TreeLemmas.{tree_of_node, form_of_null}
use Rattle.icb_schema.specs.Printing.{is_null_tree}
use Rattle.icb_schema.proofs.PrintLemmas.{other_null}
use Rattle.icb_schema.proofs.printing.is_null.Goals as goal

pub returns-in-Null : goal.returns-in-Null
returns-in-Null c = rw (tree_of_node c.args.node.now, c.in-Null.is, form_of_null) refl

pub returns-in_default : goal.returns-in_default
returns-in_default c = sym (ap is_null_tree (tree_of_node c.args.node.now) ∙ other_null c.args.node.now.kind c.in_default.not-Null)
