use Rattle.std.proofs.Common.{sym, ap, ◌∙◌, arith}
use Rattle.icb_schema.proofs.TreeLemmas.{tree_of_node, form_of_union}
use Rattle.icb_schema.specs.Printing.{begins_with_null}
use Rattle.icb_schema.proofs.PrintLemmas.{other_union, begins_none, begins_first}
use Rattle.icb_schema.proofs.printing.begins_with_null.Goals as goal

pub returns-in-empty : goal.returns-in-empty
returns-in-empty c = rw (tree_of_node c.args.node.now, c.in-Union.is, form_of_union c.in-Union.branches, ← c.as_slice.ensures) (sym (begins_none c.as_slice.result.now (omega arith)))

pub returns-in-len1-up : goal.returns-in-len1-up
returns-in-len1-up c = rw (tree_of_node c.args.node.now, c.in-Union.is, form_of_union c.in-Union.branches, ← c.as_slice.ensures)
    (c.is_null.ensures ∙ sym (begins_first c.as_slice.result.now c.first-item.result (omega arith) c.first-item.is))

pub returns-in_default : goal.returns-in_default
returns-in_default c = sym (ap begins_with_null (tree_of_node c.args.node.now) ∙ other_union c.args.node.now.kind c.in_default.not-Union)
