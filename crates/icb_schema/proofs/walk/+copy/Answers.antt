use Rattle.std.proofs.Common.{sym, ◌∙◌}
use Rattle.icb_schema.proofs.TreeLemmas as nodes
use Rattle.icb_schema.proofs.walk.+copy.Goals as goal

pub copy_kind-returns-in_ok-copy_fields-in-Record : goal.copy_kind-returns-in_ok-copy_fields-in-Record
copy_kind-returns-in_ok-copy_fields-in-Record t c =
    nodes.form_of_record c.in_ok-copy-in-Record.field-0 c.in_ok-copy_fields-in-Record.field-0
    ∙ rw (c.in_ok-copy-in-Record.ensures, c.in_ok-copy_fields-in-Record.ensures, c.as_slice.ensures, c.in-Record.is) (sym (nodes.form_of_record c.in-Record.name c.in-Record.fields))

pub copy_kind-returns-in_ok-new-in-Array : goal.copy_kind-returns-in_ok-new-in-Array
copy_kind-returns-in_ok-new-in-Array t c =
    nodes.form_of_array c.in_ok-new-in-Array.field-0 c.in-Array.element
    ∙ rw (c.in_ok-new-in-Array.ensures, c.in_ok-copy_node-in-Array.ensures, c.get.ensures, c.in-Array.is) (sym (nodes.form_of_array c.in-Array.items c.in-Array.element))

pub copy_kind-returns-in_ok-new-in-Map : goal.copy_kind-returns-in_ok-new-in-Map
copy_kind-returns-in_ok-new-in-Map t c =
    nodes.form_of_map c.in_ok-new-in-Map.field-0 c.in-Map.key c.in-Map.value
    ∙ rw (c.in_ok-new-in-Map.ensures, c.in_ok-copy_node-in-Map.ensures, c.get-in-Map.ensures, c.in-Map.is) (sym (nodes.form_of_map c.in-Map.values c.in-Map.key c.in-Map.value))

pub copy_kind-returns-in_ok-copy_nodes-in-Union : goal.copy_kind-returns-in_ok-copy_nodes-in-Union
copy_kind-returns-in_ok-copy_nodes-in-Union t c =
    nodes.form_of_union c.in_ok-copy_nodes-in-Union.field-0
    ∙ rw (c.in_ok-copy_nodes-in-Union.ensures, c.as_slice-in-Union.ensures, c.in-Union.is) (sym (nodes.form_of_union c.in-Union.branches))

pub copy_node-returns : goal.copy_node-returns
copy_node-returns t c =
    nodes.tree_of_made c.in_ok-kind.kind c.in_ok-logical.logical c.args.node.now.utc
    ∙ rw (c.in_ok-kind.ensures, c.in_ok-logical.ensures) (sym (nodes.tree_of_node c.args.node.now))
