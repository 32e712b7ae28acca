use Rattle.std.proofs.Common.{Some, None, ap, ◌∙◌}
use Rattle.icb_schema.proofs.TreeLemmas.{tree_of_made}
use Rattle.icb_schema.specs.Nodes.{form_of}
use Rattle.icb_types.specs.Table.{logical}
use Rattle.icb_types.proofs.table.logical.Goals as goal

pub returns : goal.returns
returns c =
    tree_of_made c.args.kind (Some c.in_ok-from_str.field-0) None ∙ ap (logical (form_of c.args.kind)) c.in_ok-from_str.ensures
