use Rattle.std.proofs.Common.{◌∙◌, refl}
use Rattle.icb_schema.proofs.TreeLemmas as nodes
use Rattle.icb_schema.proofs.NodeLemmas.{other_ids}
use Rattle.icb_schema.proofs.leaves.with_ids.Goals as goal

pub returns-in-Array : goal.returns-in-Array
returns-in-Array c = nodes.form_of_array c.in-Array.items c.or.result ∙ rw (c.in-Array.is, nodes.form_of_array c.in-Array.items c.in-Array.own, c.or.ensures) refl

pub returns-in-Map : goal.returns-in-Map
returns-in-Map c = nodes.form_of_map c.in-Map.values c.or-in-Map.result c.or-in-Map-2.result
    ∙ rw (c.in-Map.is, nodes.form_of_map c.in-Map.values c.in-Map.own_key c.in-Map.own_value, c.or-in-Map.ensures, c.or-in-Map-2.ensures) refl

pub returns-in_default : goal.returns-in_default
returns-in_default c = other_ids c.args.element c.args.key c.args.value c.args.kind c.in_default.not-Array c.in_default.not-Map
