use Rattle.std.proofs.Common.{sym, ◌∙◌, refl}
use Rattle.icb_schema.proofs.TreeLemmas as nodes
use Rattle.icb_schema.proofs.NodeLemmas.{other_name, name_of_node}
use Rattle.icb_schema.proofs.seen.name_of.Goals as goal

pub returns-in-Fixed : goal.returns-in-Fixed
returns-in-Fixed c = rw (name_of_node c.args.node.now, c.in-Fixed.is, nodes.form_of_fixed c.in-Fixed.name c.in-Fixed.size) refl

pub returns-in-Enum : goal.returns-in-Enum
returns-in-Enum c = rw (name_of_node c.args.node.now, c.in-Enum.is, nodes.form_of_enum c.in-Enum.name c.in-Enum.symbols) refl

pub returns-in-Record : goal.returns-in-Record
returns-in-Record c = rw (name_of_node c.args.node.now, c.in-Record.is, nodes.form_of_record c.in-Record.name c.in-Record.fields) refl

pub returns-in_default : goal.returns-in_default
returns-in_default c = sym (name_of_node c.args.node.now ∙ other_name c.args.node.now.kind c.in_default.not-Fixed c.in_default.not-Enum c.in_default.not-Record)
