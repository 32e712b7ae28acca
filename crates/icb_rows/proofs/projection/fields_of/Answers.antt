use Rattle.std.proofs.Common.{ap, map, refl}
use Rattle.icb_schema.specs.Nodes.{fields_of, part_of}
use Rattle.icb_schema.proofs.TreeLemmas.{tree_of_node, form_of_null, form_of_boolean, form_of_int, form_of_long, form_of_float, form_of_double, form_of_bytes, form_of_text, form_of_fixed, form_of_enum, form_of_record, form_of_array, form_of_map, form_of_union}
use Rattle.icb_rows.proofs.projection.fields_of.Goals as goal

pub returns-in-Null : goal.returns-in-Null
returns-in-Null c = rw (tree_of_node c.args.node.now, c.in-Null.is, form_of_null) refl

pub returns-in-Boolean : goal.returns-in-Boolean
returns-in-Boolean c = rw (tree_of_node c.args.node.now, c.in-Boolean.is, form_of_boolean) refl

pub returns-in-Int : goal.returns-in-Int
returns-in-Int c = rw (tree_of_node c.args.node.now, c.in-Int.is, form_of_int) refl

pub returns-in-Long : goal.returns-in-Long
returns-in-Long c = rw (tree_of_node c.args.node.now, c.in-Long.is, form_of_long) refl

pub returns-in-Float : goal.returns-in-Float
returns-in-Float c = rw (tree_of_node c.args.node.now, c.in-Float.is, form_of_float) refl

pub returns-in-Double : goal.returns-in-Double
returns-in-Double c = rw (tree_of_node c.args.node.now, c.in-Double.is, form_of_double) refl

pub returns-in-Bytes : goal.returns-in-Bytes
returns-in-Bytes c = rw (tree_of_node c.args.node.now, c.in-Bytes.is, form_of_bytes) refl

pub returns-in-Text : goal.returns-in-Text
returns-in-Text c = rw (tree_of_node c.args.node.now, c.in-Text.is, form_of_text) refl

pub returns-in-Fixed : goal.returns-in-Fixed
returns-in-Fixed c = rw (tree_of_node c.args.node.now, c.in-Fixed.is, form_of_fixed c.in-Fixed.name c.in-Fixed.size) refl

pub returns-in-Enum : goal.returns-in-Enum
returns-in-Enum c = rw (tree_of_node c.args.node.now, c.in-Enum.is, form_of_enum c.in-Enum.name c.in-Enum.symbols) refl

pub returns-in-Record : goal.returns-in-Record
returns-in-Record c = rw (tree_of_node c.args.node.now, c.in-Record.is, form_of_record c.in-Record.name c.in-Record.fields) (ap (λ fs. fields_of (map part_of fs)) c.as_slice.ensures)

pub returns-in-Array : goal.returns-in-Array
returns-in-Array c = rw (tree_of_node c.args.node.now, c.in-Array.is, form_of_array c.in-Array.items c.in-Array.element) refl

pub returns-in-Map : goal.returns-in-Map
returns-in-Map c = rw (tree_of_node c.args.node.now, c.in-Map.is, form_of_map c.in-Map.values c.in-Map.key c.in-Map.value) refl

pub returns-in-Union : goal.returns-in-Union
returns-in-Union c = rw (tree_of_node c.args.node.now, c.in-Union.is, form_of_union c.in-Union.branches) refl
