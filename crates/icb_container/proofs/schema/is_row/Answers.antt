-- Which nodes are rows.
use Rattle.std.proofs.Common.{ap, ◌∙◌, refl, sym}
use Rattle.icb_schema.specs.Nodes.{form_of}
use Rattle.icb_schema.specs.Tree as tree
use Rattle.icb_schema.proofs.TreeLemmas.{form_of_array, form_of_boolean, form_of_bytes, form_of_double, form_of_enum, form_of_fixed, form_of_float, form_of_int, form_of_long, form_of_map, form_of_null, form_of_text, form_of_union}
use Rattle.icb_container.proofs.RowSchema.{other_is_none, row_is_record}
use Rattle.icb_container.proofs.schema.is_row.Goals as goal

pub returns-in-Record : goal.returns-in-Record
returns-in-Record c = c.takes_bytes.ensures ∙ sym (row_is_record c.args.node.now c.in-Record.name c.in-Record.fields c.in-Record.is)

pub returns-in-Null : goal.returns-in-Null
returns-in-Null c = other_is_none c.args.node.now (tree.primitive tree.null) (ap form_of c.in-Null.is ∙ form_of_null) refl

pub returns-in-Boolean : goal.returns-in-Boolean
returns-in-Boolean c = other_is_none c.args.node.now (tree.primitive tree.boolean) (ap form_of c.in-Boolean.is ∙ form_of_boolean) refl

pub returns-in-Int : goal.returns-in-Int
returns-in-Int c = other_is_none c.args.node.now (tree.primitive tree.int) (ap form_of c.in-Int.is ∙ form_of_int) refl

pub returns-in-Long : goal.returns-in-Long
returns-in-Long c = other_is_none c.args.node.now (tree.primitive tree.long) (ap form_of c.in-Long.is ∙ form_of_long) refl

pub returns-in-Float : goal.returns-in-Float
returns-in-Float c = other_is_none c.args.node.now (tree.primitive tree.float) (ap form_of c.in-Float.is ∙ form_of_float) refl

pub returns-in-Double : goal.returns-in-Double
returns-in-Double c = other_is_none c.args.node.now (tree.primitive tree.double) (ap form_of c.in-Double.is ∙ form_of_double) refl

pub returns-in-Bytes : goal.returns-in-Bytes
returns-in-Bytes c = other_is_none c.args.node.now (tree.primitive tree.bytes) (ap form_of c.in-Bytes.is ∙ form_of_bytes) refl

pub returns-in-Text : goal.returns-in-Text
returns-in-Text c = other_is_none c.args.node.now (tree.primitive tree.text) (ap form_of c.in-Text.is ∙ form_of_text) refl

pub returns-in-Fixed : goal.returns-in-Fixed
returns-in-Fixed c = other_is_none c.args.node.now _ (ap form_of c.in-Fixed.is ∙ form_of_fixed c.in-Fixed.name c.in-Fixed.size) refl

pub returns-in-Enum : goal.returns-in-Enum
returns-in-Enum c = other_is_none c.args.node.now _ (ap form_of c.in-Enum.is ∙ form_of_enum c.in-Enum.name c.in-Enum.symbols) refl

pub returns-in-Array : goal.returns-in-Array
returns-in-Array c = other_is_none c.args.node.now _ (ap form_of c.in-Array.is ∙ form_of_array c.in-Array.items c.in-Array.element) refl

pub returns-in-Map : goal.returns-in-Map
returns-in-Map c = other_is_none c.args.node.now _ (ap form_of c.in-Map.is ∙ form_of_map c.in-Map.values c.in-Map.key c.in-Map.value) refl

pub returns-in-Union : goal.returns-in-Union
returns-in-Union c = other_is_none c.args.node.now _ (ap form_of c.in-Union.is ∙ form_of_union c.in-Union.branches) refl
