use Rattle.std.proofs.Common.{refl}
use Rattle.icb_schema.proofs.ShapeLemmas.{shape_of_node, shape_of_null, shape_of_boolean, shape_of_int, shape_of_long, shape_of_float, shape_of_double, shape_of_bytes, shape_of_text, shape_of_fixed, shape_of_enum, shape_of_record, shape_of_array, shape_of_map, shape_of_union}
use Rattle.icb_rows.proofs.projection.is_null.Goals as goal

pub returns-in-Null : goal.returns-in-Null
returns-in-Null c = rw (shape_of_node c.args.node.now, c.in-Null.is, shape_of_null) refl

pub returns-in-Boolean : goal.returns-in-Boolean
returns-in-Boolean c = rw (shape_of_node c.args.node.now, c.in-Boolean.is, shape_of_boolean) refl

pub returns-in-Int : goal.returns-in-Int
returns-in-Int c = rw (shape_of_node c.args.node.now, c.in-Int.is, shape_of_int) refl

pub returns-in-Long : goal.returns-in-Long
returns-in-Long c = rw (shape_of_node c.args.node.now, c.in-Long.is, shape_of_long) refl

pub returns-in-Float : goal.returns-in-Float
returns-in-Float c = rw (shape_of_node c.args.node.now, c.in-Float.is, shape_of_float) refl

pub returns-in-Double : goal.returns-in-Double
returns-in-Double c = rw (shape_of_node c.args.node.now, c.in-Double.is, shape_of_double) refl

pub returns-in-Bytes : goal.returns-in-Bytes
returns-in-Bytes c = rw (shape_of_node c.args.node.now, c.in-Bytes.is, shape_of_bytes) refl

pub returns-in-Text : goal.returns-in-Text
returns-in-Text c = rw (shape_of_node c.args.node.now, c.in-Text.is, shape_of_text) refl

pub returns-in-Fixed : goal.returns-in-Fixed
returns-in-Fixed c = rw (shape_of_node c.args.node.now, c.in-Fixed.is, shape_of_fixed c.in-Fixed.name c.in-Fixed.size) refl

pub returns-in-Enum : goal.returns-in-Enum
returns-in-Enum c = rw (shape_of_node c.args.node.now, c.in-Enum.is, shape_of_enum c.in-Enum.name c.in-Enum.symbols) refl

pub returns-in-Record : goal.returns-in-Record
returns-in-Record c = rw (shape_of_node c.args.node.now, c.in-Record.is, shape_of_record c.in-Record.name c.in-Record.fields) refl

pub returns-in-Array : goal.returns-in-Array
returns-in-Array c = rw (shape_of_node c.args.node.now, c.in-Array.is, shape_of_array c.in-Array.items c.in-Array.element) refl

pub returns-in-Map : goal.returns-in-Map
returns-in-Map c = rw (shape_of_node c.args.node.now, c.in-Map.is, shape_of_map c.in-Map.values c.in-Map.key c.in-Map.value) refl

pub returns-in-Union : goal.returns-in-Union
returns-in-Union c = rw (shape_of_node c.args.node.now, c.in-Union.is, shape_of_union c.in-Union.branches) refl
