use Rattle.std.proofs.Common.{arith, refl, sym, ap, ◌∙◌, ◌||◌, map, drop, ◌+◌}
use Rattle.icb_schema.specs.Shape.{any_takes_bytes, shapes_of, shape_of}
use Rattle.icb_schema.proofs.ShapeLemmas.{shape_of_node, shape_of_null, shape_of_boolean, shape_of_int, shape_of_long, shape_of_float, shape_of_double, shape_of_bytes, shape_of_text, shape_of_fixed, shape_of_enum, shape_of_record, shape_of_array, shape_of_map, shape_of_union}
use Rattle.icb_schema.proofs.NodeLemmas.{any_more, any_all}
use Rattle.icb_schema.proofs.walk.+takes_bytes.Goals as goal

pub returns-in-Null : goal.returns-in-Null
returns-in-Null t c = rw (shape_of_node c.args.node.now, c.in-Null.is, shape_of_null) refl

pub returns-in-Fixed : goal.returns-in-Fixed
returns-in-Fixed t c = rw (shape_of_node c.args.node.now, c.in-Fixed.is, shape_of_fixed c.in-Fixed.name c.in-Fixed.size) refl

pub returns-in-Enum : goal.returns-in-Enum
returns-in-Enum t c = rw (shape_of_node c.args.node.now, c.in-Enum.is, shape_of_enum c.in-Enum.name c.in-Enum.symbols) refl

pub returns-in-Array : goal.returns-in-Array
returns-in-Array t c = rw (shape_of_node c.args.node.now, c.in-Array.is, shape_of_array c.in-Array.items c.in-Array.element) refl

pub returns-in-Map : goal.returns-in-Map
returns-in-Map t c = rw (shape_of_node c.args.node.now, c.in-Map.is, shape_of_map c.in-Map.values c.in-Map.key c.in-Map.value) refl

pub returns-in-Union : goal.returns-in-Union
returns-in-Union t c = rw (shape_of_node c.args.node.now, c.in-Union.is, shape_of_union c.in-Union.branches) refl

pub returns-then-takes_bytes : goal.returns-then-takes_bytes
returns-then-takes_bytes t c = rw (shape_of_node c.args.node.now, c.in-Record.is, shape_of_record c.in-Record.name c.in-Record.fields, ← c.as_slice-field-items.ensures)
    (sym (c.loop-field.invariant ∙ any_more c.as_slice-field-items.result.now c.loop-field.field-index c.field-item.result (omega arith) c.field-item.is
    ∙ ap (λ b. b || any_takes_bytes (shapes_of (map (λ g. shape_of g.node) (drop (c.loop-field.field-index + 1) c.as_slice-field-items.result.now)))) (sym c.takes_bytes.ensures ∙ c.if-takes_bytes.true)))

pub loop-field-preserved : goal.loop-field-preserved
loop-field-preserved t c =
    c.loop-field.invariant ∙ any_more c.as_slice-field-items.result.now c.loop-field.field-index c.field-item.result (omega arith) c.field-item.is
    ∙ ap (λ b. b || any_takes_bytes (shapes_of (map (λ g. shape_of g.node) (drop (c.loop-field.field-index + 1) c.as_slice-field-items.result.now)))) (sym c.takes_bytes.ensures ∙ c.if-takes_bytes.false)

pub returns-after-loop-field : goal.returns-after-loop-field
returns-after-loop-field t c = rw (shape_of_node c.args.node.now, c.in-Record.is, shape_of_record c.in-Record.name c.in-Record.fields, ← c.as_slice-field-items.ensures)
    (sym (c.loop-field.invariant ∙ any_all c.as_slice-field-items.result.now c.loop-field.field-index (omega arith)))

pub returns-in-Boolean : goal.returns-in-Boolean
returns-in-Boolean t c = rw (shape_of_node c.args.node.now, c.in-Boolean.is, shape_of_boolean) refl

pub returns-in-Int : goal.returns-in-Int
returns-in-Int t c = rw (shape_of_node c.args.node.now, c.in-Int.is, shape_of_int) refl

pub returns-in-Long : goal.returns-in-Long
returns-in-Long t c = rw (shape_of_node c.args.node.now, c.in-Long.is, shape_of_long) refl

pub returns-in-Float : goal.returns-in-Float
returns-in-Float t c = rw (shape_of_node c.args.node.now, c.in-Float.is, shape_of_float) refl

pub returns-in-Double : goal.returns-in-Double
returns-in-Double t c = rw (shape_of_node c.args.node.now, c.in-Double.is, shape_of_double) refl

pub returns-in-Bytes : goal.returns-in-Bytes
returns-in-Bytes t c = rw (shape_of_node c.args.node.now, c.in-Bytes.is, shape_of_bytes) refl

pub returns-in-Text : goal.returns-in-Text
returns-in-Text t c = rw (shape_of_node c.args.node.now, c.in-Text.is, shape_of_text) refl
