use Rattle.std.proofs.Common.{◌∙◌, ap, refl, arith, map, length}
use Rattle.std.proofs.lemmas.Result.{err_from_is_err_and}
use Rattle.icb_schema.specs.Shape.{shape_of, shapes_of, union}
use Rattle.icb_schema.proofs.ShapeLemmas.{shape_of_node, shape_of_null, shape_of_boolean, shape_of_int, shape_of_long, shape_of_float, shape_of_double, shape_of_bytes, shape_of_text, shape_of_fixed, shape_of_enum, shape_of_record, shape_of_array, shape_of_map, shape_of_union}
use Rattle.icb_avro.specs.declared.value.Value.TheVariants as value
use Rattle.icb_avro.specs.Blocks.{standing}
use Rattle.icb_avro.specs.Reading.{all_blocks_at, entry_at, value_at, fields_at, read_as}
use Rattle.icb_avro.proofs.BlockLemmas.{starts, starts_not, goes_on, item_refused, refused_behind, finishes, falls}
use Rattle.icb_avro.proofs.SkipLemmas.{value_shorter, entry_read, entry_no_key, entry_no_value, shapes, union_no_index, union_read}
use Rattle.icb_avro.proofs.MakeLemmas.{handed_on, as_refused, field_made, fields_made, field_stops, entry_value_shorter}
use Rattle.icb_avro.proofs.making.+making.Goals as goal

pub value_at-returns-in-Null : goal.value_at-returns-in-Null
value_at-returns-in-Null t c = rw (shape_of_node c.args.node.now, c.in-Null.is, shape_of_null) refl

pub value_at-returns-in-Boolean : goal.value_at-returns-in-Boolean
value_at-returns-in-Boolean t c = rw (shape_of_node c.args.node.now, c.in-Boolean.is, shape_of_boolean) c.boolean.ensures

pub value_at-returns-in-Int : goal.value_at-returns-in-Int
value_at-returns-in-Int t c = rw (shape_of_node c.args.node.now, c.in-Int.is, shape_of_int) c.int.ensures

pub value_at-returns-in-Long : goal.value_at-returns-in-Long
value_at-returns-in-Long t c = rw (shape_of_node c.args.node.now, c.in-Long.is, shape_of_long) c.long.ensures

pub value_at-returns-in-Float : goal.value_at-returns-in-Float
value_at-returns-in-Float t c = rw (shape_of_node c.args.node.now, c.in-Float.is, shape_of_float) c.float.ensures

pub value_at-returns-in-Double : goal.value_at-returns-in-Double
value_at-returns-in-Double t c = rw (shape_of_node c.args.node.now, c.in-Double.is, shape_of_double) c.double.ensures

pub value_at-returns-in-Bytes : goal.value_at-returns-in-Bytes
value_at-returns-in-Bytes t c = rw (shape_of_node c.args.node.now, c.in-Bytes.is, shape_of_bytes) c.bytes.ensures

pub value_at-returns-in-Text : goal.value_at-returns-in-Text
value_at-returns-in-Text t c = rw (shape_of_node c.args.node.now, c.in-Text.is, shape_of_text) c.text.ensures

pub value_at-returns-in-Fixed : goal.value_at-returns-in-Fixed
value_at-returns-in-Fixed t c = rw (shape_of_node c.args.node.now, c.in-Fixed.is, shape_of_fixed c.in-Fixed.name c.in-Fixed.size) c.fixed.ensures

pub value_at-returns-in-Enum : goal.value_at-returns-in-Enum
value_at-returns-in-Enum t c = rw (shape_of_node c.args.node.now, c.in-Enum.is, shape_of_enum c.in-Enum.name c.in-Enum.symbols, ← c.as_slice.ensures) c.symbol.ensures

pub value_at-returns-in_ok-values-in-Record : goal.value_at-returns-in_ok-values-in-Record
value_at-returns-in_ok-values-in-Record t c = rw (shape_of_node c.args.node.now, c.in-Record.is, shape_of_record c.in-Record.name c.in-Record.fields, ← c.as_slice-in-Record.ensures, c.in_ok-values-in-Record.ensures) refl

pub value_at-returns-in_err-values-in-Record : goal.value_at-returns-in_err-values-in-Record
value_at-returns-in_err-values-in-Record t c =
    let p = err_from_is_err_and c.from_residual.result c.from_residual.ensures.1 in
    rw (p.1, p.2, shape_of_node c.args.node.now, c.in-Record.is, shape_of_record c.in-Record.name c.in-Record.fields, ← c.as_slice-in-Record.ensures) (handed_on c.in_err-values-in-Record.field-0.0 (fields_at (shapes_of (map (λ f. shape_of f.node) c.as_slice-in-Record.result.now)) c.args.all.now) (read_as value.Record (fields_at (shapes_of (map (λ f. shape_of f.node) c.as_slice-in-Record.result.now)) c.args.all.now)) (as_refused value.Record (fields_at (shapes_of (map (λ f. shape_of f.node) c.as_slice-in-Record.result.now)) c.args.all.now)) c.in_err-values-in-Record.ensures)

pub value_at-returns-in_ok-items-in-Array : goal.value_at-returns-in_ok-items-in-Array
value_at-returns-in_ok-items-in-Array t c = rw (shape_of_node c.args.node.now, c.in-Array.is, shape_of_array c.in-Array.items c.in-Array.element, ← c.get.ensures, c.in_ok-items-in-Array.ensures) refl

pub value_at-returns-in_err-items-in-Array : goal.value_at-returns-in_err-items-in-Array
value_at-returns-in_err-items-in-Array t c =
    let p = err_from_is_err_and c.from_residual-in_err-items-in-Array.result c.from_residual-in_err-items-in-Array.ensures.1 in
    rw (p.1, p.2, shape_of_node c.args.node.now, c.in-Array.is, shape_of_array c.in-Array.items c.in-Array.element, ← c.get.ensures) (handed_on c.in_err-items-in-Array.field-0.0 (all_blocks_at (value_at (shape_of c.get.result.now)) c.args.all.now) (read_as value.Array (all_blocks_at (value_at (shape_of c.get.result.now)) c.args.all.now)) (as_refused value.Array (all_blocks_at (value_at (shape_of c.get.result.now)) c.args.all.now)) c.in_err-items-in-Array.ensures)

pub value_at-returns-in_ok-entries-in-Map : goal.value_at-returns-in_ok-entries-in-Map
value_at-returns-in_ok-entries-in-Map t c = rw (shape_of_node c.args.node.now, c.in-Map.is, shape_of_map c.in-Map.values c.in-Map.key c.in-Map.value, ← c.get-in-Map.ensures, c.in_ok-entries-in-Map.ensures) refl

pub value_at-returns-in_err-entries-in-Map : goal.value_at-returns-in_err-entries-in-Map
value_at-returns-in_err-entries-in-Map t c =
    let p = err_from_is_err_and c.from_residual-in_err-entries-in-Map.result c.from_residual-in_err-entries-in-Map.ensures.1 in
    rw (p.1, p.2, shape_of_node c.args.node.now, c.in-Map.is, shape_of_map c.in-Map.values c.in-Map.key c.in-Map.value, ← c.get-in-Map.ensures) (handed_on c.in_err-entries-in-Map.field-0.0 (all_blocks_at (entry_at (value_at (shape_of c.get-in-Map.result.now))) c.args.all.now) (read_as value.Map (all_blocks_at (entry_at (value_at (shape_of c.get-in-Map.result.now))) c.args.all.now)) (as_refused value.Map (all_blocks_at (entry_at (value_at (shape_of c.get-in-Map.result.now))) c.args.all.now)) c.in_err-entries-in-Map.ensures)

pub value_at-returns-in_err-index-in-Union : goal.value_at-returns-in_err-index-in-Union
value_at-returns-in_err-index-in-Union t c =
    let p = err_from_is_err_and c.from_residual-in_err-index-in-Union.result c.from_residual-in_err-index-in-Union.ensures.1 in
    rw (p.1, p.2, shape_of_node c.args.node.now, c.in-Union.is, shape_of_union c.in-Union.branches, ← c.as_slice-branches.ensures) (union_no_index c.as_slice-branches.result.now c.args.all.now c.in_err-index-in-Union.field-0.0 c.in_err-index-in-Union.ensures.gives)

pub value_at-returns-in_err-value-in-Union : goal.value_at-returns-in_err-value-in-Union
value_at-returns-in_err-value-in-Union t c =
    let p = err_from_is_err_and c.from_residual-in_err-value-in-Union.result c.from_residual-in_err-value-in-Union.ensures.1 in
    rw (p.1, p.2, shape_of_node c.args.node.now, c.in-Union.is, shape_of_union c.in-Union.branches, ← c.as_slice-branches.ensures) (handed_on c.in_err-value-in-Union.field-0.0 (value_at (shape_of c.index-branches-index.result) c.in_ok-index-in-Union.rest.now) (value_at (union (shapes_of (map shape_of c.as_slice-branches.result.now))) c.args.all.now) (λ r e. union_read c.as_slice-branches.result.now c.args.all.now c.in_ok-index-in-Union.index c.in_ok-index-in-Union.rest.now c.index-branches-index.result c.in_ok-index-in-Union.ensures.gives c.in_ok-index-in-Union.ensures.below c.index-branches-index.is ∙ as_refused (value.Union c.in_ok-index-in-Union.index) (value_at (shape_of c.index-branches-index.result) c.in_ok-index-in-Union.rest.now) r e) c.in_err-value-in-Union.ensures)

pub value_at-returns-in_ok-new-in-Union : goal.value_at-returns-in_ok-new-in-Union
value_at-returns-in_ok-new-in-Union t c = rw (shape_of_node c.args.node.now, c.in-Union.is, shape_of_union c.in-Union.branches, ← c.as_slice-branches.ensures, c.in_ok-new-in-Union.ensures)
    (union_read c.as_slice-branches.result.now c.args.all.now c.in_ok-index-in-Union.index c.in_ok-index-in-Union.rest.now c.index-branches-index.result c.in_ok-index-in-Union.ensures.gives c.in_ok-index-in-Union.ensures.below c.index-branches-index.is ∙ ap (read_as (value.Union c.in_ok-index-in-Union.index)) c.in_ok-value-in-Union.ensures)

pub items_at-returns-in_err-walk : goal.items_at-returns-in_err-walk
items_at-returns-in_err-walk t c =
    let p = err_from_is_err_and c.from_residual.result c.from_residual.ensures.1 in
    rw (p.1, p.2) (starts_not (value_at (shape_of c.args.node.now)) c.args.all.now c.in_err-walk.field-0.0 c.in_err-walk.ensures.gives)

pub items_at-loop-walk-init : goal.items_at-loop-walk-init
items_at-loop-walk-init t c = rw c.new-items.ensures (starts (value_at (shape_of c.args.node.now)) c.args.all.now (standing c.in_ok-walk.walk) c.in_ok-walk.ensures.gives)

pub items_at-returns : goal.items_at-returns
items_at-returns t c = finishes (value_at (shape_of c.args.node.now)) (all_blocks_at (value_at (shape_of c.args.node.now)) c.args.all.now) c.loop-walk.items (standing c.loop-walk.walk) c.loop-walk.invariant c.loop-walk-test.false

pub items_at-loop-walk-preserved : goal.items_at-loop-walk-preserved
items_at-loop-walk-preserved t c = rw (c.in_ok-push.ensures.ok) (goes_on (value_at (shape_of c.args.node.now)) (all_blocks_at (value_at (shape_of c.args.node.now)) c.args.all.now) c.loop-walk.items (standing c.loop-walk.walk) c.in_ok-item.item c.in_ok-item.rest.now (standing c.in_ok-walk-2.walk) c.loop-walk.invariant c.loop-walk-test.true c.in_ok-item.ensures
    (value_shorter (shape_of c.args.node.now) c.loop-walk.walk.rest.now c.in_ok-item.item c.in_ok-item.rest.now c.in_ok-item.ensures) c.in_ok-walk-2.ensures.gives)

pub items_at-loop-walk-smaller : goal.items_at-loop-walk-smaller
items_at-loop-walk-smaller t c =
    falls c.loop-walk.walk.left c.loop-walk.walk.size c.in_ok-item.rest.now (standing c.in_ok-walk-2.walk) (length c.loop-walk.walk.rest.now) c.in_ok-walk-2.ensures.gives
    (value_shorter (shape_of c.args.node.now) c.loop-walk.walk.rest.now c.in_ok-item.item c.in_ok-item.rest.now c.in_ok-item.ensures) c.in_ok-walk-2.ensures.small

pub items_at-returns-in_err-walk-2 : goal.items_at-returns-in_err-walk-2
items_at-returns-in_err-walk-2 t c =
    let p = err_from_is_err_and c.from_residual-in_err-walk-2.result c.from_residual-in_err-walk-2.ensures.1 in
    rw (p.1, p.2) (refused_behind (value_at (shape_of c.args.node.now)) (all_blocks_at (value_at (shape_of c.args.node.now)) c.args.all.now) c.loop-walk.items (standing c.loop-walk.walk) c.in_ok-item.item c.in_ok-item.rest.now c.in_err-walk-2.field-0.0 c.loop-walk.invariant c.loop-walk-test.true c.in_ok-item.ensures
    (value_shorter (shape_of c.args.node.now) c.loop-walk.walk.rest.now c.in_ok-item.item c.in_ok-item.rest.now c.in_ok-item.ensures) c.in_err-walk-2.ensures.gives)

pub items_at-returns-in_err-item : goal.items_at-returns-in_err-item
items_at-returns-in_err-item t c =
    let p = err_from_is_err_and c.from_residual-in_err-item.result c.from_residual-in_err-item.ensures.1 in
    rw (p.1, p.2) (handed_on c.in_err-item.field-0.0 (value_at (shape_of c.args.node.now) c.loop-walk.walk.rest.now) (all_blocks_at (value_at (shape_of c.args.node.now)) c.args.all.now) (λ r e. item_refused (value_at (shape_of c.args.node.now)) (all_blocks_at (value_at (shape_of c.args.node.now)) c.args.all.now) c.loop-walk.items (standing c.loop-walk.walk) r c.loop-walk.invariant c.loop-walk-test.true e) c.in_err-item.ensures)

pub items_at-returns-in_err-push : goal.items_at-returns-in_err-push
items_at-returns-in_err-push t c =
    let p = err_from_is_err_and c.from_residual-in_err-push.result c.from_residual-in_err-push.ensures.1 in
    rw (p.1, p.2) (tt)

pub entries_at-returns-in_err-walk : goal.entries_at-returns-in_err-walk
entries_at-returns-in_err-walk t c =
    let p = err_from_is_err_and c.from_residual.result c.from_residual.ensures.1 in
    rw (p.1, p.2) (starts_not (entry_at (value_at (shape_of c.args.node.now))) c.args.all.now c.in_err-walk.field-0.0 c.in_err-walk.ensures.gives)

pub entries_at-loop-walk-init : goal.entries_at-loop-walk-init
entries_at-loop-walk-init t c = rw c.new-entries.ensures (starts (entry_at (value_at (shape_of c.args.node.now))) c.args.all.now (standing c.in_ok-walk.walk) c.in_ok-walk.ensures.gives)

pub entries_at-returns : goal.entries_at-returns
entries_at-returns t c = finishes (entry_at (value_at (shape_of c.args.node.now))) (all_blocks_at (entry_at (value_at (shape_of c.args.node.now))) c.args.all.now) c.loop-walk.entries (standing c.loop-walk.walk) c.loop-walk.invariant c.loop-walk-test.false

pub entries_at-loop-walk-preserved : goal.entries_at-loop-walk-preserved
entries_at-loop-walk-preserved t c = rw (c.in_ok-push.ensures.ok, c.in_ok-from_str.ensures) (goes_on (entry_at (value_at (shape_of c.args.node.now))) (all_blocks_at (entry_at (value_at (shape_of c.args.node.now))) c.args.all.now) c.loop-walk.entries (standing c.loop-walk.walk) (c.in_ok-key.key.now, c.in_ok-item.item) c.in_ok-item.rest.now (standing c.in_ok-walk-2.walk) c.loop-walk.invariant c.loop-walk-test.true (entry_read (shape_of c.args.node.now) c.loop-walk.walk.rest.now c.in_ok-key.key.now c.in_ok-key.behind_key.now c.in_ok-item.item c.in_ok-item.rest.now c.in_ok-key.ensures c.in_ok-item.ensures)
    (entry_value_shorter (shape_of c.args.node.now) c.loop-walk.walk.rest.now c.in_ok-key.key.now c.in_ok-key.behind_key.now c.in_ok-item.item c.in_ok-item.rest.now c.in_ok-key.ensures c.in_ok-item.ensures) c.in_ok-walk-2.ensures.gives)

pub entries_at-loop-walk-smaller : goal.entries_at-loop-walk-smaller
entries_at-loop-walk-smaller t c =
    falls c.loop-walk.walk.left c.loop-walk.walk.size c.in_ok-item.rest.now (standing c.in_ok-walk-2.walk) (length c.loop-walk.walk.rest.now) c.in_ok-walk-2.ensures.gives
    (entry_value_shorter (shape_of c.args.node.now) c.loop-walk.walk.rest.now c.in_ok-key.key.now c.in_ok-key.behind_key.now c.in_ok-item.item c.in_ok-item.rest.now c.in_ok-key.ensures c.in_ok-item.ensures) c.in_ok-walk-2.ensures.small

pub entries_at-returns-in_err-walk-2 : goal.entries_at-returns-in_err-walk-2
entries_at-returns-in_err-walk-2 t c =
    let p = err_from_is_err_and c.from_residual-in_err-walk-2.result c.from_residual-in_err-walk-2.ensures.1 in
    rw (p.1, p.2) (refused_behind (entry_at (value_at (shape_of c.args.node.now))) (all_blocks_at (entry_at (value_at (shape_of c.args.node.now))) c.args.all.now) c.loop-walk.entries (standing c.loop-walk.walk) (c.in_ok-key.key.now, c.in_ok-item.item) c.in_ok-item.rest.now c.in_err-walk-2.field-0.0 c.loop-walk.invariant c.loop-walk-test.true (entry_read (shape_of c.args.node.now) c.loop-walk.walk.rest.now c.in_ok-key.key.now c.in_ok-key.behind_key.now c.in_ok-item.item c.in_ok-item.rest.now c.in_ok-key.ensures c.in_ok-item.ensures)
    (entry_value_shorter (shape_of c.args.node.now) c.loop-walk.walk.rest.now c.in_ok-key.key.now c.in_ok-key.behind_key.now c.in_ok-item.item c.in_ok-item.rest.now c.in_ok-key.ensures c.in_ok-item.ensures) c.in_err-walk-2.ensures.gives)

pub entries_at-returns-in_err-item : goal.entries_at-returns-in_err-item
entries_at-returns-in_err-item t c =
    let p = err_from_is_err_and c.from_residual-in_err-item.result c.from_residual-in_err-item.ensures.1 in
    rw (p.1, p.2) (handed_on c.in_err-item.field-0.0 (value_at (shape_of c.args.node.now) c.in_ok-key.behind_key.now) (all_blocks_at (entry_at (value_at (shape_of c.args.node.now))) c.args.all.now) (λ r e. item_refused (entry_at (value_at (shape_of c.args.node.now))) (all_blocks_at (entry_at (value_at (shape_of c.args.node.now))) c.args.all.now) c.loop-walk.entries (standing c.loop-walk.walk) r c.loop-walk.invariant c.loop-walk-test.true (entry_no_value (shape_of c.args.node.now) c.loop-walk.walk.rest.now c.in_ok-key.key.now c.in_ok-key.behind_key.now r c.in_ok-key.ensures e)) c.in_err-item.ensures)

pub entries_at-returns-in_err-push : goal.entries_at-returns-in_err-push
entries_at-returns-in_err-push t c =
    let p = err_from_is_err_and c.from_residual-in_err-push.result c.from_residual-in_err-push.ensures.1 in
    rw (p.1, p.2) (tt)

pub entries_at-returns-in_err-key : goal.entries_at-returns-in_err-key
entries_at-returns-in_err-key t c =
    let p = err_from_is_err_and c.from_residual-in_err-key.result c.from_residual-in_err-key.ensures.1 in
    rw (p.1, p.2) (item_refused (entry_at (value_at (shape_of c.args.node.now))) (all_blocks_at (entry_at (value_at (shape_of c.args.node.now))) c.args.all.now) c.loop-walk.entries (standing c.loop-walk.walk) c.in_err-key.field-0.0 c.loop-walk.invariant c.loop-walk-test.true (entry_no_key (shape_of c.args.node.now) c.loop-walk.walk.rest.now c.in_err-key.field-0.0 c.in_err-key.ensures))

pub fields_at-returns-in_err-value : goal.fields_at-returns-in_err-value
fields_at-returns-in_err-value t c =
    let p = err_from_is_err_and c.from_residual.result c.from_residual.ensures.1 in
    rw (p.1, p.2) (handed_on c.in_err-value.field-0.0 (value_at (shape_of c.field-item.result.node) c.loop-field.rest.now) (fields_at (shapes c.args.fields.now) c.args.all.now) (λ r e. c.loop-field.invariant ∙ field_stops c.args.fields.now c.loop-field.field-index c.field-item.result c.loop-field.values c.loop-field.rest.now r (omega arith) c.field-item.is e) c.in_err-value.ensures)

pub fields_at-returns : goal.fields_at-returns
fields_at-returns t c = c.loop-field.invariant ∙ fields_made c.args.fields.now c.loop-field.field-index c.loop-field.values c.loop-field.rest.now (omega arith)

pub fields_at-loop-field-preserved : goal.fields_at-loop-field-preserved
fields_at-loop-field-preserved t c = rw c.in_ok-push.ensures.ok (c.loop-field.invariant ∙ field_made c.args.fields.now c.loop-field.field-index c.field-item.result c.loop-field.values c.loop-field.rest.now c.in_ok-value.value c.in_ok-value.after.now (omega arith) c.field-item.is c.in_ok-value.ensures)
