use Rattle.std.proofs.Common.{◌≡◌, ◌∙◌, ap, sym, refl, arith, Err, List, ℕ, [], ◌∷◌, ◌++◌, length, subst, drop}
use Rattle.std.proofs.lemmas.Result.{err_from_is_err_and}
use Rattle.icb_schema.specs.Shape.{shape_of}
use Rattle.icb_schema.specs.declared.node.Node.{Node}
use Rattle.icb_schema.proofs.ShapeLemmas.{shape_of_node, shape_of_null, shape_of_boolean, shape_of_int, shape_of_long, shape_of_float, shape_of_double, shape_of_bytes, shape_of_text, shape_of_fixed, shape_of_enum, shape_of_record, shape_of_array, shape_of_map, shape_of_union}
use Rattle.icb_avro.specs.declared.value.Value.{Value}
use Rattle.icb_avro.specs.declared.value.Value.TheVariants as value
use Rattle.icb_avro.specs.Answers.{Gives}
use Rattle.icb_avro.specs.Blocks.{standing}
use Rattle.icb_avro.specs.Reading.{behind, all_blocks_at, entry_at, value_at, fields_at, index_at}
use Rattle.icb_avro.proofs.BlockLemmas.{starts, starts_not, goes_on, item_refused, refused_behind, finishes, falls}
use Rattle.icb_avro.proofs.SkipLemmas.{leaf, behind_as, behind_ok, behind_err, behind_shorter, entry_shorter, entry_read, entry_no_key, entry_no_value, field_skipped, field_refused, no_more_fields, shapes, union_no_index, union_skipped}
use Rattle.icb_avro.proofs.skipping.+skip.Goals as goal

pub skip_at-returns-in-Null : goal.skip_at-returns-in-Null
skip_at-returns-in-Null t c = rw (shape_of_node c.args.node.now, c.in-Null.is, shape_of_null) refl

pub skip_at-returns-in-Boolean : goal.skip_at-returns-in-Boolean
skip_at-returns-in-Boolean t c = rw (shape_of_node c.args.node.now, c.in-Boolean.is, shape_of_boolean) (leaf (λ b. b) value.Boolean c.boolean_at.result c.behind.result _ c.boolean_at.ensures c.behind.ensures)

pub skip_at-returns-in-Int : goal.skip_at-returns-in-Int
skip_at-returns-in-Int t c = rw (shape_of_node c.args.node.now, c.in-Int.is, shape_of_int) (leaf (λ n. n) value.Int c.int_at.result c.behind-in-Int.result _ c.int_at.ensures c.behind-in-Int.ensures)

pub skip_at-returns-in-Long : goal.skip_at-returns-in-Long
skip_at-returns-in-Long t c = rw (shape_of_node c.args.node.now, c.in-Long.is, shape_of_long) (leaf (λ n. n) value.Long c.long_at.result c.behind-in-Long.result _ c.long_at.ensures c.behind-in-Long.ensures)

pub skip_at-returns-in-Float : goal.skip_at-returns-in-Float
skip_at-returns-in-Float t c = rw (shape_of_node c.args.node.now, c.in-Float.is, shape_of_float) (leaf (λ b. b.now) value.Float c.part_at.result c.behind-in-Float.result _ c.part_at.ensures c.behind-in-Float.ensures)

pub skip_at-returns-in-Double : goal.skip_at-returns-in-Double
skip_at-returns-in-Double t c = rw (shape_of_node c.args.node.now, c.in-Double.is, shape_of_double) (leaf (λ b. b.now) value.Double c.part_at-in-Double.result c.behind-in-Double.result _ c.part_at-in-Double.ensures c.behind-in-Double.ensures)

pub skip_at-returns-in-Bytes : goal.skip_at-returns-in-Bytes
skip_at-returns-in-Bytes t c = rw (shape_of_node c.args.node.now, c.in-Bytes.is, shape_of_bytes) (leaf (λ b. b.now) value.Bytes c.bytes_at.result c.behind-in-Bytes.result _ c.bytes_at.ensures c.behind-in-Bytes.ensures)

pub skip_at-returns-in-Text : goal.skip_at-returns-in-Text
skip_at-returns-in-Text t c = rw (shape_of_node c.args.node.now, c.in-Text.is, shape_of_text) (leaf (λ b. b.now) value.Text c.text_at.result c.behind-in-Text.result _ c.text_at.ensures c.behind-in-Text.ensures)

pub skip_at-returns-in-Fixed : goal.skip_at-returns-in-Fixed
skip_at-returns-in-Fixed t c = rw (shape_of_node c.args.node.now, c.in-Fixed.is, shape_of_fixed c.in-Fixed.name c.in-Fixed.size, ← c.from.ensures) (leaf (λ b. b.now) value.Fixed c.part_at-in-Fixed.result c.behind-in-Fixed.result _ c.part_at-in-Fixed.ensures c.behind-in-Fixed.ensures)

pub skip_at-returns-in-Enum : goal.skip_at-returns-in-Enum
skip_at-returns-in-Enum t c = rw (shape_of_node c.args.node.now, c.in-Enum.is, shape_of_enum c.in-Enum.name c.in-Enum.symbols, ← c.as_slice.ensures) (leaf (λ k. k) value.Enum c.index_at.result c.behind-in-Enum.result _ c.index_at.ensures.gives c.behind-in-Enum.ensures)

pub skip_at-returns-in-Record : goal.skip_at-returns-in-Record
skip_at-returns-in-Record t c = rw (shape_of_node c.args.node.now, c.in-Record.is, shape_of_record c.in-Record.name c.in-Record.fields, behind_as value.Record, ← c.as_slice-in-Record.ensures) c.skip_fields.ensures

pub skip_at-returns-in-Array : goal.skip_at-returns-in-Array
skip_at-returns-in-Array t c = rw (shape_of_node c.args.node.now, c.in-Array.is, shape_of_array c.in-Array.items c.in-Array.element, behind_as value.Array, ← c.get.ensures) c.skip_items.ensures

pub skip_at-returns-in-Map : goal.skip_at-returns-in-Map
skip_at-returns-in-Map t c = rw (shape_of_node c.args.node.now, c.in-Map.is, shape_of_map c.in-Map.values c.in-Map.key c.in-Map.value, behind_as value.Map, ← c.get-in-Map.ensures) c.skip_entries.ensures

pub skip_fields-loop-field-preserved : goal.skip_fields-loop-field-preserved
skip_fields-loop-field-preserved t c = c.loop-field.invariant ∙ field_skipped c.args.fields.now c.loop-field.field-index c.field-item.result c.loop-field.rest.now c.in_ok-rest.rest.now (omega arith) c.field-item.is c.in_ok-rest.ensures

pub skip_items-returns-in_err-walk : goal.skip_items-returns-in_err-walk
skip_items-returns-in_err-walk t c =
    let p = err_from_is_err_and c.from_residual.result c.from_residual.ensures.1 in
    rw (p.1, p.2, starts_not (value_at (shape_of c.args.node.now)) c.args.all.now c.in_err-walk.field-0.0 c.in_err-walk.ensures.gives) refl

pub skip_items-loop-walk-init : goal.skip_items-loop-walk-init
skip_items-loop-walk-init t c = ([], starts (value_at (shape_of c.args.node.now)) c.args.all.now (standing c.in_ok-walk.walk) c.in_ok-walk.ensures.gives)

pub skip_items-returns : goal.skip_items-returns
skip_items-returns t c = rw (finishes (value_at (shape_of c.args.node.now)) (all_blocks_at (value_at (shape_of c.args.node.now)) c.args.all.now) c.loop-walk.invariant.0 (standing c.loop-walk.walk) c.loop-walk.invariant.1 c.loop-walk-test.false) refl

pub skip_items-loop-walk-preserved : goal.skip_items-loop-walk-preserved
skip_items-loop-walk-preserved t c =
    let b = behind_ok (value_at (shape_of c.args.node.now) c.loop-walk.walk.rest.now) c.in_ok-rest.rest.now c.in_ok-rest.ensures in (
      c.loop-walk.invariant.0 ++ b.0 ∷ [],
      goes_on (value_at (shape_of c.args.node.now)) (all_blocks_at (value_at (shape_of c.args.node.now)) c.args.all.now) c.loop-walk.invariant.0 (standing c.loop-walk.walk) b.0 c.in_ok-rest.rest.now (standing c.in_ok-walk-2.walk) c.loop-walk.invariant.1 c.loop-walk-test.true b.1
          (behind_shorter (shape_of c.args.node.now) c.loop-walk.walk.rest.now c.in_ok-rest.rest.now c.in_ok-rest.ensures) c.in_ok-walk-2.ensures.gives,
    )

pub skip_items-loop-walk-smaller : goal.skip_items-loop-walk-smaller
skip_items-loop-walk-smaller t c =
    falls c.loop-walk.walk.left c.loop-walk.walk.size c.in_ok-rest.rest.now (standing c.in_ok-walk-2.walk) (length c.loop-walk.walk.rest.now) c.in_ok-walk-2.ensures.gives
    (behind_shorter (shape_of c.args.node.now) c.loop-walk.walk.rest.now c.in_ok-rest.rest.now c.in_ok-rest.ensures) c.in_ok-walk-2.ensures.small

pub skip_items-returns-in_err-rest : goal.skip_items-returns-in_err-rest
skip_items-returns-in_err-rest t c =
    let p = err_from_is_err_and c.from_residual-in_err-rest.result c.from_residual-in_err-rest.ensures.1 in
    rw (
      p.1,
      p.2,
      item_refused (value_at (shape_of c.args.node.now)) (all_blocks_at (value_at (shape_of c.args.node.now)) c.args.all.now) c.loop-walk.invariant.0 (standing c.loop-walk.walk) c.in_err-rest.field-0.0 c.loop-walk.invariant.1 c.loop-walk-test.true
          (behind_err (value_at (shape_of c.args.node.now) c.loop-walk.walk.rest.now) c.in_err-rest.field-0.0 c.in_err-rest.ensures),
    ) refl

pub skip_items-returns-in_err-walk-2 : goal.skip_items-returns-in_err-walk-2
skip_items-returns-in_err-walk-2 t c =
    let p = err_from_is_err_and c.from_residual-in_err-walk-2.result c.from_residual-in_err-walk-2.ensures.1 in
    let b = behind_ok (value_at (shape_of c.args.node.now) c.loop-walk.walk.rest.now) c.in_ok-rest.rest.now c.in_ok-rest.ensures in
    rw (
      p.1,
      p.2,
      refused_behind (value_at (shape_of c.args.node.now)) (all_blocks_at (value_at (shape_of c.args.node.now)) c.args.all.now) c.loop-walk.invariant.0 (standing c.loop-walk.walk) b.0 c.in_ok-rest.rest.now c.in_err-walk-2.field-0.0 c.loop-walk.invariant.1 c.loop-walk-test.true b.1
          (behind_shorter (shape_of c.args.node.now) c.loop-walk.walk.rest.now c.in_ok-rest.rest.now c.in_ok-rest.ensures) c.in_err-walk-2.ensures.gives,
    ) refl

pub skip_fields-returns-in_err-rest : goal.skip_fields-returns-in_err-rest
skip_fields-returns-in_err-rest t c =
    let p = err_from_is_err_and c.from_residual.result c.from_residual.ensures.1 in
    let none : fields_at (shapes (drop c.loop-field.field-index c.args.fields.now)) c.loop-field.rest.now ≡ Err c.in_err-rest.field-0.0 =
    field_refused c.args.fields.now c.loop-field.field-index c.field-item.result c.loop-field.rest.now c.in_err-rest.field-0.0 (omega arith) c.field-item.is (behind_err (value_at (shape_of c.field-item.result.node) c.loop-field.rest.now) c.in_err-rest.field-0.0 c.in_err-rest.ensures) in
    rw (p.1, p.2) (c.loop-field.invariant ∙ ap behind none)

pub skip_fields-returns : goal.skip_fields-returns
skip_fields-returns t c = c.loop-field.invariant ∙ ap behind (no_more_fields c.args.fields.now c.loop-field.field-index c.loop-field.rest.now (omega arith))

pub skip_at-returns-in_err-index-in-Union : goal.skip_at-returns-in_err-index-in-Union
skip_at-returns-in_err-index-in-Union t c =
    let p = err_from_is_err_and c.from_residual.result c.from_residual.ensures.1 in
    rw (p.1, p.2, shape_of_node c.args.node.now, c.in-Union.is, shape_of_union c.in-Union.branches)
    (ap behind (union_no_index c.in-Union.branches c.args.all.now c.in_err-index-in-Union.field-0.0 (subst (λ (ns : List Node). index_at (length ns) c.args.all.now ≡ Err c.in_err-index-in-Union.field-0.0) c.as_slice-branches.ensures c.in_err-index-in-Union.ensures.gives)))

pub skip_at-returns-in_ok-index-in-Union : goal.skip_at-returns-in_ok-index-in-Union
skip_at-returns-in_ok-index-in-Union t c =
    rw (shape_of_node c.args.node.now, c.in-Union.is, shape_of_union c.in-Union.branches, ← c.as_slice-branches.ensures)
    (subst (λ read. Gives (λ rest. rest.now) c.skip_at.result read)
    (sym (union_skipped c.as_slice-branches.result.now c.args.all.now c.in_ok-index-in-Union.index c.in_ok-index-in-Union.rest.now c.index-branches-index.result c.in_ok-index-in-Union.ensures.gives c.in_ok-index-in-Union.ensures.below c.index-branches-index.is)) c.skip_at.ensures)

pub skip_entries-returns-in_err-walk : goal.skip_entries-returns-in_err-walk
skip_entries-returns-in_err-walk t c =
    let p = err_from_is_err_and c.from_residual.result c.from_residual.ensures.1 in
    rw (p.1, p.2, starts_not (entry_at (value_at (shape_of c.args.node.now))) c.args.all.now c.in_err-walk.field-0.0 c.in_err-walk.ensures.gives) refl

pub skip_entries-loop-walk-init : goal.skip_entries-loop-walk-init
skip_entries-loop-walk-init t c = ([], starts (entry_at (value_at (shape_of c.args.node.now))) c.args.all.now (standing c.in_ok-walk.walk) c.in_ok-walk.ensures.gives)

pub skip_entries-returns : goal.skip_entries-returns
skip_entries-returns t c = rw (finishes (entry_at (value_at (shape_of c.args.node.now))) (all_blocks_at (entry_at (value_at (shape_of c.args.node.now))) c.args.all.now) c.loop-walk.invariant.0 (standing c.loop-walk.walk) c.loop-walk.invariant.1 c.loop-walk-test.false) refl

pub skip_entries-loop-walk-preserved : goal.skip_entries-loop-walk-preserved
skip_entries-loop-walk-preserved t c =
    let b = behind_ok (value_at (shape_of c.args.node.now) c.in_ok-value.value.now) c.in_ok-rest.rest.now c.in_ok-rest.ensures in
    let entry : List ℕ × Value = (c.in_ok-value.field-0-0.now, b.0) in (
      c.loop-walk.invariant.0 ++ entry ∷ [],
      goes_on (entry_at (value_at (shape_of c.args.node.now))) (all_blocks_at (entry_at (value_at (shape_of c.args.node.now))) c.args.all.now) c.loop-walk.invariant.0 (standing c.loop-walk.walk) entry c.in_ok-rest.rest.now (standing c.in_ok-walk-2.walk)
          c.loop-walk.invariant.1 c.loop-walk-test.true (entry_read (shape_of c.args.node.now) c.loop-walk.walk.rest.now c.in_ok-value.field-0-0.now c.in_ok-value.value.now b.0 c.in_ok-rest.rest.now c.in_ok-value.ensures b.1)
          (entry_shorter (shape_of c.args.node.now) c.loop-walk.walk.rest.now c.in_ok-value.field-0-0.now c.in_ok-value.value.now c.in_ok-rest.rest.now c.in_ok-value.ensures c.in_ok-rest.ensures) c.in_ok-walk-2.ensures.gives,
    )

pub skip_entries-loop-walk-smaller : goal.skip_entries-loop-walk-smaller
skip_entries-loop-walk-smaller t c =
    falls c.loop-walk.walk.left c.loop-walk.walk.size c.in_ok-rest.rest.now (standing c.in_ok-walk-2.walk) (length c.loop-walk.walk.rest.now) c.in_ok-walk-2.ensures.gives
    (entry_shorter (shape_of c.args.node.now) c.loop-walk.walk.rest.now c.in_ok-value.field-0-0.now c.in_ok-value.value.now c.in_ok-rest.rest.now c.in_ok-value.ensures c.in_ok-rest.ensures) c.in_ok-walk-2.ensures.small

pub skip_entries-returns-in_err-value : goal.skip_entries-returns-in_err-value
skip_entries-returns-in_err-value t c =
    let p = err_from_is_err_and c.from_residual-in_err-value.result c.from_residual-in_err-value.ensures.1 in
    rw (
      p.1,
      p.2,
      item_refused (entry_at (value_at (shape_of c.args.node.now))) (all_blocks_at (entry_at (value_at (shape_of c.args.node.now))) c.args.all.now) c.loop-walk.invariant.0 (standing c.loop-walk.walk) c.in_err-value.field-0.0 c.loop-walk.invariant.1 c.loop-walk-test.true
          (entry_no_key (shape_of c.args.node.now) c.loop-walk.walk.rest.now c.in_err-value.field-0.0 c.in_err-value.ensures),
    ) refl

pub skip_entries-returns-in_err-rest : goal.skip_entries-returns-in_err-rest
skip_entries-returns-in_err-rest t c =
    let p = err_from_is_err_and c.from_residual-in_err-rest.result c.from_residual-in_err-rest.ensures.1 in
    rw (
      p.1,
      p.2,
      item_refused (entry_at (value_at (shape_of c.args.node.now))) (all_blocks_at (entry_at (value_at (shape_of c.args.node.now))) c.args.all.now) c.loop-walk.invariant.0 (standing c.loop-walk.walk) c.in_err-rest.field-0.0 c.loop-walk.invariant.1 c.loop-walk-test.true
          (entry_no_value (shape_of c.args.node.now) c.loop-walk.walk.rest.now c.in_ok-value.field-0-0.now c.in_ok-value.value.now c.in_err-rest.field-0.0 c.in_ok-value.ensures (behind_err (value_at (shape_of c.args.node.now) c.in_ok-value.value.now) c.in_err-rest.field-0.0 c.in_err-rest.ensures)),
    ) refl

pub skip_entries-returns-in_err-walk-2 : goal.skip_entries-returns-in_err-walk-2
skip_entries-returns-in_err-walk-2 t c =
    let p = err_from_is_err_and c.from_residual-in_err-walk-2.result c.from_residual-in_err-walk-2.ensures.1 in
    let b = behind_ok (value_at (shape_of c.args.node.now) c.in_ok-value.value.now) c.in_ok-rest.rest.now c.in_ok-rest.ensures in
    let entry : List ℕ × Value = (c.in_ok-value.field-0-0.now, b.0) in
    rw (
      p.1,
      p.2,
      refused_behind (entry_at (value_at (shape_of c.args.node.now))) (all_blocks_at (entry_at (value_at (shape_of c.args.node.now))) c.args.all.now) c.loop-walk.invariant.0 (standing c.loop-walk.walk) entry c.in_ok-rest.rest.now c.in_err-walk-2.field-0.0
          c.loop-walk.invariant.1 c.loop-walk-test.true (entry_read (shape_of c.args.node.now) c.loop-walk.walk.rest.now c.in_ok-value.field-0-0.now c.in_ok-value.value.now b.0 c.in_ok-rest.rest.now c.in_ok-value.ensures b.1)
          (entry_shorter (shape_of c.args.node.now) c.loop-walk.walk.rest.now c.in_ok-value.field-0-0.now c.in_ok-value.value.now c.in_ok-rest.rest.now c.in_ok-value.ensures c.in_ok-rest.ensures) c.in_err-walk-2.ensures.gives,
    ) refl
