use Rattle.std.proofs.Common.{◌≡◌, Ok, subst, sym, map, drop, ◌++◌, ◌+◌, arith}
use Rattle.icb_schema.specs.Shape.{shape_of}
use Rattle.icb_avro.specs.Cursor.{unread}
use Rattle.icb_avro.specs.Reading.{value_at}
use Rattle.icb_rows.specs.Views.{passed, record_at}
use Rattle.icb_rows.proofs.FieldLemmas.{field_next, not_refused, skip_read, skipped_all}
use Rattle.icb_rows.proofs.view.skip_fields.Goals as goal

pub returns-in-Err : goal.returns-in-Err
returns-in-Err c = λ more vs rest e.
    let s = field_next c.args.fields.now c.loop-field.field-index c.field-item.result more (unread c.loop-field.walk) vs rest (omega arith) c.field-item.is (c.loop-field.invariant more vs rest e) in
    not_refused (value_at (shape_of c.field-item.result.node) (unread c.loop-field.walk)) s.0 s.1 c.in-Err.field-0 c.loop-field.walk c.skip.new.self c.in-Err.ensures s.2

pub loop-field-preserved : goal.loop-field-preserved
loop-field-preserved c = λ more vs rest e.
    let s = field_next c.args.fields.now c.loop-field.field-index c.field-item.result more (unread c.loop-field.walk) vs rest (omega arith) c.field-item.is (c.loop-field.invariant more vs rest e) in
    let moved = skip_read (value_at (shape_of c.field-item.result.node) (unread c.loop-field.walk)) s.0 s.1 c.in-Ok.field-0 c.loop-field.walk c.skip.new.self c.in-Ok.ensures s.2 in
    subst (λ b. record_at (map passed (drop (c.loop-field.field-index + 1) c.args.fields.now) ++ more) b ≡ Ok (drop (c.loop-field.field-index + 1) vs, rest)) (sym moved) s.3

pub returns : goal.returns
returns c = λ more vs rest e.
    skipped_all c.args.fields.now c.loop-field.field-index more (unread c.loop-field.walk) c.rest.result.now vs rest (omega (arith, c.loop-field-test.false)) c.rest.ensures.bytes (c.loop-field.invariant more vs rest e)
