use Rattle.std.proofs.Common.{◌≡◌, ◌∙◌, ap, sym, refl, true, true≢false}
use Rattle.icb_schema.specs.Shape.{shape_of}
use Rattle.icb_avro.specs.Cursor.{unread}
use Rattle.icb_rows.specs.Views.{begins_null, passed}
use Rattle.icb_rows.proofs.ViewLemmas.{refused_null}
use Rattle.icb_rows.proofs.view.pass_field.Goals.{then-field, else-field}
use Rattle.icb_rows.proofs.view.pass_field.Goals as goal

pub returns-then-refused : goal.returns-then-refused
returns-then-refused c = elim c.if-field.branch [
  | then-field w ↦
      let null : begins_null (shape_of c.args.field.now.node) (unread c.args.cursor.now) ≡ true =
      ap (begins_null (shape_of c.args.field.now.node)) (sym w.rest.ensures.bytes) ∙ sym w.begins_null-refused.ensures ∙ sym w.refused-is ∙ c.if-refused.true in
      refused_null (passed c.args.field.now) _ c.args.cursor.now w.if-field.true null w.rest.ensures.within c.place.ensures refl
  | else-field w ↦ absurd (true≢false (sym c.if-refused.true ∙ w.refused-is ∙ w.if-field.false))
]
