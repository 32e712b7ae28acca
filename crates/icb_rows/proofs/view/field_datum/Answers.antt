use Rattle.std.proofs.Common.{◌≡◌, ◌∙◌, ◌++◌, ap, sym, subst, drop, get_or, map, length, List, ℕ, Ok, arith}
use Rattle.icb_schema.specs.Shape.{shape_of}
use Rattle.icb_avro.specs.Reading.{value_at}
use Rattle.icb_avro.specs.declared.value.Value.{Value}
use Rattle.icb_types.specs.Data.{seen}
use Rattle.icb_rows.specs.Records.{datum_of}
use Rattle.icb_rows.specs.Views.{Passed, passed, record_at}
use Rattle.icb_rows.proofs.FieldLemmas.{field_read, first_behind, no_field}
use Rattle.icb_rows.proofs.view.field_datum.Goals as goal

pub returns-then-place-fields : goal.returns-then-place-fields
returns-then-place-fields c = no_field c.args.fields.now c.args.place c.args.kind c.args.all.now (omega (arith, c.if-place-fields.true))

pub returns-in-Some : goal.returns-in-Some
returns-in-Some c =
    field_read c.args.fields.now c.args.place c.index-behind-0.result c.args.kind (seen c.datum_in.result) c.args.all.now c.in-Some.bytes.now (omega (arith, c.if-place-fields.false))
    (first_behind c.args.fields.now c.args.place c.index-behind-0.result (c.index-behind-0.is ∙ ap (λ fs. get_or fs 0 c.index-behind-0.result) c.split_at.ensures.back))
    (subst (λ gs. (more : List Passed) (vs : List Value) (rest : List ℕ) → record_at (map passed gs ++ more) c.args.all.now ≡ Ok (vs, rest) → record_at more c.in-Some.bytes.now ≡ Ok (drop (length gs) vs, rest)) c.split_at.ensures.front c.in-Some.ensures)
    (subst (λ n. (v : Value) (rest : List ℕ) → value_at (shape_of n.node) c.in-Some.bytes.now ≡ Ok (v, rest) → seen c.datum_in.result ≡ datum_of v c.args.kind) (sym c.index-behind-0.is) c.datum_in.ensures)
