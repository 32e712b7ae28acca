use Rattle.std.proofs.Common.{◌∙◌, refl, sym}
use Rattle.std.proofs.lemmas.Int.{to_z-of_z}
use Rattle.std.proofs.lemmas.List.{drop_all}
use mir.Val.{SFits}
use mir.Syntax.{w32}
use Rattle.icb_fields.specs.Fields.{first_type}
use Rattle.icb_fields.proofs.LookLemmas.{type_step}
use Rattle.icb_fields.proofs.record.first_type.Goals as goal

pub returns-then-eq : goal.returns-then-eq
returns-then-eq c =
    let fits : SFits w32 c.args.id = c.ranges.id in
    let e = rw to_z-of_z at c.if-eq.ensures in
    let k = rw to_z-of_z at c.loop-field.invariant in
    sym (k ∙ type_step c.args.id c.args.fields.now c.loop-field.field-index c.field-item.result c.loop-field-test.true c.field-item.is ∙ rw (← e) refl)

pub loop-field-preserved : goal.loop-field-preserved
loop-field-preserved c =
    let fits : SFits w32 c.args.id = c.ranges.id in
    let e = rw to_z-of_z at c.if-eq.ensures in
    let k = rw to_z-of_z at c.loop-field.invariant in
    rw to_z-of_z (k ∙ type_step c.args.id c.args.fields.now c.loop-field.field-index c.field-item.result c.loop-field-test.true c.field-item.is ∙ rw (← e) refl)

pub returns : goal.returns
unfolding first_type
returns c =
    let fits : SFits w32 c.args.id = c.ranges.id in
    let k = rw to_z-of_z at c.loop-field.invariant in
    sym (k ∙ rw (drop_all c.loop-field.field-index c.args.fields.now c.loop-field-test.false) refl)
