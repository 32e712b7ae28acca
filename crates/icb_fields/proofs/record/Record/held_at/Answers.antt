use Rattle.std.proofs.Common.{◌∙◌, refl, sym}
use Rattle.std.proofs.lemmas.Int.{to_z-of_z}
use Rattle.std.proofs.lemmas.List.{drop_all}
use mir.Val.{SFits}
use mir.Syntax.{w32}
use Rattle.icb_fields.specs.Fields.{held_at}
use Rattle.icb_fields.proofs.LookLemmas.{has_value, has_none, passed}
use Rattle.icb_fields.proofs.record.Record.held_at.Goals as goal

pub returns-in-Some : goal.returns-in-Some
returns-in-Some c =
    let fits : SFits w32 c.args.id = c.ranges.id in
    let e = rw to_z-of_z at c.if-eq.ensures in
    let k = rw to_z-of_z at c.loop-i.invariant in
    let x = c.in-Some.ensures.lookup in
    c.held_in.ensures ∙ sym (k ∙ has_value c.args.id c.args.self.now.fields.now c.args.self.now.values.now c.loop-i.i c.field-item.result c.in-Some.value.now
    c.loop-i-test.true c.field-item.is x.3.0 x.1 (sym e))

pub returns-in-None : goal.returns-in-None
returns-in-None c =
    let fits : SFits w32 c.args.id = c.ranges.id in
    let k = rw to_z-of_z at c.loop-i.invariant in
    let x = c.in-None.ensures.lookup in
    sym (k ∙ has_none c.args.id c.args.self.now.fields.now c.args.self.now.values.now c.loop-i.i c.field-item.result c.loop-i-test.true c.field-item.is x.3)

pub loop-i-preserved : goal.loop-i-preserved
loop-i-preserved c =
    let fits : SFits w32 c.args.id = c.ranges.id in
    let e = rw to_z-of_z at c.if-eq.ensures in
    let k = rw to_z-of_z at c.loop-i.invariant in
    rw to_z-of_z (k ∙ passed c.args.id c.args.self.now.fields.now c.args.self.now.values.now c.loop-i.i c.field-item.result c.loop-i-test.true c.field-item.is (sym e))

pub returns : goal.returns
unfolding held_at
returns c =
    let fits : SFits w32 c.args.id = c.ranges.id in
    let k = rw to_z-of_z at c.loop-i.invariant in
    sym (k ∙ rw (drop_all c.loop-i.i c.args.self.now.fields.now c.loop-i-test.false) refl)
