use Rattle.std.proofs.Common.{refl, sym}
use Rattle.std.proofs.lemmas.Int.{to_z-of_z}
use mir.Val.{SFits}
use mir.Syntax.{w32}
use Rattle.icb_schema.proofs.TreeLemmas.{form_of_record, tree_of_node}
use Rattle.icb_fields.proofs.KindLemmas.{no_record}
use Rattle.icb_fields.proofs.record.type_at.Goals as goal

pub returns-in-Some : goal.returns-in-Some
returns-in-Some c = λ e.
    let fits : SFits w32 c.args.id = c.ranges.id in
    let k = rw to_z-of_z at c.in-Some.ensures in
    rw (c.held_in.ensures, e, c.in-Record.is, form_of_record c.in-Record.name c.in-Record.fields, ← c.as_slice.ensures, ← k, tree_of_node) refl

pub returns-in-None : goal.returns-in-None
returns-in-None c = λ e.
    let fits : SFits w32 c.args.id = c.ranges.id in
    let k = rw to_z-of_z at c.in-None.ensures in
    rw (c.in-Record.is, form_of_record c.in-Record.name c.in-Record.fields, ← c.as_slice.ensures, ← k) refl

pub returns-in_default : goal.returns-in_default
returns-in_default c = λ e. sym (no_record _ _ c.in_default.not-Record)
