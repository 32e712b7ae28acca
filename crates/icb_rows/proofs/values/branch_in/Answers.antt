use Rattle.std.proofs.Common.{◌∙◌, ap, rules}
use Rattle.std.proofs.lemmas.Int.{to_z-of_z}
use mir.Val.{SFits}
use mir.Syntax.{w32}
use Rattle.icb_avro.specs.Cursor.{unread}
use Rattle.icb_rows.proofs.ValueLemmas.{number_read, number_unread}
use Rattle.icb_rows.proofs.ViewLemmas.{none_some, some_pair}
use Rattle.icb_rows.proofs.values.branch_in.Goals as goal

pub returns-in-Some-clause-reads : goal.returns-in-Some-clause-reads
returns-in-Some-clause-reads c = λ k rest e.
    let fits : SFits w32 c.in-Ok.index = search rules in
    let h = number_read c.args.count c.args.bytes.now c.in-Ok.index c.new-walk.result c.int.new.self rest (ap unread c.new-walk.ensures) c.in-Ok.ensures k e in
    some_pair c.in-Some.branch k c.rest.result.now rest ((simp to_z-of_z at c.in-Some.ensures) ∙ h.0) (c.rest.ensures.bytes ∙ h.1)

pub returns-in-None-clause-reads : goal.returns-in-None-clause-reads
returns-in-None-clause-reads c = λ k rest e.
    let fits : SFits w32 c.in-Ok.index = search rules in
    let h = number_read c.args.count c.args.bytes.now c.in-Ok.index c.new-walk.result c.int.new.self rest (ap unread c.new-walk.ensures) c.in-Ok.ensures k e in
    absurd (none_some k ((simp to_z-of_z at c.in-None.ensures) ∙ h.0))

pub returns-in-Err-clause-reads : goal.returns-in-Err-clause-reads
returns-in-Err-clause-reads c = λ k rest e.
    absurd (number_unread c.args.count c.args.bytes.now c.in-Err.field-0 c.new-walk.result c.int.new.self rest (ap unread c.new-walk.ensures) c.in-Err.ensures k e)
