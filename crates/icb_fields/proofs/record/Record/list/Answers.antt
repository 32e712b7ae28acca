use Rattle.std.proofs.Common.{◌∙◌, refl}
use Rattle.std.proofs.lemmas.Int.{to_z-of_z}
use mir.Val.{SFits}
use mir.Syntax.{w32}
use Rattle.icb_fields.specs.Answers.{row, seen}
use Rattle.icb_fields.proofs.AskLemmas.{list_is, no_list}
use Rattle.icb_fields.proofs.record.Record.list.Goals as goal

pub returns-in-Missing : goal.returns-in-Missing
returns-in-Missing c =
    let fits : SFits w32 c.args.id = c.ranges.id in
    list_is c.args.id (row c.args.self.now) (seen c.held_at.result) (rw to_z-of_z at c.held_at.ensures) ∙ rw c.in-Missing.is refl

pub returns-in-List : goal.returns-in-List
returns-in-List c =
    let fits : SFits w32 c.args.id = c.ranges.id in
    list_is c.args.id (row c.args.self.now) (seen c.held_at.result) (rw to_z-of_z at c.held_at.ensures) ∙ rw c.in-List.is refl

pub returns-in_default : goal.returns-in_default
returns-in_default c =
    let fits : SFits w32 c.args.id = c.ranges.id in
    rw to_z-of_z (list_is c.args.id (row c.args.self.now) (seen c.held_at.result) (rw to_z-of_z at c.held_at.ensures) ∙ no_list c.args.id c.held_at.result c.in_default.not-Missing c.in_default.not-List)
