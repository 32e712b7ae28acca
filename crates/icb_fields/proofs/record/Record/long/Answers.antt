use Rattle.std.proofs.Common.{◌∙◌, refl}
use Rattle.std.proofs.lemmas.Int.{to_z-of_z}
use mir.Val.{SFits}
use mir.Syntax.{w32}
use Rattle.icb_fields.specs.Answers.{row, seen}
use Rattle.icb_fields.proofs.AskLemmas.{long_is, no_long}
use Rattle.icb_fields.proofs.record.Record.long.Goals as goal

pub returns-in-Missing : goal.returns-in-Missing
returns-in-Missing c =
    let fits : SFits w32 c.args.id = c.ranges.id in
    long_is c.args.id (row c.args.self.now) (seen c.held_at.result) (rw to_z-of_z at c.held_at.ensures) ∙ rw c.in-Missing.is refl

pub returns-in-Long : goal.returns-in-Long
returns-in-Long c =
    let fits : SFits w32 c.args.id = c.ranges.id in
    long_is c.args.id (row c.args.self.now) (seen c.held_at.result) (rw to_z-of_z at c.held_at.ensures) ∙ rw c.in-Long.is refl

pub returns-in_default : goal.returns-in_default
returns-in_default c =
    let fits : SFits w32 c.args.id = c.ranges.id in
    rw to_z-of_z (long_is c.args.id (row c.args.self.now) (seen c.held_at.result) (rw to_z-of_z at c.held_at.ensures) ∙ no_long c.args.id c.held_at.result c.in_default.not-Missing c.in_default.not-Long)
