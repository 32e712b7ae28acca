use Rattle.std.proofs.lemmas.Int.{to_z-of_z}
use mir.Val.{SFits}
use mir.Syntax.{w32}
use Rattle.icb_fields.specs.Fields.{text_at, needed_text}
use Rattle.icb_fields.specs.Answers.{row}
use Rattle.icb_fields.proofs.AskLemmas.{needed}
use Rattle.icb_fields.proofs.record.Record.needed_text.Goals as goal

pub returns : goal.returns
unfolding needed_text
returns c =
    let fits : SFits w32 c.args.id = c.ranges.id in
    needed (λ t. t.now) c.args.id c.text.result (text_at c.args.id (row c.args.self.now)) c.there.result (rw to_z-of_z at c.text.ensures) (rw to_z-of_z at c.there.ensures)
