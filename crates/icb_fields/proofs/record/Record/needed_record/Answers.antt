use Rattle.std.proofs.lemmas.Int.{to_z-of_z}
use mir.Val.{SFits}
use mir.Syntax.{w32}
use Rattle.icb_fields.specs.Fields.{row_at, needed_row}
use Rattle.icb_fields.specs.Answers.{row}
use Rattle.icb_fields.proofs.AskLemmas.{needed}
use Rattle.icb_fields.proofs.record.Record.needed_record.Goals as goal

pub returns : goal.returns
unfolding needed_row
returns c =
    let fits : SFits w32 c.args.id = c.ranges.id in
    needed row c.args.id c.record.result (row_at c.args.id (row c.args.self.now)) c.there.result (rw to_z-of_z at c.record.ensures) (rw to_z-of_z at c.there.ensures)
