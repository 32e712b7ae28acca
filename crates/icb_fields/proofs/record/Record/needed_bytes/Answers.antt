use Rattle.std.proofs.lemmas.Int.{to_z-of_z}
use mir.Val.{SFits}
use mir.Syntax.{w32}
use Rattle.icb_fields.specs.Fields.{bytes_at, needed_bytes}
use Rattle.icb_fields.specs.Answers.{row}
use Rattle.icb_fields.proofs.AskLemmas.{needed}
use Rattle.icb_fields.proofs.record.Record.needed_bytes.Goals as goal

pub returns : goal.returns
unfolding needed_bytes
returns c =
    let fits : SFits w32 c.args.id = c.ranges.id in
    needed (λ b. b.now) c.args.id c.bytes.result (bytes_at c.args.id (row c.args.self.now)) c.there.result (rw to_z-of_z at c.bytes.ensures) (rw to_z-of_z at c.there.ensures)
