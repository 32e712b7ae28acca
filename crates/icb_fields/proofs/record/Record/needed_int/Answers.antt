use Rattle.std.proofs.lemmas.Int.{to_z-of_z}
use mir.Val.{SFits}
use mir.Syntax.{w32}
use Rattle.icb_fields.specs.Fields.{int_at, needed_int}
use Rattle.icb_fields.specs.Answers.{row}
use Rattle.icb_fields.proofs.AskLemmas.{needed, plainly}
use Rattle.icb_fields.proofs.record.Record.needed_int.Goals as goal

pub returns : goal.returns
unfolding needed_int
returns c =
    let fits : SFits w32 c.args.id = c.ranges.id in
    needed (λ n. n) c.args.id c.int.result (int_at c.args.id (row c.args.self.now)) c.there.result (plainly c.int.result (int_at c.args.id (row c.args.self.now)) (rw to_z-of_z at c.int.ensures)) (rw to_z-of_z at c.there.ensures)
