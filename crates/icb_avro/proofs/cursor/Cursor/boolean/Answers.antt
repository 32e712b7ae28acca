use Rattle.std.proofs.Common.{subst}
use Rattle.icb_avro.specs.Answers.{Gives}
use Rattle.icb_avro.specs.Cursor.{unread}
use Rattle.icb_avro.specs.Reading.{boolean_at}
use Rattle.icb_avro.proofs.Found.{boolean_found, IsTruth}
use Rattle.icb_avro.proofs.Places.{boolean_left, is_within, reads_so}
use Rattle.icb_avro.proofs.cursor.Cursor.boolean.Goals as goal

pub follow-requires : goal.follow-requires
follow-requires c =
    is_within (λ b. b) IsTruth boolean_at boolean_found boolean_left c.args.self.now.whole c.args.self.now.place c.rest.ensures.within c.boolean_at-read.result
    (subst (λ b. Gives (λ x. (x.0, x.1.now)) c.boolean_at-read.result (boolean_at b)) c.rest.ensures.bytes c.boolean_at-read.ensures)

pub returns : goal.returns
returns c =
    reads_so (λ b. b) c.boolean_at-read.result (boolean_at (unread c.args.self.now)) c.follow.result c.args.self.now c.follow.new.self
    (subst (λ b. Gives (λ x. (x.0, x.1.now)) c.boolean_at-read.result (boolean_at b)) c.rest.ensures.bytes c.boolean_at-read.ensures) c.follow.ensures
