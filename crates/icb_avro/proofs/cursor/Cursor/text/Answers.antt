use Rattle.std.proofs.Common.{subst}
use Rattle.icb_avro.specs.Answers.{Gives}
use Rattle.icb_avro.specs.Cursor.{unread}
use Rattle.icb_avro.specs.Reading.{text_at}
use Rattle.icb_avro.proofs.Found.{text_found, IsText}
use Rattle.icb_avro.proofs.Places.{text_left, is_within, reads_so}
use Rattle.icb_avro.proofs.cursor.Cursor.text.Goals as goal

pub follow-requires : goal.follow-requires
follow-requires c =
    is_within (λ t. t.now) IsText text_at text_found text_left c.args.self.now.whole c.args.self.now.place c.rest.ensures.within c.text_at-read.result
    (subst (λ b. Gives (λ x. (x.0.now, x.1.now)) c.text_at-read.result (text_at b)) c.rest.ensures.bytes c.text_at-read.ensures)

pub returns : goal.returns
returns c =
    reads_so (λ t. t.now) c.text_at-read.result (text_at (unread c.args.self.now)) c.follow.result c.args.self.now c.follow.new.self
    (subst (λ b. Gives (λ x. (x.0.now, x.1.now)) c.text_at-read.result (text_at b)) c.rest.ensures.bytes c.text_at-read.ensures) c.follow.ensures
