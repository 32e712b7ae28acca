use Rattle.std.proofs.Common.{subst}
use Rattle.icb_avro.specs.Answers.{Gives}
use Rattle.icb_avro.specs.Cursor.{unread}
use Rattle.icb_avro.specs.Spelling.{IsCounted}
use Rattle.icb_avro.specs.Reading.{bytes_at}
use Rattle.icb_avro.proofs.Found.{bytes_found}
use Rattle.icb_avro.proofs.Places.{bytes_left, is_within, reads_so}
use Rattle.icb_avro.proofs.cursor.Cursor.bytes.Goals as goal

pub follow-requires : goal.follow-requires
follow-requires c =
    is_within (λ b. b.now) IsCounted bytes_at bytes_found bytes_left c.args.self.now.whole c.args.self.now.place c.rest.ensures.within c.bytes_at-read.result
    (subst (λ b. Gives (λ x. (x.0.now, x.1.now)) c.bytes_at-read.result (bytes_at b)) c.rest.ensures.bytes c.bytes_at-read.ensures)

pub returns : goal.returns
returns c =
    reads_so (λ b. b.now) c.bytes_at-read.result (bytes_at (unread c.args.self.now)) c.follow.result c.args.self.now c.follow.new.self
    (subst (λ b. Gives (λ x. (x.0.now, x.1.now)) c.bytes_at-read.result (bytes_at b)) c.rest.ensures.bytes c.bytes_at-read.ensures) c.follow.ensures
