use Rattle.std.proofs.Common.{subst}
use Rattle.icb_avro.specs.Answers.{Gives}
use Rattle.icb_avro.specs.Cursor.{unread}
use Rattle.icb_avro.specs.Numbers.{IsLong}
use Rattle.icb_avro.specs.Reading.{long_at}
use Rattle.icb_avro.proofs.Found.{long_found}
use Rattle.icb_avro.proofs.Places.{long_left, is_within, reads_so}
use Rattle.icb_avro.proofs.cursor.Cursor.long.Goals as goal

pub follow-requires : goal.follow-requires
follow-requires c =
    is_within (λ n. n) IsLong long_at long_found long_left c.args.self.now.whole c.args.self.now.place c.rest.ensures.within c.long_at-read.result
    (subst (λ b. Gives (λ x. (x.0, x.1.now)) c.long_at-read.result (long_at b)) c.rest.ensures.bytes c.long_at-read.ensures)

pub returns : goal.returns
returns c =
    reads_so (λ n. n) c.long_at-read.result (long_at (unread c.args.self.now)) c.follow.result c.args.self.now c.follow.new.self
    (subst (λ b. Gives (λ x. (x.0, x.1.now)) c.long_at-read.result (long_at b)) c.rest.ensures.bytes c.long_at-read.ensures) c.follow.ensures
