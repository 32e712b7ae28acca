use Rattle.std.proofs.Common.{subst}
use Rattle.icb_avro.specs.Answers.{Gives}
use Rattle.icb_avro.specs.Cursor.{unread}
use Rattle.icb_avro.specs.Numbers.{IsInt}
use Rattle.icb_avro.specs.Reading.{int_at}
use Rattle.icb_avro.proofs.Found.{int_found}
use Rattle.icb_avro.proofs.Places.{int_left, is_within, reads_so}
use Rattle.icb_avro.proofs.cursor.Cursor.int.Goals as goal

pub follow-requires : goal.follow-requires
follow-requires c =
    is_within (λ n. n) IsInt int_at int_found int_left c.args.self.now.whole c.args.self.now.place c.rest.ensures.within c.int_at-read.result
    (subst (λ b. Gives (λ x. (x.0, x.1.now)) c.int_at-read.result (int_at b)) c.rest.ensures.bytes c.int_at-read.ensures)

pub returns : goal.returns
returns c =
    reads_so (λ n. n) c.int_at-read.result (int_at (unread c.args.self.now)) c.follow.result c.args.self.now c.follow.new.self
    (subst (λ b. Gives (λ x. (x.0, x.1.now)) c.int_at-read.result (int_at b)) c.rest.ensures.bytes c.int_at-read.ensures) c.follow.ensures
