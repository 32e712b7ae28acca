use Rattle.std.proofs.Common.{subst}
use Rattle.icb_avro.specs.Answers.{Gives}
use Rattle.icb_avro.specs.Cursor.{unread}
use Rattle.icb_avro.specs.Reading.{part_at}
use Rattle.icb_avro.proofs.FoundValues.{HasLength, sized_part}
use Rattle.icb_avro.proofs.Places.{part_left, is_within, reads_so}
use Rattle.icb_avro.proofs.cursor.Cursor.fixed.Goals as goal

pub follow-requires : goal.follow-requires
follow-requires c =
    is_within (λ b. b.now) (HasLength c.args.size) (λ all. part_at c.args.size all all) (sized_part c.args.size) (λ all. part_left c.args.size all all) c.args.self.now.whole c.args.self.now.place c.rest-rest.ensures.within c.part_at-read.result
    (subst (λ b. Gives (λ x. (x.0.now, x.1.now)) c.part_at-read.result (part_at c.args.size b b)) c.rest-rest.ensures.bytes (rw (← c.from.ensures) c.part_at-read.ensures))

pub returns : goal.returns
returns c =
    reads_so (λ b. b.now) c.part_at-read.result (part_at c.args.size (unread c.args.self.now) (unread c.args.self.now)) c.follow.result c.args.self.now c.follow.new.self
    (subst (λ b. Gives (λ x. (x.0.now, x.1.now)) c.part_at-read.result (part_at c.args.size b b)) c.rest-rest.ensures.bytes (rw (← c.from.ensures) c.part_at-read.ensures)) c.follow.ensures
