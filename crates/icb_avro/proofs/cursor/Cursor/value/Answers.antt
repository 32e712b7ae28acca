use Rattle.std.proofs.Common.{◌≡◌, Ok, Err, refl, subst}
use Rattle.icb_schema.specs.Shape.{shape_of}
use Rattle.icb_avro.specs.Answers.{Stops}
use Rattle.icb_avro.specs.Cursor.{unread}
use Rattle.icb_avro.specs.Reading.{value_at}
use Rattle.icb_avro.specs.Spelling.{Spells}
use Rattle.icb_avro.proofs.FoundValues.{value_found}
use Rattle.icb_avro.proofs.Places.{value_left, err_within, ok_ends, makes_so, make_stays, moved_behind}
use Rattle.icb_avro.proofs.cursor.Cursor.value.Goals as goal

pub go_to-requires : goal.go_to-requires
go_to-requires c =
    (ok_ends (Spells (shape_of c.args.node.now)) (value_at (shape_of c.args.node.now)) (value_found (shape_of c.args.node.now)) c.args.self.now.whole c.args.self.now.place c.in-Ok.value c.in-Ok.rest.now c.rest.ensures.within
    (subst (λ b. value_at (shape_of c.args.node.now) b ≡ Ok (c.in-Ok.value, c.in-Ok.rest.now)) c.rest.ensures.bytes c.in-Ok.ensures)).within

pub fault-requires : goal.fault-requires
fault-requires c =
    err_within (value_at (shape_of c.args.node.now)) (value_left (shape_of c.args.node.now)) c.args.self.now.whole c.args.self.now.place c.in-Err-Refused.refusal
    (subst (λ b. value_at (shape_of c.args.node.now) b ≡ Err c.in-Err-Refused.refusal) c.rest.ensures.bytes
    (subst (λ s. Stops s (value_at (shape_of c.args.node.now) c.rest.result.now)) c.in-Err-Refused.field-0-is c.in-Err-Refused.ensures))

pub returns-in-Ok : goal.returns-in-Ok
returns-in-Ok c =
    let e : value_at (shape_of c.args.node.now) (unread c.args.self.now) ≡ Ok (c.in-Ok.value, c.in-Ok.rest.now) =
    subst (λ b. value_at (shape_of c.args.node.now) b ≡ Ok (c.in-Ok.value, c.in-Ok.rest.now)) c.rest.ensures.bytes c.in-Ok.ensures in
    makes_so (shape_of c.args.node.now) c.args.self.now c.go_to.new.self c.in-Ok.value c.in-Ok.rest.now e
    (moved_behind c.in-Ok.value c.args.self.now c.go_to.new.self c.in-Ok.rest.now
    (ok_ends (Spells (shape_of c.args.node.now)) (value_at (shape_of c.args.node.now)) (value_found (shape_of c.args.node.now)) c.args.self.now.whole c.args.self.now.place c.in-Ok.value c.in-Ok.rest.now c.rest.ensures.within e)
    c.go_to.ensures.whole c.go_to.ensures.place)

pub returns-in-Err-Refused : goal.returns-in-Err-Refused
returns-in-Err-Refused c =
    make_stays (shape_of c.args.node.now) c.args.self.now c.args.self.now c.fault.result c.in-Err-Refused.refusal
    (subst (λ b. value_at (shape_of c.args.node.now) b ≡ Err c.in-Err-Refused.refusal) c.rest.ensures.bytes
    (subst (λ s. Stops s (value_at (shape_of c.args.node.now) c.rest.result.now)) c.in-Err-Refused.field-0-is c.in-Err-Refused.ensures)) (c.fault.ensures.cause, c.fault.ensures.place, refl)
