use Rattle.std.proofs.Common.{◌≡◌, Ok, Err, refl, subst}
use Rattle.icb_schema.specs.Shape.{shape_of}
use Rattle.icb_avro.specs.Cursor.{unread}
use Rattle.icb_avro.specs.Reading.{value_at, behind}
use Rattle.icb_avro.proofs.SkipLemmas.{behind_err}
use Rattle.icb_avro.proofs.Places.{value_left, err_within, skipped_ends, skips_so, skip_stays, moved_behind}
use Rattle.icb_avro.proofs.cursor.Cursor.skip.Goals as goal

pub go_to-requires : goal.go_to-requires
go_to-requires c =
    (skipped_ends (shape_of c.args.node.now) c.args.self.now.whole c.args.self.now.place c.in-Ok.rest.now c.rest.ensures.within
    (subst (λ b. behind (value_at (shape_of c.args.node.now) b) ≡ Ok c.in-Ok.rest.now) c.rest.ensures.bytes c.in-Ok.ensures)).within

pub fault-requires : goal.fault-requires
fault-requires c =
    err_within (value_at (shape_of c.args.node.now)) (value_left (shape_of c.args.node.now)) c.args.self.now.whole c.args.self.now.place c.in-Err.refusal
    (behind_err (value_at (shape_of c.args.node.now) (unread c.args.self.now)) c.in-Err.refusal
    (subst (λ b. behind (value_at (shape_of c.args.node.now) b) ≡ Err c.in-Err.refusal) c.rest.ensures.bytes c.in-Err.ensures))

pub returns-in-Ok : goal.returns-in-Ok
returns-in-Ok c =
    let e : behind (value_at (shape_of c.args.node.now) (unread c.args.self.now)) ≡ Ok c.in-Ok.rest.now =
    subst (λ b. behind (value_at (shape_of c.args.node.now) b) ≡ Ok c.in-Ok.rest.now) c.rest.ensures.bytes c.in-Ok.ensures in
    skips_so (shape_of c.args.node.now) c.args.self.now c.go_to.new.self c.in-Ok.rest.now e
    (moved_behind (tt {0}) c.args.self.now c.go_to.new.self c.in-Ok.rest.now
    (skipped_ends (shape_of c.args.node.now) c.args.self.now.whole c.args.self.now.place c.in-Ok.rest.now c.rest.ensures.within e) c.go_to.ensures.whole c.go_to.ensures.place)

pub returns-in-Err : goal.returns-in-Err
returns-in-Err c =
    let e : behind (value_at (shape_of c.args.node.now) (unread c.args.self.now)) ≡ Err c.in-Err.refusal =
    subst (λ b. behind (value_at (shape_of c.args.node.now) b) ≡ Err c.in-Err.refusal) c.rest.ensures.bytes c.in-Err.ensures in
    skip_stays (shape_of c.args.node.now) c.args.self.now c.args.self.now c.fault.result c.in-Err.refusal e (c.fault.ensures.cause, c.fault.ensures.place, refl)
