-- The records of a block are passed over one by one.
use Rattle.std.proofs.Common.{rules, ◌≡◌, ◌<◌, ◌^◌, ◌+◌, ◌-◌, suc, length, arith, refl, ap, ◌∙◌}
use Rattle.std.proofs.lemmas.Bool.{eq-eqb, ne_eqb}
use Rattle.std.proofs.lemmas.List.{length-drop}
use Rattle.icb_avro.specs.Cursor.{unread}
use Rattle.icb_avro.specs.Reading.{value_at}
use Rattle.icb_schema.specs.Shape.{Shape, shape_of}
use Rattle.icb_container.proofs.PassedRecords.{all_are_read, more_is_read, none_is_read, records_are, records_refused, refused_item, skipped_is_read, skipped_is_refused}
use Rattle.icb_container.proofs.records.check_records.Goals as goal

pub loop-passed-init : goal.loop-passed-init
loop-passed-init g c =
    let count : c.args.head.count - 0 ≡ c.args.head.count = omega arith in
    rw (c.new-cursor.ensures, count) (record { whole = refl; within = omega arith; read = none_is_read (value_at (shape_of c.args.node.now)) c.args.head.count c.args.bytes.now })

pub overflow_add-head : goal.overflow_add-head
overflow_add-head g c =
    let r = skipped_is_refused (value_at (shape_of c.args.node.now) (unread c.loop-passed.cursor)) c.loop-passed.cursor c.skip.new.self c.in-Err.fault c.in-Err.ensures in
    let size = ap length c.loop-passed.invariant.whole in
    let fits : c.args.head.place + c.in-Err.fault.place < 2 ^ 64 = omega (arith, size, r.3, c.requires.size, c.requires.fits) in
    search rules

pub returns-in-Err-clause-checks : goal.returns-in-Err-clause-checks
returns-in-Err-clause-checks g c = λ file within is.
    let s : Shape = shape_of c.args.node.now in
    let r = skipped_is_refused (value_at s (unread c.loop-passed.cursor)) c.loop-passed.cursor c.skip.new.self c.in-Err.fault c.in-Err.ensures in
    let size = ap length c.loop-passed.invariant.whole in
    let place : c.in-Err.fault.place + r.0.left ≡ c.args.head.size = omega (arith, size, r.3, c.requires.size) in
    let e = refused_item (value_at s) c.args.head.count (c.args.head.count - c.loop-passed.passed) c.args.bytes.now (unread c.loop-passed.cursor) r.0 (omega (arith, c.loop-passed-test.true)) r.1 c.loop-passed.invariant.read in
    let refused = records_refused s file c.args.bytes.now c.args.head r.0 c.in-Err.fault (omega (arith, within)) is e r.2 place in
    rw c.refuse.ensures refused

pub loop-passed-preserved : goal.loop-passed-preserved
loop-passed-preserved g c =
    let s : Shape = shape_of c.args.node.now in
    let read = skipped_is_read (value_at s (unread c.loop-passed.cursor)) c.loop-passed.cursor c.skip.new.self c.in_default.field-0 c.in_default.ensures in
    let left : c.args.head.count - c.loop-passed.passed ≡ suc (c.args.head.count - (c.loop-passed.passed + 1)) = omega (arith, c.loop-passed-test.true) in
    record {
      whole = read.2 ∙ c.loop-passed.invariant.whole;
      within = omega (arith, read.3, ap length c.loop-passed.invariant.whole);
      read = more_is_read (value_at s) c.args.head.count (c.args.head.count - c.loop-passed.passed) (c.args.head.count - (c.loop-passed.passed + 1)) c.args.bytes.now (unread c.loop-passed.cursor) (unread c.skip.new.self)
          read.0 left read.1 c.loop-passed.invariant.read;
    }

pub overflow_add-head-then-behind-bytes : goal.overflow_add-head-then-behind-bytes
overflow_add-head-then-behind-bytes g c =
    let fits : c.args.head.place + c.place-behind.result < 2 ^ 64 = omega (arith, c.place-behind.ensures, c.loop-passed.invariant.within, c.requires.size, c.requires.fits) in
    search rules

pub returns-then-behind-bytes-clause-checks : goal.returns-then-behind-bytes-clause-checks
returns-then-behind-bytes-clause-checks g c = λ file within is.
    let s : Shape = shape_of c.args.node.now in
    let all = all_are_read (value_at s) c.args.head.count (c.args.head.count - c.loop-passed.passed) c.args.bytes.now (unread c.loop-passed.cursor) (omega (arith, c.loop-passed-test.false)) c.loop-passed.invariant.read in
    let size = ap length c.loop-passed.invariant.whole in
    let left = length-drop c.loop-passed.cursor.place c.loop-passed.cursor.whole in
    let more = ne_eqb (length (unread c.loop-passed.cursor)) 0 (λ e. c.if-behind-bytes.true (omega (arith, e, left, size, c.place-behind.ensures, c.loop-passed.invariant.within))) in
    let place : c.args.head.place + c.args.head.size - length (unread c.loop-passed.cursor) ≡ c.args.head.place + c.place-behind.result =
    omega (arith, left, size, c.place-behind.ensures, c.loop-passed.invariant.within, c.requires.size) in
    let are = records_are s file c.args.bytes.now (unread c.loop-passed.cursor) c.args.head all.0 (omega (arith, within)) is all.1 in
    rw (c.refuse-then-behind-bytes.ensures, are, more, place) refl

pub returns-clause-checks : goal.returns-clause-checks
returns-clause-checks g c = λ file within is.
    let s : Shape = shape_of c.args.node.now in
    let all = all_are_read (value_at s) c.args.head.count (c.args.head.count - c.loop-passed.passed) c.args.bytes.now (unread c.loop-passed.cursor) (omega (arith, c.loop-passed-test.false)) c.loop-passed.invariant.read in
    let size = ap length c.loop-passed.invariant.whole in
    let left = length-drop c.loop-passed.cursor.place c.loop-passed.cursor.whole in
    let none = eq-eqb (length (unread c.loop-passed.cursor)) 0 (omega (arith, c.if-behind-bytes.false, left, size, c.place-behind.ensures)) in
    let are = records_are s file c.args.bytes.now (unread c.loop-passed.cursor) c.args.head all.0 (omega (arith, within)) is all.1 in
    (all.0, rw (are, none) refl)
