use Rattle.std.proofs.Common.{ap, sym, refl, ◌∙◌, Err}
use Rattle.icb_types.proofs.ColumnLemmas.{all_read, part_read, part_refused}
use Rattle.icb_types.proofs.WordLemmas.{less_left}
use Rattle.icb_types.proofs.columns.TableSchema.read_words.Goals as goal

pub returns-in-None-clause-reads : goal.returns-in-None-clause-reads
returns-in-None-clause-reads c =
    let same = rw c.in-Some.is at c.loop-rest.invariant.same in
    let none = rw (c.in-None.is, c.as_slice.ensures) at c.in_ok-column.ensures in
    part_refused c.loop-rest.columns c.args.text.now c.in-Some.left.now c.first_part.result.0.now c.first_part.result.1 same c.first_part.ensures none
    ∙ ap Err (sym c.len.ensures)

pub loop-rest-smaller : goal.loop-rest-smaller
loop-rest-smaller c =
    let e = less_left c.in-Some.left.now c.first_part.result.0.now c.first_part.result.1 c.first_part.ensures in
    rw c.in-Some.is e

pub loop-rest-preserved : goal.loop-rest-preserved
loop-rest-preserved c =
    let same = rw c.in-Some.is at c.loop-rest.invariant.same in
    let found = rw (c.in-Some-2.is, c.as_slice.ensures) at c.in_ok-column.ensures in
    let all = part_read c.loop-rest.columns c.push.new.self c.args.text.now c.in-Some.left.now c.first_part.result.0.now c.first_part.result.1 c.in-Some-2.column
    c.loop-rest.invariant.read same c.first_part.ensures found c.in_ok-push-in-Some-2.ensures.ok in
    record { read = all.0; some = all.1; same = all.2 }

pub returns-clause-reads : goal.returns-clause-reads
returns-clause-reads c =
    (refl, all_read c.loop-rest.columns c.args.text.now (rw c.in_default.is at c.loop-rest.invariant.same))
