use Rattle.std.proofs.Common.{◌≡◌, rules, arith}
use Rattle.std.proofs.lemmas.Int.{to_z-of_z}
use mir.Val.{SFits}
use mir.Syntax.{w32, w64}
use Rattle.icb_list.proofs.WrittenLemmas.{pushed}
use Rattle.icb_list.proofs.writing.row_values.Goals as goal

pub returns : goal.returns
returns c =
    let e : c.loop-count.count-index ≡ 3 = omega (arith, c.loop-count.auto.count-index-end, c.loop-count-test.false) in
    let k : c.loop-count-2.count-index ≡ 3 = omega (arith, c.loop-count-2.auto.count-index-end, c.loop-count-2-test.false) in
    let f0 : SFits w64 c.args.row.now.length = search rules in
    let f1 : SFits w32 c.args.row.now.spec = search rules in
    let f2 : SFits w32 c.args.row.now.content = search rules in
    let f3 : SFits w64 c.args.row.now.sequence = search rules in
    let f4 : SFits w64 c.args.row.now.min_sequence = search rules in
    let f5 : SFits w64 c.args.row.now.snapshot = search rules in
    pushed c.args.row.now _ _ _ _ _ _ _ _ _ _ _ _ _ _ _ _ _ _ _ _ _ _ _
    c.new-values.ensures c.in_ok-push.ensures.ok c.in_ok-copy.ensures
    c.in_ok-push-2.ensures.ok (to_z-of_z w64 c.args.row.now.length f0)
    c.in_ok-push-3.ensures.ok (to_z-of_z w32 c.args.row.now.spec f1)
    c.in_ok-push-4.ensures.ok (to_z-of_z w32 c.args.row.now.content f2)
    c.in_ok-push-5.ensures.ok (to_z-of_z w64 c.args.row.now.sequence f3)
    c.in_ok-push-6.ensures.ok (to_z-of_z w64 c.args.row.now.min_sequence f4)
    c.in_ok-push-7.ensures.ok (to_z-of_z w64 c.args.row.now.snapshot f5)
    c.loop-count.invariant e c.loop-count-2.invariant k
    c.in_ok-push-10.ensures.ok c.in_ok-bytes_or_null.ensures c.in_ok-push-11.ensures.ok c.in_ok-long_or_null.ensures
