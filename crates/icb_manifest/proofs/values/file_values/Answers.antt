use Rattle.std.proofs.Common.{rules, ap, ◌∙◌}
use Rattle.std.proofs.lemmas.Int.{to_z-of_z}
use mir.Val.{SFits}
use mir.Syntax.{w32, w64}
use Rattle.icb_manifest.specs.Written.{bytes_array, longs_array}
use Rattle.icb_manifest.proofs.WrittenLemmas.{file_pushed}
use Rattle.icb_manifest.proofs.values.file_values.Goals as goal

pub returns : goal.returns
returns c =
    let f0 : SFits w32 c.args.file.now.content = search rules in
    let f1 : SFits w64 c.args.file.now.records = search rules in
    let f2 : SFits w64 c.args.file.now.size = search rules in
    file_pushed c.args.file.now _ _ _ _ _ _ _ _ _ _ _ _ _ _ _ _ _ _ _ _ _ _ _ _ _
    c.new-values.ensures
    c.in_ok-push.ensures.ok (to_z-of_z w32 c.args.file.now.content f0)
    c.in_ok-push-2.ensures.ok c.in_ok-copy.ensures
    c.in_ok-push-3.ensures.ok c.in_ok-copy-2.ensures
    c.in_ok-push-4.ensures.ok c.new.ensures
    c.in_ok-push-5.ensures.ok (to_z-of_z w64 c.args.file.now.records f1)
    c.in_ok-push-6.ensures.ok (to_z-of_z w64 c.args.file.now.size f2)
    c.in_ok-push-7.ensures.ok (c.in_ok-longs_array.ensures ∙ ap longs_array c.as_slice.ensures)
    c.in_ok-push-8.ensures.ok (c.in_ok-longs_array-2.ensures ∙ ap longs_array c.as_slice-2.ensures)
    c.in_ok-push-9.ensures.ok (c.in_ok-bytes_array.ensures ∙ ap bytes_array c.as_slice-3.ensures)
    c.in_ok-push-10.ensures.ok (c.in_ok-bytes_array-2.ensures ∙ ap bytes_array c.as_slice-4.ensures)
    c.in_ok-push-11.ensures.ok c.in_ok-bytes_or_null.ensures
    c.in_ok-push-12.ensures.ok c.in_ok-long_or_null.ensures
