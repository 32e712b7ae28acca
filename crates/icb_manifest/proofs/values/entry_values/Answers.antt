use Rattle.std.proofs.Common.{rules}
use Rattle.std.proofs.lemmas.Int.{to_z-of_z}
use mir.Val.{SFits}
use mir.Syntax.{w32}
use Rattle.icb_manifest.proofs.WrittenLemmas.{entry_pushed}
use Rattle.icb_manifest.proofs.values.entry_values.Goals as goal

pub returns : goal.returns
returns c =
    let f : SFits w32 c.args.entry.now.status = search rules in
    entry_pushed c.args.entry.now _ _ _ _ _ _ _ _ _ _ _
    c.new-values.ensures c.in_ok-push.ensures.ok (to_z-of_z w32 c.args.entry.now.status f)
    c.in_ok-push-2.ensures.ok c.in_ok-long_or_null.ensures
    c.in_ok-push-3.ensures.ok c.in_ok-long_or_null-2.ensures
    c.in_ok-push-4.ensures.ok c.in_ok-long_or_null-3.ensures
    c.in_ok-push-5.ensures.ok c.in_ok-file_value.ensures
