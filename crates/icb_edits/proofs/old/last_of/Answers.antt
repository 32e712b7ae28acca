use Rattle.std.proofs.Common.{◌≡◌, ◌-◌, length, rules}
use Rattle.icb_edits.proofs.LogLemmas.{last_kept}
use Rattle.icb_edits.proofs.old.last_of.Goals as goal

pub returns : goal.returns
returns c =
    let extra : c.saturating_sub-extra.result ≡ length c.args.values.items - 100 = search rules in
    last_kept c.args.values.items c.in_ok-split_off.field-0.items c.saturating_sub-extra.result c.in_ok-split_off.ensures.tail extra
