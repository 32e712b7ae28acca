use Rattle.std.proofs.Common.{rules, ap, ◌∙◌, Some}
use Rattle.serde_json.specs.View.{members_view}
use Rattle.icb_meta.proofs.JsonLemmas.{texts_step}
use Rattle.icb_meta.proofs.keys.texts_in.Goals as goal

pub loop-name-preserved : goal.loop-name-preserved
loop-name-preserved c =
    texts_step (members_view c.args.members.now.entries) c.loop-name.texts _ _ _ c.in-Some.name.now c.in-Some.member.now c.in_ok-name.name c.in_ok-from_str.field-0 c.loop-name.invariant c.in-Some.ensures.steps (search rules)
    (ap (λ t. Some t) c.in_ok-from_str.ensures ∙ c.in-Some-as_str.ensures) c.in_ok-push.ensures.ok
