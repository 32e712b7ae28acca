use Rattle.std.proofs.Common.{sym, ◌∙◌, arith, subst}
use Rattle.std.proofs.lemmas.List.{take_all}
use Rattle.icb_schema.proofs.NameLemmas.{Distinct}
use Rattle.icb_schema.proofs.DistinctLemmas.{texts, distinct_to, not_false, not_true_is, stands_twice, stands_once, held_more}
use Rattle.icb_schema.proofs.names.are_distinct.Goals as goal

pub returns-then-not-branch : goal.returns-then-not-branch
returns-then-not-branch c = sym (stands_twice c.args.names.now c.loop-name.name-index _ (omega arith) (sym (c.loop-name.invariant.held _) ∙ not_false _ (sym c.in_ok-insert.ensures.added ∙ c.if-not-branch.true)))

pub loop-name-preserved : goal.loop-name-preserved
loop-name-preserved c = record {
  differ = stands_once c.args.names.now c.loop-name.name-index _ (omega arith) c.loop-name.invariant.differ (sym (c.loop-name.invariant.held _) ∙ not_true_is _ (sym c.if-not-branch.false ∙ c.in_ok-insert.ensures.added));
  held = λ q. held_more c.args.names.now c.loop-name.name-index _ q _ _ (omega arith) (c.in_ok-insert.ensures.updates.0 (record { ref_ptr = (0, 0); now = q })) (c.loop-name.invariant.held q);
}

pub returns : goal.returns
returns c = sym (distinct_to (texts c.args.names.now) (subst (λ ns. Distinct (texts ns)) (take_all c.loop-name.name-index c.args.names.now (omega arith)) c.loop-name.invariant.differ))
