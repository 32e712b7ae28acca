use Rattle.std.proofs.Common.{sym, ap, ◌∙◌, map, arith, rules, subst, w64}
use Rattle.std.proofs.lemmas.Int.{to_z-of_z}
use mir.Val.{SFits}
use Rattle.std.proofs.lemmas.List.{take_all}
use Rattle.std.specs.Ordering.{int_eq}
use Rattle.icb_meta.proofs.DistinctLemmas.{Distinct, distinct_to, held_more, ids_are_distinct, int_decides, not_false, not_true_is, stands_once, stands_twice}
use Rattle.icb_meta.proofs.distinct.have_distinct_ids.Goals as goal

pub returns-then-not-branch : goal.returns-then-not-branch
returns-then-not-branch g c =
    let fits : SFits w64 c.number.result = search rules in
    let same = to_z-of_z w64 c.number.result fits in
    let added = rw same at c.in_ok-insert.ensures.added in
    sym (ids_are_distinct (map g.T.Numbered.number c.args.items.now) ∙ stands_twice int_eq int_decides g.T.Numbered.number c.args.items.now c.loop-item.item-index c.item-item.result c.number.result (omega arith) (c.number.ensures ∙ ap g.T.Numbered.number c.item-item.is) (sym (c.loop-item.invariant.held c.number.result) ∙ not_false _ (sym added ∙ c.if-not-branch.true)))

pub loop-item-preserved : goal.loop-item-preserved
loop-item-preserved g c =
    let fits : SFits w64 c.number.result = search rules in
    let same = to_z-of_z w64 c.number.result fits in
    let added = rw same at c.in_ok-insert.ensures.added in
    record {
      differ = stands_once int_eq int_decides g.T.Numbered.number c.args.items.now c.loop-item.item-index c.item-item.result c.number.result (omega arith) (c.number.ensures ∙ ap g.T.Numbered.number c.item-item.is) c.loop-item.invariant.differ (sym (c.loop-item.invariant.held c.number.result) ∙ not_true_is _ (sym c.if-not-branch.false ∙ added));
      held = λ q. held_more int_eq int_decides g.T.Numbered.number c.args.items.now c.loop-item.item-index c.item-item.result c.number.result q _ _ (omega arith) (c.number.ensures ∙ ap g.T.Numbered.number c.item-item.is) (rw same at (c.in_ok-insert.ensures.updates.0 q)) (c.loop-item.invariant.held q);
    }

pub returns : goal.returns
returns g c =
    sym (ids_are_distinct (map g.T.Numbered.number c.args.items.now) ∙ distinct_to int_eq int_decides _ (subst (λ xs. Distinct (map g.T.Numbered.number xs)) (take_all c.loop-item.item-index c.args.items.now (omega arith)) c.loop-item.invariant.differ))
