use Rattle.std.proofs.Common.{sym, ap, ◌∙◌, map, arith, subst}
use Rattle.std.proofs.lemmas.List.{take_all}
use Rattle.std.specs.Str.{bytes_eq}
use Rattle.std.proofs.lemmas.Slice.Eq.{bytes_eq-Decides}
use Rattle.icb_meta.proofs.DistinctLemmas.{Distinct, distinct_to, name_held_more, names_are_distinct, not_false, not_true_is, stands_once, stands_twice}
use Rattle.icb_meta.proofs.distinct.have_distinct_names.Goals as goal

pub returns-then-not-branch : goal.returns-then-not-branch
returns-then-not-branch g c =
    sym (names_are_distinct (map g.T.Named.name c.args.items.now) ∙ stands_twice bytes_eq bytes_eq-Decides g.T.Named.name c.args.items.now c.loop-item.item-index c.item-item.result c.name.result.now (omega arith) (c.name.ensures ∙ ap g.T.Named.name c.item-item.is) (sym (c.loop-item.invariant.held c.name.result.now) ∙ not_false _ (sym c.in_ok-insert.ensures.added ∙ c.if-not-branch.true)))

pub loop-item-preserved : goal.loop-item-preserved
loop-item-preserved g c = record {
  differ = stands_once bytes_eq bytes_eq-Decides g.T.Named.name c.args.items.now c.loop-item.item-index c.item-item.result c.name.result.now (omega arith) (c.name.ensures ∙ ap g.T.Named.name c.item-item.is) c.loop-item.invariant.differ (sym (c.loop-item.invariant.held c.name.result.now) ∙ not_true_is _ (sym c.if-not-branch.false ∙ c.in_ok-insert.ensures.added));
  held = λ q. name_held_more g.T.Named.name c.args.items.now c.loop-item.item-index c.item-item.result c.name.result.now q _ _ (omega arith) (c.name.ensures ∙ ap g.T.Named.name c.item-item.is) (c.in_ok-insert.ensures.updates.0 (record { ref_ptr = (0, 0); now = q })) (c.loop-item.invariant.held q);
}

pub returns : goal.returns
returns g c =
    sym (names_are_distinct (map g.T.Named.name c.args.items.now) ∙ distinct_to bytes_eq bytes_eq-Decides _ (subst (λ xs. Distinct (map g.T.Named.name xs)) (take_all c.loop-item.item-index c.args.items.now (omega arith)) c.loop-item.invariant.differ))
