-- The entries open one by one, or the first that doesn't ends the search.
use Rattle.std.proofs.Common.{◌≡◌, ◌+◌, ◌<◌, ◌≤◌, ◌∙◌, Ok, Err, ap, arith, get_or, length, subst}
use Rattle.icb_chain.specs.Opening.{keys_of}
use Rattle.icb_rotate.specs.Keys.{entry_opens}
use Rattle.icb_turns.specs.Answers.{Answers}
use Rattle.icb_rotate.proofs.CallLemmas.{open_end, open_next, open_stops}
use Rattle.icb_rotate.proofs.keys.all_open.Goals as goal

pub returns-in-Err : goal.returns-in-Err
returns-in-Err c =
    let i = c.loop-entry.entry-index in
    let e = c.entry-item.result in
    let same = c.entries-entry-items.ensures in
    open_stops (keys_of c.args.meta.now) c.args.ring.now c.args.meta.now.fields.state.entries i e
    c.in-Err.fault _ (subst (λ l. i < length l) same c.loop-entry-test.true) c.loop-entry.invariant.left
    (subst (λ x. Answers (entry_opens (keys_of c.args.meta.now) c.args.ring.now x) (Err c.in-Err.fault))
    (c.entry-item.is ∙ ap (λ l. get_or l i e) same) c.in-Err.ensures.opens)

pub loop-entry-preserved : goal.loop-entry-preserved
loop-entry-preserved c =
    let i = c.loop-entry.entry-index in
    let e = c.entry-item.result in
    let same = c.entries-entry-items.ensures in
    record {
      sound = c.in_default-entry_opens.ensures.sound;
      left = open_next (keys_of c.args.meta.now) c.args.ring.now c.args.meta.now.fields.state.entries i (i + 1)
          e c.in_default-entry_opens.field-0 _ (omega arith) (subst (λ l. i < length l) same c.loop-entry-test.true) c.loop-entry.invariant.left
          (subst (λ x. entry_opens (keys_of c.args.meta.now) c.args.ring.now x ≡ Ok c.in_default-entry_opens.field-0)
          (c.entry-item.is ∙ ap (λ l. get_or l i e) same) c.in_default-entry_opens.ensures.opens);
    }

pub returns : goal.returns
returns c =
    let i = c.loop-entry.entry-index in
    open_end (keys_of c.args.meta.now) c.args.ring.now c.args.meta.now.fields.state.entries i _
    (subst (λ l. length l ≤ i) c.entries-entry-items.ensures c.loop-entry-test.false) c.loop-entry.invariant.left
