-- The entries are sealed again one by one.
use Rattle.std.proofs.Common.{◌≡◌, ◌+◌, ◌<◌, ◌≤◌, ◌∙◌, ◌++◌, ◌∷◌, List, Some, ap, arith, drop, get_or, length, option_map, subst, sym, true}
use Rattle.icb_chain.specs.Opening.{keys_of}
use Rattle.icb_meta.specs.declared.records.KeyEntry.{KeyEntry}
use Rattle.icb_rotate.specs.Keys.{all_ascend, put_first, rewrapped}
use Rattle.icb_rotate.proofs.CallLemmas.{ascend_push, rewrapped_end, rewrapped_next}
use Rattle.icb_rotate.proofs.keys.rewrapped.Goals as goal

pub loop-entry-preserved : goal.loop-entry-preserved
loop-entry-preserved c =
    let i = c.loop-entry.entry-index in
    let e = c.entry-item.result in
    let n = c.in_ok-next.next in
    let same = c.entries-entry-items.ensures in
    let es = c.args.meta.now.fields.state.entries in
    let table = keys_of c.args.meta.now in
    let ring = c.args.ring.now in
    let master = c.args.master.now in
    let drawn = c.args.drawn.now in
    let at = c.loop-entry.at in
    let at_now = c.next_entry.new.at in
    record {
      sound = c.in_ok-next.ensures.sound;
      within = c.in_ok-next.ensures.within;
      ascend = subst (λ l. all_ascend l ≡ true) (sym c.in_ok-push.ensures.ok)
          (ascend_push c.loop-entry.sealed n c.loop-entry.invariant.ascend c.in_ok-next.ensures.ascend);
      left = subst (λ l. rewrapped table ring master es drawn ≡ option_map (λ x. l ++ x) (rewrapped table ring master (drop (i + 1) es) (drop at_now drawn)))
          (sym c.in_ok-push.ensures.ok)
          (rewrapped_next table ring master es drawn i (i + 1) at at_now e n c.loop-entry.sealed _ (omega arith)
          (subst (λ l. i < length l) same c.loop-entry-test.true) c.loop-entry.invariant.left
          (subst (λ x. (more : List KeyEntry) → rewrapped table ring master (x ∷ more) (drop at drawn) ≡ put_first (Some n) (rewrapped table ring master more (drop at_now drawn)))
          (c.entry-item.is ∙ ap (λ l. get_or l i e) same) c.in_ok-next.ensures.entry));
    }

pub returns-clause-entries : goal.returns-clause-entries
returns-clause-entries c =
    let i = c.loop-entry.entry-index in
    rewrapped_end (keys_of c.args.meta.now) c.args.ring.now c.args.master.now c.args.meta.now.fields.state.entries c.args.drawn.now i c.loop-entry.at
    c.loop-entry.sealed _ (subst (λ l. length l ≤ i) c.entries-entry-items.ensures c.loop-entry-test.false) c.loop-entry.invariant.left
