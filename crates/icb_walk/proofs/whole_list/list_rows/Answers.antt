use Rattle.std.proofs.Common.{Ok, rules}
use Rattle.icb_meta.specs.Answers.{shown_of}
use Rattle.icb_table.specs.Snapshots.{list_of}
use Rattle.icb_walk.proofs.EntryLemmas.{err_from}
use Rattle.icb_walk.proofs.NextLemmas.{if_told, reads_none, reads_store, told_once}
use Rattle.icb_walk.proofs.WholeLemmas.{asks_list, asks_refused, finds_refused, finds_whole, reads_list, reads_refused, refused_no_store}
use Rattle.icb_walk.specs.Judged.{listing}
use Rattle.icb_walk.specs.declared.fault.TreeFault.TheVariants as fault
use Rattle.icb_walk.proofs.whole_list.list_rows.Goals as goal

pub returns-in-Ok-clause-finds : goal.returns-in-Ok-clause-finds
returns-in-Ok-clause-finds g c = finds_whole (list_of (shown_of c.args.meta.now) c.args.ring.now c.args.snapshot) (listing c.in-Ok.file) c.whole_list.result (search rules) c.whole_list.ensures.fault

pub returns-in-Ok-clause-rows : goal.returns-in-Ok-clause-rows
returns-in-Ok-clause-rows g c = told_once (g.S.Store.held c.args.store.now) _ _ (λ files told reads.
    reads_list files (list_of (shown_of c.args.meta.now) c.args.ring.now c.args.snapshot) (listing c.in-Ok.file) c.whole_list.result (search rules) reads) c.whole_list.ensures.rows

pub returns-in-Ok-clause-asks : goal.returns-in-Ok-clause-asks
returns-in-Ok-clause-asks g c = if_told (g.S.Store.held c.args.store.now) _ (λ files told.
    asks_list g.S.Store files (list_of (shown_of c.args.meta.now) c.args.ring.now c.args.snapshot) (listing c.in-Ok.file) _ c.args.store.now c.whole_list.new.store (search rules) told c.whole_list.ensures.reads)

pub returns-in-Ok-clause-reads : goal.returns-in-Ok-clause-reads
returns-in-Ok-clause-reads g c = reads_store g.S.Store _ _ _ c.args.store.now c.whole_list.new.store (λ h. h) (λ h. h) c.whole_list.ensures.reads

pub returns-in-Err-clause-finds : goal.returns-in-Err-clause-finds
returns-in-Err-clause-finds g c = finds_refused (list_of (shown_of c.args.meta.now) c.args.ring.now c.args.snapshot) c.in-Err.fault (search rules)

pub returns-in-Err-clause-rows : goal.returns-in-Err-clause-rows
returns-in-Err-clause-rows g c = if_told (g.S.Store.held c.args.store.now) _ (λ files told.
    reads_refused files (list_of (shown_of c.args.meta.now) c.args.ring.now c.args.snapshot) c.in-Err.fault (search rules))

pub returns-in-Err-clause-asks : goal.returns-in-Err-clause-asks
returns-in-Err-clause-asks g c = if_told (g.S.Store.held c.args.store.now) _ (λ files told. asks_refused g.S.Store (list_of (shown_of c.args.meta.now) c.args.ring.now c.args.snapshot) c.args.store.now)

pub returns-in-Err-clause-reads : goal.returns-in-Err-clause-reads
returns-in-Err-clause-reads g c = reads_none g.S.Store _ c.args.store.now
    (λ h. refused_no_store _ c.in-Err.fault c.in-Err.ensures (err_from c.in-Err.fault fault.Store h))
    (g.met.S.Store.kept_at_rest c.args.store.now)
