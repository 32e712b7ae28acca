use Rattle.icb_walk.proofs.EntryLemmas.{fault_at, reads_at}
use Rattle.icb_walk.proofs.NextLemmas.{told_once}
use Rattle.icb_walk.proofs.WholeLemmas.{whole_read, whole_refused}
use Rattle.icb_walk.specs.Judged.{listing}
use Rattle.icb_walk.proofs.whole_list.whole_list.Goals as goal

pub returns-in-Ok-clause-rows : goal.returns-in-Ok-clause-rows
returns-in-Ok-clause-rows g c = told_once (g.S.Store.held c.args.store.now) _ _ (λ files told reads.
    whole_read files (listing c.args.file.now) c.in-Ok.rows reads) c.in-Ok.ensures.rows

pub returns-in-Err-clause-rows : goal.returns-in-Err-clause-rows
returns-in-Err-clause-rows g c = told_once (g.S.Store.held c.args.store.now) _ _ (λ files told reads.
    whole_refused files (listing c.args.file.now) c.in-Err.trouble c.at.result c.at.ensures reads) c.in-Err.ensures.rows

pub returns-in-Err-clause-fault : goal.returns-in-Err-clause-fault
returns-in-Err-clause-fault g c = fault_at c.args.file.now.path c.in-Err.trouble c.at.result c.at.ensures

pub returns-in-Err-clause-reads : goal.returns-in-Err-clause-reads
returns-in-Err-clause-reads g c = reads_at g.S.Store c.args.file.now.path c.args.file.now.path c.in-Err.trouble c.at.result
    c.args.store.now c.gather.new.store c.at.ensures c.in-Err.ensures.reads
