use Rattle.icb_walk.proofs.EntryLemmas.{fault_at, reads_at}
use Rattle.icb_walk.proofs.RowLemmas.{manifest_opened, manifest_refused}
use Rattle.icb_walk.proofs.NextLemmas.{told_once}
use Rattle.icb_walk.proofs.open_list.open_manifest.Goals as goal

pub returns-in-Ok-clause-opens : goal.returns-in-Ok-clause-opens
returns-in-Ok-clause-opens g c = told_once (g.S.Store.held c.args.store.now) _ _ (λ files told opens.
    manifest_opened files c.args.file c.args.row c.in-Ok.reader opens) c.in-Ok.ensures.opens

pub returns-in-Err-clause-opens : goal.returns-in-Err-clause-opens
returns-in-Err-clause-opens g c = told_once (g.S.Store.held c.args.store.now) _ _ (λ files told opens.
    manifest_refused files c.args.file c.args.row c.in-Err.trouble c.at.result c.at.ensures opens) c.in-Err.ensures.opens

pub returns-in-Err-clause-fault : goal.returns-in-Err-clause-fault
returns-in-Err-clause-fault g c = fault_at c.args.file.path c.in-Err.trouble c.at.result c.at.ensures

pub returns-in-Err-clause-reads : goal.returns-in-Err-clause-reads
returns-in-Err-clause-reads g c = reads_at g.S.Store c.args.file.path c.args.file.path c.in-Err.trouble c.at.result
    c.args.store.now c.open.new.store c.at.ensures c.in-Err.ensures.reads
