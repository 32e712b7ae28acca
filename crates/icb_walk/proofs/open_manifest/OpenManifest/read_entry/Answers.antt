use Rattle.std.proofs.Common.{Some, None, rules}
use Rattle.icb_manifest.specs.Entries.{entry_of}
use Rattle.icb_walk.proofs.EntryLemmas.{entries_end, entry_read, entry_refused, fault_at, reads_at}
use Rattle.icb_walk.proofs.NextLemmas.{told_once}
use Rattle.icb_walk.proofs.OpenLemmas.{found_is}
use Rattle.icb_walk.specs.Judged.{listing}
use Rattle.icb_walk.proofs.open_manifest.OpenManifest.read_entry.Goals as goal

pub returns-clause-steps : goal.returns-clause-steps
returns-clause-steps g c = told_once (g.S.Store.held c.args.store.now) _ _ (λ files told next fits location.
    entry_read location files c.args.self.now c.next.new.self c.place-place.result c.in-Some.entry c.requires c.place-place.ensures
    (found_is entry_of files (listing c.args.self.now.file) c.args.self.now.reader c.next.new.self c.in-Ok.found (Some c.in-Some.entry) (search rules) (next (listing c.args.self.now.file) fits))) c.in-Ok.ensures.next

pub returns-in_default-clause-steps : goal.returns-in_default-clause-steps
returns-in_default-clause-steps g c = told_once (g.S.Store.held c.args.store.now) _ _ (λ files told next fits location.
    entries_end location files c.args.self.now c.next.new.self c.requires
    (found_is entry_of files (listing c.args.self.now.file) c.args.self.now.reader c.next.new.self c.in-Ok.found None (search rules) (next (listing c.args.self.now.file) fits))) c.in-Ok.ensures.next

pub returns-in-Err-clause-steps : goal.returns-in-Err-clause-steps
returns-in-Err-clause-steps g c = told_once (g.S.Store.held c.args.store.now) _ _ (λ files told next fits location.
    entry_refused location files c.args.self.now c.next.new.self c.in-Err.trouble c.at.result c.requires c.at.ensures c.in-Err.ensures.stays (next (listing c.args.self.now.file) fits)) c.in-Err.ensures.next

pub returns-in-Err-clause-fault : goal.returns-in-Err-clause-fault
returns-in-Err-clause-fault g c = fault_at c.args.self.now.file.path c.in-Err.trouble c.at.result c.at.ensures

pub returns-in-Err-clause-reads : goal.returns-in-Err-clause-reads
returns-in-Err-clause-reads g c = reads_at g.S.Store c.args.self.now.reader.stream.path c.args.self.now.file.path c.in-Err.trouble c.at.result
    c.args.store.now c.next.new.store c.at.ensures c.in-Err.ensures.reads
