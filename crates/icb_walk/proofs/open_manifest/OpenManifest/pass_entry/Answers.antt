use Rattle.std.proofs.Common.{Some, rules}
use Rattle.icb_walk.proofs.EntryLemmas.{at_from, entry_deleted, entry_given, entry_stays, err_from, fault_at, file_refused, lists_no_store, none_then}
use Rattle.icb_walk.specs.Judged.{listing}
use Rattle.icb_walk.specs.declared.fault.TreeFault.TheVariants as fault
use Rattle.icb_walk.proofs.open_manifest.OpenManifest.pass_entry.Goals as goal

pub returns-in_default-clause-steps : goal.returns-in_default-clause-steps
returns-in_default-clause-steps c = λ files fits. none_then c.args.location.now files c.args.self.now c.take.new.self _ (search rules) (entry_stays c.args.location.now files c.args.self.now (search rules) fits)

pub returns-then-is_deleted-clause-steps : goal.returns-then-is_deleted-clause-steps
returns-then-is_deleted-clause-steps c = λ files fits. none_then c.args.location.now files c.args.self.now c.take.new.self _ (search rules) (entry_deleted c.args.location.now files c.args.self.now c.in-Some.placed (search rules) (search rules) fits)

pub returns-in-Ok-clause-steps : goal.returns-in-Ok-clause-steps
returns-in-Ok-clause-steps c = λ files fits. none_then c.args.location.now files c.args.self.now c.take.new.self _ (search rules) (entry_given c.args.location.now files c.args.self.now c.in-Some.placed c.in-Ok.file (search rules) (search rules) c.in-Ok.ensures fits)

pub returns-in-Err-clause-steps : goal.returns-in-Err-clause-steps
returns-in-Err-clause-steps c = λ files fits. file_refused c.args.location.now files c.args.self.now c.in-Some.placed c.in-Err.trouble c.at.result (search rules) (search rules) c.in-Err.ensures c.at.ensures fits

pub returns-in-Err-clause-fault : goal.returns-in-Err-clause-fault
returns-in-Err-clause-fault c = fault_at c.args.self.now.file.path c.in-Err.trouble c.at.result c.at.ensures

pub returns-in-Err-clause-no_store : goal.returns-in-Err-clause-no_store
returns-in-Err-clause-no_store c = λ is. lists_no_store listing c.in-Err.trouble _ c.in-Err.ensures (at_from c.args.self.now.file.path c.in-Err.trouble c.at.result c.at.ensures (err_from c.at.result fault.Store is))
