use Rattle.std.proofs.Common.{Result, Ok, Err, IfOk}
use Rattle.icb_edits.proofs.EntryLemmas.{entry_back}
use Rattle.icb_edits.proofs.keys.entry_json.Goals as goal

where_ok : {A E : Type 0} (P : Type 0) (r : Result A E) → P → IfOk r (λ _. P)
where_ok P (Ok a) p = p
where_ok P (Err e) p = tt

pub returns-clause-reads : goal.returns-clause-reads
returns-clause-reads c = where_ok _ c.entry_object.result (entry_back c.args.entry.now c.in_ok-sealed.ensures.reads)
