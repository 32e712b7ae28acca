use Rattle.std.proofs.Common.{◌+◌, refl, Some, None, rules, arith}
use Rattle.icb_list.specs.Rows.{list_row}
use Rattle.icb_walk.proofs.EntryLemmas.{fault_at, reads_at}
use Rattle.icb_walk.proofs.RowLemmas.{row_read, row_refused, rows_end}
use Rattle.icb_walk.proofs.NextLemmas.{told_once}
use Rattle.icb_walk.proofs.OpenLemmas.{found_is}
use Rattle.icb_walk.specs.Judged.{listing}
use Rattle.icb_walk.proofs.open_list.OpenList.read_row.Goals as goal

pub returns-clause-reads_row : goal.returns-clause-reads_row
returns-clause-reads_row g c = told_once (g.S.Store.held c.args.store.now) _ _ (λ files told next fits.
    row_read files c.args.file.now c.args.self.now c.next.new.self c.args.self.now.count c.place-place.result (c.args.self.now.count + 1) c.in-Some.row c.requires refl c.place-place.ensures (omega arith)
    (found_is list_row files (listing c.args.file.now) c.args.self.now.reader c.next.new.self c.in-Ok.found (Some c.in-Some.row) (search rules) (next (listing c.args.file.now) fits))) c.in-Ok.ensures.next

pub returns-in_default-clause-reads_row : goal.returns-in_default-clause-reads_row
returns-in_default-clause-reads_row g c = told_once (g.S.Store.held c.args.store.now) _ _ (λ files told next fits.
    rows_end files c.args.file.now c.args.self.now _ c.next.new.self c.requires
    (found_is list_row files (listing c.args.file.now) c.args.self.now.reader c.next.new.self c.in-Ok.found None (search rules) (next (listing c.args.file.now) fits))) c.in-Ok.ensures.next

pub returns-in-Err-clause-reads_row : goal.returns-in-Err-clause-reads_row
returns-in-Err-clause-reads_row g c = told_once (g.S.Store.held c.args.store.now) _ _ (λ files told next fits.
    row_refused files c.args.file.now c.args.self.now c.next.new.self c.in-Err.trouble c.at.result c.requires c.at.ensures c.in-Err.ensures.stays (next (listing c.args.file.now) fits)) c.in-Err.ensures.next

pub returns-in-Err-clause-fault : goal.returns-in-Err-clause-fault
returns-in-Err-clause-fault g c = fault_at c.args.file.now.path c.in-Err.trouble c.at.result c.at.ensures

pub returns-in-Err-clause-reads : goal.returns-in-Err-clause-reads
returns-in-Err-clause-reads g c = reads_at g.S.Store c.args.self.now.reader.stream.path c.args.file.now.path c.in-Err.trouble c.at.result
    c.args.store.now c.next.new.store c.at.ensures c.in-Err.ensures.reads
