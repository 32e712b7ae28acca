use Rattle.std.proofs.Common.{sym, subst}
use Rattle.icb_reader.specs.Answers.{reader_fault_of}
use Rattle.icb_stream.specs.Attached.{IsContent}
use Rattle.icb_walk.proofs.NextLemmas.{if_told}
use Rattle.icb_walk.proofs.OpenLemmas.{blamed_on, next_err, next_found, reason_told, stays_by}
use Rattle.icb_walk.proofs.opened.OpenFile.next.Goals as goal

pub returns-in-Ok-clause-next : goal.returns-in-Ok-clause-next
returns-in-Ok-clause-next g c = if_told (g.S.Store.held c.args.store.now) _ (λ files told f fits.
    next_found g.T.FromRecord.made files f c.args.self.now (record { stream = c.next.new.reader.stream.now; records = c.next.new.self }) c.in-Ok.found fits
    (stays_by g.S.Store files c.args.self.now.stream c.next.new.reader.stream.now c.args.store.now c.next.new.reader.store.now told c.in-Ok.ensures.reader.kept.2)
    (λ known is file fills. c.in-Ok.ensures.reads known (subst (λ o. IsContent c.args.self.now.stream o known) (sym told) is) file fills))

pub returns-in-Err-clause-next : goal.returns-in-Err-clause-next
returns-in-Err-clause-next g c = if_told (g.S.Store.held c.args.store.now) _ (λ files told f fits.
    next_err g.T.FromRecord.made files f c.args.self.now (record { stream = c.next.new.reader.stream.now; records = c.next.new.self }) c.in-Err.fault c.of_records.result fits
    (stays_by g.S.Store files c.args.self.now.stream c.next.new.reader.stream.now c.args.store.now c.next.new.reader.store.now told c.in-Err.ensures.reader.kept.2)
    c.in-Err.ensures.stays
    (λ known is file fills. c.in-Err.ensures.reads known (subst (λ o. IsContent c.args.self.now.stream o known) (sym told) is) file fills)
    (λ gf e. reason_told (g.S.Store.held c.args.store.now) files c.args.self.now.stream fits.opened.belongs gf told
    (blamed_on _ _ _ _ (reader_fault_of c.in-Err.fault) gf c.in-Err.ensures.reader.blamed e).reason)
    c.of_records.ensures)
