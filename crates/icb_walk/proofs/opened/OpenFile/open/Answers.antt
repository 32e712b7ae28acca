use Rattle.std.proofs.Common.{◌∙◌, sym, subst, rules}
use Rattle.icb_reader.specs.Answers.{reader_fault_of}
use Rattle.icb_stream.specs.Attached.{IsContent}
use Rattle.icb_walk.proofs.CauseLemmas.{blames_as, count_by}
use Rattle.icb_walk.proofs.EntryLemmas.{err_from, err_to}
use Rattle.icb_walk.proofs.NextLemmas.{told_once}
use Rattle.icb_walk.proofs.OpenLemmas.{begins_all, begins_err_listed, blamed_on, counted_by, fails_unopened, opened_as_listed, opens_then, reason_told, stays_by}
use Rattle.icb_walk.specs.Judged.{listing}
use Rattle.icb_walk.specs.declared.trouble.Trouble.TheVariants as trouble
use Rattle.icb_walk.proofs.opened.OpenFile.open.Goals as goal

pub returns-in-Err-clause-opens : goal.returns-in-Err-clause-opens
returns-in-Err-clause-opens g c = told_once (g.S.Store.held c.args.store.now) _ _ (λ files told opens.
    fails_unopened files c.args.file.now.path c.args.file.now.key c.args.file.now.length c.in-Err.fault c.of_stream.result opens c.of_stream.ensures) c.in-Err.ensures.opens

pub returns-in-Ok-open-clause-opens : goal.returns-in-Ok-open-clause-opens
returns-in-Ok-open-clause-opens g c = told_once (g.S.Store.held c.args.store.now) _ _ (λ files told opens.
    begins_all files (listing c.args.file.now) c.in-Ok.stream c.open-2.new.reader.stream.now c.stream-3-1.given.0 c.in-Ok-open.records (search rules)
    (opened_as_listed files c.args.file.now.path c.args.file.now.key c.args.file.now.length c.in-Ok.stream opens)
    (stays_by g.S.Store files c.in-Ok.stream c.open-2.new.reader.stream.now c.open.new.store c.open-2.new.reader.store.now (c.in-Ok.ensures.reads.same ∙ told) c.in-Ok-open.ensures.reader.kept.2)
    (λ known is file fills. c.in-Ok-open.ensures.opens known (subst (λ o. IsContent c.in-Ok.stream o known) (sym (c.in-Ok.ensures.reads.same ∙ told)) is) file fills)) c.in-Ok.ensures.opens

pub returns-in-Err-open-clause-opens : goal.returns-in-Err-open-clause-opens
returns-in-Err-open-clause-opens g c = told_once (g.S.Store.held c.args.store.now) _ _ (λ files told opens.
    begins_err_listed files c.args.file.now.path c.args.file.now.key c.args.file.now.length c.in-Ok.stream c.in-Err-open.fault c.of_records.result opens
    (λ known is file fills. c.in-Err-open.ensures.opens known (subst (λ o. IsContent c.in-Ok.stream o known) (sym (c.in-Ok.ensures.reads.same ∙ told)) is) file fills)
    (λ gf e. reason_told (g.S.Store.held c.open.new.store) files c.in-Ok.stream opens.belongs gf (c.in-Ok.ensures.reads.same ∙ told)
    (blamed_on _ _ _ _ (reader_fault_of c.in-Err-open.fault) gf c.in-Err-open.ensures.reader.blamed e).reason)
    c.of_records.ensures) c.in-Ok.ensures.opens

pub returns-in-Err-open-clause-reads : goal.returns-in-Err-open-clause-reads
returns-in-Err-open-clause-reads g c = opens_then g.S.Store c.args.file.now.path _ _ _ _ c.in-Ok.stream c.open-2.new.reader.stream.now c.args.store.now c.open.new.store c.open-2.new.reader.store.now _
    (search rules) (g.met.S.Store.kept_twice _ _ _) (λ h. let x : ⊥ = cc in x) c.in-Ok.ensures.layout.0 c.in-Ok.ensures.reads c.in-Err-open.ensures.reader.kept.2
    (blames_as _ _ _ _ (err_to c.of_records.result trouble.Store) (err_from c.of_records.result trouble.Store)
    (count_by _ _ c.in-Err-open.fault c.of_records.result c.of_records.ensures
    (counted_by _ _ _ _ (reader_fault_of c.in-Err-open.fault) _ _ c.in-Err-open.ensures.reader.blamed (λ h. h) (λ gf h. h.count))))
