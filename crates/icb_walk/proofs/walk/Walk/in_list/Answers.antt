use Rattle.std.proofs.Common.{rules, true, false}
use Rattle.icb_walk.proofs.EntryLemmas.{err_from, err_to}
use Rattle.icb_walk.proofs.NextLemmas.{if_told, reads_as, reads_store, told_once}
use Rattle.icb_walk.proofs.TurnLemmas.{fits_enter, fits_rows, row_is, rows_fit, turn_at_end, turn_behind, turn_enter, turn_enter_err, turn_opened, turn_row, turn_row_err, turn_unopened}
use Rattle.icb_walk.specs.declared.fault.TreeFault.TheVariants as fault
use Rattle.icb_walk.specs.declared.open_list.Rows.TheVariants as place
use Rattle.icb_walk.proofs.walk.Walk.in_list.Goals as goal

pub returns-in-Ok-clause-answers : goal.returns-in-Ok-clause-answers
returns-in-Ok-clause-answers g c = told_once (g.S.Store.held c.args.store.now) _ _ (λ files told opens fits.
    turn_opened g.S.Store files c.args.self.now c.in-Ok.list _ c.args.store.now c.open_list.new.store c.requires (search rules) told opens c.in-Ok.ensures.reads) c.in-Ok.ensures.opens

pub returns-in-Ok-clause-fits : goal.returns-in-Ok-clause-fits
returns-in-Ok-clause-fits g c = told_once (g.S.Store.held c.args.store.now) _ _ (λ files told opens fits.
    fits_rows files c.args.self.now (place.Open c.in-Ok.list) c.requires opens.fits) c.in-Ok.ensures.opens

pub returns-in-Ok-clause-reads : goal.returns-in-Ok-clause-reads
returns-in-Ok-clause-reads g c = reads_store g.S.Store _ _ _ c.args.store.now c.open_list.new.store
    (λ h. let x : ⊥ = cc in absurd x) (λ h. let x : ⊥ = cc in absurd x) c.in-Ok.ensures.reads

pub returns-in-Err-clause-answers : goal.returns-in-Err-clause-answers
returns-in-Err-clause-answers g c = told_once (g.S.Store.held c.args.store.now) _ _ (λ files told opens fits.
    turn_unopened g.S.Store files c.args.self.now c.in-Err.fault _ c.args.store.now c.open_list.new.store c.requires (search rules) told opens c.in-Err.ensures.reads) c.in-Err.ensures.opens

pub returns-in-Err-clause-fits : goal.returns-in-Err-clause-fits
returns-in-Err-clause-fits g c = if_told (g.S.Store.held c.args.store.now) _ (λ files told fits. fits)

pub returns-in-Err-clause-reads : goal.returns-in-Err-clause-reads
returns-in-Err-clause-reads g c = reads_store g.S.Store _ _ _ c.args.store.now c.open_list.new.store
    (λ h. err_to c.in-Err.fault fault.Store (err_from c.in-Err.fault fault.Store h)) (λ h. err_to c.in-Err.fault fault.Store (err_from c.in-Err.fault fault.Store h)) c.in-Err.ensures.reads

pub returns-in-Ok-enter_row-clause-answers : goal.returns-in-Ok-enter_row-clause-answers
returns-in-Ok-enter_row-clause-answers g c = told_once (g.S.Store.held c.args.store.now) _ _ (λ files told enters fits.
    turn_enter g.S.Store files c.args.self.now c.in-Open.list c.enter_row.new.self c.in-Ok-enter_row.manifest c.args.store.now c.enter_row.new.store c.requires (search rules) (enters (rows_fit files c.args.self.now c.in-Open.list (search rules) fits))) c.in-Ok-enter_row.ensures.enters

pub returns-in-Ok-enter_row-clause-fits : goal.returns-in-Ok-enter_row-clause-fits
returns-in-Ok-enter_row-clause-fits g c = told_once (g.S.Store.held c.args.store.now) _ _ (λ files told enters fits.
    fits_enter g.S.Store files c.args.self.now c.in-Open.list c.enter_row.new.self c.in-Ok-enter_row.manifest c.args.store.now c.enter_row.new.store (enters (rows_fit files c.args.self.now c.in-Open.list (search rules) fits))) c.in-Ok-enter_row.ensures.enters

pub returns-in-Ok-enter_row-clause-reads : goal.returns-in-Ok-enter_row-clause-reads
returns-in-Ok-enter_row-clause-reads g c = reads_as g.S.Store _ _ c.args.store.now c.enter_row.new.store (λ h. let x : ⊥ = cc in absurd x) (λ h. let x : ⊥ = cc in absurd x) c.in-Ok-enter_row.ensures.reads

pub returns-in-Err-enter_row-clause-answers : goal.returns-in-Err-enter_row-clause-answers
returns-in-Err-enter_row-clause-answers g c = told_once (g.S.Store.held c.args.store.now) _ _ (λ files told enters fits.
    turn_enter_err g.S.Store files c.args.self.now c.in-Open.list c.enter_row.new.self c.in-Err-enter_row.fault c.args.store.now c.enter_row.new.store c.requires (search rules) (enters (rows_fit files c.args.self.now c.in-Open.list (search rules) fits))) c.in-Err-enter_row.ensures.enters

pub returns-in-Err-enter_row-clause-fits : goal.returns-in-Err-enter_row-clause-fits
returns-in-Err-enter_row-clause-fits g c = told_once (g.S.Store.held c.args.store.now) _ _ (λ files told enters fits.
    fits_rows files c.args.self.now (place.Open c.enter_row.new.self) c.requires (enters (rows_fit files c.args.self.now c.in-Open.list (search rules) fits)).fits) c.in-Err-enter_row.ensures.enters

pub returns-in-Err-enter_row-clause-reads : goal.returns-in-Err-enter_row-clause-reads
returns-in-Err-enter_row-clause-reads g c = reads_as g.S.Store _ _ c.args.store.now c.enter_row.new.store (λ h. err_to c.in-Err-enter_row.fault fault.Store (err_from c.in-Err-enter_row.fault fault.Store h)) (λ h. err_to c.in-Err-enter_row.fault fault.Store (err_from c.in-Err-enter_row.fault fault.Store h)) c.in-Err-enter_row.ensures.reads

pub returns-in-Ok-true-clause-answers : goal.returns-in-Ok-true-clause-answers
returns-in-Ok-true-clause-answers g c = told_once (g.S.Store.held c.args.store.now) _ _ (λ files told row fits.
    turn_row g.S.Store files c.args.self.now c.in-Open.list c.read_row.new.self _ c.args.store.now c.read_row.new.store c.requires (search rules) told fits (row_is files c.args.self.now.list c.in-Open.list c.read_row.new.self c.in-Ok-true.field-0 true (search rules) (row (rows_fit files c.args.self.now c.in-Open.list (search rules) fits))) c.in-Ok-true.ensures.reads) c.in-Ok-true.ensures.reads_row

pub returns-in-Ok-true-clause-fits : goal.returns-in-Ok-true-clause-fits
returns-in-Ok-true-clause-fits g c = told_once (g.S.Store.held c.args.store.now) _ _ (λ files told row fits.
    fits_rows files c.args.self.now (place.Open c.read_row.new.self) c.requires (row_is files c.args.self.now.list c.in-Open.list c.read_row.new.self c.in-Ok-true.field-0 true (search rules) (row (rows_fit files c.args.self.now c.in-Open.list (search rules) fits))).fits) c.in-Ok-true.ensures.reads_row

pub returns-in-Ok-true-clause-reads : goal.returns-in-Ok-true-clause-reads
returns-in-Ok-true-clause-reads g c = reads_store g.S.Store _ _ _ c.args.store.now c.read_row.new.store
    (λ h. let x : ⊥ = cc in absurd x) (λ h. let x : ⊥ = cc in absurd x) c.in-Ok-true.ensures.reads

pub returns-in-Ok-false-clause-answers : goal.returns-in-Ok-false-clause-answers
returns-in-Ok-false-clause-answers g c = told_once (g.S.Store.held c.args.store.now) _ _ (λ files told row fits.
    turn_behind g.S.Store files c.args.self.now c.in-Open.list c.read_row.new.self _ c.args.store.now c.read_row.new.store c.requires (search rules) told fits (row_is files c.args.self.now.list c.in-Open.list c.read_row.new.self c.in-Ok-false.field-0 false (search rules) (row (rows_fit files c.args.self.now c.in-Open.list (search rules) fits))) c.in-Ok-false.ensures.reads) c.in-Ok-false.ensures.reads_row

pub returns-in-Ok-false-clause-fits : goal.returns-in-Ok-false-clause-fits
returns-in-Ok-false-clause-fits g c = if_told (g.S.Store.held c.args.store.now) _ (λ files told fits. fits_rows files c.args.self.now place.Behind c.requires tt)

pub returns-in-Ok-false-clause-reads : goal.returns-in-Ok-false-clause-reads
returns-in-Ok-false-clause-reads g c = reads_store g.S.Store _ _ _ c.args.store.now c.read_row.new.store
    (λ h. let x : ⊥ = cc in absurd x) (λ h. let x : ⊥ = cc in absurd x) c.in-Ok-false.ensures.reads

pub returns-in-Err-read_row-clause-answers : goal.returns-in-Err-read_row-clause-answers
returns-in-Err-read_row-clause-answers g c = told_once (g.S.Store.held c.args.store.now) _ _ (λ files told row fits.
    turn_row_err g.S.Store files c.args.self.now c.in-Open.list c.read_row.new.self c.in-Err-read_row.fault _ c.args.store.now c.read_row.new.store c.requires (search rules) told fits (row (rows_fit files c.args.self.now c.in-Open.list (search rules) fits)) c.in-Err-read_row.ensures.reads) c.in-Err-read_row.ensures.reads_row

pub returns-in-Err-read_row-clause-fits : goal.returns-in-Err-read_row-clause-fits
returns-in-Err-read_row-clause-fits g c = told_once (g.S.Store.held c.args.store.now) _ _ (λ files told row fits.
    fits_rows files c.args.self.now (place.Open c.read_row.new.self) c.requires (row (rows_fit files c.args.self.now c.in-Open.list (search rules) fits)).fits) c.in-Err-read_row.ensures.reads_row

pub returns-in-Err-read_row-clause-reads : goal.returns-in-Err-read_row-clause-reads
returns-in-Err-read_row-clause-reads g c = reads_store g.S.Store _ _ _ c.args.store.now c.read_row.new.store
    (λ h. err_to c.in-Err-read_row.fault fault.Store (err_from c.in-Err-read_row.fault fault.Store h)) (λ h. err_to c.in-Err-read_row.fault fault.Store (err_from c.in-Err-read_row.fault fault.Store h)) c.in-Err-read_row.ensures.reads

pub returns-in-Behind-clause-answers : goal.returns-in-Behind-clause-answers
returns-in-Behind-clause-answers g c = if_told (g.S.Store.held c.args.store.now) _ (λ files told fits. turn_at_end g.S.Store files c.args.self.now c.args.store.now c.requires (search rules))

pub returns-in-Behind-clause-fits : goal.returns-in-Behind-clause-fits
returns-in-Behind-clause-fits g c = if_told (g.S.Store.held c.args.store.now) _ (λ files told fits. fits)
