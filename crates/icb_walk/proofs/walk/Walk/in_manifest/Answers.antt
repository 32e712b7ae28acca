use Rattle.std.proofs.Common.{Some, rules}
use Rattle.icb_walk.proofs.EntryLemmas.{err_from, err_to}
use Rattle.icb_walk.proofs.NextLemmas.{if_told, reads_store, told_once}
use Rattle.icb_walk.proofs.TurnLemmas.{fits_end, fits_more, manifest_fits, turn_end, turn_err, turn_leaf, turn_more}
use Rattle.icb_walk.specs.declared.fault.TreeFault.TheVariants as fault
use Rattle.icb_walk.proofs.walk.Walk.in_manifest.Goals as goal

pub returns-in-Ok-More-clause-answers : goal.returns-in-Ok-More-clause-answers
returns-in-Ok-More-clause-answers g c = told_once (g.S.Store.held c.args.store.now) _ _ (λ files told steps fits.
    turn_more g.S.Store files c.args.self.now c.in-Some.manifest c.step.new.self _ c.args.store.now c.step.new.store (search rules) told c.in-Ok-More.ensures.same.0
    (rw c.in-Ok-More.field-0-is at (steps (manifest_fits files c.args.self.now c.in-Some.manifest (search rules) fits))) c.in-Ok-More.ensures.reads fits) c.in-Ok-More.ensures.steps

pub returns-in-Ok-More-clause-fits : goal.returns-in-Ok-More-clause-fits
returns-in-Ok-More-clause-fits g c = told_once (g.S.Store.held c.args.store.now) _ _ (λ files told steps fits.
    fits_more files c.args.self.now c.step.new.self fits (rw c.in-Ok-More.field-0-is at (steps (manifest_fits files c.args.self.now c.in-Some.manifest (search rules) fits))).fits) c.in-Ok-More.ensures.steps

pub returns-in-Ok-More-clause-reads : goal.returns-in-Ok-More-clause-reads
returns-in-Ok-More-clause-reads g c = reads_store g.S.Store _ _ _ c.args.store.now c.step.new.store (λ h. let x : ⊥ = cc in absurd x) (λ h. let x : ⊥ = cc in absurd x) c.in-Ok-More.ensures.reads

pub returns-in-Ok-End-clause-answers : goal.returns-in-Ok-End-clause-answers
returns-in-Ok-End-clause-answers g c = told_once (g.S.Store.held c.args.store.now) _ _ (λ files told steps fits.
    turn_end g.S.Store files c.args.self.now c.in-Some.manifest c.step.new.self _ c.args.store.now c.step.new.store (search rules) told
    (rw c.in-Ok-End.field-0-is at (steps (manifest_fits files c.args.self.now c.in-Some.manifest (search rules) fits))) c.in-Ok-End.ensures.reads fits) c.in-Ok-End.ensures.steps

pub returns-in-Ok-End-clause-fits : goal.returns-in-Ok-End-clause-fits
returns-in-Ok-End-clause-fits g c = if_told (g.S.Store.held c.args.store.now) _ (λ files told fits. fits_end files c.args.self.now fits)

pub returns-in-Ok-End-clause-reads : goal.returns-in-Ok-End-clause-reads
returns-in-Ok-End-clause-reads g c = reads_store g.S.Store _ _ _ c.args.store.now c.step.new.store (λ h. let x : ⊥ = cc in absurd x) (λ h. let x : ⊥ = cc in absurd x) c.in-Ok-End.ensures.reads

pub returns-in-Ok-File-clause-answers : goal.returns-in-Ok-File-clause-answers
returns-in-Ok-File-clause-answers g c = told_once (g.S.Store.held c.args.store.now) _ _ (λ files told steps fits.
    turn_leaf g.S.Store files c.args.self.now c.in-Some.manifest c.step.new.self c.in-Ok-File.leaf _ c.args.store.now c.step.new.store (search rules) told c.in-Ok-File.ensures.same.0
    (rw c.in-Ok-File.field-0-is at (steps (manifest_fits files c.args.self.now c.in-Some.manifest (search rules) fits))) c.in-Ok-File.ensures.reads fits) c.in-Ok-File.ensures.steps

pub returns-in-Ok-File-clause-fits : goal.returns-in-Ok-File-clause-fits
returns-in-Ok-File-clause-fits g c = told_once (g.S.Store.held c.args.store.now) _ _ (λ files told steps fits.
    fits_more files c.args.self.now c.step.new.self fits (rw c.in-Ok-File.field-0-is at (steps (manifest_fits files c.args.self.now c.in-Some.manifest (search rules) fits))).fits) c.in-Ok-File.ensures.steps

pub returns-in-Ok-File-clause-reads : goal.returns-in-Ok-File-clause-reads
returns-in-Ok-File-clause-reads g c = reads_store g.S.Store _ _ _ c.args.store.now c.step.new.store (λ h. let x : ⊥ = cc in absurd x) (λ h. let x : ⊥ = cc in absurd x) c.in-Ok-File.ensures.reads

pub returns-in-Err-clause-answers : goal.returns-in-Err-clause-answers
returns-in-Err-clause-answers g c = told_once (g.S.Store.held c.args.store.now) _ _ (λ files told steps fits.
    turn_err g.S.Store files c.args.self.now c.in-Some.manifest c.step.new.self c.in-Err.fault _ c.args.store.now c.step.new.store (search rules) told c.in-Err.ensures.same.0
    (steps (manifest_fits files c.args.self.now c.in-Some.manifest (search rules) fits)) c.in-Err.ensures.reads fits) c.in-Err.ensures.steps

pub returns-in-Err-clause-fits : goal.returns-in-Err-clause-fits
returns-in-Err-clause-fits g c = told_once (g.S.Store.held c.args.store.now) _ _ (λ files told steps fits.
    fits_more files c.args.self.now c.step.new.self fits (steps (manifest_fits files c.args.self.now c.in-Some.manifest (search rules) fits)).fits) c.in-Err.ensures.steps

pub returns-in-Err-clause-reads : goal.returns-in-Err-clause-reads
returns-in-Err-clause-reads g c = reads_store g.S.Store _ _ _ c.args.store.now c.step.new.store
    (λ h. err_to c.in-Err.fault fault.Store (err_from c.in-Err.fault fault.Store h)) (λ h. err_to c.in-Err.fault fault.Store (err_from c.in-Err.fault fault.Store h)) c.in-Err.ensures.reads
