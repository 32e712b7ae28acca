use Rattle.std.proofs.Common.{◌∙◌, refl, Some}
use Rattle.icb_walk.proofs.EntryLemmas.{err_from, err_to}
use Rattle.icb_walk.proofs.NextLemmas.{both_told, if_told, on_found, on_refused, on_start, on_step, on_stop, reads_as, reads_none, reads_then, told_once, told_twice}
use Rattle.icb_walk.specs.declared.fault.TreeFault.TheVariants as fault
use Rattle.icb_walk.proofs.walk.Walk.next.Goals as goal

pub steps-init : goal.steps-init
steps-init g c = record {
  on = if_told (g.S.Store.held c.args.store.now) _ (λ files told. on_start g.S.Store files c.args.self.now c.args.store.now);
  same = (refl, refl);
  reads = reads_none g.S.Store ⊥ c.args.store.now (λ h. h) (g.met.S.Store.kept_at_rest c.args.store.now);
}

pub steps-preserved : goal.steps-preserved
steps-preserved g c = record {
  on = told_twice (g.S.Store.held c.args.store.now) (g.S.Store.held c.steps.store) _ _ _ c.steps.invariant.reads.same
      (λ files on step. on_step g.S.Store files c.args.self.now c.steps.self c.step.new.self c.args.store.now c.steps.store c.step.new.store on step.0 step.1)
      c.steps.invariant.on (both_told (g.S.Store.held c.steps.store) _ _ c.in-Ok-None.ensures.fits (rw c.in-Ok-None.field-0-is at c.in-Ok-None.ensures.answers));
  same = (c.in-Ok-None.ensures.same_list.0 ∙ c.steps.invariant.same.0, c.in-Ok-None.ensures.same_list.1 ∙ c.steps.invariant.same.1);
  reads = reads_then g.S.Store ⊥ c.args.store.now c.steps.store c.step.new.store (g.met.S.Store.kept_twice _ _ _) c.steps.invariant.reads
      (reads_as g.S.Store _ ⊥ c.steps.store c.step.new.store (λ h. let x : ⊥ = cc in x) (λ h. absurd h) (rw c.in-Ok-None.field-0-is at c.in-Ok-None.ensures.reads));
}

pub returns-in-Ok-Some-clause-answers : goal.returns-in-Ok-Some-clause-answers
returns-in-Ok-Some-clause-answers g c = told_twice (g.S.Store.held c.args.store.now) (g.S.Store.held c.steps.store) _ _ _ c.steps.invariant.reads.same
    (λ files on step. on_found g.S.Store files c.args.self.now c.steps.self c.step.new.self c.args.store.now c.steps.store c.step.new.store c.in-Ok-Some.found on step)
    c.steps.invariant.on (rw c.in-Ok-Some.field-0-is at c.in-Ok-Some.ensures.answers)

pub returns-in-Ok-Some-clause-fits : goal.returns-in-Ok-Some-clause-fits
returns-in-Ok-Some-clause-fits g c = told_twice (g.S.Store.held c.args.store.now) (g.S.Store.held c.steps.store) _ _ _ c.steps.invariant.reads.same
    (λ files on fits start. fits (on start).0) c.steps.invariant.on c.in-Ok-Some.ensures.fits

pub returns-in-Ok-Some-clause-same_list : goal.returns-in-Ok-Some-clause-same_list
returns-in-Ok-Some-clause-same_list g c = (c.in-Ok-Some.ensures.same_list.0 ∙ c.steps.invariant.same.0, c.in-Ok-Some.ensures.same_list.1 ∙ c.steps.invariant.same.1)

pub returns-in-Ok-Some-clause-reads : goal.returns-in-Ok-Some-clause-reads
returns-in-Ok-Some-clause-reads g c = reads_then g.S.Store _ c.args.store.now c.steps.store c.step.new.store (g.met.S.Store.kept_twice _ _ _) c.steps.invariant.reads
    (reads_as g.S.Store _ _ c.steps.store c.step.new.store (λ h. let x : ⊥ = cc in absurd x) (λ h. let x : ⊥ = cc in absurd x) (rw c.in-Ok-Some.field-0-is at c.in-Ok-Some.ensures.reads))

pub returns-in-Err-clause-answers : goal.returns-in-Err-clause-answers
returns-in-Err-clause-answers g c = told_twice (g.S.Store.held c.args.store.now) (g.S.Store.held c.steps.store) _ _ _ c.steps.invariant.reads.same
    (λ files on step. on_refused g.S.Store files c.args.self.now c.steps.self c.step.new.self c.args.store.now c.steps.store c.step.new.store c.in-Err.fault on step)
    c.steps.invariant.on c.in-Err.ensures.answers

pub returns-in-Err-clause-fits : goal.returns-in-Err-clause-fits
returns-in-Err-clause-fits g c = told_twice (g.S.Store.held c.args.store.now) (g.S.Store.held c.steps.store) _ _ _ c.steps.invariant.reads.same
    (λ files on fits start. fits (on start).0) c.steps.invariant.on c.in-Err.ensures.fits

pub returns-in-Err-clause-same_list : goal.returns-in-Err-clause-same_list
returns-in-Err-clause-same_list g c = (c.in-Err.ensures.same_list.0 ∙ c.steps.invariant.same.0, c.in-Err.ensures.same_list.1 ∙ c.steps.invariant.same.1)

pub returns-in-Err-clause-reads : goal.returns-in-Err-clause-reads
returns-in-Err-clause-reads g c = reads_then g.S.Store _ c.args.store.now c.steps.store c.step.new.store (g.met.S.Store.kept_twice _ _ _) c.steps.invariant.reads
    (reads_as g.S.Store _ _ c.steps.store c.step.new.store
    (λ h. err_to c.in-Err.fault fault.Store (err_from c.in-Err.fault fault.Store h)) (λ h. err_to c.in-Err.fault fault.Store (err_from c.in-Err.fault fault.Store h)) c.in-Err.ensures.reads)

pub returns-clause-answers : goal.returns-clause-answers
returns-clause-answers g c = told_once (g.S.Store.held c.args.store.now) _ _ (λ files told on. on_stop g.S.Store files c.args.self.now c.steps.self c.args.store.now c.steps.store on) c.steps.invariant.on

pub returns-clause-fits : goal.returns-clause-fits
returns-clause-fits g c = told_once (g.S.Store.held c.args.store.now) _ _ (λ files told on start. (on start).0) c.steps.invariant.on

pub returns-clause-same_list : goal.returns-clause-same_list
returns-clause-same_list g c = c.steps.invariant.same

pub returns-clause-reads : goal.returns-clause-reads
returns-clause-reads g c = reads_as g.S.Store ⊥ _ c.args.store.now c.steps.store (λ h. absurd h) (λ h. let x : ⊥ = cc in x) c.steps.invariant.reads
