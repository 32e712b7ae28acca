-- What was committed is told, or the append's refusal has its status.
use Rattle.std.proofs.Common.{◌∙◌, Err, Ok, refl, sym}
use Rattle.icb_run.specs.Append.{committed_line}
use Rattle.icb_run.specs.declared.status.Status.TheVariants as status
use Rattle.icb_run.proofs.AnswerLemmas.{told_other}
use Rattle.icb_run.proofs.AppendLemmas.{blames_random, blames_store, has_status}
use Rattle.icb_run.proofs.EndLemmas.{unblamed}
use Rattle.icb_append.specs.Telling.{as_draws, as_store}
use Rattle.icb_append.proofs.RefusalLemmas.{run_other}
use Rattle.icb_append.proofs.StandsLemmas.{run_keeps}
use Rattle.icb_append.proofs.ToldRunLemmas.{told_runs}
use Rattle.icb_run.proofs.append.append_and_tell.Goals as goal

pub returns-in-Ok-clause-appends : goal.returns-in-Ok-clause-appends
returns-in-Ok-clause-appends g c =
    let runs = told_runs g.S.Store g.D.Draws _ _ _ _ _ _ _ _ c.in-Ok.ensures.runs in
    record {
      result = Ok c.in-Ok.committed;
      runs = runs;
      keeps = run_keeps as_store as_draws _ _ _ _ _ _ _ _ runs;
      tells = c.tell_committed.ensures.tells;
    }

pub returns-in-Ok-clause-table : goal.returns-in-Ok-clause-table
returns-in-Ok-clause-table g c =
    unblamed _ _ (c.in-Ok.ensures.count.stays (λ is. cc))
    (told_other status.StoreFault (λ e. cc) (λ e. cc) (committed_line c.in-Ok.committed) _ _ c.tell_committed.result c.tell_committed.ensures.tells)

pub returns-in-Ok-clause-draws : goal.returns-in-Ok-clause-draws
returns-in-Ok-clause-draws g c =
    unblamed _ _ (c.in-Ok.ensures.drew_count.stays (λ is. cc))
    (told_other status.RandomFault (λ e. cc) (λ e. cc) (committed_line c.in-Ok.committed) _ _ c.tell_committed.result c.tell_committed.ensures.tells)

pub returns-in-Ok-clause-no_input : goal.returns-in-Ok-clause-no_input
returns-in-Ok-clause-no_input g c =
    told_other status.InputFault (λ e. cc) (λ e. cc) (committed_line c.in-Ok.committed) _ _ c.tell_committed.result c.tell_committed.ensures.tells

pub returns-in-Err-clause-appends : goal.returns-in-Err-clause-appends
returns-in-Err-clause-appends g c =
    let runs = told_runs g.S.Store g.D.Draws _ _ _ _ _ _ _ _ c.in-Err.ensures.runs in
    record {
      result = Err c.in-Err.fault;
      runs = runs;
      keeps = run_keeps as_store as_draws _ _ _ _ _ _ _ _ runs;
      tells = (c.job_status.ensures, refl);
    }

pub returns-in-Err-clause-table : goal.returns-in-Err-clause-table
returns-in-Err-clause-table g c =
    blames_store c.in-Err.fault c.job_status.result _ _ c.job_status.ensures
    (run_other g.S.Store g.D.Draws _ _ _ c.in-Err.fault _ _ _ _ c.in-Err.ensures.runs) c.in-Err.ensures.count

pub returns-in-Err-clause-draws : goal.returns-in-Err-clause-draws
returns-in-Err-clause-draws g c =
    blames_random c.in-Err.fault c.job_status.result _ _ c.job_status.ensures
    (run_other g.S.Store g.D.Draws _ _ _ c.in-Err.fault _ _ _ _ c.in-Err.ensures.runs) c.in-Err.ensures.drew_count

pub returns-in-Err-clause-out : goal.returns-in-Err-clause-out
returns-in-Err-clause-out g c = unblamed _ _ refl
    (λ is. (has_status c.in-Err.fault (run_other g.S.Store g.D.Draws _ _ _ c.in-Err.fault _ _ _ _ c.in-Err.ensures.runs)).no_output
    (sym c.job_status.ensures ∙ is))

pub returns-in-Err-clause-no_input : goal.returns-in-Err-clause-no_input
returns-in-Err-clause-no_input g c =
    λ is. (has_status c.in-Err.fault (run_other g.S.Store g.D.Draws _ _ _ c.in-Err.fault _ _ _ _ c.in-Err.ensures.runs)).no_input
    (sym c.job_status.ensures ∙ is)
