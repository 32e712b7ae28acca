-- A version was put and is told, or the rotation's refusal has its status.
use Rattle.std.proofs.Common.{◌∙◌, Err, Ok, refl, sym}
use Rattle.icb_run.specs.Answers.{version_line}
use Rattle.icb_run.specs.declared.status.Status.TheVariants as status
use Rattle.icb_run.proofs.EndLemmas.{unblamed}
use Rattle.icb_run.proofs.AnswerLemmas.{told_other}
use Rattle.icb_run.proofs.RotateLemmas.{blames_random, blames_store, draws_for, has_status}
use Rattle.icb_run.proofs.rotate.rotate_and_tell.Goals as goal

pub returns-in-Ok-clause-rotates : goal.returns-in-Ok-clause-rotates
returns-in-Ok-clause-rotates g c = record {
  result = Ok c.in-Ok.version;
  drawn = c.in-Ok.ensures.rotates.bytes;
  rotates = c.in-Ok.ensures.rotates.answers;
  keeps = c.in-Ok.ensures.stands;
  draws = c.in-Ok.ensures.rotates.draws.whole (λ is. cc);
  tells = c.tell_version.ensures.tells;
}

pub returns-in-Ok-clause-table : goal.returns-in-Ok-clause-table
returns-in-Ok-clause-table g c =
    unblamed _ _ (c.in-Ok.ensures.rotates.count.stays (λ is. cc))
    (told_other status.StoreFault (λ e. cc) (λ e. cc) (version_line c.in-Ok.version) _ _ c.tell_version.result c.tell_version.ensures.tells)

pub returns-in-Ok-clause-draws : goal.returns-in-Ok-clause-draws
returns-in-Ok-clause-draws g c =
    unblamed _ _ (c.in-Ok.ensures.rotates.draws.count.stays (λ is. cc))
    (told_other status.RandomFault (λ e. cc) (λ e. cc) (version_line c.in-Ok.version) _ _ c.tell_version.result c.tell_version.ensures.tells)

pub returns-in-Ok-clause-no_input : goal.returns-in-Ok-clause-no_input
returns-in-Ok-clause-no_input g c =
    told_other status.InputFault (λ e. cc) (λ e. cc) (version_line c.in-Ok.version) _ _ c.tell_version.result c.tell_version.ensures.tells

pub returns-in-Err-clause-rotates : goal.returns-in-Err-clause-rotates
returns-in-Err-clause-rotates g c = record {
  result = Err c.in-Err.fault;
  drawn = c.in-Err.ensures.rotates.bytes;
  rotates = c.in-Err.ensures.rotates.answers;
  keeps = c.in-Err.ensures.stands;
  draws = draws_for (Err c.in-Err.fault) c.in-Err.ensures.rotates.bytes _ _ c.in-Err.ensures.rotates.draws.more c.in-Err.ensures.rotates.draws.whole;
  tells = (c.job_status.ensures, refl);
}

pub returns-in-Err-clause-table : goal.returns-in-Err-clause-table
returns-in-Err-clause-table g c =
    blames_store c.in-Err.fault c.job_status.result _ _ c.job_status.ensures c.in-Err.ensures.rotates.only c.in-Err.ensures.rotates.count

pub returns-in-Err-clause-draws : goal.returns-in-Err-clause-draws
returns-in-Err-clause-draws g c =
    blames_random c.in-Err.fault c.job_status.result _ _ c.job_status.ensures c.in-Err.ensures.rotates.only
    c.in-Err.ensures.rotates.draws.count

pub returns-in-Err-clause-out : goal.returns-in-Err-clause-out
returns-in-Err-clause-out g c = unblamed _ _ refl
    (λ is. (has_status c.in-Err.fault c.in-Err.ensures.rotates.only).no_output (sym c.job_status.ensures ∙ is))

pub returns-in-Err-clause-no_input : goal.returns-in-Err-clause-no_input
returns-in-Err-clause-no_input g c =
    λ is. (has_status c.in-Err.fault c.in-Err.ensures.rotates.only).no_input (sym c.job_status.ensures ∙ is)
