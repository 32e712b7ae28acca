-- An append, step by step to its end.
use Rattle.std.proofs.Common.{◌≡◌, ◌<◌, ℕ, ℤ, IsSome, is_some, zero, suc, false, List, Some, Option, Result, Ok, Err, refl, sym, ap, ◌∙◌, subst}
use Rattle.icb_base.specs.Causes.{Blames}
use Rattle.icb_base.specs.declared.storage.Store as store
use Rattle.icb_base.specs.declared.transfer.Draws as draws
use Rattle.icb_chain.specs.Ring.{Ring}
use Rattle.icb_turns.specs.declared.fault.JobFault.{JobFault}
use Rattle.icb_turns.specs.declared.fault.JobFault.TheVariants as fault
use Rattle.icb_turns.specs.declared.fault.Step.{Step}
use Rattle.icb_turns.specs.declared.fault.Step.TheVariants as step
use Rattle.icb_append.specs.Turning.{IsNew, TakesTurn, is_ended, step_of}
use Rattle.icb_append.specs.Whole.{Appends, Reaches, Runs, last_step}
use Rattle.icb_append.specs.declared.job.AppendJob.{AppendJob}
use Rattle.icb_append.specs.declared.place.Turn.{Turn}
use Rattle.icb_append.specs.declared.place.Turn.TheVariants as turn
use Rattle.icb_append.specs.declared.whole.Committed.{Committed}
use Rattle.icb_append.proofs.CountLemmas.{Counts, blames_as, turn_counts}
use Rattle.icb_append.proofs.MeasureLemmas.{step_fewer, steps_left, turn_fewer}
use Rattle.icb_append.proofs.StandsLemmas.{run_keeps}

module _ {S D : Type 0} (of : store.Ghosts S) (random : draws.Ghosts D) (ring : Ring) (lines : List ℕ) (now_ms : ℕ) where
  -- so far each step went on, and no call failed
  pub record Running (job : AppendJob) (x0 x : S) (a0 a : D) : Type 0 where
    pub first : AppendJob
    pub is_new : IsNew lines first
    pub steps : ℕ
    pub reaches : Reaches of random ring now_ms (record { job = first; store = x0; draws = a0 }) steps (record { job = job; store = x; draws = a })
    pub going : is_ended job.place ≡ false
    pub calm : of.faults x ≡ of.faults x0
    pub kept : of.keeps x0 x
    pub drew_calm : random.faults a ≡ random.faults a0

  pub begins : (job : AppendJob) (x : S) (a : D) → of.keeps x x → IsNew lines job → Running job x x a a
  begins job x a kept new = record {
    first = job;
    is_new = new;
    steps = zero;
    reaches = refl;
    going = ap is_ended new.place;
    calm = refl;
    kept = kept;
    drew_calm = refl;
  }

  again_not : (t : Result Turn JobFault) (f : JobFault) → step.Again ≡ step_of t → t ≡ Err f → ⊥
  again_not t f is h = let same : step.Again ≡ step_of (Err f) = is ∙ ap step_of h in let g : ⊥ = cc in g

  module _ (twice : (x y z : S) → of.keeps x y → of.keeps y z → of.keeps x z) (job job_now : AppendJob) (x0 x y : S) (a0 a b : D) (r : Running job x0 x a0 a) where
    counts : (answer : Step) (t : TakesTurn of random ring now_ms job job_now answer x y a b) → Counts of random t.turn x y a b
    counts answer t = turn_counts of random ring now_ms job.lines job.place job.work job_now.work job.taken job_now.taken t.turn x y a b t.is_turn

    -- a step that goes on
    pub goes_on : TakesTurn of random ring now_ms job job_now step.Again x y a b → Running job_now x0 y a0 b
    goes_on t =
        let c = counts step.Again t in
        let fewer = step_fewer job.place job.work job_now.work t.turn
        (turn_fewer of random ring now_ms job.lines job.place job.work job_now.work job.taken job_now.taken t.turn x y a b t.is_turn) t.answers in
        record {
          first = r.first;
          is_new = r.is_new;
          steps = suc r.steps;
          reaches = (record { job = job; store = x; draws = a }, r.reaches, t);
          going = ap is_ended t.goes ∙ fewer.1;
          calm = c.count.stays (again_not t.turn fault.Store t.answers) ∙ r.calm;
          kept = twice x0 x y r.kept c.kept;
          drew_calm = c.drew_count.stays (again_not t.turn fault.Random t.answers) ∙ r.drew_calm;
        }

    pub left_fewer : TakesTurn of random ring now_ms job job_now step.Again x y a b → steps_left job_now.place job_now.work < steps_left job.place job.work
    left_fewer t = rw t.goes (step_fewer job.place job.work job_now.work t.turn
        (turn_fewer of random ring now_ms job.lines job.place job.work job_now.work job.taken job_now.taken t.turn x y a b t.is_turn) t.answers).0

    -- a fault of the last turn is the answer
    of_last : (f : JobFault) (t : Result Turn JobFault) (answer : Result Committed JobFault) → last_step answer ≡ step_of t → t ≡ Err f → answer ≡ Err f
    of_last f t (Ok c) is h = absurd (let same : last_step (Ok c) ≡ step_of (Err f) = is ∙ ap step_of h in let g : ⊥ = cc in g)
    of_last f t (Err e) is h = let same : step.Refused e ≡ step.Refused f = is ∙ ap step_of h in let own : e ≡ f = cc in ap (λ z. Err z) own

    to_last : (f : JobFault) (t : Result Turn JobFault) (answer : Result Committed JobFault) → last_step answer ≡ step_of t → answer ≡ Err f → t ≡ Err f
    to_last f (Ok (turn.To q)) answer is h = absurd (let same : last_step (Err f) ≡ step.Again = sym (ap last_step h) ∙ is in let g : ⊥ = cc in g)
    to_last f (Ok (turn.Done s v)) answer is h = absurd (let same : last_step (Err f) ≡ step.Done (Some s) v = sym (ap last_step h) ∙ is in let g : ⊥ = cc in g)
    to_last f (Err e) answer is h = let same : step.Refused f ≡ step.Refused e = sym (ap last_step h) ∙ is in let own : e ≡ f = cc in ap (λ z. Err z) own

    from_start : (fault : Type 0) (n0 n m : ℕ) → n ≡ n0 → Blames fault n m → Blames fault n0 m
    from_start fault n0 n m same b = subst (λ k. Blames fault k m) same b

    -- the last step
    its_run : (answer : Result Committed JobFault) → TakesTurn of random ring now_ms job job_now (last_step answer) x y a b → Runs of random ring lines now_ms answer x0 y a0 b
    its_run answer t = record {
      job = r.first;
      is_new = r.is_new;
      steps = r.steps;
      last = record { job = job; store = x; draws = a };
      reaches = r.reaches;
      ended = job_now;
      ends = t;
    }

    pub ends_with : (answer : Result Committed JobFault) → TakesTurn of random ring now_ms job job_now (last_step answer) x y a b → Appends of random ring lines now_ms answer x0 y a0 b
    ends_with answer t =
        let c = counts (last_step answer) t in
        record {
          runs = its_run answer t;
          stands = run_keeps of random ring lines now_ms answer x0 y a0 b (its_run answer t);
          count = from_start _ (of.faults x0) (of.faults x) (of.faults y) r.calm
              (blames_as _ _ (of.faults x) (of.faults y) (of_last fault.Store t.turn answer t.answers) (to_last fault.Store t.turn answer t.answers) c.count);
          kept = twice x0 x y r.kept c.kept;
          drew_count = from_start _ (random.faults a0) (random.faults a) (random.faults b) r.drew_calm
              (blames_as _ _ (random.faults a) (random.faults b) (of_last fault.Random t.turn answer t.answers) (to_last fault.Random t.turn answer t.answers) c.drew_count);
        }

    -- a version was put
    pub ends_done : (o : Option ℤ) (v : ℕ) (committed : Committed) → Some committed.snapshot ≡ o → committed.version ≡ v
        → TakesTurn of random ring now_ms job job_now (step.Done o v) x y a b → Appends of random ring lines now_ms (Ok committed) x0 y a0 b
    ends_done o v committed snapshot version t = ends_with (Ok committed)
        (subst (λ s. TakesTurn of random ring now_ms job job_now s x y a b)
        (ap (λ z. step.Done z v) (sym snapshot) ∙ ap (λ n. step.Done (Some committed.snapshot) n) (sym version)) t)

  -- a step that says that it put a version says the snapshot too
  done_by : (o : Option ℤ) (v : ℕ) (t : Result Turn JobFault) → step.Done o v ≡ step_of t → IsSome o
  done_by o v (Ok (turn.To q)) is = absurd (let g : ⊥ = cc in g)
  done_by o v (Ok (turn.Done s n)) is = let same : o ≡ Some s = cc in ap is_some same
  done_by o v (Err e) is = absurd (let g : ⊥ = cc in g)

  pub done_some : (o : Option ℤ) (v : ℕ) (job job_now : AppendJob) (x y : S) (a b : D) → TakesTurn of random ring now_ms job job_now (step.Done o v) x y a b → IsSome o
  done_some o v job job_now x y a b t = done_by o v t.turn t.answers
