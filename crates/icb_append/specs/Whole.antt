-- An append from its first step to its last (ours: docs/FORMATS.md, "Files of an append").
use Rattle.std.specs.Prelude.{ℕ, zero, suc, ◌≡◌, List, Some, Result, Ok, Err}
use Rattle.icb_base.specs.Causes.{Blames}
use Rattle.icb_base.specs.declared.storage.Store as store
use Rattle.icb_base.specs.declared.transfer.Draws as draws
use Rattle.icb_chain.specs.Ring.{Ring}
use Rattle.icb_turns.specs.declared.fault.JobFault.{JobFault}
use Rattle.icb_turns.specs.declared.fault.JobFault.TheVariants as fault
use Rattle.icb_turns.specs.declared.fault.Step.{Step}
use Rattle.icb_turns.specs.declared.fault.Step.TheVariants as step
use Rattle.icb_append.specs.Steps.{HasCode}
use Rattle.icb_append.specs.TableAfter.{AppendKeepsTable}
use Rattle.icb_append.specs.Turning.{IsNew, TakesTurn}
use Rattle.icb_append.specs.declared.job.AppendJob.{AppendJob}
use Rattle.icb_append.specs.declared.whole.Committed.{Committed}

-- a job, the store and the generator between two steps
pub record State (S D : Type 0) : Type 0 where
  pub job : AppendJob
  pub store : S
  pub draws : D

-- a step leads from one state to another, with this answer
abbrev pub Steps : {S D : Type 0} → store.Ghosts S → draws.Ghosts D → Ring → ℕ → State S D → Step
    → State S D → Type 0
Steps of random ring now_ms x answer y = TakesTurn of random ring now_ms x.job y.job answer
    x.store y.store x.draws y.draws

-- so many steps, each behind the one before it, lead from a state to another, and each goes on
abbrev pub Reaches : {S D : Type 0} → store.Ghosts S → draws.Ghosts D → Ring → ℕ → State S D → ℕ
    → State S D → Type 0
Reaches of random ring now_ms x zero y = y ≡ x
Reaches {S} {D} of random ring now_ms x (suc steps) y = (mid : State S D)
    × Reaches of random ring now_ms x steps mid × Steps of random ring now_ms mid step.Again y

-- each of these steps is one of a job whose work holds values of the code
abbrev pub AreOfCode : {S D : Type 0} → (of : store.Ghosts S) → (random : draws.Ghosts D)
    → (ring : Ring) → (now_ms : ℕ) → (x : State S D) → (steps : ℕ) → (y : State S D)
    → Reaches of random ring now_ms x steps y → Type 0
AreOfCode of random ring now_ms x zero y is = Unit {0}
AreOfCode of random ring now_ms x (suc steps) y (mid, before, step) =
    AreOfCode of random ring now_ms x steps mid before × HasCode mid.job.work

-- the answer of the job's last step
abbrev pub last_step : Result Committed JobFault → Step
last_step (Ok committed) = step.Done (Some committed.snapshot) committed.version
last_step (Err e) = step.Refused e

-- the job of these lines is run to its end: each step but the last goes on, and the last gives the
-- answer
pub record Runs {S D : Type 0} (of : store.Ghosts S) (random : draws.Ghosts D) (ring : Ring)
    (lines : List ℕ) (now_ms : ℕ) (answer : Result Committed JobFault) (before now : S)
    (drew drawn : D) : Type 0 where
  pub job : AppendJob
  pub is_new : IsNew lines job
  pub steps : ℕ
  pub last : State S D
  pub reaches : Reaches of random ring now_ms
      (record { job = job; store = before; draws = drew }) steps last
  pub ended : AppendJob
  pub ends : Steps of random ring now_ms last (last_step answer)
      (record { job = ended; store = now; draws = drawn })

-- the work of each of its jobs holds values of the code
abbrev pub RunsOnCode : {S D : Type 0} → (of : store.Ghosts S) → (random : draws.Ghosts D)
    → (ring : Ring) → (lines : List ℕ) → (now_ms : ℕ) → (answer : Result Committed JobFault)
    → (before now : S) → (drew drawn : D)
    → Runs of random ring lines now_ms answer before now drew drawn → Type 0
RunsOnCode of random ring lines now_ms answer before now drew drawn runs =
    AreOfCode of random ring now_ms
    (record { job = runs.job; store = before; draws = drew }) runs.steps runs.last runs.reaches

-- an append of these lines
pub record Appends {S D : Type 0} (of : store.Ghosts S) (random : draws.Ghosts D) (ring : Ring)
    (lines : List ℕ) (now_ms : ℕ) (answer : Result Committed JobFault) (before now : S)
    (drew drawn : D) : Type 0 where
  pub runs : Runs of random ring lines now_ms answer before now drew drawn
  pub stands : RunsOnCode of random ring lines now_ms answer before now drew drawn runs
      → AppendKeepsTable of ring lines answer before now
  pub count : Blames (answer ≡ Err fault.Store) (of.faults before) (of.faults now)
  pub kept : of.keeps before now
  pub drew_count : Blames (answer ≡ Err fault.Random) (random.faults drew) (random.faults drawn)
