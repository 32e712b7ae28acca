-- One turn of a rotation as a job: what it answers, puts and draws, and where the job goes on
-- (ours: docs/FORMATS.md, "Rotation of the master key").
use Rattle.std.specs.Prelude.{ℕ, ◌+◌, ◌<◌, ◌≤◌, ◌≡◌, Bool, true, false, List, [], ◌∷◌, ◌++◌, length}
use Rattle.std.specs.Prelude.{None, Result, Ok, Err, IfErr, IfSome}
use Rattle.icb_base.specs.Calls.{PutsPath, ReadsPath}
use Rattle.icb_base.specs.declared.limits.Limited.TheVariants as limit
use Rattle.icb_base.specs.declared.storage.Store as store
use Rattle.icb_base.specs.declared.transfer.Draws as draws
use Rattle.icb_chain.specs.Ring.{Ring}
use Rattle.icb_rotate.specs.Drafting.{Drafts}
use Rattle.icb_rotate.specs.Rotating.{IsRotationFault}
use Rattle.icb_rotate.specs.declared.draft.Draft.{Draft}
use Rattle.icb_rotate.specs.declared.job.Place.{Place}
use Rattle.icb_rotate.specs.declared.job.Place.TheVariants as place
use Rattle.icb_rotate.specs.declared.job.RotateJob.{RotateJob}
use Rattle.icb_rotate.specs.declared.job.Turn.{Turn}
use Rattle.icb_rotate.specs.declared.job.Turn.TheVariants as turn
use Rattle.icb_tree.specs.Versions.{most_bytes, most_versions, version_path}
use Rattle.icb_turns.specs.Answers.{AnswersRead, ◌>>=◌}
use Rattle.icb_turns.specs.Probing.{MayFind, probe_of}
use Rattle.icb_turns.specs.declared.fault.JobFault.{JobFault}
use Rattle.icb_turns.specs.declared.fault.JobFault.TheVariants as fault
use Rattle.icb_turns.specs.declared.fault.Step.{Step}
use Rattle.icb_turns.specs.declared.fault.Step.TheVariants as step
use Rattle.icb_turns.specs.declared.probing.Probed.{Probed}
use Rattle.icb_turns.specs.declared.probing.Probed.TheVariants as probed

-- ---- a job

-- a job to this master has done nothing
pub record IsNew (id : List ℕ) (job : RotateJob) : Type 0 where
  pub names : job.id ≡ id
  pub place : job.place ≡ place.Probing 1
  pub taken : job.taken ≡ []

-- a job has ended
abbrev pub is_ended : Place → Bool
is_ended place.Ended = true
is_ended other = false

-- what a step answers behind a turn
abbrev pub step_of : Result Turn JobFault → Step
step_of (Ok (turn.To place)) = step.Again
step_of (Ok (turn.Done version)) = step.Done None version
step_of (Err e) = step.Refused e

-- where the job goes on: where it didn't end
abbrev pub place_after : Result Turn JobFault → Place
place_after (Ok (turn.To place)) = place
place_after (Ok (turn.Done version)) = place.Ended
place_after (Err e) = place.Ended

-- ---- the search for the current version

-- where a job goes behind a probe
abbrev pub behind : Probed → Place
behind (probed.Next n) = place.Probing n
behind (probed.Found n) = place.Reading n

-- what a probe may come to, also where the store doesn't tell what it holds
abbrev pub MayComeTo : ℕ → Result Turn JobFault → Type 0
MayComeTo n (Ok (turn.To (place.Probing next))) = (next ≡ n + 1) × (n ≤ most_versions)
MayComeTo n (Ok (turn.To (place.Reading current))) = (current + 1 ≡ n) × (1 ≤ current)
MayComeTo n (Ok other) = ⊥
MayComeTo n (Err e) = MayFind n (Err e)

-- a version is asked for
pub record Probes {S : Type 0} (of : store.Ghosts S) (version : ℕ) (answer : Result Turn JobFault)
    (before now : S) : Type 0 where
  pub answers : IfSome (of.held before) (λ files.
      AnswersRead (probe_of files version >>= (λ p. Ok (turn.To (behind p)))) answer)
  pub may : MayComeTo version answer
  pub reads : ReadsPath of (version_path version) 1 0 (answer ≡ Err fault.Store) before now

-- ---- the put

-- a put was found taken
abbrev pub IsTaken : Result Turn JobFault → Type 0
IsTaken (Ok (turn.To place)) = Unit {0}
IsTaken (Err (fault.Contended versions)) = Unit {0}
IsTaken other = ⊥

-- The versions that a job found taken, with this one as the last: it goes on with the probes behind
-- it, or gives up and says them all, which it does exactly where they are more than its retries.
abbrev pub GoesOn : List ℕ → ℕ → ℕ → Result Turn JobFault → Type 0
GoesOn taken retries version (Ok (turn.To (place.Probing next))) =
    (next ≡ version + 1) × (length taken ≤ retries)
GoesOn taken retries version (Err (fault.Contended versions)) =
    (retries < length taken) × (versions ≡ taken)
GoesOn taken retries version other = ⊥

-- what is answered at the put of a draft, and the versions that are then known to be taken
abbrev pub AnswersCommit : Draft → List ℕ → List ℕ → Result Turn JobFault → Type 0
AnswersCommit draft taken now (Ok (turn.Done version)) =
    (version ≡ draft.from + 1) × (now ≡ taken) × (length draft.text ≤ most_bytes)
AnswersCommit draft taken now (Err fault.NoMemory) = now ≡ taken
AnswersCommit draft taken now (Err fault.Store) =
    (now ≡ taken) × (length draft.text ≤ most_bytes)
AnswersCommit draft taken now (Err (fault.Limit what number)) = (now ≡ taken)
    × (most_bytes < length draft.text) × (what ≡ limit.Metadata) × (number ≡ most_bytes)
AnswersCommit draft taken now answer = (now ≡ taken ++ (draft.from + 1) ∷ [])
    × (length draft.text ≤ most_bytes) × GoesOn now draft.retries (draft.from + 1) answer

-- a draft is put as the version behind its own
pub record Commits {S : Type 0} (of : store.Ghosts S) (draft : Draft) (taken taken_now : List ℕ)
    (answer : Result Turn JobFault) (before now : S) : Type 0 where
  pub answers : AnswersCommit draft taken taken_now answer
  pub puts : PutsPath of (version_path (draft.from + 1)) draft.text
      (answer ≡ Ok (turn.Done (draft.from + 1))) (IsTaken answer) (answer ≡ Err fault.Store)
      before now

-- ---- a turn

-- the metadata was read, and a draft made of it or refused
pub record IsDrafted {S D : Type 0} (of : store.Ghosts S) (random : draws.Ghosts D) (ring : Ring)
    (version : ℕ) (id : List ℕ) (now_ms : ℕ) (answer : Result Turn JobFault) (before now : S)
    (drew drawn : D) : Type 0 where
  pub draft : Result Draft JobFault
  pub drafts : Drafts of random ring version id now_ms draft before now drew drawn
  pub goes : answer ≡ (draft >>= (λ d. Ok (turn.To (place.Committing d))))

-- the turn of each place; it draws nothing but where it reads, and finds none taken but where it
-- puts
abbrev pub IsTurnAt : {S D : Type 0} → store.Ghosts S → draws.Ghosts D → Ring → ℕ → List ℕ → Place
    → List ℕ → List ℕ → Result Turn JobFault → S → S → D → D → Type 0
IsTurnAt of random ring now_ms id (place.Probing version) taken taken_now answer before now
    drew drawn = Probes of version answer before now × (taken_now ≡ taken) × (drawn ≡ drew)
IsTurnAt of random ring now_ms id (place.Reading version) taken taken_now answer before now
    drew drawn = IsDrafted of random ring version id now_ms answer before now drew drawn
    × (taken_now ≡ taken)
IsTurnAt of random ring now_ms id (place.Committing draft) taken taken_now answer before now
    drew drawn = Commits of draft taken taken_now answer before now × (drawn ≡ drew)
IsTurnAt of random ring now_ms id place.Ended taken taken_now answer before now drew drawn = ⊥

-- a step does the turn of the job's place, answers what that comes to, and goes on from there
pub record TakesTurn {S D : Type 0} (of : store.Ghosts S) (random : draws.Ghosts D) (ring : Ring)
    (now_ms : ℕ) (job job_now : RotateJob) (answer : Step) (before now : S)
    (drew drawn : D) : Type 0 where
  pub turn : Result Turn JobFault
  pub is_turn : IsTurnAt of random ring now_ms job.id job.place job.taken job_now.taken turn
      before now drew drawn
  pub only : IfErr turn IsRotationFault
  pub answers : answer ≡ step_of turn
  pub goes : job_now.place ≡ place_after turn
  pub same_id : job_now.id ≡ job.id
