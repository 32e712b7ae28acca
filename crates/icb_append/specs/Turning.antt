-- One turn of an append as a job: what it answers, puts and draws, and where the job goes on (ours:
-- docs/FORMATS.md, "Files of an append").
use Rattle.std.specs.Prelude.{ℕ, ℤ, ◌+◌, ◌≡◌, ◌==◌, Bool, true, false, if◌then◌else◌}
use Rattle.std.specs.Prelude.{List, [], ◌∷◌, ◌++◌, Option, Some, None, IfSome, IsSomeAnd}
use Rattle.std.specs.Prelude.{Result, Ok, Err}
use Rattle.icb_base.specs.Calls.{ReadsPath}
use Rattle.icb_base.specs.KeyMetadata.{KeyRecord}
use Rattle.icb_base.specs.declared.storage.Put.{Put}
use Rattle.icb_base.specs.declared.storage.Put.TheVariants as put
use Rattle.icb_base.specs.declared.storage.Store as store
use Rattle.icb_base.specs.declared.transfer.Draws as draws
use Rattle.icb_chain.specs.Ring.{Ring}
use Rattle.icb_list.specs.declared.row.ListRow.{ListRow}
use Rattle.icb_meta.specs.Answers.{json_of, shown_of}
use Rattle.icb_tree.specs.Versions.{version_path}
use Rattle.icb_turns.specs.Answers.{AnswersRead}
use Rattle.icb_turns.specs.Probing.{MayFind, probe_of}
use Rattle.icb_turns.specs.declared.fault.JobFault.{JobFault}
use Rattle.icb_turns.specs.declared.fault.JobFault.TheVariants as fault
use Rattle.icb_turns.specs.declared.fault.Step.{Step}
use Rattle.icb_turns.specs.declared.fault.Step.TheVariants as step
use Rattle.icb_turns.specs.declared.probing.Probed.{Probed}
use Rattle.icb_turns.specs.declared.probing.Probed.TheVariants as probed
use Rattle.icb_append.specs.Beginning.{Begins}
use Rattle.icb_append.specs.Committing.{IsNextVersion, PutsVersion}
use Rattle.icb_append.specs.Drafts.{PutsNext}
use Rattle.icb_append.specs.NewLists.{PutsOwnList, ReadsParent, list_rows_of, path_of_list}
use Rattle.icb_append.specs.declared.job.AppendJob.{AppendJob}
use Rattle.icb_append.specs.declared.place.Place.{Place}
use Rattle.icb_append.specs.declared.place.Place.TheVariants as place
use Rattle.icb_append.specs.declared.place.Turn.{Turn}
use Rattle.icb_append.specs.declared.place.Turn.TheVariants as turn
use Rattle.icb_append.specs.declared.tried.Tried.{Tried}
use Rattle.icb_append.specs.declared.work.Work.{Work}

-- ---- a job

-- a job of these lines has done nothing
pub record IsNew (lines : List ℕ) (job : AppendJob) : Type 0 where
  pub has_lines : job.lines ≡ lines
  pub place : job.place ≡ place.Probing 1
  pub work : job.work ≡ None
  pub taken : job.taken ≡ []

-- a job has ended
abbrev pub is_ended : Place → Bool
is_ended place.Ended = true
is_ended other = false

-- what a step answers behind a turn
abbrev pub step_of : Result Turn JobFault → Step
step_of (Ok (turn.To place)) = step.Again
step_of (Ok (turn.Done snapshot version)) = step.Done (Some snapshot) version
step_of (Err e) = step.Refused e

-- where the job goes on: where it didn't end
abbrev pub place_after : Result Turn JobFault → Place
place_after (Ok (turn.To place)) = place
place_after (Ok (turn.Done snapshot version)) = place.Ended
place_after (Err e) = place.Ended

-- what a turn comes to whose call answers this: the place that follows from it, or the refusal
abbrev pub comes_to : {A : Type 0} → (A → Place) → Result A JobFault → Result Turn JobFault
comes_to behind (Ok x) = Ok (turn.To (behind x))
comes_to behind (Err e) = Err e

-- ---- which turn comes next

-- behind a probe
abbrev pub behind_probe : Probed → Place
behind_probe (probed.Next version) = place.Probing version
behind_probe (probed.Found version) = place.Reading version

-- where the files are put: the list of the parent is read, if there is one
abbrev pub behind_files : Option ℤ → Place
behind_files (Some parent) = place.Listing parent
behind_files None = place.Writing

-- the parent of the snapshot that is added
abbrev pub parent_for : Tried → Option ℤ
parent_for tried = (shown_of tried.meta).state.current

-- where the work begins: without rows no file is put
abbrev pub behind_begun : Work → Place
behind_begun work = if work.tried.rows == 0 then behind_files (parent_for work.tried)
    else place.Filing

-- behind the put of a file, of which the manifest is the last
abbrev pub behind_file : Tried → Option ListRow → Place
behind_file tried None = place.Filing
behind_file tried (Some row) = behind_files (parent_for tried)

-- ---- the turns

-- a version is asked for
pub record Probes {S : Type 0} (of : store.Ghosts S) (version : ℕ) (answer : Result Turn JobFault)
    (before now : S) : Type 0 where
  pub found : Result Probed JobFault
  pub is_found : IfSome (of.held before) (λ files. AnswersRead (probe_of files version) found)
  pub may : MayFind version found
  pub reads : ReadsPath of (version_path version) 1 0 (found ≡ Err fault.Store) before now
  pub goes : answer ≡ comes_to behind_probe found

-- the work that there is, once it has begun
abbrev pub work_after : Option Work → Result Work JobFault → Option Work
work_after before (Ok work) = Some work
work_after before (Err e) = before

-- the metadata of a version are read, and the work begins
pub record ReadsVersion {S D : Type 0} (of : store.Ghosts S) (random : draws.Ghosts D)
    (ring : Ring) (version : ℕ) (lines : List ℕ) (work work_now : Option Work)
    (answer : Result Turn JobFault) (before now : S) (drew drawn : D) : Type 0 where
  pub begun : Result Work JobFault
  pub begins : Begins of random ring version lines begun before now drew drawn
  pub goes : answer ≡ comes_to behind_begun begun
  pub has : work_now ≡ work_after work begun

-- the manifest's row, once that was put
abbrev pub row_after : Option ListRow → Result (Option ListRow) JobFault → Option ListRow
row_after before (Ok (Some row)) = Some row
row_after before other = before

-- the manifest's row is kept where it was put
pub record KeepsRow (work : Work) (row : Option ListRow) (work_now : Work) (goes : Place)
    : Type 0 where
  pub goes_on : goes ≡ behind_file work.tried row
  pub manifest : work_now.manifest ≡ row_after work.manifest (Ok row)
  pub same_draft : work_now.draft ≡ work.draft
  pub same_tried : work_now.tried ≡ work.tried
  pub same_parent : work_now.parent ≡ work.parent
  pub same_list : work_now.list ≡ work.list

-- the next data file is put, or the manifest
pub record PutsFiles {S D : Type 0} (of : store.Ghosts S) (random : draws.Ghosts D)
    (work work_now : Work) (answer : Result Turn JobFault) (before now : S) (drew drawn : D)
    : Type 0 where
  pub put : Result (Option ListRow) JobFault
  pub puts : PutsNext of random work.tried work.draft work_now.draft put before now drew drawn
  pub goes : answer ≡ comes_to (behind_file work.tried) put
  pub manifest : work_now.manifest ≡ row_after work.manifest put
  pub same_tried : work_now.tried ≡ work.tried
  pub same_parent : work_now.parent ≡ work.parent
  pub same_list : work_now.list ≡ work.list

-- the rows of the parent's list, once that was read
abbrev pub parent_after : List ListRow → Result (List ListRow) JobFault → List ListRow
parent_after before (Ok rows) = rows
parent_after before (Err e) = before

-- the list of the parent is read
pub record ReadsList {S : Type 0} (of : store.Ghosts S) (ring : Ring) (parent : ℤ)
    (work work_now : Work) (answer : Result Turn JobFault) (before now : S) : Type 0 where
  pub rows : Result (List ListRow) JobFault
  pub reads : ReadsParent of ring work.tried parent rows before now
  pub goes : answer ≡ comes_to (λ read. place.Writing) rows
  pub parent_rows : work_now.parent ≡ parent_after work.parent rows
  pub same_draft : work_now.draft ≡ work.draft
  pub same_tried : work_now.tried ≡ work.tried
  pub same_manifest : work_now.manifest ≡ work.manifest
  pub same_list : work_now.list ≡ work.list

-- the key metadata of the list, once that was put
abbrev pub list_after : Option KeyRecord → Result KeyRecord JobFault → Option KeyRecord
list_after before (Ok list) = Some list
list_after before (Err e) = before

-- the list is put, with the parent's rows and the manifest's, of which the former are spent
pub record PutsList {S D : Type 0} (of : store.Ghosts S) (random : draws.Ghosts D)
    (work work_now : Work) (answer : Result Turn JobFault) (before now : S) (drew drawn : D)
    : Type 0 where
  pub list : Result KeyRecord JobFault
  pub puts : PutsOwnList of random work.draft.unique work.tried
      (list_rows_of work.parent work.manifest work.tried) 1 list before now drew drawn
  pub goes : answer ≡ comes_to (λ put. place.Committing) list
  pub has : work_now.list ≡ list_after work.list list
  pub spent : work_now.parent ≡ []
  pub same_draft : work_now.draft ≡ work.draft
  pub same_tried : work_now.tried ≡ work.tried
  pub same_manifest : work_now.manifest ≡ work.manifest

-- what is answered of the put of the version: it is the job's, or another one is held there, and
-- the job ends with the versions that it found so
abbrev pub of_version : Tried → List ℕ → Result Put JobFault → Result Turn JobFault
of_version tried taken (Ok put.Done) = Ok (turn.Done tried.id (tried.version + 1))
of_version tried taken (Ok put.Taken) = Err (fault.Contended (taken ++ (tried.version + 1) ∷ []))
of_version tried taken (Err e) = Err e

-- the versions that were found held
abbrev pub taken_after : Tried → List ℕ → Result Put JobFault → List ℕ
taken_after tried taken (Ok put.Taken) = taken ++ (tried.version + 1) ∷ []
taken_after tried taken other = taken

-- the version behind the one that was read is put, with the snapshot that has this list
abbrev pub PutsNextVersion : {S D : Type 0} → store.Ghosts S → draws.Ghosts D → ℕ → Work
    → KeyRecord → Result Put JobFault → S → S → D → D → Type 0
PutsNextVersion of random now_ms work list result before now drew drawn =
    PutsVersion of random (IsNextVersion (json_of work.tried.meta) (shown_of work.tried.meta)
    work.tried.wrapper work.tried.version work.tried.id
    (path_of_list work.draft.unique work.tried 1) list work.tried.rows now_ms) work.tried.version
    result before now drew drawn

-- the version is put
pub record Commits {S D : Type 0} (of : store.Ghosts S) (random : draws.Ghosts D) (now_ms : ℕ)
    (work : Work) (taken taken_now : List ℕ) (answer : Result Turn JobFault) (before now : S)
    (drew drawn : D) : Type 0 where
  pub list : KeyRecord
  pub is_list : work.list ≡ Some list
  pub put : Result Put JobFault
  pub puts : PutsNextVersion of random now_ms work list put before now drew drawn
  pub goes : answer ≡ of_version work.tried taken put
  pub found : taken_now ≡ taken_after work.tried taken put

-- ---- a turn

-- a job's work is there, and stays there
abbrev pub OnWork : Option Work → Option Work → (Work → Work → Type 0) → Type 0
OnWork work work_now does =
    IsSomeAnd work (λ had. IsSomeAnd work_now (λ has. does had has))

-- The turn of each place. It draws nothing but where it reads a version or puts, and finds no
-- version held but where it puts one.
abbrev pub IsTurnAt : {S D : Type 0} → store.Ghosts S → draws.Ghosts D → Ring → ℕ → List ℕ → Place
    → Option Work → Option Work → List ℕ → List ℕ → Result Turn JobFault → S → S → D → D → Type 0
IsTurnAt of random ring now_ms lines (place.Probing version) work work_now taken taken_now answer
    before now drew drawn = Probes of version answer before now × (work_now ≡ work)
    × (taken_now ≡ taken) × (drawn ≡ drew)
IsTurnAt of random ring now_ms lines (place.Reading version) work work_now taken taken_now answer
    before now drew drawn =
    ReadsVersion of random ring version lines work work_now answer before now drew drawn
    × (taken_now ≡ taken)
IsTurnAt of random ring now_ms lines place.Filing work work_now taken taken_now answer
    before now drew drawn =
    OnWork work work_now (λ had has. PutsFiles of random had has answer before now drew drawn)
    × (taken_now ≡ taken)
IsTurnAt of random ring now_ms lines (place.Listing parent) work work_now taken taken_now answer
    before now drew drawn =
    OnWork work work_now (λ had has. ReadsList of ring parent had has answer before now)
    × (taken_now ≡ taken) × (drawn ≡ drew)
IsTurnAt of random ring now_ms lines place.Writing work work_now taken taken_now answer
    before now drew drawn =
    OnWork work work_now (λ had has. PutsList of random had has answer before now drew drawn)
    × (taken_now ≡ taken)
IsTurnAt of random ring now_ms lines place.Committing work work_now taken taken_now answer
    before now drew drawn =
    IsSomeAnd work (λ had.
    Commits of random now_ms had taken taken_now answer before now drew drawn)
    × (work_now ≡ work)
IsTurnAt of random ring now_ms lines place.Ended work work_now taken taken_now answer
    before now drew drawn = ⊥

-- a step does the turn of the job's place, answers what that comes to, and goes on from there
pub record TakesTurn {S D : Type 0} (of : store.Ghosts S) (random : draws.Ghosts D) (ring : Ring)
    (now_ms : ℕ) (job job_now : AppendJob) (answer : Step) (before now : S)
    (drew drawn : D) : Type 0 where
  pub turn : Result Turn JobFault
  pub is_turn : IsTurnAt of random ring now_ms job.lines job.place job.work job_now.work job.taken
      job_now.taken turn before now drew drawn
  pub answers : answer ≡ step_of turn
  pub goes : job_now.place ≡ place_after turn
  pub same_lines : job_now.lines ≡ job.lines
