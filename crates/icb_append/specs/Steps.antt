-- What a step of an append does to a store that stands for a table: it stands for the table with
-- the append's snapshot where the version was put, and else for the table as it was (ours:
-- docs/FORMATS.md, "Files of an append").
use Rattle.std.specs.Prelude.{◌≡◌, ◌⊎◌, ℕ, List, [], ◌∷◌, ◌++◌, map, Option, None, Some}
use Rattle.std.specs.Prelude.{IfSome, IsSomeAnd}
use Rattle.icb_base.specs.Objects.{Grows, Objects}
use Rattle.icb_base.specs.declared.storage.Store as store
use Rattle.icb_chain.specs.Ring.{Ring}
use Rattle.icb_meta.specs.declared.fields.Fields.{Fields}
use Rattle.icb_rows.specs.Records.{row_from}
use Rattle.icb_table.specs.Standing.{Stands}
use Rattle.icb_table.specs.Table.{Table, rows_asked}
use Rattle.icb_turns.specs.Turns.{Change, IsTurn, adds_snapshot, keeps_rows}
use Rattle.icb_turns.specs.declared.fault.JobFault.TheVariants as fault
use Rattle.icb_turns.specs.declared.fault.Step.{Step}
use Rattle.icb_turns.specs.declared.fault.Step.TheVariants as step
use Rattle.icb_append.specs.Drafts.{columns_for, next_path}
use Rattle.icb_append.specs.Keeping.{data_paths}
use Rattle.icb_append.specs.NewLists.{path_of_list}
use Rattle.icb_append.specs.Paths.{manifest_path}
use Rattle.icb_append.specs.Progress.{AreOfCode, IsCommitting, IsFiled, IsFiling, IsWriting}
use Rattle.icb_append.specs.Turning.{IsNew, parent_for}
use Rattle.icb_append.specs.declared.job.AppendJob.{AppendJob}
use Rattle.icb_append.specs.declared.place.Place.{Place}
use Rattle.icb_append.specs.declared.place.Place.TheVariants as place
use Rattle.icb_append.specs.declared.work.Work.{Work}

-- what a job has done at a place, in a store that it works on
abbrev pub FitsWork : Place → Ring → Objects → Work → Type 0
FitsWork place.Filing ring files work =
    IsFiling files ring work.tried work.draft × (work.manifest ≡ None) × (work.parent ≡ [])
FitsWork (place.Listing parent) ring files work =
    IsFiled files ring work.tried work.draft work.manifest
    × (parent_for work.tried ≡ Some parent)
FitsWork place.Writing ring files work =
    IsWriting files ring work.tried work.draft work.manifest work.parent
FitsWork place.Committing ring files work = IsSomeAnd work.list (λ list.
    IsCommitting files ring work.tried work.draft work.manifest 1 list)
FitsWork other ring files work = Unit {0}

-- a job that begins or has ended is in step with each store
abbrev pub FitsPlace : Ring → Objects → Place → Option Work → Type 0
FitsPlace ring files place.Filing work = IsSomeAnd work (FitsWork place.Filing ring files)
FitsPlace ring files (place.Listing parent) work =
    IsSomeAnd work (FitsWork (place.Listing parent) ring files)
FitsPlace ring files place.Writing work = IsSomeAnd work (FitsWork place.Writing ring files)
FitsPlace ring files place.Committing work =
    IsSomeAnd work (FitsWork place.Committing ring files)
FitsPlace ring files other work = Unit {0}

-- a job is in step with a store and a keyring
abbrev pub Fits : AppendJob → Ring → Objects → Type 0
Fits job ring files = FitsPlace ring files job.place job.work

-- a job that has done nothing is in step with each store
abbrev pub NewFits : Type 0
NewFits = (lines : List ℕ) (job : AppendJob) (ring : Ring) (files : Objects) → IsNew lines job
    → Fits job ring files

-- a job stays in step with a store that only grew
abbrev pub FitsWhenGrown : Type 0
FitsWhenGrown = (job : AppendJob) (ring : Ring) (before now : Objects) → Grows before now
    → Fits job ring before → Fits job ring now

-- what a job's work holds are values of the code
abbrev pub HasCode : Option Work → Type 0
HasCode work = IfSome work (λ w. AreOfCode w.tried w.draft w.manifest w.parent)

-- the paths at which a job with this work has put files, or may put the next one
abbrev pub job_paths : Option Work → List (List ℕ)
job_paths None = []
job_paths (Some w) = path_of_list w.draft.unique w.tried 1 ∷ manifest_path w.draft.unique
    ∷ next_path w.draft ∷ data_paths w.draft.unique 0 w.draft.entries

-- the change of an append: its snapshot has the rows of the current one and then its own
abbrev pub change_of : Table → Fields → Work → Change
change_of table was w = adds_snapshot w.tried.id (rows_asked table was.state.current
    ++ map (row_from (columns_for w.tried)) w.draft.rows)

-- the change that an answer tells: the append's behind a commit, perhaps the append's where the
-- store failed, and else none
abbrev pub TellsChange : Option Work → Table → Fields → Step → Change → Type 0
TellsChange work table was (step.Done (Some id) version) change =
    IsSomeAnd work (λ w. (id ≡ w.tried.id) × (change ≡ change_of table was w))
TellsChange work table was (step.Done None version) change = ⊥
TellsChange work table was (step.Refused fault.Store) change =
    (change ≡ keeps_rows) ⊎ IsSomeAnd work (λ w. change ≡ change_of table was w)
TellsChange work table was other change = change ≡ keeps_rows

-- a step's turn makes the change that its answer tells, and the job is in step
pub record KeepsTable (ring : Ring) (before : Objects) (was : Fields) (now : Objects)
    (table : Table) (work : Option Work) (answer : Step) (place_now : Place)
    (work_now : Option Work) : Type 0 where
  pub change : Change
  pub tells : TellsChange work table was answer change
  pub turn : IsTurn (job_paths work) ring before was now table change
  pub fits : FitsPlace ring now place_now work_now

-- so it is over a store that is told and stands for a table, where the job is in step with it
abbrev pub StepKeepsTable : {S : Type 0} → store.Ghosts S → Ring → AppendJob → AppendJob → Step
    → S → S → Type 0
StepKeepsTable of ring job job_now answer before now = IfSome (of.held before) (λ files.
    (meta : Fields) (table : Table) → Stands files meta ring table → Fits job ring files
    → HasCode job.work → IsSomeAnd (of.held now) (λ files_now.
    KeepsTable ring files meta files_now table job.work answer job_now.place job_now.work))
