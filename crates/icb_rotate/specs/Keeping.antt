-- What a step of a rotation does to a store that stands for a table: the rows stay, and where the
-- new version was put the new master alone opens all that the others did (ours: docs/FORMATS.md,
-- "Rotation of the master key").
use Rattle.std.specs.Prelude.{ℕ, ◌≡◌, ◌⊎◌, List, [], ◌∷◌, None, Some, IfSome, IsSomeAnd}
use Rattle.icb_base.specs.Objects.{Grows, Objects, object_at, with_object}
use Rattle.icb_base.specs.declared.storage.Store as store
use Rattle.icb_chain.specs.Opening.{table_of}
use Rattle.icb_chain.specs.Ring.{Ring, key_named}
use Rattle.icb_meta.specs.declared.fields.Fields.{Fields}
use Rattle.icb_rotate.specs.Drafting.{IsDraftOf}
use Rattle.icb_rotate.specs.Turning.{IsNew}
use Rattle.icb_rotate.specs.declared.draft.Draft.{Draft}
use Rattle.icb_rotate.specs.declared.job.Place.{Place}
use Rattle.icb_rotate.specs.declared.job.Place.TheVariants as place
use Rattle.icb_rotate.specs.declared.job.RotateJob.{RotateJob}
use Rattle.icb_table.specs.Standing.{Stands}
use Rattle.icb_table.specs.Table.{Table}
use Rattle.icb_tree.specs.Versions.{version_of, version_path}
use Rattle.icb_turns.specs.Turns.{IsTurn, keeps_rows}
use Rattle.icb_turns.specs.declared.fault.JobFault.TheVariants as fault
use Rattle.icb_turns.specs.declared.fault.Step.{Step}
use Rattle.icb_turns.specs.declared.fault.Step.TheVariants as step

-- a draft is one of a version that the store holds, made under this keyring
pub record FitsDraft (id : List ℕ) (ring : Ring) (files : Objects) (draft : Draft) : Type 0 where
  pub now_ms : ℕ
  pub drawn : List ℕ
  pub is : IsDraftOf (version_of files draft.from) ring draft.from id now_ms drawn draft

-- what a job is to put is so
abbrev pub FitsPlace : List ℕ → Ring → Objects → Place → Type 0
FitsPlace id ring files (place.Committing draft) = FitsDraft id ring files draft
FitsPlace id ring files other = Unit {0}

-- a job is in step with a store and a keyring
abbrev pub Fits : RotateJob → Ring → Objects → Type 0
Fits job ring files = FitsPlace job.id ring files job.place

-- a job that has done nothing is in step with each store
abbrev pub NewFits : Type 0
NewFits = (id : List ℕ) (job : RotateJob) (ring : Ring) (files : Objects) → IsNew id job
    → Fits job ring files

-- a job stays in step with a store that only grew
abbrev pub FitsWhenGrown : Type 0
FitsWhenGrown = (job : RotateJob) (ring : Ring) (before now : Objects) → Grows before now
    → Fits job ring before → Fits job ring now

-- One object was put, this version, which names the new master; and under the keyring with that
-- alone the store stands for the table.
pub record IsRotated (id : List ℕ) (ring : Ring) (before now : Objects) (table : Table)
    (version : ℕ) : Type 0 where
  pub text : List ℕ
  pub free : object_at before (version_path version) ≡ None
  pub put : now ≡ with_object before (version_path version) text
  pub key : List ℕ
  pub is_key : key_named id ring ≡ Some key
  pub meta : Fields
  pub master : (table_of meta.state).master ≡ Some id
  pub alone : Stands now meta ((id, key) ∷ []) table

-- what was put, by the answer: the version that it says, or after a failure of the store perhaps
-- one, and else nothing
abbrev pub HasPut : List ℕ → Ring → Objects → Objects → Table → Step → Type 0
HasPut id ring before now table (step.Done None version) =
    IsRotated id ring before now table version
HasPut id ring before now table (step.Done (Some snapshot) version) = ⊥
HasPut id ring before now table (step.Refused fault.Store) =
    (now ≡ before) ⊎ ((version : ℕ) × IsRotated id ring before now table version)
HasPut id ring before now table answer = now ≡ before

-- a step's turn keeps each snapshot's rows, and the job is in step
pub record KeepsTable (id : List ℕ) (ring : Ring) (before : Objects) (was : Fields) (now : Objects)
    (table : Table) (answer : Step) (place_now : Place) : Type 0 where
  pub turn : IsTurn [] ring before was now table keeps_rows
  pub has_put : HasPut id ring before now table answer
  pub fits : FitsPlace id ring now place_now

-- so it is over a store that is told and stands for a table, where the job is in step with it
abbrev pub StepKeepsTable : {S : Type 0} → store.Ghosts S → Ring → RotateJob → RotateJob → Step → S
    → S → Type 0
StepKeepsTable of ring job job_now answer before now = IfSome (of.held before) (λ files.
    (meta : Fields) (table : Table) → Stands files meta ring table → Fits job ring files
    → IsSomeAnd (of.held now) (λ files_now.
    KeepsTable job.id ring files meta files_now table answer job_now.place))
