-- A rotation from its first step to its last (ours: docs/FORMATS.md, "Rotation of the master key").
use Rattle.std.specs.Prelude.{ℕ, ◌+◌, ◌<◌, ◌≤◌, ◌≡◌, ◌⊎◌, List, [], length, Option, Some, None}
use Rattle.std.specs.Prelude.{Result, Ok, Err, IfErr, IsOk, IfSome, IsSomeAnd}
use Rattle.icb_base.specs.Calls.{DrawsText}
use Rattle.icb_base.specs.Causes.{Blames}
use Rattle.icb_base.specs.Objects.{Objects, object_at, with_object}
use Rattle.icb_base.specs.declared.limits.Limited.TheVariants as limit
use Rattle.icb_base.specs.declared.storage.Store as store
use Rattle.icb_base.specs.declared.transfer.Draws as draws
use Rattle.icb_chain.specs.Ring.{Ring}
use Rattle.icb_meta.specs.declared.fields.Fields.{Fields}
use Rattle.icb_rotate.specs.Drafting.{IsDraftOf, master_read, of_current}
use Rattle.icb_rotate.specs.Keeping.{HasPut}
use Rattle.icb_rotate.specs.Rotating.{IsRotationFault}
use Rattle.icb_rotate.specs.declared.draft.Draft.{Draft}
use Rattle.icb_table.specs.Standing.{Stands}
use Rattle.icb_table.specs.Table.{Table}
use Rattle.icb_tree.specs.Versions.{last_version, most_bytes, version_of, version_path}
use Rattle.icb_turns.specs.Answers.{◌>>=◌}
use Rattle.icb_turns.specs.declared.fault.JobFault.{JobFault}
use Rattle.icb_turns.specs.declared.fault.JobFault.TheVariants as fault
use Rattle.icb_turns.specs.declared.fault.Step.{Step}
use Rattle.icb_turns.specs.declared.fault.Step.TheVariants as step

-- the key of the new master, or the first refusal: there is no current version, its metadata isn't
-- read, and then those of keys
abbrev pub master_of : Objects → Ring → List ℕ → Result (List ℕ) JobFault
master_of files ring id = of_current (last_version files)
    >>= (λ last. master_read (version_of files last) ring last id)

-- the draft of the version behind the current one, with these bytes as nonces
pub record CurrentDraft (files : Objects) (ring : Ring) (id : List ℕ) (now_ms : ℕ)
    (drawn : List ℕ) : Type 0 where
  pub last : ℕ
  pub is_last : last_version files ≡ Ok last
  pub draft : Draft
  pub is : IsDraftOf (version_of files last) ring last id now_ms drawn draft

-- it was put where none was held, as the version of this number
pub record IsPut (files : Objects) (ring : Ring) (id : List ℕ) (now_ms : ℕ) (drawn : List ℕ)
    (version : ℕ) (now : Option Objects) : Type 0 where
  pub current : CurrentDraft files ring id now_ms drawn
  pub number : version ≡ current.last + 1
  pub short : length current.draft.text ≤ most_bytes
  pub free : object_at files (version_path version) ≡ None
  pub put : now ≡ Some (with_object files (version_path version) current.draft.text)

-- its text is longer than metadata may be
pub record IsTooLong (files : Objects) (ring : Ring) (id : List ℕ) (now_ms : ℕ)
    (drawn : List ℕ) : Type 0 where
  pub current : CurrentDraft files ring id now_ms drawn
  pub long : most_bytes < length current.draft.text

-- What is answered, drawn and left of a table's objects. Nothing is drawn before each refusal of
-- the current version and its keys is excluded; a put that fails may have taken place.
abbrev pub RotatesFiles : Objects → Ring → List ℕ → ℕ → List ℕ → Result ℕ JobFault
    → Option Objects → Type 0
RotatesFiles files ring id now_ms drawn (Ok version) now =
    IsPut files ring id now_ms drawn version now
RotatesFiles files ring id now_ms drawn (Err fault.NoMemory) now = now ≡ Some files
RotatesFiles files ring id now_ms drawn (Err fault.Store) now = (now ≡ Some files)
    ⊎ ((version : ℕ) × IsPut files ring id now_ms drawn version now)
RotatesFiles files ring id now_ms drawn (Err fault.Random) now =
    IsOk (master_of files ring id) × (drawn ≡ []) × (now ≡ Some files)
RotatesFiles files ring id now_ms drawn (Err (fault.Limit what number)) now =
    (now ≡ Some files)
    × (((master_of files ring id ≡ Err (fault.Limit what number)) × (drawn ≡ []))
    ⊎ ((what ≡ limit.Metadata) × (number ≡ most_bytes)
    × IsTooLong files ring id now_ms drawn))
RotatesFiles files ring id now_ms drawn (Err e) now =
    (master_of files ring id ≡ Err e) × (drawn ≡ []) × (now ≡ Some files)

-- the keys of a store's table are sealed again by a new master, with bytes that are drawn
pub record Rotates {S D : Type 0} (of : store.Ghosts S) (random : draws.Ghosts D) (ring : Ring)
    (id : List ℕ) (now_ms : ℕ) (answer : Result ℕ JobFault) (before now : S)
    (drew drawn : D) : Type 0 where
  pub bytes : List ℕ
  pub answers : IfSome (of.held before) (λ files.
      RotatesFiles files ring id now_ms bytes answer (of.held now))
  pub only : IfErr answer IsRotationFault
  pub count : Blames (answer ≡ Err fault.Store) (of.faults before) (of.faults now)
  pub kept : of.keeps before now
  pub draws : DrawsText random bytes (answer ≡ Err fault.Random) drew drawn

-- the answer of the job's last step
abbrev pub last_step : Result ℕ JobFault → Step
last_step (Ok version) = step.Done None version
last_step (Err e) = step.Refused e

-- a store that stood for a table stands for it, and where the version was put also under the
-- keyring with the new master alone
pub record KeepsWhole (id : List ℕ) (ring : Ring) (before now : Objects) (table : Table)
    (answer : Result ℕ JobFault) : Type 0 where
  pub has_put : HasPut id ring before now table (last_step answer)
  pub meta : Fields
  pub stands : Stands now meta ring table

-- so it is over a store that is told and stands for a table
abbrev pub RotationKeepsTable : {S : Type 0} → store.Ghosts S → Ring → List ℕ → Result ℕ JobFault
    → S → S → Type 0
RotationKeepsTable of ring id answer before now = IfSome (of.held before) (λ files.
    (meta : Fields) (table : Table) → Stands files meta ring table
    → IsSomeAnd (of.held now) (λ files_now. KeepsWhole id ring files files_now table answer))
