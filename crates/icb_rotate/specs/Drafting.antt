-- The turn of a rotation that reads: the next version, or the first refusal (ours:
-- docs/FORMATS.md, "Rotation of the master key").
use Rattle.std.specs.Prelude.{ℕ, ◌≡◌, List, [], Result, Ok, Err, IfErr, IsOk, IfOk, IfSome}
use Rattle.serde_json.specs.Data.{Data}
use Rattle.serde_json.specs.Written.{compact_text}
use Rattle.icb_base.specs.Calls.{DrawsText}
use Rattle.icb_base.specs.declared.storage.Store as store
use Rattle.icb_base.specs.declared.transfer.Draws as draws
use Rattle.icb_chain.specs.Opening.{table_of}
use Rattle.icb_chain.specs.Ring.{Ring}
use Rattle.icb_edits.specs.Keys.{key_fields, key_sets, with_sets}
use Rattle.icb_meta.specs.Shown.{meta_of}
use Rattle.icb_meta.specs.declared.fields.Fields.{Fields}
use Rattle.icb_meta.specs.declared.records.KeyEntry.{KeyEntry}
use Rattle.icb_rotate.specs.Rotating.{AreRotated, IsRotationFault, master_for}
use Rattle.icb_rotate.specs.declared.draft.Draft.{Draft}
use Rattle.icb_tree.specs.Reading.{ReadsOnly}
use Rattle.icb_tree.specs.Versions.{version_of, version_path}
use Rattle.icb_tree.specs.declared.fault.CurrentFault.{CurrentFault}
use Rattle.icb_tree.specs.declared.fault.CurrentFault.TheVariants as current
use Rattle.icb_turns.specs.Answers.{◌>>=◌}
use Rattle.icb_turns.specs.Naming.{full_path}
use Rattle.icb_turns.specs.Numbers as number
use Rattle.icb_turns.specs.declared.fault.JobFault.{JobFault}
use Rattle.icb_turns.specs.declared.fault.JobFault.TheVariants as fault

-- the refusal of a job by a version's metadata that isn't read
abbrev pub current_fault : CurrentFault → JobFault
current_fault current.NoTable = fault.NoTable
current_fault (current.Limit what number) = fault.Limit what number
current_fault (current.BadMeta field) = fault.BadMeta field
current_fault current.Store = fault.Store
current_fault current.NoMemory = fault.NoMemory

-- what was read, or that refusal
abbrev pub of_current : {A : Type 0} → Result A CurrentFault → Result A JobFault
of_current (Ok x) = Ok x
of_current (Err e) = Err (current_fault e)

-- the JSON of the version behind this one, with other keys and another master key
abbrev pub next_json : Data → Fields → ℕ → List KeyEntry → List ℕ → ℕ → Data
next_json json meta version entries id now_ms = with_sets json (key_sets json
    meta.heading.updated entries id (full_path meta.heading.location (version_path version))
    now_ms)

-- a text is its text, and shows its record
pub record IsNextText (json : Data) (meta : Fields) (version : ℕ) (entries : List KeyEntry)
    (id : List ℕ) (now_ms : ℕ) (text : List ℕ) : Type 0 where
  pub written : text ≡ compact_text (next_json json meta version entries id now_ms)
  pub shows : meta_of text ≡ Ok (
    next_json json meta version entries id now_ms,
    key_fields meta entries id now_ms,
  )

-- a draft is the version behind one that shows this metadata: its keys are sealed again by the new
-- master, with these bytes as nonces
pub record IsDraft (json : Data) (meta : Fields) (ring : Ring) (version : ℕ) (id : List ℕ)
    (now_ms : ℕ) (drawn : List ℕ) (draft : Draft) : Type 0 where
  pub from : draft.from ≡ version
  pub entries : List KeyEntry
  pub rotated : AreRotated (table_of meta.state) ring version id drawn entries
  pub text : IsNextText json meta version entries id now_ms draft.text
  pub tries : draft.retries ≡ number.retries meta.state.properties

-- it is one of the metadata that was read
pub record IsDraftOf (given : Result (Data × Fields) CurrentFault) (ring : Ring) (version : ℕ)
    (id : List ℕ) (now_ms : ℕ) (drawn : List ℕ) (draft : Draft) : Type 0 where
  pub json : Data
  pub meta : Fields
  pub shows : given ≡ Ok (json, meta)
  pub is : IsDraft json meta ring version id now_ms drawn draft

-- the key of the new master, or the first refusal: the metadata isn't read, and then those of keys
abbrev pub master_read : Result (Data × Fields) CurrentFault → Ring → ℕ → List ℕ
    → Result (List ℕ) JobFault
master_read given ring version id =
    of_current given >>= (λ shown. master_for (table_of shown.1.state) ring version id)

-- what is answered where this is read of a version, and the bytes that were drawn for it: none
-- before each refusal is excluded
abbrev pub AnswersDraft : Result (Data × Fields) CurrentFault → Ring → ℕ → List ℕ → ℕ → List ℕ
    → Result Draft JobFault → Type 0
AnswersDraft given ring version id now_ms drawn (Ok draft) =
    IsDraftOf given ring version id now_ms drawn draft
AnswersDraft given ring version id now_ms drawn (Err fault.NoMemory) = Unit {0}
AnswersDraft given ring version id now_ms drawn (Err fault.Store) = drawn ≡ []
AnswersDraft given ring version id now_ms drawn (Err fault.Random) =
    IsOk (master_read given ring version id) × (drawn ≡ [])
AnswersDraft given ring version id now_ms drawn (Err e) =
    (master_read given ring version id ≡ Err e) × (drawn ≡ [])

-- a draft is made of metadata, with bytes that are drawn
pub record DraftsOf {D : Type 0} (of : draws.Ghosts D) (json : Data) (meta : Fields) (ring : Ring)
    (version : ℕ) (id : List ℕ) (now_ms : ℕ) (answer : Result Draft JobFault)
    (before now : D) : Type 0 where
  pub drawn : List ℕ
  pub answers : AnswersDraft (Ok (json, meta)) ring version id now_ms drawn answer
  pub reads_none : answer ≡ Err fault.Store → ⊥
  pub draws : DrawsText of drawn (answer ≡ Err fault.Random) before now

-- the metadata of a version is read, and a draft made of it
pub record Drafts {S D : Type 0} (of : store.Ghosts S) (random : draws.Ghosts D) (ring : Ring)
    (version : ℕ) (id : List ℕ) (now_ms : ℕ) (answer : Result Draft JobFault) (before now : S)
    (drew drawn : D) : Type 0 where
  pub bytes : List ℕ
  pub answers : IfSome (of.held before) (λ files.
      AnswersDraft (version_of files version) ring version id now_ms bytes answer)
  pub from : IfOk answer (λ draft. draft.from ≡ version)
  pub only : IfErr answer IsRotationFault
  pub reads : ReadsOnly of (answer ≡ Err fault.Store) before now
  pub draws : DrawsText random bytes (answer ≡ Err fault.Random) drew drawn
