-- The turn of an append that reads: its rows and the version to which it adds them, or the first
-- refusal (ours: docs/FORMATS.md, "Files of an append").
use Rattle.std.specs.Prelude.{◌≡◌, ℕ, List, [], length, None, Result, Ok, Err, IsOk, IfSome}
use Rattle.std.specs.List.{AllByRecursion}
use Rattle.icb_base.specs.Calls.{DrawsText}
use Rattle.icb_base.specs.declared.storage.Failed.{Failed}
use Rattle.icb_base.specs.declared.storage.Store as store
use Rattle.icb_base.specs.declared.transfer.Draws as draws
use Rattle.icb_chain.specs.Ring.{Ring}
use Rattle.icb_meta.specs.Answers.{shown_of}
use Rattle.icb_meta.specs.declared.fields.Fields.{Fields}
use Rattle.icb_meta.specs.declared.table.TableMeta.{TableMeta}
use Rattle.icb_tree.specs.Reading.{ReadsOnly, shown_meta}
use Rattle.icb_tree.specs.Reading as reading
use Rattle.icb_tree.specs.Versions.{version_of}
use Rattle.icb_tree.specs.declared.fault.CurrentFault.{CurrentFault}
use Rattle.icb_tree.specs.declared.fault.CurrentFault.TheVariants as current
use Rattle.icb_turns.specs.Answers.{◌>>=◌}
use Rattle.icb_turns.specs.declared.fault.JobFault.{JobFault}
use Rattle.icb_turns.specs.declared.fault.JobFault.TheVariants as fault
use Rattle.icb_types.specs.Fits.{FitsColumns}
use Rattle.icb_types.specs.declared.datum.Datum.{Datum}
use Rattle.icb_append.specs.Drafts.{new_draft}
use Rattle.icb_append.specs.Lines.{rows_of_input}
use Rattle.icb_append.specs.Reading.{wrapper_for}
use Rattle.icb_append.specs.Tried.{Tries}
use Rattle.icb_append.specs.declared.fault.InputFault.{InputFault}
use Rattle.icb_append.specs.declared.fault.InputFault.TheVariants as input
use Rattle.icb_append.specs.declared.reading.Wrapper.{Wrapper}
use Rattle.icb_append.specs.declared.tried.Tried.{Tried}
use Rattle.icb_append.specs.declared.work.Work.{Work}

-- ---- refusals

-- the refusal of a job by a version's metadata that isn't read
abbrev pub current_fault : CurrentFault → JobFault
current_fault current.NoTable = fault.NoTable
current_fault (current.Limit what number) = fault.Limit what number
current_fault (current.BadMeta field) = fault.BadMeta field
current_fault current.Store = fault.Store
current_fault current.NoMemory = fault.NoMemory

-- the refusal of a job by an input that isn't the lines of rows
abbrev pub input_fault : InputFault → JobFault
input_fault (input.BadLine line row) = fault.BadInput line row
input_fault input.NoMemory = fault.NoMemory

-- rows, or that refusal
abbrev pub of_input : {A : Type 0} → Result A InputFault → Result A JobFault
of_input (Ok rows) = Ok rows
of_input (Err e) = Err (input_fault e)

-- the rows of lines under the schema of a version's metadata, and the key that seals that of their
-- list, or the first refusal
abbrev pub begun_of : Fields → Ring → ℕ → List ℕ → Result (List (List Datum) × Wrapper) JobFault
begun_of meta ring version lines = do
  rows ← of_input (rows_of_input meta.layout.schema.columns lines)
  wrapper ← wrapper_for meta ring version (length rows)
  Ok (rows, wrapper)

-- the rows that are given, or the refusal of the first line that is none, or want of memory
abbrev pub AnswersRows : Result (List (List Datum)) InputFault → Result (List (List Datum)) JobFault
    → Type 0
AnswersRows given (Ok rows) = given ≡ Ok rows
AnswersRows given (Err fault.NoMemory) = Unit {0}
AnswersRows given (Err (fault.BadInput line row)) = given ≡ Err (input.BadLine line row)
AnswersRows given (Err other) = ⊥

-- ---- what is made

-- the bytes that were drawn for paths, none after a failure
abbrev pub unique_of : Result (List ℕ) Failed → List ℕ
unique_of (Ok unique) = unique
unique_of (Err failed) = []

-- the work of an append of these rows to this version, with these bytes in its paths: no file of it
-- is put
abbrev pub new_work : List (List Datum) → Tried → List ℕ → Work
new_work rows tried unique = record {
  draft = new_draft rows unique;
  tried = tried;
  manifest = None;
  parent = [];
  list = None;
}

-- it is made, or the 16 bytes couldn't be drawn
abbrev pub IsDrawn : List (List Datum) → Tried → List ℕ → Result Work JobFault → Type 0
IsDrawn rows tried unique (Ok work) = (work ≡ new_work rows tried unique) × (length unique ≡ 16)
IsDrawn rows tried unique (Err fault.Random) = unique ≡ []
IsDrawn rows tried unique (Err other) = ⊥

-- the bytes are drawn, and the work is made
pub record DrawsWork {D : Type 0} (random : draws.Ghosts D) (rows : List (List Datum))
    (tried : Tried) (answer : Result Work JobFault) (drew drawn : D) : Type 0 where
  pub unique : List ℕ
  pub is : IsDrawn rows tried unique answer
  pub draws : DrawsText random unique (answer ≡ Err fault.Random) drew drawn

-- the work of an append of these rows to a version with this metadata, or its first refusal, before
-- which nothing is drawn
abbrev pub AnswersTried : TableMeta → Ring → ℕ → List (List Datum) → List ℕ → Result Work JobFault
    → Type 0
AnswersTried meta ring version rows unique (Ok work) =
    Tries meta ring version (length rows) (Ok work.tried)
    × (work ≡ new_work rows work.tried unique) × (length unique ≡ 16)
AnswersTried meta ring version rows unique (Err fault.NoMemory) = unique ≡ []
AnswersTried meta ring version rows unique (Err fault.Random) =
    IsOk (wrapper_for (shown_of meta) ring version (length rows)) × (unique ≡ [])
AnswersTried meta ring version rows unique (Err fault.Store) = ⊥
AnswersTried meta ring version rows unique (Err e) =
    (wrapper_for (shown_of meta) ring version (length rows) ≡ Err e) × (unique ≡ [])

-- the version is tried, and the bytes are drawn
pub record TriesRows {D : Type 0} (random : draws.Ghosts D) (meta : TableMeta) (ring : Ring)
    (version : ℕ) (rows : List (List Datum)) (answer : Result Work JobFault) (drew drawn : D)
    : Type 0 where
  pub unique : List ℕ
  pub answers : AnswersTried meta ring version rows unique answer
  pub draws : DrawsText random unique (answer ≡ Err fault.Random) drew drawn

-- A job's work has the rows of its lines, the version to which they are added, and the bytes that
-- were drawn for its paths.
pub record IsBegun (meta : TableMeta) (ring : Ring) (version : ℕ) (lines unique : List ℕ)
    (work : Work) : Type 0 where
  pub rows : List (List Datum)
  pub are_rows : rows_of_input (shown_of meta).layout.schema.columns lines ≡ Ok rows
  pub fit : AllByRecursion (FitsColumns (shown_of meta).layout.schema.columns) rows
  pub tries : Tries meta ring version (length rows) (Ok work.tried)
  pub is_new : work ≡ new_work rows work.tried unique
  pub size : length unique ≡ 16

-- what is answered where metadata were read; nothing is drawn before each refusal is excluded
abbrev pub AnswersMeta : TableMeta → Ring → ℕ → List ℕ → List ℕ → Result Work JobFault → Type 0
AnswersMeta meta ring version lines unique (Ok work) = IsBegun meta ring version lines unique work
AnswersMeta meta ring version lines unique (Err fault.NoMemory) = unique ≡ []
AnswersMeta meta ring version lines unique (Err fault.Random) =
    IsOk (begun_of (shown_of meta) ring version lines) × (unique ≡ [])
AnswersMeta meta ring version lines unique (Err fault.Store) = ⊥
AnswersMeta meta ring version lines unique (Err e) =
    (begun_of (shown_of meta) ring version lines ≡ Err e) × (unique ≡ [])

-- the work begins with metadata that were read
pub record BeginsWith {D : Type 0} (random : draws.Ghosts D) (meta : TableMeta) (ring : Ring)
    (version : ℕ) (lines : List ℕ) (answer : Result Work JobFault) (drew drawn : D)
    : Type 0 where
  pub unique : List ℕ
  pub answers : AnswersMeta meta ring version lines unique answer
  pub draws : DrawsText random unique (answer ≡ Err fault.Random) drew drawn

-- what is answered of a version's metadata, or of the refusal to read them
abbrev pub AnswersBegun : Result TableMeta CurrentFault → Ring → ℕ → List ℕ → List ℕ
    → Result Work JobFault → Type 0
AnswersBegun (Ok meta) ring version lines unique answer =
    AnswersMeta meta ring version lines unique answer
AnswersBegun (Err e) ring version lines unique answer =
    (answer ≡ Err (current_fault e)) × (unique ≡ [])

-- the metadata of a version are read, and a job's work begins with them
pub record Begins {S D : Type 0} (of : store.Ghosts S) (random : draws.Ghosts D) (ring : Ring)
    (version : ℕ) (lines : List ℕ) (answer : Result Work JobFault) (before now : S)
    (drew drawn : D) : Type 0 where
  pub given : Result TableMeta CurrentFault
  pub is_given : IfSome (of.held before) (λ files.
      reading.Answers shown_meta (version_of files version) given)
  pub reads : ReadsOnly of (given ≡ Err current.Store) before now
  pub unique : List ℕ
  pub answers : AnswersBegun given ring version lines unique answer
  pub draws : DrawsText random unique (answer ≡ Err fault.Random) drew drawn
