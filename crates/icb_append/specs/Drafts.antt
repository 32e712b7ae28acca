-- What an append has of its own, and how its rows are cut into data files, whose manifest comes
-- last (ours: docs/FORMATS.md, "Files of an append").
use Rattle.std.specs.Prelude.{◌≡◌, ℕ, ◌*◌, nat_le, Bool, true, false, List, [], ◌∷◌, ◌++◌, length}
use Rattle.std.specs.Prelude.{take, drop, Option, None, Some, Result, Ok, Err}
use Rattle.icb_base.specs.declared.storage.Store as store
use Rattle.icb_base.specs.declared.transfer.Draws as draws
use Rattle.icb_list.specs.declared.row.ListRow.{ListRow}
use Rattle.icb_manifest.specs.Written.{written_manifest}
use Rattle.icb_manifest.specs.declared.file.DataFile.{DataFile}
use Rattle.icb_meta.specs.Answers.{shown_of}
use Rattle.icb_turns.specs.Answers.{◌>>=◌}
use Rattle.icb_turns.specs.declared.fault.JobFault.{JobFault}
use Rattle.icb_turns.specs.declared.fault.JobFault.TheVariants as fault
use Rattle.icb_types.specs.declared.columns.Column.{Column}
use Rattle.icb_types.specs.declared.datum.Datum.{Datum}
use Rattle.icb_append.specs.Data.{IsDataObject, file_record, is_file}
use Rattle.icb_append.specs.Paths.{data_path, manifest_path}
use Rattle.icb_append.specs.Puts.{PutsFile}
use Rattle.icb_append.specs.Records.{added_entry, manifest_row}
use Rattle.icb_append.specs.Sealed.{PutsRecords}
use Rattle.icb_append.specs.Settings.{settings_of}
use Rattle.icb_append.specs.declared.draft.Draft.{Draft}
use Rattle.icb_append.specs.declared.settings.Settings.{Settings}
use Rattle.icb_append.specs.declared.tried.Tried.{Tried}

-- ---- the rows

-- an append of these rows has put none
abbrev pub new_draft : List (List Datum) → List ℕ → Draft
new_draft rows unique = record { rows = rows; unique = unique; entries = [] }

-- the same with one more data file
abbrev pub with_file : Draft → DataFile → Draft
with_file draft file = record {
  rows = draft.rows;
  unique = draft.unique;
  entries = draft.entries ++ added_entry file ∷ [];
}

-- so many data files have all rows, where each but the last has `size`
abbrev pub holds_all : ℕ → List (List Datum) → ℕ → Bool
holds_all size rows files = nat_le (length rows) (size * files)

-- the rows of the data file of a number, from 0 on, where each but the last has `size`
abbrev pub rows_at : ℕ → List (List Datum) → ℕ → List (List Datum)
rows_at size rows number = take size (drop (size * number) rows)

-- ---- a version to which they are added

-- the numbers by which files are written
abbrev pub settings_for : Tried → Settings
settings_for tried = settings_of (shown_of tried.meta).state.properties

-- the columns of the rows
abbrev pub columns_for : Tried → List Column
columns_for tried = (shown_of tried.meta).layout.schema.columns

-- where the table is
abbrev pub location_for : Tried → List ℕ
location_for tried = (shown_of tried.meta).heading.location

-- ---- the next file

-- the path of the next data file
abbrev pub next_path : Draft → List ℕ
next_path draft = data_path draft.unique (length draft.entries)

-- its rows
abbrev pub next_rows : Draft → Tried → List (List Datum)
next_rows draft tried = rows_at (settings_for tried).rows draft.rows (length draft.entries)

-- the next data file is put
abbrev pub PutsRows : {S D : Type 0} → store.Ghosts S → draws.Ghosts D → Draft → Tried
    → Result DataFile JobFault → S → S → D → D → Type 0
PutsRows of random draft tried result before now drew drawn =
    PutsFile of random (settings_for tried).key (next_path draft)
    (λ key marker object meta. IsDataObject (settings_for tried) (columns_for tried)
    (next_rows draft tried) (next_path draft) marker key object meta)
    (λ marker. is_file (settings_for tried) (columns_for tried) (next_rows draft tried) marker)
    (λ meta size file. file ≡ file_record (location_for tried) (next_path draft)
    (columns_for tried) (next_rows draft tried) meta size) result before now drew drawn

-- the manifest is put
abbrev pub PutsEntries : {S D : Type 0} → store.Ghosts S → draws.Ghosts D → Draft → Tried
    → Result ListRow JobFault → S → S → D → D → Type 0
PutsEntries of random draft tried result before now drew drawn =
    PutsRecords of random (settings_for tried) (manifest_path draft.unique)
    (written_manifest (shown_of tried.meta).layout.schema (shown_of tried.meta).layout.spec)
    draft.entries
    (λ meta size row. row ≡ manifest_row (location_for tried) (manifest_path draft.unique)
    (shown_of tried.meta).layout.spec (length draft.entries) tried.rows meta size)
    result before now drew drawn

-- a data file that was put is noted, or no memory was left for that
abbrev pub ends_draft : Draft → DataFile → Draft → Result (Option ListRow) JobFault → Type 0
ends_draft draft file now (Ok None) = now ≡ with_file draft file
ends_draft draft file now (Err fault.NoMemory) = now ≡ draft
ends_draft draft file now other = ⊥

-- what comes of a data file: it is noted, or its refusal is answered
abbrev pub ComesOfFile : Draft → Result DataFile JobFault → Draft
    → Result (Option ListRow) JobFault → Type 0
ComesOfFile draft (Ok file) now answer = ends_draft draft file now answer
ComesOfFile draft (Err e) now answer = (now ≡ draft) × (answer ≡ Err e)

-- a turn that puts the next data file, while rows are left
pub record PutsNextRows {S D : Type 0} (of : store.Ghosts S) (random : draws.Ghosts D)
    (tried : Tried) (draft now : Draft) (answer : Result (Option ListRow) JobFault)
    (before after : S) (drew drawn : D) : Type 0 where
  pub file : Result DataFile JobFault
  pub puts : PutsRows of random draft tried file before after drew drawn
  pub comes : ComesOfFile draft file now answer

-- a turn that puts the manifest, whose row is answered
pub record PutsManifest {S D : Type 0} (of : store.Ghosts S) (random : draws.Ghosts D)
    (tried : Tried) (draft now : Draft) (answer : Result (Option ListRow) JobFault)
    (before after : S) (drew drawn : D) : Type 0 where
  pub row : Result ListRow JobFault
  pub puts : PutsEntries of random draft tried row before after drew drawn
  pub stays : now ≡ draft
  pub answers : answer ≡ (row >>= (λ r. Ok (Some r)))

-- the next file of an append is put: a data file while rows are left, and then the manifest
pub record PutsNext {S D : Type 0} (of : store.Ghosts S) (random : draws.Ghosts D)
    (tried : Tried) (draft now : Draft) (answer : Result (Option ListRow) JobFault)
    (before after : S) (drew drawn : D) : Type 0 where
  pub rows : holds_all (settings_for tried).rows draft.rows (length draft.entries) ≡ false
      → PutsNextRows of random tried draft now answer before after drew drawn
  pub manifest : holds_all (settings_for tried).rows draft.rows (length draft.entries) ≡ true
      → PutsManifest of random tried draft now answer before after drew drawn
