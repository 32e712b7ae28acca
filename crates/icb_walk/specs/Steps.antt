-- What the opening of a file and the reading of its next record answer.
use Rattle.std.specs.Prelude.{ℕ, ℤ, ◌≡◌, ◌⊎◌, List, [], Option, Some, None, IfSome, Result, Ok, Err}
use Rattle.icb_base.specs.Causes.{Blames}
use Rattle.icb_base.specs.Objects.{Objects}
use Rattle.icb_base.specs.declared.storage.Store as store
use Rattle.icb_fields.specs.Fields as field
use Rattle.icb_list.specs.Rows.{list_row}
use Rattle.icb_manifest.specs.Entries.{entry_of}
use Rattle.icb_reader.specs.Answers.{reading_of}
use Rattle.icb_reader.specs.declared.records.Records.{Records}
use Rattle.icb_stream.specs.Attached.{CountsAt}
use Rattle.icb_stream.specs.Belongs.{StreamValue}
use Rattle.icb_table.specs.Contents.{Plaintexts, read_plain}
use Rattle.icb_table.specs.Known.{Allows, shown_in}
use Rattle.icb_table.specs.Listed.{Listed}
use Rattle.icb_table.specs.Records.{records_of}
use Rattle.icb_table.specs.Steps.{rest_of}
use Rattle.icb_table.specs.Trace.{Trace, one, stopped, then_read, whole}
use Rattle.icb_table.specs.Why.{Why}
use Rattle.icb_walk.specs.Causes.{cause_of}
use Rattle.icb_walk.specs.Fits.{FitsOpen, IsUnshown}
use Rattle.icb_walk.specs.declared.fault.Cause.{Cause}
use Rattle.icb_walk.specs.declared.opened.OpenFile.{OpenFile}
use Rattle.icb_walk.specs.declared.trouble.Trouble.{Trouble}
use Rattle.icb_walk.specs.declared.trouble.Trouble.TheVariants as trouble

-- ---- the store

-- calls that read a store, all for one path
pub record ReadsFile {Self : Type 0} (of : store.Ghosts Self) (path : List ℕ) (fault : Type 0)
    (before now : Self) : Type 0 where
  pub same : of.held now ≡ of.held before
  pub count : Blames fault (of.faults before) (of.faults now)
  pub asks : IfSome (of.held before) (λ _. CountsAt path (of.asked before) (of.asked now))
  pub moves : IfSome (of.held before) (λ _. CountsAt path (of.moved before) (of.moved now))
  pub kept : of.keeps before now

-- calls that read a store
pub record ReadsStore {Self : Type 0} (of : store.Ghosts Self) (fault : Type 0) (before now : Self)
    : Type 0 where
  pub same : of.held now ≡ of.held before
  pub count : Blames fault (of.faults before) (of.faults now)
  pub kept : of.keeps before now

-- ---- what is left of a file

-- the records of a file that weren't read yet
abbrev pub records_left : {A : Type 0} → (field.Row → Result A ℤ) → Plaintexts → Listed → Records
    → Trace (ℕ × A)
records_left read plain f r =
    read_plain (λ g bytes. rest_of read g (reading_of r) bytes) f (plain f)

-- a file isn't read further, for the cause that is told: it isn't shown, or what is left of it
-- stops there
abbrev pub Refuses : {A : Type 0} → Objects → Listed → Cause → Trace A → Type 0
Refuses files f c left =
    IsUnshown files f c ⊎ ((e : Why) × (left ≡ stopped f e) × (cause_of e ≡ Some c))

-- ---- opening

-- the records of an open file are all left
pub record Begins (files : Objects) (f : Listed) (stream : StreamValue)
    (records : Records) : Type 0 where
  pub fits : FitsOpen files f stream records
  pub rows : (plain : Plaintexts) → Allows (shown_in files f) (plain f)
      → read_plain (records_of list_row) f (plain f) ≡ records_left list_row plain f records
  pub entries : (plain : Plaintexts) → Allows (shown_in files f) (plain f)
      → read_plain (records_of entry_of) f (plain f) ≡ records_left entry_of plain f records

-- a file isn't opened
pub record Fails (files : Objects) (f : Listed) (c : Cause) : Type 0 where
  pub rows : (plain : Plaintexts) → Allows (shown_in files f) (plain f)
      → Refuses files f c (read_plain (records_of list_row) f (plain f))
  pub entries : (plain : Plaintexts) → Allows (shown_in files f) (plain f)
      → Refuses files f c (read_plain (records_of entry_of) f (plain f))

-- a listed file is opened
abbrev pub OpensFile : Objects → Listed → Result OpenFile Trouble → Type 0
OpensFile files f (Ok open_file) = Begins files f open_file.stream open_file.records
OpensFile files f (Err (trouble.Cause c)) = Fails files f c
OpensFile files f (Err trouble.Store) = Unit {0}
OpensFile files f (Err trouble.NoMemory) = Unit {0}

-- ---- the next record

-- what the next record leaves of a file
abbrev pub LeavesMore : {A : Type 0} → (field.Row → Result A ℤ) → Objects → Plaintexts → Listed
    → Records → Records → Result (Option A) Trouble → Type 0
LeavesMore read files plain f old new (Ok (Some x)) = records_left read plain f old
    ≡ then_read (one (new.last, x)) (records_left read plain f new)
LeavesMore read files plain f old new (Ok None) = records_left read plain f old ≡ whole []
LeavesMore read files plain f old new (Err (trouble.Cause c)) =
    Refuses files f c (records_left read plain f old)
LeavesMore read files plain f old new (Err trouble.Store) = Unit {0}
LeavesMore read files plain f old new (Err trouble.NoMemory) = Unit {0}

-- the file still fits, but at its end
abbrev pub FitsBehind : {A : Type 0} → Objects → Listed → OpenFile → Result (Option A) Trouble
    → Type 0
FitsBehind files f new (Ok None) = Unit {0}
FitsBehind files f new (Ok (Some x)) = FitsOpen files f new.stream new.records
FitsBehind files f new (Err e) = FitsOpen files f new.stream new.records

-- the next record of a file is read
pub record ReadsNext {A : Type 0} (read : field.Row → Result A ℤ) (files : Objects) (f : Listed)
    (old new : OpenFile) (result : Result (Option A) Trouble) : Type 0 where
  pub fits : FitsBehind files f new result
  pub leaves : (plain : Plaintexts) → Allows (shown_in files f) (plain f)
      → LeavesMore read files plain f old.records new.records result
