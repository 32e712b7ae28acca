-- What each call answers, over a whole file that fills what is known of the reader.
use Rattle.std.specs.Prelude.{ℕ, ◌+◌, ◌^◌, ◌≡◌, ◌≤◌, ◌<◌, ℤ, List, length, drop, Option}
use Rattle.std.specs.Prelude.{None, Result, Ok, Err, IfOk, OnOk}
use Rattle.icb_container.specs.declared.block.Block.{Block}
use Rattle.icb_container.specs.declared.fault.ContainerFault.{ContainerFault}
use Rattle.icb_container.specs.declared.fault.ContainerFault.TheVariants as inner
use Rattle.icb_container.specs.Wrong as wrong
use Rattle.icb_container.specs.Wrong.{Wrong}
use Rattle.icb_container.specs.Answers.{GivesBlock}
use Rattle.icb_container.specs.Known.{KnownFromTo, fault_of}
use Rattle.icb_container.specs.Opened.{Opened, state_of}
use Rattle.icb_fields.specs.Fields.{Row}
use Rattle.icb_reader.specs.declared.fault.RecordsFault.{RecordsFault}
use Rattle.icb_reader.specs.declared.fault.RecordsFault.TheVariants as fault
use Rattle.icb_reader.specs.declared.records.Records.{Records}
use Rattle.icb_reader.specs.Records as records
use Rattle.icb_reader.specs.Records.{Reading, Refusal, behind_of, filled_of, next_of, opening_of}

-- ---- faults

-- a container's fault, where want of memory is one's own
abbrev pub of_container : {F : Type 0} → ContainerFault F → RecordsFault F
of_container inner.NoMemory = fault.NoMemory
of_container e = fault.Container e

-- want of memory isn't told as the container's
abbrev pub IsPlain : {F : Type 0} → RecordsFault F → Type 0
IsPlain (fault.Container inner.NoMemory) = ⊥
IsPlain e = Unit {0}

-- the fault is no reader's, and want of memory isn't told as the container's
abbrev pub IsOfFile : {F : Type 0} → RecordsFault F → Type 0
IsOfFile (fault.Container (inner.Reader e)) = ⊥
IsOfFile (fault.Container inner.NoMemory) = ⊥
IsOfFile e = Unit {0}

-- the fault of the reader that a fault is
abbrev pub reader_fault_of : {F : Type 0} → RecordsFault F → Option F
reader_fault_of (fault.Container e) = fault_of e
reader_fault_of e = None

-- the fault of the reader that a call answered
abbrev pub records_fault : {A F : Type 0} → Result A (RecordsFault F) → Option F
records_fault (Ok x) = None
records_fault (Err e) = reader_fault_of e

-- a call answered the refusal that the definition gives; or a fault of the reader, or want of
-- memory
abbrev pub RefusesRecord : {B F : Type 0} → RecordsFault F → Result B Refusal → Type 0
RefusesRecord (fault.Container (inner.Reader e)) r = Unit {0}
RefusesRecord (fault.Container inner.NotAvro) r = r ≡ Err (records.container wrong.not_avro)
RefusesRecord (fault.Container (inner.Avro f)) r =
    r ≡ Err (records.container (wrong.avro f.place f.cause))
RefusesRecord (fault.Container (inner.Large what place size)) r =
    r ≡ Err (records.container (wrong.large what place size))
RefusesRecord (fault.Container (inner.Codec name)) r =
    r ≡ Err (records.container (wrong.codec name))
RefusesRecord (fault.Container (inner.Schema e)) r =
    r ≡ Err (records.container (wrong.schema e))
RefusesRecord (fault.Container (inner.Sync block)) r =
    r ≡ Err (records.container (wrong.sync block))
RefusesRecord (fault.Container inner.NoMemory) r = ⊥
RefusesRecord (fault.Field place id) r = r ≡ Err (records.field place id)
RefusesRecord fault.NoMemory r = Unit {0}

-- ---- what is answered

-- where a reader of records stands
abbrev pub reading_of : Records → Reading
reading_of r = record {
  state = state_of r.container;
  rest = drop r.at r.bytes;
  left = r.left;
  end = r.end;
  last = r.last;
}

-- a call answered what the definition gives, seen by `view`, or refused
abbrev pub GivesRecord : {A B F : Type 0} → (A → B) → Result A (RecordsFault F) → Result B Refusal
    → Type 0
GivesRecord view (Ok x) r = r ≡ Ok (view x)
GivesRecord view (Err e) r = RefusesRecord e r

-- The records stand before the first one, and each byte up to the first block is known.
pub record OpensRecords {F : Type 0} (result : Result Records (RecordsFault F))
    (known : List (Option ℕ)) (file : List ℕ) : Type 0 where
  pub gives : GivesRecord reading_of result (opening_of file)
  pub there : IfOk result (λ r. KnownFromTo known 0 r.container.place)

-- What is made of the next record is given, and each byte that was passed is known.
pub record ReadsRecord {A F : Type 0} (make : Row → Result A ℤ)
    (result : Result (Option A) (RecordsFault F)) (old new : Records) (known : List (Option ℕ))
    (file : List ℕ) : Type 0 where
  pub gives : GivesRecord (λ found. (found, reading_of new)) result
      (next_of make (reading_of old) file)
  pub there : OnOk result (KnownFromTo known old.container.place new.container.place)

-- ---- the crate's own calls

-- The next block that has records is found, of which each byte is known.
pub record FindsFilled {F : Type 0} (result : Result (Option Block) (ContainerFault F))
    (old new : Opened) (known : List (Option ℕ)) (file : List ℕ) : Type 0 where
  pub gives : GivesBlock result (state_of new) (filled_of (state_of old) file)
  pub there : OnOk result (KnownFromTo known old.place new.place)

-- the schema and the marker stay
pub record KeepsHeader (old new : Opened) : Type 0 where
  pub same_schema : new.schema ≡ old.schema
  pub same_marker : new.marker ≡ old.marker

-- The block has a record, and ends before where the container stands.
pub record StandsBehind (c : Opened) (block : Block) : Type 0 where
  pub some : 0 < block.count
  pub ends : block.place + length block.bytes ≤ c.place
  pub fits : c.place < 2 ^ 64

-- what is made of the record at the front of bytes, and how many of them it has
abbrev pub ReadsFront : {A F : Type 0} → List ℕ → Result (A × ℕ) (RecordsFault F)
    → Result (A × List ℕ) Refusal → Type 0
ReadsFront rest result read = GivesRecord (λ x. (x.0, drop x.1 rest)) result read

-- What is made of the first record of the next block that has one is given.
pub record ReadsBehind {A F : Type 0} (make : Row → Result A ℤ)
    (result : Result (Option A) (RecordsFault F)) (old new : Records) (known : List (Option ℕ))
    (file : List ℕ) : Type 0 where
  pub gives : GivesRecord (λ found. (found, reading_of new)) result
      (behind_of make (reading_of old) file)
  pub there : OnOk result (KnownFromTo known old.container.place new.container.place)

-- only the container moved
pub record OnlyMoved (old new : Records) : Type 0 where
  pub header : KeepsHeader old.container new.container
  pub bytes : new.bytes ≡ old.bytes
  pub at : new.at ≡ old.at
  pub left : new.left ≡ old.left
  pub end : new.end ≡ old.end
  pub last : new.last ≡ old.last
