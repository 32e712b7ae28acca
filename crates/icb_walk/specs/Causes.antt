-- What a refusal says of why a file isn't read further.
use Rattle.std.specs.Prelude.{ℕ, ◌≡◌, ◌≢◌, ◌⊎◌, List, Option, Some, None, Result, Ok, Err}
use Rattle.icb_container.specs.Wrong.{Wrong}
use Rattle.icb_container.specs.Wrong as wrong
use Rattle.icb_container.specs.declared.fault.ContainerFault.{ContainerFault}
use Rattle.icb_container.specs.declared.fault.ContainerFault.TheVariants as container
use Rattle.icb_reader.specs.Answers.{reader_fault_of}
use Rattle.icb_reader.specs.declared.fault.RecordsFault.{RecordsFault}
use Rattle.icb_reader.specs.declared.fault.RecordsFault.TheVariants as records
use Rattle.icb_stream.specs.declared.fault.StreamFault.{StreamFault}
use Rattle.icb_stream.specs.declared.fault.StreamFault.TheVariants as stream
use Rattle.icb_table.specs.Why.{Unread, Why}
use Rattle.icb_table.specs.Why as why
use Rattle.icb_walk.specs.declared.fault.Broken.TheVariants as broken
use Rattle.icb_walk.specs.declared.fault.Cause.{Cause}
use Rattle.icb_walk.specs.declared.fault.Cause.TheVariants as cause
use Rattle.icb_walk.specs.declared.fault.HeaderFault.TheVariants as header
use Rattle.icb_walk.specs.declared.fault.TreeFault.{TreeFault}
use Rattle.icb_walk.specs.declared.fault.TreeFault.TheVariants as fault
use Rattle.icb_walk.specs.declared.fault.What.{What}
use Rattle.icb_walk.specs.declared.fault.What.TheVariants as what
use Rattle.icb_walk.specs.declared.trouble.Trouble.{Trouble}
use Rattle.icb_walk.specs.declared.trouble.Trouble.TheVariants as trouble

-- ---- reasons of the definitions

-- why a file that is named isn't read
abbrev pub what_of : Unread → What
what_of why.format = what.Format
what_of why.delete_file = what.DeleteFile
what_of why.delete_manifest = what.DeleteManifest
what_of why.outside_table = what.OutsideTable
what_of why.no_length = what.NoLength

-- why bytes are no container
abbrev pub container_cause : Wrong → Cause
container_cause wrong.not_avro = cause.Malformed 0 broken.NotAvro
container_cause (wrong.avro place c) = cause.Malformed place (broken.Avro c)
container_cause (wrong.large limit place size) = cause.Large limit place size
container_cause (wrong.codec name) = cause.Codec name
container_cause (wrong.schema e) = cause.Malformed 0 broken.Schema
container_cause (wrong.sync block) = cause.Malformed 0 (broken.Sync block)

-- the cause that is told of a reason; that there is no plaintext is told by the stream
abbrev pub cause_of : Why → Option Cause
cause_of why.no_plaintext = None
cause_of (why.no_container e) = Some (container_cause e)
cause_of (why.bad_field place id) = Some (cause.Malformed place (broken.Field id))
cause_of (why.bad_key place) = Some (cause.Malformed place broken.KeyMeta)
cause_of (why.plain_file path) = Some (cause.PlainFile path)
cause_of (why.unread path e) = Some (cause.Unsupported path (what_of e))

-- the cause that is told where this is refused
abbrev pub refused_by : {A : Type 0} → Result A Why → Option Cause
refused_by (Ok x) = None
refused_by (Err e) = cause_of e

-- the cause that is told of a stream's refusal; a store that failed and want of memory are told as
-- themselves
abbrev pub stream_cause : StreamFault → Option Cause
stream_cause (stream.BadLength length) = Some (cause.Header (header.BadLength length))
stream_cause stream.Store = None
stream_cause stream.Missing = Some cause.Missing
stream_cause (stream.Short size) = Some (cause.Short size)
stream_cause (stream.Magic found) = Some (cause.Header (header.Magic found))
stream_cause (stream.BlockLength found) = Some (cause.Header (header.BlockLength found))
stream_cause stream.NoMemory = None
stream_cause (stream.Block number) = Some (cause.Block number)

-- ---- refusals inside the crate

-- a trouble stands for a stream's refusal
abbrev pub StandsFor : StreamFault → Trouble → Type 0
StandsFor inner (trouble.Cause c) = stream_cause inner ≡ Some c
StandsFor inner trouble.Store = inner ≡ stream.Store
StandsFor inner trouble.NoMemory = inner ≡ stream.NoMemory

-- a trouble stands for a container's refusal
abbrev pub StandsForContainer : ContainerFault StreamFault → Trouble → Type 0
StandsForContainer (container.Reader e) t = StandsFor e t
StandsForContainer container.NotAvro t = t ≡ trouble.Cause (cause.Malformed 0 broken.NotAvro)
StandsForContainer (container.Avro f) t =
    t ≡ trouble.Cause (cause.Malformed f.place (broken.Avro f.cause))
StandsForContainer (container.Large limit place size) t =
    t ≡ trouble.Cause (cause.Large limit place size)
StandsForContainer (container.Codec name) t = t ≡ trouble.Cause (cause.Codec name)
StandsForContainer (container.Schema e) t =
    t ≡ trouble.Cause (cause.Malformed 0 broken.Schema)
StandsForContainer (container.Sync block) t =
    t ≡ trouble.Cause (cause.Malformed 0 (broken.Sync block))
StandsForContainer container.NoMemory t = t ≡ trouble.NoMemory

-- a trouble stands for the refusal of a reader of records
abbrev pub StandsForRecords : RecordsFault StreamFault → Trouble → Type 0
StandsForRecords (records.Container e) t = StandsForContainer e t
StandsForRecords (records.Field place id) t =
    t ≡ trouble.Cause (cause.Malformed place (broken.Field id))
StandsForRecords records.NoMemory t = t ≡ trouble.NoMemory

-- a refusal says of the file at a path that it isn't read further, or no memory was left for that
abbrev pub IsAt : List ℕ → Trouble → TreeFault → Type 0
IsAt path (trouble.Cause c) e = (e ≡ fault.At path c) ⊎ (e ≡ fault.NoMemory)
IsAt path trouble.Store e = e ≡ fault.Store
IsAt path trouble.NoMemory e = e ≡ fault.NoMemory

-- ---- refusals of files

-- the cause that is told of a container's refusal; that of a reader is told as the stream's
abbrev pub container_told : ContainerFault StreamFault → Option Cause
container_told (container.Reader e) = stream_cause e
container_told container.NotAvro = Some (cause.Malformed 0 broken.NotAvro)
container_told (container.Avro f) = Some (cause.Malformed f.place (broken.Avro f.cause))
container_told (container.Large limit place size) = Some (cause.Large limit place size)
container_told (container.Codec name) = Some (cause.Codec name)
container_told (container.Schema e) = Some (cause.Malformed 0 broken.Schema)
container_told (container.Sync block) = Some (cause.Malformed 0 (broken.Sync block))
container_told container.NoMemory = None

-- the cause that is told of the refusal of a reader of records
abbrev pub records_told : RecordsFault StreamFault → Option Cause
records_told (records.Container e) = container_told e
records_told (records.Field place id) = Some (cause.Malformed place (broken.Field id))
records_told records.NoMemory = None

-- a refusal of the file at a path is that of its stream; where the store didn't fail, or no memory
-- was left to say so
abbrev pub IsOfStream : List ℕ → StreamFault → TreeFault → Type 0
IsOfStream path inner (fault.At at c) = (at ≡ path) × (stream_cause inner ≡ Some c)
IsOfStream path inner fault.Store = inner ≡ stream.Store
IsOfStream path inner fault.NoMemory = inner ≢ stream.Store
IsOfStream path inner e = ⊥

-- a refusal of the file at a path is that of its records; where the store didn't fail, or no memory
-- was left to say so
abbrev pub IsOfRecords : List ℕ → RecordsFault StreamFault → TreeFault → Type 0
IsOfRecords path inner (fault.At at c) = (at ≡ path) × (records_told inner ≡ Some c)
IsOfRecords path inner fault.Store = reader_fault_of inner ≡ Some stream.Store
IsOfRecords path inner fault.NoMemory = reader_fault_of inner ≢ Some stream.Store
IsOfRecords path inner e = ⊥
