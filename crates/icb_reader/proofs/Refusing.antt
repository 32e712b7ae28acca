-- A refusal that a definition gives first is what it gives.
use Rattle.std.proofs.Common.{◌≡◌, None, Result, Err, refl}
use Rattle.icb_container.specs.declared.fault.ContainerFault.{ContainerFault}
use Rattle.icb_container.specs.declared.fault.ContainerFault.TheVariants as inner
use Rattle.icb_container.specs.Wrong as wrong
use Rattle.icb_container.specs.Wrong.{Wrong}
use Rattle.icb_container.specs.Answers.{Refuses}
use Rattle.icb_container.specs.Known.{fault_of}
use Rattle.icb_reader.specs.declared.fault.RecordsFault.{RecordsFault}
use Rattle.icb_reader.specs.declared.fault.RecordsFault.TheVariants as fault
use Rattle.icb_reader.specs.Records.{Refusal, container, field, of_file, ◌>>=◌}
use Rattle.icb_reader.specs.Answers.{IsOfFile, IsPlain, RefusesRecord, of_container, reader_fault_of}

-- what refuses as something else does
pub refuses_as : {A B F : Type 0} (e : RecordsFault F) (r : Result A Refusal) (s : Result B Refusal) → ((w : Refusal) → r ≡ Err w → s ≡ Err w) → RefusesRecord e r → RefusesRecord e s
refuses_as (fault.Container (inner.Reader f)) r s all h = tt
refuses_as (fault.Container inner.NotAvro) r s all h = all (container wrong.not_avro) h
refuses_as (fault.Container (inner.Avro f)) r s all h = all (container (wrong.avro f.place f.cause)) h
refuses_as (fault.Container (inner.Large what place size)) r s all h = all (container (wrong.large what place size)) h
refuses_as (fault.Container (inner.Codec name)) r s all h = all (container (wrong.codec name)) h
refuses_as (fault.Container (inner.Schema f)) r s all h = all (container (wrong.schema f)) h
refuses_as (fault.Container (inner.Sync block)) r s all h = all (container (wrong.sync block)) h
refuses_as (fault.Container inner.NoMemory) r s all h = absurd h
refuses_as (fault.Field place id) r s all h = all (field place id) h
refuses_as fault.NoMemory r s all h = tt

-- a refusal before anything else
pub refuses_first : {A B F : Type 0} (e : RecordsFault F) (r : Result A Refusal) (f : A → Result B Refusal) → RefusesRecord e r → RefusesRecord e (r >>= f)
refuses_first e r f h = refuses_as e r (r >>= f) (λ w is. rw is refl) h

-- a refusal of the container is one of its records
pub container_refuses : {A F : Type 0} (e : ContainerFault F) (r : Result A Wrong) → Refuses e r → RefusesRecord (of_container e) (of_file r)
container_refuses (inner.Reader f) r h = tt
container_refuses inner.NotAvro r h = rw h refl
container_refuses (inner.Avro f) r h = rw h refl
container_refuses (inner.Large what place size) r h = rw h refl
container_refuses (inner.Codec name) r h = rw h refl
container_refuses (inner.Schema f) r h = rw h refl
container_refuses (inner.Sync block) r h = rw h refl
container_refuses inner.NoMemory r h = tt

-- it isn't told as the container's want of memory
pub container_plain : {F : Type 0} (e : ContainerFault F) → IsPlain (of_container e)
container_plain (inner.Reader f) = tt
container_plain inner.NotAvro = tt
container_plain (inner.Avro f) = tt
container_plain (inner.Large what place size) = tt
container_plain (inner.Codec name) = tt
container_plain (inner.Schema f) = tt
container_plain (inner.Sync block) = tt
container_plain inner.NoMemory = tt

-- it is the reader's where it was
pub container_blames : {F : Type 0} (e : ContainerFault F) → reader_fault_of (of_container e) ≡ fault_of e
container_blames (inner.Reader f) = refl
container_blames inner.NotAvro = refl
container_blames (inner.Avro f) = refl
container_blames (inner.Large what place size) = refl
container_blames (inner.Codec name) = refl
container_blames (inner.Schema f) = refl
container_blames (inner.Sync block) = refl
container_blames inner.NoMemory = refl

-- what is of the file is told plainly
pub of_file_plain : {F : Type 0} (e : RecordsFault F) → IsOfFile e → IsPlain e
of_file_plain (fault.Container (inner.Reader f)) h = tt
of_file_plain (fault.Container inner.NotAvro) h = tt
of_file_plain (fault.Container (inner.Avro f)) h = tt
of_file_plain (fault.Container (inner.Large what place size)) h = tt
of_file_plain (fault.Container (inner.Codec name)) h = tt
of_file_plain (fault.Container (inner.Schema f)) h = tt
of_file_plain (fault.Container (inner.Sync block)) h = tt
of_file_plain (fault.Container inner.NoMemory) h = absurd h
of_file_plain (fault.Field place id) h = tt
of_file_plain fault.NoMemory h = tt

-- and is no reader's
pub of_file_blames : {F : Type 0} (e : RecordsFault F) → IsOfFile e → reader_fault_of e ≡ None
of_file_blames (fault.Container (inner.Reader f)) h = absurd h
of_file_blames (fault.Container inner.NotAvro) h = refl
of_file_blames (fault.Container (inner.Avro f)) h = refl
of_file_blames (fault.Container (inner.Large what place size)) h = refl
of_file_blames (fault.Container (inner.Codec name)) h = refl
of_file_blames (fault.Container (inner.Schema f)) h = refl
of_file_blames (fault.Container (inner.Sync block)) h = refl
of_file_blames (fault.Container inner.NoMemory) h = absurd h
of_file_blames (fault.Field place id) h = refl
of_file_blames fault.NoMemory h = refl
