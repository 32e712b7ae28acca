-- What a refusal inside the crate says of what it stands for.
use Rattle.std.specs.Prelude.{◌≡◌, ◌⊎◌, ℕ, List, Option, Some, None, Result, Err}
use Rattle.std.proofs.Common.{refl, ap, sym, subst, ◌∙◌, arith, inl, inr}
use Rattle.icb_base.specs.Causes.{Blames}
use Rattle.icb_container.specs.Wrong as wrong
use Rattle.icb_container.specs.declared.fault.ContainerFault.TheVariants as container
use Rattle.icb_reader.specs.Answers.{RefusesRecord, reader_fault_of}
use Rattle.icb_reader.specs.Records.{Refusal}
use Rattle.icb_reader.specs.Records as refusal
use Rattle.icb_reader.specs.declared.fault.RecordsFault.{RecordsFault}
use Rattle.icb_reader.specs.declared.fault.RecordsFault.TheVariants as records
use Rattle.icb_stream.specs.declared.fault.StreamFault.{StreamFault}
use Rattle.icb_stream.specs.declared.fault.StreamFault.TheVariants as stream
use Rattle.icb_table.specs.Steps.{why_of}
use Rattle.icb_walk.specs.Causes.{IsAt, IsOfRecords, IsOfStream, StandsFor, StandsForRecords, cause_of, records_told, stream_cause}
use Rattle.icb_walk.specs.declared.fault.Cause.{Cause}
use Rattle.icb_walk.specs.declared.fault.TreeFault.{TreeFault}
use Rattle.icb_walk.specs.declared.trouble.Trouble.{Trouble}
use Rattle.icb_walk.specs.declared.trouble.Trouble.TheVariants as trouble

-- a cause is told of a fault of the reader, or of a refusal of the records
abbrev pub ToldBy : {B : Type 0} → RecordsFault StreamFault → Cause → Result B Refusal → Type 0
ToldBy e c r = ((f : StreamFault) × (reader_fault_of e ≡ Some f) × (stream_cause f ≡ Some c))
    ⊎ ((w : Refusal) × (r ≡ Err w) × (cause_of (why_of w) ≡ Some c))

cause_is : (c d : Cause) → trouble.Cause c ≡ trouble.Cause d → Some d ≡ Some c
cause_is c d e = cc

pub told_by : {B : Type 0} (e : RecordsFault StreamFault) (c : Cause) (r : Result B Refusal)
    → StandsForRecords e (trouble.Cause c) → RefusesRecord e r → ToldBy e c r
told_by (records.Container (container.Reader f)) c r h g = inl (f, refl, h)
told_by (records.Container container.NotAvro) c r h g = inr (refusal.container wrong.not_avro, g, cause_is c _ h)
told_by (records.Container (container.Avro f)) c r h g = inr (refusal.container (wrong.avro f.place f.cause), g, cause_is c _ h)
told_by (records.Container (container.Large what place size)) c r h g = inr (refusal.container (wrong.large what place size), g, cause_is c _ h)
told_by (records.Container (container.Codec name)) c r h g = inr (refusal.container (wrong.codec name), g, cause_is c _ h)
told_by (records.Container (container.Schema s)) c r h g = inr (refusal.container (wrong.schema s), g, cause_is c _ h)
told_by (records.Container (container.Sync block)) c r h g = inr (refusal.container (wrong.sync block), g, cause_is c _ h)
told_by (records.Container container.NoMemory) c r h g = absurd g
told_by (records.Field place id) c r h g = inr (refusal.field place id, g, cause_is c _ h)
told_by records.NoMemory c r h g = absurd (let x : ⊥ = cc in x)

-- ---- faults of the store

-- a count rose where the reader's fault is the store's, and else it stayed
abbrev pub CountBy : ℕ → ℕ → Option StreamFault → Type 0
CountBy m n None = n ≡ m
CountBy m n (Some f) = Blames (f ≡ stream.Store) m n

pub store_to : (f : StreamFault) (t : Trouble) → StandsFor f t → t ≡ trouble.Store → f ≡ stream.Store
store_to f trouble.Store h e = h
store_to f (trouble.Cause c) h e = absurd (let x : ⊥ = cc in x)
store_to f trouble.NoMemory h e = absurd (let x : ⊥ = cc in x)

pub store_from : (f : StreamFault) (t : Trouble) → StandsFor f t → f ≡ stream.Store → t ≡ trouble.Store
store_from f trouble.Store h e = refl
store_from f (trouble.Cause c) h e = absurd (let g : stream_cause stream.Store ≡ Some c = ap stream_cause (sym e) ∙ h in let x : ⊥ = cc in x)
store_from f trouble.NoMemory h e = absurd (let x : ⊥ = cc in x)

pub blames_as : (p q : Type 0) (m n : ℕ) → (p → q) → (q → p) → Blames p m n → Blames q m n
blames_as p q m n to from b = record {
  later = b.later;
  rose = λ h. b.rose (from h);
  stays = λ no_fault. b.stays (λ h. no_fault (to h));
}

pub blames_none : (q : Type 0) (m n : ℕ) → (q → ⊥) → n ≡ m → Blames q m n
blames_none q m n no_fault same = record {
  later = omega (arith, same);
  rose = λ h. absurd (no_fault h);
  stays = λ h. same;
}

-- of a refusal that isn't the reader's
by_own : (m n : ℕ) (t u : Trouble) → t ≡ u → (u ≡ trouble.Store → ⊥) → n ≡ m → Blames (t ≡ trouble.Store) m n
by_own m n t u e other same = blames_none (t ≡ trouble.Store) m n (λ h. other (sym e ∙ h)) same

pub count_by : (m n : ℕ) (e : RecordsFault StreamFault) (t : Trouble) → StandsForRecords e t
    → CountBy m n (reader_fault_of e) → Blames (t ≡ trouble.Store) m n
count_by m n (records.Container (container.Reader f)) t h b = blames_as _ _ m n (store_from f t h) (store_to f t h) b
count_by m n (records.Container container.NotAvro) t h b = by_own m n t _ h (λ g. let x : ⊥ = cc in x) b
count_by m n (records.Container (container.Avro f)) t h b = by_own m n t _ h (λ g. let x : ⊥ = cc in x) b
count_by m n (records.Container (container.Large what place size)) t h b = by_own m n t _ h (λ g. let x : ⊥ = cc in x) b
count_by m n (records.Container (container.Codec name)) t h b = by_own m n t _ h (λ g. let x : ⊥ = cc in x) b
count_by m n (records.Container (container.Schema s)) t h b = by_own m n t _ h (λ g. let x : ⊥ = cc in x) b
count_by m n (records.Container (container.Sync block)) t h b = by_own m n t _ h (λ g. let x : ⊥ = cc in x) b
count_by m n (records.Container container.NoMemory) t h b = by_own m n t _ h (λ g. let x : ⊥ = cc in x) b
count_by m n (records.Field place id) t h b = by_own m n t _ h (λ g. let x : ⊥ = cc in x) b
count_by m n records.NoMemory t h b = by_own m n t _ h (λ g. let x : ⊥ = cc in x) b

-- ---- refusals of files

pub of_stream_told : (path : List ℕ) (inner : StreamFault) (t : Trouble) (e : TreeFault) → StandsFor inner t → IsAt path t e → IsOfStream path inner e
of_stream_told path inner (trouble.Cause c) e stands (inl is) = subst (IsOfStream path inner) (sym is) (refl, stands)
of_stream_told path inner (trouble.Cause c) e stands (inr is) = subst (IsOfStream path inner) (sym is) (λ h. let g : stream_cause stream.Store ≡ Some c = ap stream_cause (sym h) ∙ stands in let x : ⊥ = cc in x)
of_stream_told path inner trouble.Store e stands is = subst (IsOfStream path inner) (sym is) stands
of_stream_told path inner trouble.NoMemory e stands is = subst (IsOfStream path inner) (sym is) (λ h. let x : ⊥ = cc in x)

records_cause : (inner : RecordsFault StreamFault) (c : Cause) → StandsForRecords inner (trouble.Cause c) → records_told inner ≡ Some c
records_cause (records.Container (container.Reader f)) c h = h
records_cause (records.Container container.NotAvro) c h = cause_is c _ h
records_cause (records.Container (container.Avro f)) c h = cause_is c _ h
records_cause (records.Container (container.Large what place size)) c h = cause_is c _ h
records_cause (records.Container (container.Codec name)) c h = cause_is c _ h
records_cause (records.Container (container.Schema s)) c h = cause_is c _ h
records_cause (records.Container (container.Sync block)) c h = cause_is c _ h
records_cause (records.Container container.NoMemory) c h = absurd (let x : ⊥ = cc in x)
records_cause (records.Field place id) c h = cause_is c _ h
records_cause records.NoMemory c h = absurd (let x : ⊥ = cc in x)

records_store : (inner : RecordsFault StreamFault) → StandsForRecords inner trouble.Store → reader_fault_of inner ≡ Some stream.Store
records_store (records.Container (container.Reader f)) h = ap Some h
records_store (records.Container container.NotAvro) h = absurd (let x : ⊥ = cc in x)
records_store (records.Container (container.Avro f)) h = absurd (let x : ⊥ = cc in x)
records_store (records.Container (container.Large what place size)) h = absurd (let x : ⊥ = cc in x)
records_store (records.Container (container.Codec name)) h = absurd (let x : ⊥ = cc in x)
records_store (records.Container (container.Schema s)) h = absurd (let x : ⊥ = cc in x)
records_store (records.Container (container.Sync block)) h = absurd (let x : ⊥ = cc in x)
records_store (records.Container container.NoMemory) h = absurd (let x : ⊥ = cc in x)
records_store (records.Field place id) h = absurd (let x : ⊥ = cc in x)
records_store records.NoMemory h = absurd (let x : ⊥ = cc in x)

told_no_store : (inner : RecordsFault StreamFault) (c : Cause) → StandsForRecords inner (trouble.Cause c) → reader_fault_of inner ≡ Some stream.Store → ⊥
told_no_store (records.Container (container.Reader f)) c h e = let same : f ≡ stream.Store = cc in let g : stream_cause stream.Store ≡ Some c = ap stream_cause (sym same) ∙ h in let x : ⊥ = cc in x
told_no_store (records.Container container.NotAvro) c h e = let x : ⊥ = cc in x
told_no_store (records.Container (container.Avro f)) c h e = let x : ⊥ = cc in x
told_no_store (records.Container (container.Large what place size)) c h e = let x : ⊥ = cc in x
told_no_store (records.Container (container.Codec name)) c h e = let x : ⊥ = cc in x
told_no_store (records.Container (container.Schema s)) c h e = let x : ⊥ = cc in x
told_no_store (records.Container (container.Sync block)) c h e = let x : ⊥ = cc in x
told_no_store (records.Container container.NoMemory) c h e = let x : ⊥ = cc in x
told_no_store (records.Field place id) c h e = let x : ⊥ = cc in x
told_no_store records.NoMemory c h e = let x : ⊥ = cc in x

memory_no_store : (inner : RecordsFault StreamFault) → StandsForRecords inner trouble.NoMemory → reader_fault_of inner ≡ Some stream.Store → ⊥
memory_no_store (records.Container (container.Reader f)) h e = let same : f ≡ stream.Store = cc in let g : stream.Store ≡ stream.NoMemory = sym same ∙ h in let x : ⊥ = cc in x
memory_no_store (records.Container container.NotAvro) h e = let x : ⊥ = cc in x
memory_no_store (records.Container (container.Avro f)) h e = let x : ⊥ = cc in x
memory_no_store (records.Container (container.Large what place size)) h e = let x : ⊥ = cc in x
memory_no_store (records.Container (container.Codec name)) h e = let x : ⊥ = cc in x
memory_no_store (records.Container (container.Schema s)) h e = let x : ⊥ = cc in x
memory_no_store (records.Container (container.Sync block)) h e = let x : ⊥ = cc in x
memory_no_store (records.Container container.NoMemory) h e = let x : ⊥ = cc in x
memory_no_store (records.Field place id) h e = let x : ⊥ = cc in x
memory_no_store records.NoMemory h e = let x : ⊥ = cc in x

pub of_records_told : (path : List ℕ) (inner : RecordsFault StreamFault) (t : Trouble) (e : TreeFault) → StandsForRecords inner t → IsAt path t e → IsOfRecords path inner e
of_records_told path inner (trouble.Cause c) e stands (inl is) = subst (IsOfRecords path inner) (sym is) (refl, records_cause inner c stands)
of_records_told path inner (trouble.Cause c) e stands (inr is) = subst (IsOfRecords path inner) (sym is) (told_no_store inner c stands)
of_records_told path inner trouble.Store e stands is = subst (IsOfRecords path inner) (sym is) (records_store inner stands)
of_records_told path inner trouble.NoMemory e stands is = subst (IsOfRecords path inner) (sym is) (memory_no_store inner stands)
