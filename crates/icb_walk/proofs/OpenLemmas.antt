-- A file that is open: what its reader's answers say of what is left of it.
use Rattle.std.specs.Prelude.{if◌then◌else◌, nat_lt, ◌≡◌, ◌≤◌, ℕ, ℤ, List, [], ◌∷◌, length, Option, Some, None, IfSome, Result, Ok, Err}
use Rattle.std.proofs.Common.{refl, ap, sym, subst, ◌∙◌, arith, inl, inr}
use Rattle.icb_base.proofs.LawLemmas.{length_filled}
use Rattle.icb_base.specs.Contents.{FillsKnown}
use Rattle.icb_base.specs.KeyMetadata.{KeyRecord}
use Rattle.icb_base.specs.Objects.{Objects, object_at}
use Rattle.icb_container.specs.Blocks.{begins}
use Rattle.icb_container.specs.Header.{Header, header_of}
use Rattle.icb_container.specs.Wrong.{Wrong}
use Rattle.icb_fields.specs.Fields as field
use Rattle.icb_list.specs.Rows.{list_row}
use Rattle.icb_manifest.specs.Entries.{entry_of}
use Rattle.icb_reader.specs.Answers.{OpensRecords, ReadsRecord, reader_fault_of, reading_of}
use Rattle.icb_reader.specs.Records.{Reading, Refusal, next_of, of_file, opening_of}
use Rattle.icb_reader.specs.Records as refusal
use Rattle.icb_reader.specs.declared.fault.RecordsFault.{RecordsFault}
use Rattle.icb_reader.specs.declared.records.Records.{Records}
use Rattle.icb_stream.proofs.AttachedLemmas.{length-read_content}
use Rattle.icb_base.specs.Calls.{ReadsPath}
use Rattle.icb_base.specs.Causes.{Blames}
use Rattle.icb_base.specs.Counts.{CountsOnly}
use Rattle.icb_base.specs.declared.storage.Store as store
use Rattle.icb_container.specs.Known.{IsBlamed}
use Rattle.icb_stream.specs.Attached.{CountsAt, IsContent, IsReason, KeepsBoth, read_content}
use Rattle.icb_stream.specs.Belongs.{BelongsTo, StreamValue}
use Rattle.icb_stream.specs.Layout.{Layout, plain_length}
use Rattle.icb_stream.specs.Opening as opening
use Rattle.icb_stream.specs.Reading.{IsOpened, IsRefusal, Opens}
use Rattle.icb_stream.specs.declared.fault.StreamFault.{StreamFault}
use Rattle.icb_stream.specs.declared.fault.StreamFault.TheVariants as stream
use Rattle.icb_table.proofs.StepLemmas.{opening_leaves_all, steps_leave_rest}
use Rattle.icb_table.specs.Contents.{Plaintexts, of_object, opening_in, opening_key, read_plain}
use Rattle.icb_table.specs.Known.{Allows, Knowledge, shown_in}
use Rattle.icb_table.specs.Laws.{LeavesRest}
use Rattle.icb_table.specs.Listed.{Listed, listed}
use Rattle.icb_table.specs.Records.{blocks_behind, records_in, records_of}
use Rattle.icb_table.specs.Records as table_records
use Rattle.icb_table.specs.Steps.{IsReached, rest_of, why_of}
use Rattle.icb_table.specs.Trace.{Trace, one, stopped, then_read, through}
use Rattle.icb_walk.proofs.CauseLemmas.{CountBy, ToldBy, told_by}
use Rattle.icb_walk.specs.Causes.{StandsFor, StandsForRecords, stream_cause}
use Rattle.icb_walk.specs.Fits.{FitsOpen, IsUnshown}
use Rattle.icb_walk.specs.Steps.{Begins, LeavesMore, OpensFile, ReadsFile, ReadsNext, Refuses, records_left}
use Rattle.icb_walk.specs.declared.fault.Cause.{Cause}
use Rattle.icb_walk.specs.declared.opened.OpenFile.{OpenFile}
use Rattle.icb_walk.specs.declared.trouble.Trouble.{Trouble}
use Rattle.icb_walk.specs.declared.trouble.Trouble.TheVariants as trouble

-- ---- plaintexts that fill what is known

-- a plaintext with zeros where nothing is known
filled : List (Option ℕ) → List ℕ
filled [] = []
filled (None ∷ known) = 0 ∷ filled known
filled (Some b ∷ known) = b ∷ filled known

fills : (known : List (Option ℕ)) → FillsKnown known (filled known)
unfolding filled
fills [] = tt
fills (None ∷ known) = fills known
fills (Some b ∷ known) = (refl, fills known)

-- how a file opens doesn't depend on a prefix that isn't told, and on a length that is
first_same : (bytes path : List ℕ) (meta : KeyRecord) (recorded : ℕ) (h : Result ℕ StreamFault)
    → opening.first_part_of bytes (opening_key (listed path meta recorded)) recorded h ≡ opening.first_part_of bytes meta recorded h
first_same bytes path meta recorded (Err e) = refl
first_same bytes path meta recorded (Ok n) = refl

at_same : (object : Option (List ℕ)) (path : List ℕ) (meta : KeyRecord) (recorded : ℕ)
    → opening.opening_at object (opening_key (listed path meta recorded)) recorded ≡ opening.opening_at object meta recorded
at_same None path meta recorded = refl
at_same (Some bytes) path meta recorded =
    ap (λ (r : Result Layout StreamFault). if nat_lt (length bytes) recorded then Err (stream.Short (length bytes)) else r)
    (first_same bytes path meta recorded (opening.header_of bytes recorded))

opening_same : (files : Objects) (path : List ℕ) (meta : KeyRecord) (recorded : ℕ)
    → opening.opening_of files path (opening_key (listed path meta recorded)) recorded ≡ opening.opening_of files path meta recorded
unfolding opening.opening_of
opening_same files path meta recorded =
    ap (λ (r : Result Layout StreamFault). if nat_lt recorded 36 then Err (stream.BadLength recorded) else r)
    (at_same (object_at files path) path meta recorded)

pub opened_as_listed : (files : Objects) (path : List ℕ) (meta : KeyRecord) (recorded : ℕ) (s : StreamValue)
    → IsOpened files path meta recorded s
    → IsOpened files path (opening_key (listed path meta recorded)) recorded s
opened_as_listed files path meta recorded s o =
    record { opening = opening_same files path meta recorded ∙ o.opening; same_path = o.same_path; belongs = o.belongs }

pub refused_as_listed : (files : Objects) (path : List ℕ) (meta : KeyRecord) (recorded : ℕ) (e : StreamFault)
    → opening.opening_of files path meta recorded ≡ Err e → opening_in files (listed path meta recorded) ≡ Err e
refused_as_listed files path meta recorded e h = opening_same files path meta recorded ∙ h

-- the object of an open file
pub held_at : (files : Objects) (f : Listed) (stream : StreamValue) (o : IsOpened files f.path (opening_key f) f.recorded stream)
    → object_at files f.path ≡ Some o.belongs.object
held_at files f stream o = ap (object_at files) (sym o.same_path) ∙ o.belongs.held

-- what is known of an open file
pub known_at : (files : Objects) (f : Listed) (stream : StreamValue) (o : IsOpened files f.path (opening_key f) f.recorded stream)
    → shown_in files f ≡ Some (read_content o.belongs.object stream.layout)
known_at files f stream o =
    ap (λ x. of_object (λ bytes layout. Some (read_content bytes layout)) x (opening_in files f)) (held_at files f stream o)
    ∙ ap (of_object (λ bytes layout. Some (read_content bytes layout)) (Some o.belongs.object)) o.opening

pub content_is : (files : Objects) (stream : StreamValue) (b : BelongsTo stream files)
    → IsContent stream (Some files) (read_content b.object stream.layout)
content_is files stream b = record {
  files = files;
  told = refl;
  belongs = b;
  is = refl;
  places = length-read_content b.object stream.layout b.is_open;
}

-- a plaintext of an open file that is allowed
pub record FillsFile (files : Objects) (f : Listed) (plain : Option (List ℕ)) (known : List (Option ℕ)) : Type 0 where
  pub bytes : List ℕ
  pub is : plain ≡ Some bytes
  pub fills : FillsKnown known bytes

fills_by : (files : Objects) (f : Listed) (known : List (Option ℕ)) (p : Option (List ℕ)) → Allows (Some known) p → FillsFile files f p known
fills_by files f known None h = absurd h
fills_by files f known (Some bytes) h = record { bytes = bytes; is = refl; fills = h }

pub allowed : (files : Objects) (f : Listed) (plain : Plaintexts) (stream : StreamValue) (o : IsOpened files f.path (opening_key f) f.recorded stream)
    → Allows (shown_in files f) (plain f) → FillsFile files f (plain f) (read_content o.belongs.object stream.layout)
allowed files f plain stream o h =
    let P : Knowledge → Type 0 = λ k. Allows k (plain f) in
    fills_by files f (read_content o.belongs.object stream.layout) (plain f) (subst P (known_at files f stream o) h)

-- it has the length that the stream tells
length_at : (files : Objects) (stream : StreamValue) (b : BelongsTo stream files) (bytes : List ℕ)
    → FillsKnown (read_content b.object stream.layout) bytes → length bytes ≡ plain_length stream.layout
length_at files stream b bytes h =
    sym (length_filled (read_content b.object stream.layout) bytes h) ∙ length-read_content b.object stream.layout b.is_open

-- where a reader stands in one plaintext it stands in each of that length
reached_in : (r : Reading) (bytes other : List ℕ) → length other ≡ length bytes → IsReached r bytes → IsReached r other
reached_in r bytes other same h = record {
  values = h.values;
  behind = h.behind;
  decoded = h.decoded;
  passed = h.passed;
  within = subst (λ n. r.state.place ≤ n) (sym same) h.within;
}

reached_all : (files : Objects) (stream : StreamValue) (b : BelongsTo stream files) (r : Reading) (bytes : List ℕ)
    → FillsKnown (read_content b.object stream.layout) bytes → IsReached r bytes
    → (other : List ℕ) → length other ≡ plain_length stream.layout → IsReached r other
reached_all files stream b r bytes h reached other same =
    reached_in r bytes other (same ∙ sym (length_at files stream b bytes h)) reached

-- what is left of a file with this plaintext
left_is : {A : Type 0} (read : field.Row → Result A ℤ) (plain : Plaintexts) (f : Listed) (r : Records) (bytes : List ℕ)
    → plain f ≡ Some bytes → records_left read plain f r ≡ rest_of read f (reading_of r) bytes
left_is read plain f r bytes e = ap (read_plain (λ g b. rest_of read g (reading_of r) b) f) e

-- ---- the next record

-- what reads say, over each file that fills what is known
abbrev pub SaysNext : {A : Type 0} → (field.Row → Result A ℤ) → Objects → StreamValue → Records → Records
    → Result (Option A) (RecordsFault StreamFault) → Type 0
SaysNext read files stream old new result = (known : List (Option ℕ)) → IsContent stream (Some files) known
    → (file : List ℕ) → FillsKnown known file → ReadsRecord read result old new known file

-- how a stream is read stays
pub record StaysStream (files : Objects) (old new : StreamValue) : Type 0 where
  pub same_path : new.path ≡ old.path
  pub same_layout : new.layout ≡ old.layout
  pub belongs : BelongsTo old files → BelongsTo new files

pub opened_stays : (files : Objects) (f : Listed) (old new : StreamValue) → StaysStream files old new
    → IsOpened files f.path (opening_key f) f.recorded old → IsOpened files f.path (opening_key f) f.recorded new
opened_stays files f old new s o = record {
  opening = o.opening ∙ ap (λ (l : Layout). (let r : Result Layout StreamFault = Ok l in r)) (sym s.same_layout);
  same_path = s.same_path ∙ o.same_path;
  belongs = s.belongs o.belongs;
}

rest_given : {A : Type 0} (read : field.Row → Result A ℤ) (f : Listed) (bytes : List ℕ) (r : Reading)
    (found : Result (Option A × Reading) Refusal) → IsReached r bytes → next_of read r bytes ≡ found
    → LeavesRest read f bytes (rest_of read f r bytes) found
rest_given read f bytes r found reached e =
    subst (LeavesRest read f bytes (rest_of read f r bytes)) e (steps_leave_rest read f bytes r reached)

pub next_some : {A : Type 0} (read : field.Row → Result A ℤ) (files : Objects) (f : Listed) (old new : OpenFile) (x : A)
    → FitsOpen files f old.stream old.records → StaysStream files old.stream new.stream
    → SaysNext read files old.stream old.records new.records (Ok (Some x))
    → ReadsNext read files f old new (Ok (Some x))
next_some read files f old new x fits stays says =
    let o = fits.opened in
    let known = read_content o.belongs.object old.stream.layout in
    let is = content_is files old.stream o.belongs in
    let zeros = filled known in
    let zeros_fill = fills known in
    let first = rest_given read f zeros (reading_of old.records) (Ok (Some x, reading_of new.records))
    (fits.reached zeros (length_at files old.stream o.belongs zeros zeros_fill)) (says known is zeros zeros_fill).gives in
    record {
      fits = record {
        opened = opened_stays files f old.stream new.stream stays o;
        reached = λ bytes same. reached_all files old.stream o.belongs (reading_of new.records) zeros zeros_fill first.1 bytes
            (same ∙ ap plain_length stays.same_layout);
      };
      leaves = λ plain allows.
          let a = allowed files f plain old.stream o allows in
          let step = rest_given read f a.bytes (reading_of old.records) (Ok (Some x, reading_of new.records))
          (fits.reached a.bytes (length_at files old.stream o.belongs a.bytes a.fills)) (says known is a.bytes a.fills).gives in
          left_is read plain f old.records a.bytes a.is ∙ step.0
          ∙ ap (then_read (one (new.records.last, x))) (sym (left_is read plain f new.records a.bytes a.is));
    }

pub next_none : {A : Type 0} (read : field.Row → Result A ℤ) (files : Objects) (f : Listed) (old new : OpenFile)
    → FitsOpen files f old.stream old.records
    → SaysNext read files old.stream old.records new.records (Ok None)
    → ReadsNext read files f old new (Ok None)
next_none {A} read files f old new fits says =
    let o = fits.opened in
    let known = read_content o.belongs.object old.stream.layout in
    let is = content_is files old.stream o.belongs in
    record {
      fits = tt;
      leaves = λ plain allows.
          let a = allowed files f plain old.stream o allows in
          left_is read plain f old.records a.bytes a.is
          ∙ rest_given read f a.bytes (reading_of old.records) (Ok (None, reading_of new.records))
          (fits.reached a.bytes (length_at files old.stream o.belongs a.bytes a.fills)) (says known is a.bytes a.fills).gives;
    }

-- why a reader's fault came
abbrev pub HasReason : List ℕ → Layout → RecordsFault StreamFault → Type 0
HasReason object layout e = (g : StreamFault) → reader_fault_of e ≡ Some g → IsReason object layout g

pub reason_is : (files : Objects) (f : Listed) (s : StreamValue) (o : IsOpened files f.path (opening_key f) f.recorded s)
    (g : StreamFault) (c : Cause) → IsReason o.belongs.object s.layout g → stream_cause g ≡ Some c → IsUnshown files f c
reason_is files f s o stream.Store c h told = absurd (let x : ⊥ = cc in x)
reason_is files f s o (stream.Block number) c h told = record {
  fault = stream.Block number;
  refused = inr (record {
    object = o.belongs.object;
    layout = s.layout;
    number = number;
    held = held_at files f s o;
    is_open = o.opening;
    within = h.0;
    gone = h.1;
    is = refl;
  });
  told = told;
}
reason_is files f s o (stream.BadLength n) c h told = absurd h
reason_is files f s o stream.Missing c h told = absurd h
reason_is files f s o (stream.Short n) c h told = absurd h
reason_is files f s o (stream.Magic n) c h told = absurd h
reason_is files f s o (stream.BlockLength n) c h told = absurd h
reason_is files f s o stream.NoMemory c h told = absurd h

told_leaves : {A : Type 0} (read : field.Row → Result A ℤ) (files : Objects) (f : Listed) (stream : StreamValue)
    (o : IsOpened files f.path (opening_key f) f.recorded stream) (left : Trace (ℕ × A)) (bytes : List ℕ) (r : Reading)
    (e : RecordsFault StreamFault) (c : Cause) → left ≡ rest_of read f r bytes → IsReached r bytes
    → HasReason o.belongs.object stream.layout e → ToldBy e c (next_of read r bytes) → Refuses files f c left
told_leaves read files f stream o left bytes r e c is reached reason (inl (g, fault, told)) =
    inl (reason_is files f stream o g c (reason g fault) told)
told_leaves read files f stream o left bytes r e c is reached reason (inr (w, err, told)) =
    inr (why_of w, is ∙ rest_given read f bytes r (Err w) reached err, told)

pub next_cause : {A : Type 0} (read : field.Row → Result A ℤ) (files : Objects) (f : Listed) (old new : OpenFile)
    (e : RecordsFault StreamFault) (c : Cause) (fits : FitsOpen files f old.stream old.records)
    → SaysNext read files old.stream old.records new.records (Err e)
    → HasReason fits.opened.belongs.object old.stream.layout e → StandsForRecords e (trouble.Cause c)
    → (plain : Plaintexts) → Allows (shown_in files f) (plain f)
    → Refuses files f c (records_left read plain f old.records)
next_cause read files f old new e c fits says reason stands plain allows =
    let o = fits.opened in
    let known = read_content o.belongs.object old.stream.layout in
    let is = content_is files old.stream o.belongs in
    let a = allowed files f plain old.stream o allows in
    told_leaves read files f old.stream o (records_left read plain f old.records) a.bytes (reading_of old.records) e c
    (left_is read plain f old.records a.bytes a.is)
    (fits.reached a.bytes (length_at files old.stream o.belongs a.bytes a.fills)) reason
    (told_by e c (next_of read (reading_of old.records) a.bytes) stands (says known is a.bytes a.fills).gives)

pub next_err : {A : Type 0} (read : field.Row → Result A ℤ) (files : Objects) (f : Listed) (old new : OpenFile)
    (e : RecordsFault StreamFault) (t : Trouble) (fits : FitsOpen files f old.stream old.records)
    → StaysStream files old.stream new.stream → new.records ≡ old.records
    → SaysNext read files old.stream old.records new.records (Err e)
    → HasReason fits.opened.belongs.object old.stream.layout e → StandsForRecords e t
    → ReadsNext read files f old new (Err t)
next_err {A} read files f old new e t fits stays same says reason stands = record {
  fits = record {
    opened = opened_stays files f old.stream new.stream stays fits.opened;
    reached = λ bytes size.
        let P : Records → Type 0 = λ r. IsReached (reading_of r) bytes in
        subst P (sym same) (fits.reached bytes (size ∙ ap plain_length stays.same_layout));
  };
  leaves = by_trouble t stands;
}
  where
    by_trouble : (u : Trouble) → StandsForRecords e u → (plain : Plaintexts) → Allows (shown_in files f) (plain f)
        → LeavesMore read files plain f old.records new.records (Err u)
    by_trouble (trouble.Cause c) h plain allows = next_cause read files f old new e c fits says reason h plain allows
    by_trouble trouble.Store h plain allows = tt
    by_trouble trouble.NoMemory h plain allows = tt

-- ---- opening

-- what the opening of records says, over each file that fills what is known
abbrev pub SaysOpening : Objects → StreamValue → Result Records (RecordsFault StreamFault) → Type 0
SaysOpening files stream result = (known : List (Option ℕ)) → IsContent stream (Some files) known
    → (file : List ℕ) → FillsKnown known file → OpensRecords result known file

begins_left : {A : Type 0} (read : field.Row → Result A ℤ) (files : Objects) (f : Listed) (old : StreamValue) (records : Records)
    → IsOpened files f.path (opening_key f) f.recorded old → SaysOpening files old (Ok records)
    → (plain : Plaintexts) → Allows (shown_in files f) (plain f)
    → read_plain (records_of read) f (plain f) ≡ records_left read plain f records
begins_left read files f old records o says plain allows =
    let a = allowed files f plain old o allows in
    let gives = (says (read_content o.belongs.object old.layout) (content_is files old o.belongs) a.bytes a.fills).gives in
    ap (read_plain (records_of read) f) a.is ∙ (opening_leaves_all read f a.bytes (reading_of records) gives).0
    ∙ sym (left_is read plain f records a.bytes a.is)

pub begins_all : (files : Objects) (f : Listed) (old new end : StreamValue) (records : Records) → end ≡ new
    → IsOpened files f.path (opening_key f) f.recorded old → StaysStream files old new
    → SaysOpening files old (Ok records) → Begins files f end records
begins_all files f old new end records ends o stays says = subst (λ (s : StreamValue). Begins files f s records) (sym ends) (
    let known = read_content o.belongs.object old.layout in
    let zeros = filled known in
    let zeros_fill = fills known in
    let gives = (says known (content_is files old o.belongs) zeros zeros_fill).gives in
    record {
      fits = record {
        opened = opened_stays files f old new stays o;
        reached = λ bytes same. reached_all files old o.belongs (reading_of records) zeros zeros_fill
            (opening_leaves_all list_row f zeros (reading_of records) gives).1 bytes (same ∙ ap plain_length stays.same_layout);
      };
      rows = begins_left list_row files f old records o says;
      entries = begins_left entry_of files f old records o says;
    })

err_is : (p q : Refusal) → (let a : Result Reading Refusal = Err p in a) ≡ Err q → p ≡ q
err_is p q e = cc

refused_header : {A : Type 0} (read : field.Row → Result A ℤ) (f : Listed) (bytes : List ℕ) (header : Result Header Wrong) (w : Refusal)
    → (refusal.◌>>=◌ {B = Reading} (of_file header) (λ h. Ok (refusal.opened (begins bytes h)))) ≡ Err w
    → table_records.opened f (λ h. through (records_in read f h.schema) (blocks_behind f bytes h)) header ≡ stopped f (why_of w)
refused_header {A} read f bytes (Err x) w e = ap (λ r. stopped {A = ℕ × A} f (why_of r)) (err_is (refusal.container x) w e)
refused_header read f bytes (Ok h) w e = absurd (let g : ⊥ = cc in g)

refused_opening : {A : Type 0} (read : field.Row → Result A ℤ) (f : Listed) (bytes : List ℕ) (w : Refusal)
    → opening_of bytes ≡ Err w → records_of read f bytes ≡ stopped f (why_of w)
unfolding opening_of table_records.records_of
refused_opening read f bytes w e = refused_header read f bytes (header_of bytes) w e

fails_told : {A : Type 0} (read : field.Row → Result A ℤ) (files : Objects) (f : Listed) (stream : StreamValue)
    (o : IsOpened files f.path (opening_key f) f.recorded stream) (left : Trace (ℕ × A)) (bytes : List ℕ)
    (e : RecordsFault StreamFault) (c : Cause) → left ≡ records_of read f bytes
    → HasReason o.belongs.object stream.layout e → ToldBy e c (opening_of bytes) → Refuses files f c left
fails_told read files f stream o left bytes e c is reason (inl (g, fault, told)) =
    inl (reason_is files f stream o g c (reason g fault) told)
fails_told read files f stream o left bytes e c is reason (inr (w, err, told)) =
    inr (why_of w, is ∙ refused_opening read f bytes w err, told)

fails_left : {A : Type 0} (read : field.Row → Result A ℤ) (files : Objects) (f : Listed) (old : StreamValue)
    (e : RecordsFault StreamFault) (c : Cause) (o : IsOpened files f.path (opening_key f) f.recorded old)
    → SaysOpening files old (Err e) → HasReason o.belongs.object old.layout e → StandsForRecords e (trouble.Cause c)
    → (plain : Plaintexts) → Allows (shown_in files f) (plain f)
    → Refuses files f c (read_plain (records_of read) f (plain f))
fails_left read files f old e c o says reason stands plain allows =
    let a = allowed files f plain old o allows in
    let gives = (says (read_content o.belongs.object old.layout) (content_is files old o.belongs) a.bytes a.fills).gives in
    fails_told read files f old o (read_plain (records_of read) f (plain f)) a.bytes e c
    (ap (read_plain (records_of read) f) a.is) reason (told_by e c (opening_of a.bytes) stands gives)

pub begins_err : (files : Objects) (f : Listed) (old : StreamValue) (e : RecordsFault StreamFault) (t : Trouble)
    (o : IsOpened files f.path (opening_key f) f.recorded old)
    → SaysOpening files old (Err e) → HasReason o.belongs.object old.layout e → StandsForRecords e t
    → OpensFile files f (Err t)
begins_err files f old e (trouble.Cause c) o says reason stands = record {
  rows = fails_left list_row files f old e c o says reason stands;
  entries = fails_left entry_of files f old e c o says reason stands;
}
begins_err files f old e trouble.Store o says reason stands = tt
begins_err files f old e trouble.NoMemory o says reason stands = tt

pub begins_err_listed : (files : Objects) (path : List ℕ) (meta : KeyRecord) (recorded : ℕ) (old : StreamValue) (e : RecordsFault StreamFault) (t : Trouble)
    (o : IsOpened files path meta recorded old)
    → SaysOpening files old (Err e) → HasReason o.belongs.object old.layout e → StandsForRecords e t
    → OpensFile files (listed path meta recorded) (Err t)
unfolding opened_as_listed
begins_err_listed files path meta recorded old e t o says reason stands =
    begins_err files (listed path meta recorded) old e t (opened_as_listed files path meta recorded old o) says reason stands

pub refusal_told : (o : Result Layout StreamFault) (g : StreamFault) (c : Cause) → IsRefusal o g → stream_cause g ≡ Some c → o ≡ Err g
refusal_told o stream.Store c h told = absurd (let x : ⊥ = cc in x)
refusal_told o stream.NoMemory c h told = absurd (let x : ⊥ = cc in x)
refusal_told o (stream.Block n) c h told = h
refusal_told o (stream.BadLength n) c h told = h
refusal_told o stream.Missing c h told = h
refusal_told o (stream.Short n) c h told = h
refusal_told o (stream.Magic n) c h told = h
refusal_told o (stream.BlockLength n) c h told = h

-- a stream that isn't opened
pub fails_unopened : (files : Objects) (path : List ℕ) (meta : KeyRecord) (recorded : ℕ) (e : StreamFault) (t : Trouble)
    → Opens files path meta recorded (Err e) → StandsFor e t
    → OpensFile files (listed path meta recorded) (Err t)
fails_unopened files path meta recorded e (trouble.Cause c) h stands =
    let unshown : IsUnshown files (listed path meta recorded) c = record {
      fault = e;
      refused = inl (refused_as_listed files path meta recorded e (refusal_told (opening.opening_of files path meta recorded) e c h stands));
      told = stands;
    } in
    record { rows = λ plain allows. inl unshown; entries = λ plain allows. inl unshown }
fails_unopened files path meta recorded e trouble.Store h stands = tt
fails_unopened files path meta recorded e trouble.NoMemory h stands = tt

-- ---- from the calls' own words

pub next_found : {A : Type 0} (read : field.Row → Result A ℤ) (files : Objects) (f : Listed) (old new : OpenFile) (found : Option A)
    → FitsOpen files f old.stream old.records → StaysStream files old.stream new.stream
    → SaysNext read files old.stream old.records new.records (Ok found)
    → ReadsNext read files f old new (Ok found)
next_found read files f old new None fits stays says = next_none read files f old new fits says
next_found read files f old new (Some x) fits stays says = next_some read files f old new x fits stays says

pub if_held : {A : Type 0} (o : Option A) (a : A) (Q : A → Type 0) → o ≡ Some a → IfSome o Q → Q a
if_held None a Q e h = absurd (let g : ⊥ = cc in g)
if_held (Some b) a Q e h = let same : b ≡ a = cc in subst Q same h

pub stays_by : {Self : Type 0} (of : store.Ghosts Self) (files : Objects) (old new : StreamValue) (x y : Self) → of.held x ≡ Some files
    → KeepsBoth of old new x y → StaysStream files old new
stays_by of files old new x y told keeps = record {
  same_path = keeps.same_path;
  same_layout = keeps.same_layout;
  belongs = if_held (of.held x) files (λ g. BelongsTo old g → BelongsTo new g) told keeps.belongs;
}

-- the fault of the reader that a call answered is blamed
pub blamed_on : {R : Type 0} (calm : R → R → Type 0) (blames : R → R → StreamFault → Type 0) (a b : R) (o : Option StreamFault) (g : StreamFault)
    → IsBlamed calm blames o a b → o ≡ Some g → blames a b g
blamed_on calm blames a b None g h e = absurd (let x : ⊥ = cc in x)
blamed_on calm blames a b (Some f) g h e = let same : f ≡ g = cc in subst (blames a b) same h

pub reason_told : (held : Option Objects) (files : Objects) (stream : StreamValue) (belongs : BelongsTo stream files) (g : StreamFault)
    → held ≡ Some files → IfSome held (λ fs. (b : BelongsTo stream fs) → IsReason b.object stream.layout g)
    → IsReason belongs.object stream.layout g
reason_told held files stream belongs g told h =
    if_held held files (λ fs. (b : BelongsTo stream fs) → IsReason b.object stream.layout g) told h belongs

pub counted_by : {R : Type 0} (calm : R → R → Type 0) (blames : R → R → StreamFault → Type 0) (a b : R) (o : Option StreamFault) (m n : ℕ)
    → IsBlamed calm blames o a b → (calm a b → n ≡ m) → ((g : StreamFault) → blames a b g → Blames (g ≡ stream.Store) m n) → CountBy m n o
counted_by calm blames a b None m n h rest by = rest h
counted_by calm blames a b (Some g) m n h rest by = by g h

told_both : {A : Type 0} (one two : Option A) (P Q R : Type 0) → two ≡ one → (P → Q → R) → IfSome one (λ _. P) → IfSome two (λ _. Q) → IfSome one (λ _. R)
told_both None two P Q R same join p q = tt
told_both (Some a) two P Q R same join p q = join p (rw same at q)

counts_then : (path other : List ℕ) (n : ℕ) (a b c : List ℕ → ℕ) → other ≡ path → CountsOnly path n a b → CountsAt other b c → CountsAt path a c
counts_then path other n a b c same one two =
    let q : CountsAt path b c = subst (λ p. CountsAt p b c) same two in
    record {
      others = λ p ne. q.others p ne ∙ one.others p ne;
      later = omega (arith, one.later, q.later);
    }

-- an opening, and then reads of the stream
pub opens_then : {Self : Type 0} (of : store.Ghosts Self) (path : List ℕ) (calls bytes : ℕ) (none failed : Type 0) (old new : StreamValue) (x y z w : Self)
    → w ≡ z → (of.keeps x y → of.keeps y z → of.keeps x z) → (none → ⊥) → old.path ≡ path → ReadsPath of path calls bytes none x y
    → KeepsBoth of old new y z → Blames failed (of.faults y) (of.faults z) → ReadsFile of path failed x w
opens_then {Self} of path calls bytes none failed old new x y z w end keeps no_fault same first second count = subst (λ (v : Self). ReadsFile of path failed x v) (sym end) (record {
  same = second.same_held ∙ first.same;
  count = subst (λ n. Blames failed n (of.faults z)) (first.count.stays no_fault) count;
  asks = told_both (of.held x) (of.held y) _ _ _ first.same (counts_then path old.path calls (of.asked x) (of.asked y) (of.asked z) same) first.asks second.asks;
  moves = told_both (of.held x) (of.held y) _ _ _ first.same (counts_then path old.path bytes (of.moved x) (of.moved y) (of.moved z) same) first.moves second.moves;
  kept = keeps first.kept second.kept;
})

-- the same record
pub found_is : {A : Type 0} (read : field.Row → Result A ℤ) (files : Objects) (f : Listed) (old new : OpenFile) (found other : Option A) → found ≡ other
    → ReadsNext read files f old new (Ok found) → ReadsNext read files f old new (Ok other)
found_is {A} read files f old new found other is h = subst (λ (o : Option A). ReadsNext read files f old new (Ok o)) is h
