-- One data file, by what its stream and its rows answer.
use Rattle.std.specs.Prelude.{◌≡◌, ◌⊎◌, ℕ, false, List, [], Option, Some, None, IfSome, Result, Ok, Err}
use Rattle.std.proofs.Common.{refl, ap, sym, subst, ◌∙◌, inl, inr}
use Rattle.icb_base.specs.Causes.{Blames}
use Rattle.icb_base.specs.Contents.{FillsKnown}
use Rattle.icb_base.specs.KeyMetadata.{KeyRecord}
use Rattle.icb_base.specs.Objects.{Objects}
use Rattle.icb_base.specs.declared.transfer.Sink as sink
use Rattle.icb_container.specs.Wrong as wrong
use Rattle.icb_container.specs.declared.fault.ContainerFault.TheVariants as container
use Rattle.icb_datafile.proofs.WholeLemmas.{prints_none, writes_as}
use Rattle.icb_datafile.specs.Left.{EndsSo, HasLeftOut, all_of, refusal_of}
use Rattle.icb_datafile.specs.Plans.{IsPlanOf, asks_none, selection_by}
use Rattle.icb_datafile.specs.Whole.{Prints}
use Rattle.icb_datafile.specs.Whole as whole_file
use Rattle.icb_datafile.specs.declared.fault.RowsFault.{RowsFault}
use Rattle.icb_datafile.specs.declared.fault.RowsFault.TheVariants as rows
use Rattle.icb_datafile.specs.declared.plan.Plan.{Plan}
use Rattle.icb_reader.specs.Answers.{reader_fault_of}
use Rattle.icb_reader.specs.Records.{Refusal}
use Rattle.icb_reader.specs.Records as refusal
use Rattle.icb_reader.specs.declared.fault.RecordsFault.{RecordsFault}
use Rattle.icb_reader.specs.declared.fault.RecordsFault.TheVariants as records
use Rattle.icb_rows.specs.Records.{Row}
use Rattle.icb_stream.specs.Attached.{IsContent, IsReason, read_content}
use Rattle.icb_stream.specs.Belongs.{StreamValue}
use Rattle.icb_stream.specs.Opening as opening
use Rattle.icb_stream.specs.Reading.{IsOpened, Opens}
use Rattle.icb_stream.specs.declared.fault.StreamFault.{StreamFault}
use Rattle.icb_stream.specs.declared.fault.StreamFault.TheVariants as stream
use Rattle.icb_table.specs.Contents.{Plaintexts, contents_of, opening_key, read_plain}
use Rattle.icb_table.specs.Known.{Allows, shown_in}
use Rattle.icb_table.specs.Listed.{Listed, listed}
use Rattle.icb_table.specs.Rows.{rows_of}
use Rattle.icb_table.specs.Steps.{why_of}
use Rattle.icb_table.specs.Trace.{Trace}
use Rattle.icb_types.specs.declared.columns.Column.{Column}
use Rattle.icb_walk.proofs.CauseLemmas.{CountBy, blames_as, blames_none}
use Rattle.icb_walk.proofs.OpenLemmas.{allowed, content_is, reason_is, refusal_told, refused_as_listed}
use Rattle.icb_walk.specs.Causes.{IsOfRecords, IsOfStream, cause_of, records_told, stream_cause}
use Rattle.icb_walk.specs.Fits.{IsUnshown}
use Rattle.icb_walk.specs.declared.fault.Cause.{Cause}
use Rattle.icb_walk.specs.declared.fault.TreeFault.{TreeFault}
use Rattle.icb_walk.specs.declared.fault.TreeFault.TheVariants as tree
use Rattle.icb_scan.specs.Leaves.{IsPrinted, IsStore, PrintsFile, StopsRows}
use Rattle.icb_scan.specs.Start.{of_tree}
use Rattle.icb_scan.specs.declared.fault.ScanFault.{ScanFault}
use Rattle.icb_scan.specs.declared.fault.ScanFault.TheVariants as fault

-- ---- refusals

-- why a file is refused
abbrev pub Refused : Objects → Listed → Trace Row → List Row → Cause → Type 0
Refused files f rs left c = IsUnshown files f c ⊎ StopsRows f rs left c

-- a refusal that is told of a file, by its stream's
pub told_stream : (files : Objects) (f : Listed) (rs : Trace Row) (left : List Row) (q : Plan) (inner : StreamFault) (e : TreeFault) → asks_none q.most ≡ false → IsOfStream f.path inner e
    → ((c : Cause) → stream_cause inner ≡ Some c → Refused files f rs left c) → IsPrinted files f rs left q (Err (of_tree e))
told_stream files f rs left q inner (tree.At path c) asked is h = (is.0, asked, h c is.1)
told_stream files f rs left q inner tree.Store asked is h = tt
told_stream files f rs left q inner tree.NoMemory asked is h = tt
told_stream files f rs left q inner (tree.NoSnapshot id) asked is h = absurd is
told_stream files f rs left q inner (tree.PlainList id) asked is h = absurd is
told_stream files f rs left q inner (tree.Chain e) asked is h = absurd is
told_stream files f rs left q inner (tree.BadList id file what) asked is h = absurd is

-- by that of its records
pub told_records : (files : Objects) (f : Listed) (rs : Trace Row) (left : List Row) (q : Plan) (inner : RecordsFault StreamFault) (e : TreeFault) → asks_none q.most ≡ false → IsOfRecords f.path inner e
    → ((c : Cause) → records_told inner ≡ Some c → Refused files f rs left c) → IsPrinted files f rs left q (Err (of_tree e))
told_records files f rs left q inner (tree.At path c) asked is h = (is.0, asked, h c is.1)
told_records files f rs left q inner tree.Store asked is h = tt
told_records files f rs left q inner tree.NoMemory asked is h = tt
told_records files f rs left q inner (tree.NoSnapshot id) asked is h = absurd is
told_records files f rs left q inner (tree.PlainList id) asked is h = absurd is
told_records files f rs left q inner (tree.Chain e) asked is h = absurd is
told_records files f rs left q inner (tree.BadList id file what) asked is h = absurd is

-- a cause is told of a fault of the reader, or of a refusal of the rows
abbrev ToldOf : RecordsFault StreamFault → Cause → Type 0
ToldOf e c = ((g : StreamFault) × (reader_fault_of e ≡ Some g) × (stream_cause g ≡ Some c))
    ⊎ ((w : Refusal) × (refusal_of e ≡ Some w) × (cause_of (why_of w) ≡ Some c))

told_rows : (e : RecordsFault StreamFault) (c : Cause) → records_told e ≡ Some c → ToldOf e c
told_rows (records.Container (container.Reader f)) c h = inl (f, refl, h)
told_rows (records.Container container.NotAvro) c h = inr (refusal.container wrong.not_avro, refl, h)
told_rows (records.Container (container.Avro f)) c h = inr (refusal.container (wrong.avro f.place f.cause), refl, h)
told_rows (records.Container (container.Large what place size)) c h = inr (refusal.container (wrong.large what place size), refl, h)
told_rows (records.Container (container.Codec name)) c h = inr (refusal.container (wrong.codec name), refl, h)
told_rows (records.Container (container.Schema s)) c h = inr (refusal.container (wrong.schema s), refl, h)
told_rows (records.Container (container.Sync block)) c h = inr (refusal.container (wrong.sync block), refl, h)
told_rows (records.Container container.NoMemory) c h = absurd (let x : ⊥ = cc in x)
told_rows (records.Field place id) c h = inr (refusal.field place id, refl, h)
told_rows records.NoMemory c h = absurd (let x : ⊥ = cc in x)

-- what ends the rows for a refusal
ended_by : (f : Listed) (rs : Trace Row) (left : List Row) (o : Option Refusal) (w : Refusal) (c : Cause) → o ≡ Some w → cause_of (why_of w) ≡ Some c
    → IfSome o (λ r. left ≡ []) → IfSome o (λ r. rs.stop ≡ Some (record { file = f; why = why_of r })) → StopsRows f rs left c
ended_by f rs left None w c e told none stop = absurd (let x : ⊥ = cc in x)
ended_by f rs left (Some r) w c e told none stop =
    let same : r ≡ w = cc in
    record { why = why_of r; stops = stop; told = ap (λ (v : Refusal). cause_of (why_of v)) same ∙ told; none_left = none }

rows_refused : (files : Objects) (f : Listed) (s : StreamValue) (o : IsOpened files f.path (opening_key f) f.recorded s) (rs : Trace Row) (left : List Row) (e : RecordsFault StreamFault) (c : Cause)
    → EndsSo f rs left e → ((g : StreamFault) → reader_fault_of e ≡ Some g → IsReason o.belongs.object s.layout g) → ToldOf e c → Refused files f rs left c
rows_refused files f s o rs left e c ends reason (inl (g, is, told)) = inl (reason_is files f s o g c (reason g is) told)
rows_refused files f s o rs left e c ends reason (inr (w, is, told)) = inr (ended_by f rs left (refusal_of e) w c is told ends.none_left ends.why_ended)

-- ---- printing

pub prints_as : {Self A B : Type 0} (of : sink.Ghosts Self) (columns : List Column) (p q : Plan) (rs left : List Row) (x y : Self) → (A → B) → (B → A)
    → Prints of A columns p q rs left x y → Prints of B columns p q rs left x y
prints_as of columns p q rs left x y to from h = record {
  passed = h.passed;
  first = h.first;
  counts = h.counts;
  counted = h.counted;
  writes = writes_as of _ x y to from h.writes;
}

tree_is_no_sink : {A : Type 0} (e : TreeFault) → (let r : Result A ScanFault = Err (of_tree e) in r) ≡ Err fault.Sink → ⊥
tree_is_no_sink {A} (tree.At path c) e = cc
tree_is_no_sink {A} tree.Store e = cc
tree_is_no_sink {A} tree.NoMemory e = cc
tree_is_no_sink {A} (tree.NoSnapshot id) e = cc
tree_is_no_sink {A} (tree.PlainList id) e = cc
tree_is_no_sink {A} (tree.Chain inner) e = cc
tree_is_no_sink {A} (tree.BadList id file what) e = cc

-- a file that isn't opened
pub leaf_unopened : {Self : Type 0} (of : sink.Ghosts Self) (files : Objects) (path : List ℕ) (meta : KeyRecord) (recorded : ℕ) (columns : List Column) (p : Plan) (x : Self) (g : StreamFault) (e : TreeFault) (r : ScanFault)
    → asks_none p.most ≡ false → r ≡ of_tree e → Opens files path meta recorded (Err g) → IsOfStream path g e
    → PrintsFile of files (listed path meta recorded) columns p p x x (Err r)
leaf_unopened of files path meta recorded columns p x g e r asked same opens told = subst (λ (d : ScanFault). PrintsFile of files (listed path meta recorded) columns p p x x (Err d)) (sym same) (λ plain allows is_plan has.
    let f : Listed = listed path meta recorded in
    let rs : Trace Row = (contents_of (all_of columns) plain).data_rows f in
    record {
      left = rs.items;
      prints = prints_as of columns p p rs.items rs.items x x (λ never. absurd never) (tree_is_no_sink e) (prints_none of columns p rs.items x);
      answer = told_stream files f rs rs.items p g e asked told (λ c stands. inl (record {
        fault = g;
        refused = inl (refused_as_listed files path meta recorded g (refusal_told (opening.opening_of files path meta recorded) g c opens stands));
        told = stands;
      }));
    })

-- what printing says, over each file that fills what is known
abbrev pub SaysRows : {Self : Type 0} → sink.Ghosts Self → Objects → StreamValue → Result (Unit {0}) (RowsFault StreamFault) → List Column → Plan → Plan → Self → Self → Type 0
SaysRows of files stream result columns p q x y = (known : List (Option ℕ)) → IsContent stream (Some files) known
    → (file : List ℕ) → FillsKnown known file → whole_file.PrintsFile of result columns p q x y known file

-- what it says of a file that is open
module _ {Self : Type 0} (of : sink.Ghosts Self) (files : Objects) (f : Listed) (stream : StreamValue) (o : IsOpened files f.path (opening_key f) f.recorded stream)
    (columns : List Column) (p q : Plan) (x y : Self) (plain : Plaintexts) (allows : Allows (shown_in files f) (plain f)) (is_plan : IsPlanOf columns p)
    (has : HasLeftOut (selection_by columns p) ((contents_of (all_of columns) plain).data_rows f)) where
  pub says : (result : Result (Unit {0}) (RowsFault StreamFault)) → SaysRows of files stream result columns p q x y
      → whole_file.PrintsRows of result columns f p q ((contents_of (all_of columns) plain).data_rows f) x y
  says result h =
      let a = allowed files f plain stream o allows in
      let rows_are : (contents_of (all_of columns) plain).data_rows f ≡ rows_of (all_of columns) f a.bytes = ap (read_plain (rows_of (all_of columns)) f) a.is in
      subst (λ (rs : Trace Row). whole_file.PrintsRows of result columns f p q rs x y) (sym rows_are)
      (h (read_content o.belongs.object stream.layout) (content_is files stream o.belongs) a.bytes a.fills f is_plan
      (subst (HasLeftOut (selection_by columns p)) rows_are has))

-- all rows that are asked for are printed
pub leaf_printed : {Self : Type 0} (of : sink.Ghosts Self) (files : Objects) (f : Listed) (stream : StreamValue) (o : IsOpened files f.path (opening_key f) f.recorded stream)
    (columns : List Column) (p q : Plan) (x y : Self) → SaysRows of files stream (Ok tt) columns p q x y → PrintsFile of files f columns p q x y (Ok tt)
leaf_printed of files f stream o columns p q x y h plain allows is_plan has =
    let d = says of files f stream o columns p q x y plain allows is_plan has (Ok tt) h in
    record {
      left = d.0;
      prints = prints_as of columns p q _ d.0 x y (λ never. absurd never) (λ e. let never : ⊥ = cc in never) d.1;
      answer = d.2;
    }

-- the sink failed
pub leaf_unwritten : {Self : Type 0} (of : sink.Ghosts Self) (files : Objects) (f : Listed) (stream : StreamValue) (o : IsOpened files f.path (opening_key f) f.recorded stream)
    (columns : List Column) (p q : Plan) (x y : Self) → SaysRows of files stream (Err rows.Sink) columns p q x y → PrintsFile of files f columns p q x y (Err fault.Sink)
leaf_unwritten of files f stream o columns p q x y h plain allows is_plan has =
    let d = says of files f stream o columns p q x y plain allows is_plan has (Err rows.Sink) h in
    record { left = d.0; prints = prints_as of columns p q _ d.0 x y (λ _. refl) (λ _. tt) d.1; answer = tt }

-- the file is refused
pub leaf_stopped : {Self : Type 0} (of : sink.Ghosts Self) (files : Objects) (f : Listed) (stream : StreamValue) (o : IsOpened files f.path (opening_key f) f.recorded stream)
    (columns : List Column) (p q : Plan) (x y : Self) (inner : RecordsFault StreamFault) (e : TreeFault) (r : ScanFault) → r ≡ of_tree e → SaysRows of files stream (Err (rows.File inner)) columns p q x y
    → ((g : StreamFault) → reader_fault_of inner ≡ Some g → IsReason o.belongs.object stream.layout g) → IsOfRecords f.path inner e
    → PrintsFile of files f columns p q x y (Err r)
leaf_stopped of files f stream o columns p q x y inner e r same h reason told = subst (λ (d : ScanFault). PrintsFile of files f columns p q x y (Err d)) (sym same) (λ plain allows is_plan has.
    let d = says of files f stream o columns p q x y plain allows is_plan has (Err (rows.File inner)) h in
    let rs : Trace Row = (contents_of (all_of columns) plain).data_rows f in
    record {
      left = d.0;
      prints = prints_as of columns p q rs.items d.0 x y (λ never. absurd never) (tree_is_no_sink e) d.1;
      answer = told_records files f rs d.0 q inner e d.3 told (λ c stands. rows_refused files f stream o rs d.0 inner c d.2 reason (told_rows inner c stands));
    })

-- ---- faults of the store

store_is : (e : TreeFault) → of_tree e ≡ fault.Tree tree.Store → e ≡ tree.Store
store_is (tree.At path c) h = absurd (let x : ⊥ = cc in x)
store_is tree.Store h = refl
store_is tree.NoMemory h = absurd (let x : ⊥ = cc in x)
store_is (tree.NoSnapshot id) h = absurd (let x : ⊥ = cc in x)
store_is (tree.PlainList id) h = absurd (let x : ⊥ = cc in x)
store_is (tree.Chain inner) h = absurd (let x : ⊥ = cc in x)
store_is (tree.BadList id file what) h = absurd (let x : ⊥ = cc in x)

stream_store : (path : List ℕ) (g : StreamFault) (e : TreeFault) → IsOfStream path g e → g ≡ stream.Store → e ≡ tree.Store
stream_store path g (tree.At at c) told h = absurd (let d : stream_cause stream.Store ≡ Some c = ap stream_cause (sym h) ∙ told.1 in let x : ⊥ = cc in x)
stream_store path g tree.Store told h = refl
stream_store path g tree.NoMemory told h = absurd (told h)
stream_store path g (tree.NoSnapshot id) told h = absurd told
stream_store path g (tree.PlainList id) told h = absurd told
stream_store path g (tree.Chain inner) told h = absurd told
stream_store path g (tree.BadList id file what) told h = absurd told

store_stream : (path : List ℕ) (g : StreamFault) (e : TreeFault) → IsOfStream path g e → e ≡ tree.Store → g ≡ stream.Store
store_stream path g e told h = subst (IsOfStream path g) h told

told_store : (inner : RecordsFault StreamFault) (c : Cause) → records_told inner ≡ Some c → reader_fault_of inner ≡ Some stream.Store → ⊥
told_store (records.Container (container.Reader f)) c h e = let same : f ≡ stream.Store = cc in let d : stream_cause stream.Store ≡ Some c = ap stream_cause (sym same) ∙ h in let x : ⊥ = cc in x
told_store (records.Container container.NotAvro) c h e = let x : ⊥ = cc in x
told_store (records.Container (container.Avro f)) c h e = let x : ⊥ = cc in x
told_store (records.Container (container.Large what place size)) c h e = let x : ⊥ = cc in x
told_store (records.Container (container.Codec name)) c h e = let x : ⊥ = cc in x
told_store (records.Container (container.Schema s)) c h e = let x : ⊥ = cc in x
told_store (records.Container (container.Sync block)) c h e = let x : ⊥ = cc in x
told_store (records.Container container.NoMemory) c h e = let x : ⊥ = cc in x
told_store (records.Field place id) c h e = let x : ⊥ = cc in x
told_store records.NoMemory c h e = let x : ⊥ = cc in x

records_store : (path : List ℕ) (inner : RecordsFault StreamFault) (e : TreeFault) → IsOfRecords path inner e → reader_fault_of inner ≡ Some stream.Store → e ≡ tree.Store
records_store path inner (tree.At at c) told h = absurd (told_store inner c told.1 h)
records_store path inner tree.Store told h = refl
records_store path inner tree.NoMemory told h = absurd (told h)
records_store path inner (tree.NoSnapshot id) told h = absurd told
records_store path inner (tree.PlainList id) told h = absurd told
records_store path inner (tree.Chain e) told h = absurd told
records_store path inner (tree.BadList id file what) told h = absurd told

scan_to : (r : ScanFault) (e : TreeFault) → r ≡ of_tree e → e ≡ tree.Store → IsStore (let a : Result (Unit {0}) ScanFault = Err r in a)
scan_to r e same is = ap (λ (d : ScanFault). (let a : Result (Unit {0}) ScanFault = Err d in a)) (same ∙ ap of_tree is)

scan_from : (r : ScanFault) (e : TreeFault) → r ≡ of_tree e → IsStore (let a : Result (Unit {0}) ScanFault = Err r in a) → e ≡ tree.Store
scan_from r e same h = store_is e (sym same ∙ the_fault r (fault.Tree tree.Store) h)
  where
    the_fault : (a b : ScanFault) → (let x : Result (Unit {0}) ScanFault = Err a in x) ≡ Err b → a ≡ b
    the_fault a b e = cc

-- the store failed exactly where the stream says so
pub unopened_store : {A : Type 0} (path : List ℕ) (g : StreamFault) (e : TreeFault) (r : ScanFault) (m n : ℕ) → r ≡ of_tree e → IsOfStream path g e
    → Blames ((let a : Result A StreamFault = Err g in a) ≡ Err stream.Store) m n → Blames (IsStore (let a : Result (Unit {0}) ScanFault = Err r in a)) m n
unopened_store {A} path g e r m n same told b = blames_as _ _ m n
    (λ h. scan_to r e same (stream_store path g e told (the_fault g stream.Store h)))
    (λ h. ap (λ (d : StreamFault). (let a : Result A StreamFault = Err d in a)) (store_stream path g e told (scan_from r e same h))) b
  where
    the_fault : (a b : StreamFault) → (let x : Result A StreamFault = Err a in x) ≡ Err b → a ≡ b
    the_fault a b e = cc

-- or the reader
pub stopped_store : (path : List ℕ) (inner : RecordsFault StreamFault) (e : TreeFault) (r : ScanFault) (m n : ℕ) → r ≡ of_tree e → IsOfRecords path inner e
    → CountBy m n (reader_fault_of inner) → Blames (IsStore (let a : Result (Unit {0}) ScanFault = Err r in a)) m n
stopped_store path inner e r m n same told count = by_fault (reader_fault_of inner) refl count
  where
    by_fault : (o : Option StreamFault) → reader_fault_of inner ≡ o → CountBy m n o → Blames (IsStore (let a : Result (Unit {0}) ScanFault = Err r in a)) m n
    by_fault None is b = blames_none _ m n (λ h. let d : reader_fault_of inner ≡ Some stream.Store = subst (IsOfRecords path inner) (scan_from r e same h) told in let x : ⊥ = cc in x) b
    by_fault (Some f) is b = blames_as _ _ m n (λ h. scan_to r e same (records_store path inner e told (is ∙ ap Some h)))
        (λ h. the_one f stream.Store (sym is ∙ subst (IsOfRecords path inner) (scan_from r e same h) told)) b
      where
        the_one : (a b : StreamFault) → Some a ≡ Some b → a ≡ b
        the_one a b e = cc
