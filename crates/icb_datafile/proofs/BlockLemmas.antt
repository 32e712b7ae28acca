-- The rows of a block, one by one, and those of the blocks behind it.
use Rattle.std.proofs.Common.{◌≡◌, ℕ, suc, ◌+◌, ◌-◌, ◌≤◌, Bool, true, false, List, [], ◌∷◌, ◌++◌, length, Option, Some, None, Result, Ok, Err, refl, sym, ap, ◌∙◌, subst, arith, inl, inr, append-nil}
use Rattle.std.specs.Prelude.{◌⊎◌, IfSome}
use Rattle.icb_schema.specs.Tree.{Fields, Tree}
use Rattle.icb_avro.specs.Cursor.{Input, Reads, unread}
use Rattle.icb_avro.specs.Reading.{Read}
use Rattle.icb_avro.specs.declared.fault.AvroFault.{AvroFault}
use Rattle.icb_avro.specs.declared.fault.Refusal as avro
use Rattle.icb_avro.specs.declared.value.Value.{Value}
use Rattle.icb_container.specs.Answers.{IsPart, Refuses}
use Rattle.icb_container.specs.Blocks.{Part, State, Step, next_of}
use Rattle.icb_container.specs.Opened.{state_of}
use Rattle.icb_container.specs.Wrong as wrong
use Rattle.icb_container.specs.Wrong.{Wrong}
use Rattle.icb_container.specs.declared.block.Block.{Block}
use Rattle.icb_container.specs.declared.fault.ContainerFault.{ContainerFault}
use Rattle.icb_container.specs.declared.fault.ContainerFault.TheVariants as inner
use Rattle.icb_types.specs.declared.columns.Column.{Column}
use Rattle.icb_reader.specs.Answers.{of_container}
use Rattle.icb_reader.specs.Records as refusal
use Rattle.icb_reader.specs.Records.{Refusal}
use Rattle.icb_reader.specs.declared.fault.RecordsFault.{RecordsFault}
use Rattle.icb_rows.specs.Records.{Row, file_fields, row_by_ids}
use Rattle.icb_rows.specs.Views.{Passed, passed_of, record_at, taken_at}
use Rattle.icb_table.specs.Listed.{Listed}
use Rattle.icb_table.specs.Records as records
use Rattle.icb_table.specs.Records.{blocks_from}
use Rattle.icb_table.specs.Rows.{rows_in, rows_to}
use Rattle.icb_table.specs.Steps.{why_of}
use Rattle.icb_table.specs.Trace as trace
use Rattle.icb_table.specs.Trace.{Stop, Trace, each_in, one, stopped, then_read, through, whole}
use Rattle.icb_table.specs.Why as why
use Rattle.icb_table.proofs.PassingLemmas.{next_passes}
use Rattle.icb_table.proofs.StepLemmas.{through_one}
use Rattle.icb_datafile.specs.declared.data_file.DataFile.{DataFile}
use Rattle.icb_datafile.specs.declared.plan.Plan.{Plan}
use Rattle.icb_datafile.specs.Answers.{Blocks, StopsAt}
use Rattle.icb_datafile.specs.Left.{Stands, all_of, left_of, refusal_of, rows_left}
use Rattle.icb_datafile.specs.Plans.{KeepsWords, Passes, StaysPut, asks_none}
use Rattle.icb_datafile.proofs.ChoosingLemmas.{none_passed, passes_before, passes_more}

-- ---- one record

-- a record was taken
pub record Taken (ps : List Passed) (old new : Input) : Type 0 where
  pub values : List Value
  pub is : record_at ps (unread old) ≡ Ok (values, unread new)
  pub same : new.whole ≡ old.whole

pub is_taken : (ps : List Passed) (view : List ℕ) (old new : Input) → Reads {Y = List ℕ} (λ (v : List ℕ). v) (Ok view) old new (taken_at ps (unread old)) → Taken ps old new
is_taken ps view old new h = by_read (record_at ps (unread old)) refl h
  where
    by_read : (r : Read (List Value)) → record_at ps (unread old) ≡ r
        → Reads {Y = List ℕ} (λ (v : List ℕ). v) (Ok view) old new (taken_at ps (unread old)) → Taken ps old new
    by_read (Ok (vs, rest)) e h =
        let g = rw e at h in
        record { values = vs; is = e ∙ ap (λ (more : List ℕ). Ok (vs, more)) (sym g.3); same = g.1 }
    by_read (Err r) e h = absurd (let g = rw e at h in g)

-- a record was refused
pub record NotTaken (ps : List Passed) (fault : AvroFault) (old : Input) : Type 0 where
  pub refused : avro.Refusal
  pub is : record_at ps (unread old) ≡ Err refused
  pub same_cause : fault.cause ≡ refused.cause
  pub place : fault.place + refused.left ≡ length old.whole

pub is_not_taken : (ps : List Passed) (fault : AvroFault) (old new : Input) → Reads {X = List ℕ} {Y = List ℕ} (λ v. v) (Err fault) old new (taken_at ps (unread old)) → NotTaken ps fault old
is_not_taken ps fault old new h = by_read (record_at ps (unread old)) refl h
  where
    by_read : (r : Read (List Value)) → record_at ps (unread old) ≡ r
        → Reads {X = List ℕ} {Y = List ℕ} (λ v. v) (Err fault) old new (taken_at ps (unread old)) → NotTaken ps fault old
    by_read (Ok x) e h = absurd (let g = rw e at h in g)
    by_read (Err r) e h =
        let g = rw e at h in
        record { refused = r; is = e; same_cause = g.0; place = g.1 }

-- ---- the rows of a block

abbrev pub rows_at : List Column → Listed → Fields → ℕ → ℕ → List ℕ → Trace Row
rows_at columns f fs end n bytes = rows_to f (all_of columns) fs end n bytes

pub next_row : (columns : List Column) (f : Listed) (fs : Fields) (end n : ℕ) (bytes rest : List ℕ) (vs : List Value)
    → record_at (passed_of columns fs) bytes ≡ Ok (vs, rest)
    → rows_at columns f fs end (suc n) bytes ≡ then_read (one (row_by_ids columns fs vs)) (rows_at columns f fs end n rest)
unfolding rows_to
next_row columns f fs end n bytes rest vs e = rw e refl

pub refused_row : (columns : List Column) (f : Listed) (fs : Fields) (end n : ℕ) (bytes : List ℕ) (r : avro.Refusal)
    → record_at (passed_of columns fs) bytes ≡ Err r
    → rows_at columns f fs end (suc n) bytes ≡ stopped f (why.no_container (wrong.avro (end - r.left) r.cause))
unfolding rows_to
refused_row columns f fs end n bytes r e = rw e refl

pub no_row : (columns : List Column) (f : Listed) (fs : Fields) (end n : ℕ) (bytes : List ℕ) → n ≡ 0 → rows_at columns f fs end n bytes ≡ whole []
unfolding rows_to
no_row columns f fs end n bytes e = rw e refl

-- rows of a block were passed, up to those that are left
pub record PassedRows (columns : List Column) (p q : Plan) (rows left : Trace Row) : Type 0 where
  pub passes : Passes columns p q rows.items left.items
  pub same_stop : left.stop ≡ rows.stop

-- no row was passed yet
pub rows_at_first : (columns : List Column) (f : Listed) (p : Plan) (rows left : Trace Row) → rows ≡ left → PassedRows columns p p rows left
rows_at_first columns f p rows left same = subst (λ (t : Trace Row). PassedRows columns p p rows t) same (record {
  passes = none_passed columns p p rows.items (record { same_columns = refl; same_range = refl })
      (record { same_skip = refl; same_most = refl; same_shown = refl; same_text = refl });
  same_stop = refl;
})

-- one row more
pub one_more : (columns : List Column) (p q r : Plan) (rows left rest : Trace Row) (row : Row) → KeepsWords p q → PassedRows columns p q rows left
    → left ≡ then_read (one row) rest → Passes columns q r (row ∷ []) [] → PassedRows columns p r rows rest
one_more columns p q r rows left rest row words done is passes =
    let before : Passes columns q r ((row ∷ []) ++ rest.items) ([] ++ rest.items) = passes_before columns q r (row ∷ []) [] rest.items passes in
    let items : left.items ≡ row ∷ rest.items = ap (λ (t : Trace Row). t.items) is in
    let stop : left.stop ≡ rest.stop = ap (λ (t : Trace Row). t.stop) is in
    record {
      passes = passes_more columns p q r rows.items (row ∷ rest.items) rest.items words (subst (Passes columns p q rows.items) items done.passes) before;
      same_stop = sym stop ∙ done.same_stop;
    }

-- where no memory was left
pub stopped_anywhere : {F : Type 0} (columns : List Column) (f : Listed) (p q r : Plan) (rows left : Trace Row) (e : RecordsFault F) → refusal_of e ≡ None → KeepsWords p q → KeepsWords q r → StaysPut q r
    → asks_none q.most ≡ false → PassedRows columns p q rows left → StopsAt columns f p r rows e
stopped_anywhere columns f p q r rows left e nothing words more put asked done = record {
  left = left.items;
  passes = passes_more columns p q r rows.items left.items left.items words done.passes (none_passed columns q r left.items more put);
  ends_so = record { none_left = rw nothing tt; why_ended = rw nothing tt };
  asked = ap asks_none put.same_most ∙ asked;
}

-- where a record is refused
pub stopped_there : {F : Type 0} (columns : List Column) (f : Listed) (p q : Plan) (rows left : Trace Row) (e : RecordsFault F) (r : Refusal) → refusal_of e ≡ Some r
    → asks_none q.most ≡ false → PassedRows columns p q rows left → left ≡ stopped f (why_of r) → StopsAt columns f p q rows e
stopped_there columns f p q rows left e r says asked done is =
    let items : left.items ≡ [] = ap (λ (t : Trace Row). t.items) is in
    let stop : left.stop ≡ Some (record { file = f; why = why_of r }) = ap (λ (t : Trace Row). t.stop) is in
    record {
      left = left.items;
      passes = done.passes;
      ends_so = record { none_left = rw says items; why_ended = rw says (sym done.same_stop ∙ stop) };
      asked = asked;
    }

-- what is said where a block isn't refused
abbrev pub PassesTo : List Column → Plan → Plan → Trace Row → Type 0
PassesTo columns p q rows = (left : List Row) × Passes columns p q rows.items left × ((asks_none q.most ≡ true) ⊎ ((left ≡ []) × (rows.stop ≡ None)))

-- as many rows were passed as are asked for
pub enough_passed : (columns : List Column) (p q : Plan) (rows left : Trace Row) → PassedRows columns p q rows left → asks_none q.most ≡ true → PassesTo columns p q rows
enough_passed columns p q rows left done none = (left.items, done.passes, inl none)

-- all rows were passed
pub all_passed : (columns : List Column) (p q : Plan) (rows left : Trace Row) → PassedRows columns p q rows left → left ≡ whole [] → PassesTo columns p q rows
all_passed columns p q rows left done is =
    let items : left.items ≡ [] = ap (λ (t : Trace Row). t.items) is in
    let stop : left.stop ≡ None = ap (λ (t : Trace Row). t.stop) is in
    ([], subst (Passes columns p q rows.items) items done.passes, inr (refl, sym done.same_stop ∙ stop))

-- ---- the blocks

-- what is read of a block, and what is left behind it
pub block_then : {A : Type 0} (R : Part → Trace A) (f : Listed) (s t : State) (file : List ℕ) (part : Part) → s.block ≤ length file
    → next_of s file ≡ Ok (Some part, t) → t.block ≡ suc s.block
    → through R (blocks_from f (suc (length file) - s.block) s file) ≡ then_read (R part) (through R (blocks_from f (suc (length file) - t.block) t file))
unfolding blocks_from
block_then R f s t file part within step next =
    let fuel : suc (length file) - s.block ≡ suc (length file - s.block) = omega (arith, within) in
    let less : length file - s.block ≡ suc (length file) - t.block = omega (arith, within, next) in
    ap (λ (k : ℕ). through R (blocks_from f k s file)) fuel
    ∙ ap (λ (o : Step Part). through R (records.then_blocks f (λ u. blocks_from f (length file - s.block) u file) o)) step
    ∙ through_one R part (blocks_from f (length file - s.block) t file)
    ∙ ap (λ (k : ℕ). then_read (R part) (through R (blocks_from f k t file))) less

-- there is no further block
pub blocks_end : {A : Type 0} (R : Part → Trace A) (f : Listed) (s t : State) (file : List ℕ) → s.block ≤ length file
    → next_of s file ≡ Ok (None, t) → through R (blocks_from f (suc (length file) - s.block) s file) ≡ whole []
unfolding blocks_from each_in
blocks_end R f s t file within step =
    let fuel : suc (length file) - s.block ≡ suc (length file - s.block) = omega (arith, within) in
    ap (λ (k : ℕ). through R (blocks_from f k s file)) fuel
    ∙ ap (λ (o : Step Part). through R (records.then_blocks f (λ u. blocks_from f (length file - s.block) u file) o)) step

-- the next block is refused
pub blocks_stop : {A : Type 0} (R : Part → Trace A) (f : Listed) (s : State) (file : List ℕ) (w : Wrong) → s.block ≤ length file
    → next_of s file ≡ Err w → through R (blocks_from f (suc (length file) - s.block) s file) ≡ stopped f (why.no_container w)
unfolding blocks_from each_in
blocks_stop R f s file w within step =
    let fuel : suc (length file) - s.block ≡ suc (length file - s.block) = omega (arith, within) in
    ap (λ (k : ℕ). through R (blocks_from f k s file)) fuel
    ∙ ap (λ (o : Step Part). through R (records.then_blocks f (λ u. blocks_from f (length file - s.block) u file) o)) step

-- what a fault says, where what the definition gives refuses so
pub said_of : {B F : Type 0} (e : ContainerFault F) (r : Result B Wrong) (P : Refusal → Type 0) → ((w : Wrong) → r ≡ Err w → P (refusal.container w)) → Refuses e r
    → IfSome (refusal_of (of_container e)) P
said_of (inner.Reader e) r P h g = tt
said_of inner.NotAvro r P h g = h wrong.not_avro g
said_of (inner.Avro f) r P h g = h (wrong.avro f.place f.cause) g
said_of (inner.Large what place size) r P h g = h (wrong.large what place size) g
said_of (inner.Codec name) r P h g = h (wrong.codec name) g
said_of (inner.Schema e) r P h g = h (wrong.schema e) g
said_of (inner.Sync block) r P h g = h (wrong.sync block) g
said_of inner.NoMemory r P h g = tt

-- a block that is refused, before any of its rows was passed
pub block_refused : {F : Type 0} (columns : List Column) (f : Listed) (p q : Plan) (s : State) (file : List ℕ) (e : ContainerFault F) → s.block ≤ length file
    → Refuses e (next_of s file) → KeepsWords p q → StaysPut p q → asks_none p.most ≡ false → StopsAt columns f p q (rows_left columns f s file) (of_container e)
unfolding rows_left
block_refused columns f p q s file e within h words put asked = record {
  left = (rows_left columns f s file).items;
  passes = none_passed columns p q (rows_left columns f s file).items words put;
  ends_so = record {
    none_left = said_of e (next_of s file) _ (λ w is. ap (λ (t : Trace Row). t.items) (blocks_stop _ f s file w within is)) h;
    why_ended = said_of e (next_of s file) _ (λ w is. ap (λ (t : Trace Row). t.stop) (blocks_stop _ f s file w within is)) h;
  };
  asked = ap asks_none put.same_most ∙ asked;
}

-- what is read first is a front of all
then_front : (items : List Row) (stop : Option Stop) (rest : Trace Row) → (more : List Row) × ((trace.behind items stop rest).items ≡ items ++ more)
then_front items None rest = (rest.items, refl)
then_front items (Some e) rest = ([], sym (append-nil items))

-- rows of a block were passed: all of them, and none behind it, or as many as are asked for
pub record PassedBlock (columns : List Column) (p q : Plan) (all rest : Trace Row) : Type 0 where
  pub left : List Row
  pub passes : Passes columns p q all.items left
  pub ends : (asks_none q.most ≡ true) ⊎ ((left ≡ rest.items) × (rest.stop ≡ all.stop))

pub block_passed : (columns : List Column) (p q : Plan) (rows rest all : Trace Row) → all ≡ then_read rows rest → PassesTo columns p q rows → PassedBlock columns p q all rest
block_passed columns p q rows rest all is (left, passes, inl none) =
    let more = then_front rows.items rows.stop rest in
    let items : all.items ≡ rows.items ++ more.0 = ap (λ (t : Trace Row). t.items) is ∙ more.1 in
    record {
      left = left ++ more.0;
      passes = subst (λ (rs : List Row). Passes columns p q rs (left ++ more.0)) (sym items) (passes_before columns p q rows.items left more.0 passes);
      ends = inl none;
    }
block_passed columns p q rows rest all is (left, passes, inr (all_of_it, none)) =
    let both : all ≡ trace.behind rows.items None rest = is ∙ ap (λ (o : Option Stop). trace.behind rows.items o rest) none in
    let items : all.items ≡ rows.items ++ rest.items = ap (λ (t : Trace Row). t.items) both in
    let stop : all.stop ≡ rest.stop = ap (λ (t : Trace Row). t.stop) both in
    let passes1 : Passes columns p q rows.items [] = subst (Passes columns p q rows.items) all_of_it passes in
    record {
      left = rest.items;
      passes = subst (λ (rs : List Row). Passes columns p q rs rest.items) (sym items) (passes_before columns p q rows.items [] rest.items passes1);
      ends = inr (refl, sym stop);
    }

-- where a fault says something, there is no other
never_none : (P : Refusal → Type 0) (f : Listed) (o : Option Refusal) → IfSome o (λ r. (let none : Option Stop = None in none) ≡ Some (record { file = f; why = why_of r })) → IfSome o P
never_none P f None h = tt
never_none P f (Some r) h = absurd (let never : ⊥ = cc in never)

-- the rows of a block weren't all passed
pub stops_before : {F : Type 0} (columns : List Column) (f : Listed) (p q : Plan) (items : List Row) (stop : Option Stop) (rest : Trace Row) (e : RecordsFault F)
    → StopsAt columns f p q (record { items = items; stop = stop }) e → StopsAt columns f p q (trace.behind items stop rest) e
stops_before columns f p q items (Some s) rest e h = h
stops_before columns f p q items None rest e h = record {
  left = h.left ++ rest.items;
  passes = passes_before columns p q items h.left rest.items h.passes;
  ends_so = record { none_left = never_none _ f (refusal_of e) h.ends_so.why_ended; why_ended = never_none _ f (refusal_of e) h.ends_so.why_ended };
  asked = h.asked;
}

pub block_stopped : {F : Type 0} (columns : List Column) (f : Listed) (p q : Plan) (rows rest all : Trace Row) (e : RecordsFault F) → all ≡ then_read rows rest → StopsAt columns f p q rows e
    → StopsAt columns f p q all e
block_stopped columns f p q rows rest all e is h =
    subst (λ (t : Trace Row). StopsAt columns f p q t e) (sym is) (stops_before columns f p q rows.items rows.stop rest e h)

-- ---- a block that is read

-- the rows of a block are those of its part of the file
block_rows : (columns : List Column) (f : Listed) (fs : Fields) (block : Block) (part : Part) → IsPart block part
    → rows_at columns f fs (block.place + length block.bytes) block.count block.bytes ≡ rows_in f (all_of columns) fs part
block_rows columns f fs block part is =
    ap (λ (n : ℕ). rows_at columns f fs (n + length block.bytes) block.count block.bytes) is.same_place
    ∙ ap (λ (n : ℕ). rows_at columns f fs (part.place + length block.bytes) n block.bytes) is.same_count
    ∙ ap (λ (b : List ℕ). rows_at columns f fs (part.place + length b) part.count b) is.same_bytes

-- what is left, where a block is read
pub left_then : (columns : List Column) (f : Listed) (s t : State) (file : List ℕ) (part : Part) → s.block ≤ length file → s.place ≤ length file
    → next_of s file ≡ Ok (Some part, t) → t.schema ≡ s.schema
    → rows_left columns f s file ≡ then_read (rows_in f (all_of columns) (file_fields s.schema) part) (rows_left columns f t file)
unfolding rows_left
left_then columns f s t file part within place step same =
    let passes = next_passes s t file part place step in
    let R : Tree → Part → Trace Row = λ sch. rows_in f (all_of columns) (file_fields sch) in
    block_then (R s.schema) f s t file part within step passes.next
    ∙ ap (λ (sch : Tree). then_read (R s.schema part) (through (R sch) (blocks_from f (suc (length file) - t.block) t file))) (sym same)

-- there is no further block
pub left_ends : (columns : List Column) (f : Listed) (s t : State) (file : List ℕ) → s.block ≤ length file → next_of s file ≡ Ok (None, t) → rows_left columns f s file ≡ whole []
unfolding rows_left
left_ends columns f s t file within step = blocks_end _ f s t file within step

-- the rows of a block end
pub block_ends_so : {F : Type 0} (columns : List Column) (f : Listed) (p q : Plan) (s t : State) (file : List ℕ) (block : Block) (part : Part) (e : RecordsFault F) → s.block ≤ length file → s.place ≤ length file
    → next_of s file ≡ Ok (Some part, t) → t.schema ≡ s.schema → IsPart block part
    → StopsAt columns f p q (rows_at columns f (file_fields s.schema) (block.place + length block.bytes) block.count block.bytes) e → StopsAt columns f p q (rows_left columns f s file) e
block_ends_so columns f p q s t file block part e within place step same is h =
    block_stopped columns f p q (rows_in f (all_of columns) (file_fields s.schema) part) (rows_left columns f t file) (rows_left columns f s file) e
    (left_then columns f s t file part within place step same)
    (subst (λ (rows : Trace Row). StopsAt columns f p q rows e) (block_rows columns f (file_fields s.schema) block part is) h)

-- the rows of a block were passed
pub block_goes_on : (columns : List Column) (f : Listed) (p q : Plan) (s t : State) (file : List ℕ) (block : Block) (part : Part) → s.block ≤ length file → s.place ≤ length file
    → next_of s file ≡ Ok (Some part, t) → t.schema ≡ s.schema → IsPart block part
    → PassesTo columns p q (rows_at columns f (file_fields s.schema) (block.place + length block.bytes) block.count block.bytes)
    → PassedBlock columns p q (rows_left columns f s file) (rows_left columns f t file)
block_goes_on columns f p q s t file block part within place step same is passes =
    block_passed columns p q (rows_in f (all_of columns) (file_fields s.schema) part) (rows_left columns f t file) (rows_left columns f s file)
    (left_then columns f s t file part within place step same)
    (subst (PassesTo columns p q) (block_rows columns f (file_fields s.schema) block part is) passes)

-- the data file stands behind it
pub stands_behind : (columns : List Column) (old now : DataFile) (file : List ℕ) (part : Part) → Stands columns old file → now.projection ≡ old.projection → now.container.schema ≡ old.container.schema
    → next_of (state_of old.container) file ≡ Ok (Some part, state_of now.container) → Stands columns now file
stands_behind columns old now file part stands projection schema step =
    let passes = next_passes (state_of old.container) (state_of now.container) file part stands.within step in
    record {
      is_projection = rw (projection, schema) stands.is_projection;
      within = passes.within;
      passed = omega (arith, passes.next, passes.ahead, stands.passed);
    }

-- some rows were passed, whatever a call of a block answered
pub some_passed : {F : Type 0} (r : Result Bool (RecordsFault F)) (columns : List Column) (f : Listed) (d now : DataFile) (p q : Plan) (file : List ℕ) → Blocks r columns f d now p q file
    → (left : List Row) × Passes columns p q (left_of columns f d file).items left
some_passed (Ok true) columns f d now p q file h = (h.left, h.passes)
some_passed (Ok false) columns f d now p q file h =
    let items : [] ≡ (left_of columns f d file).items = ap (λ (t : Trace Row). t.items) (sym h.0) in
    ([], subst (λ (rows : List Row). Passes columns p q rows []) items h.1)
some_passed (Err e) columns f d now p q file h = (h.left, h.passes)
