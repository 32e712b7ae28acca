-- Blocks that are passed over by their counts.
use Rattle.std.proofs.Common.{◌≡◌, ℕ, zero, suc, ◌+◌, ◌-◌, ◌<◌, ◌≤◌, Bool, true, false, cond, eqb, List, [], ◌∷◌, ◌++◌, length, drop, Option, Some, None, Result, Ok, Err, inl, inr, refl, sym, ap, ◌∙◌, subst, arith, length-append}
use Rattle.std.specs.Prelude.{◌⊎◌, IfSome, is_some}
use Rattle.icb_schema.specs.Nodes.{tree_of}
use Rattle.icb_schema.specs.Shape.{shape}
use Rattle.icb_schema.specs.Tree.{Fields}
use Rattle.icb_avro.specs.Reading.{Read}
use Rattle.icb_avro.specs.declared.value.Value.{Value}
use Rattle.icb_container.proofs.Steps.{count_is_told, done, done_is, skipping_is_reading}
use Rattle.icb_container.specs.Answers.{Refuses}
use Rattle.icb_container.specs.Blocks.{Head, Part, State, Step, answered, behind, count_of, head_at, marked, next_of, part_of, records_at, skipped_of}
use Rattle.icb_container.specs.Opened.{Opened, state_of}
use Rattle.icb_container.specs.Wrong.{Wrong, ◌>>=◌}
use Rattle.icb_container.specs.declared.fault.ContainerFault.{ContainerFault}
use Rattle.icb_types.specs.declared.columns.Column.{Column}
use Rattle.icb_reader.specs.Answers.{of_container}
use Rattle.icb_reader.specs.declared.fault.RecordsFault.{RecordsFault}
use Rattle.icb_rows.specs.Records.{Row, file_fields, row_by_ids}
use Rattle.icb_rows.specs.Views.{passed_of, record_at}
use Rattle.icb_table.specs.Listed.{Listed}
use Rattle.icb_table.specs.Rows.{rows_in, rows_to, then_rows}
use Rattle.icb_table.specs.Selection.{Selection}
use Rattle.icb_table.specs.Steps.{why_of}
use Rattle.icb_table.specs.Trace as trace
use Rattle.icb_table.specs.Trace.{Stop, Trace, stopped, then_read}
use Rattle.icb_table.specs.Why as why
use Rattle.icb_table.proofs.ContentLemmas.{none_is}
use Rattle.icb_datafile.specs.declared.data_file.DataFile.{DataFile}
use Rattle.icb_datafile.specs.declared.plan.Plan.{Plan}
use Rattle.icb_datafile.specs.declared.plan.PlanRange.{PlanRange}
use Rattle.icb_datafile.specs.Answers.{PassesBlocks, StopsAt}
use Rattle.icb_datafile.specs.Left.{HasLeftOut, Stands, all_of, left_of, refusal_of, rows_left}
use Rattle.icb_datafile.specs.Plans.{IsPlanOf, KeepsWords, OnlySkips, Passes, StaysPut, asks_none, emptied, matches, range_at, selection_by}
use Rattle.icb_datafile.proofs.BlockLemmas.{blocks_stop, left_then, rows_at, said_of, stands_behind}
use Rattle.icb_datafile.proofs.ChoosingLemmas.{none_outside, none_passed, passes_more, passes_out}

-- ---- the rows of a block

-- they are as many as its count, or stop before
abbrev pub Sized : ℕ → Trace Row → Type 0
Sized n rows = ((rows.stop ≡ None) × (length rows.items ≡ n)) ⊎ ((e : Stop) × (rows.stop ≡ Some e) × (length rows.items < n))

pub sized : (columns : List Column) (f : Listed) (fs : Fields) (end n : ℕ) (bytes : List ℕ) → Sized n (rows_at columns f fs end n bytes)
unfolding rows_to
sized columns f fs end zero bytes = inl (refl, refl)
sized columns f fs end (suc n) bytes = by_record (λ (rest : List ℕ). sized columns f fs end n rest) (record_at (passed_of columns fs) bytes)
  where
    by_rest : (row : Row) (rest : Trace Row) → Sized n rest → Sized (suc n) (trace.behind (row ∷ []) None rest)
    by_rest row rest (inl (stop, size)) = inl (stop, ap suc size)
    by_rest row rest (inr (e, stop, short)) = inr (e, stop, omega (arith, short))

    by_record : ((rest : List ℕ) → Sized n (rows_at columns f fs end n rest)) → (r : Read (List Value)) → Sized (suc n) (then_rows f (row_by_ids columns fs) (rows_to f (all_of columns) fs end n) end r)
    by_record behind (Ok x) = by_rest (row_by_ids columns fs x.0) (rows_at columns f fs end n x.1) (behind x.1)
    by_record behind (Err r) = inr (_, refl, omega arith)

-- ---- a count that is told

-- there is no count where there is no block
no_count : {B : Type 0} (s t u : State) (file : List ℕ) (n : ℕ) → next_of s file ≡ Ok (None, t) → count_of s file ≡ Ok (Some n, u) → B
unfolding next_of count_of
no_count {B} s t u file n e counts = by_place (eqb s.place (length file)) e counts
  where
    reads : Head → Result (Part × State) Wrong
    reads head = records_at (shape s.schema) (length file) head >>= (λ vs. marked s head (part_of s (length file) head vs, behind s (length file) head))

    by_step : (r : Result (Part × State) Wrong) → (r >>= answered) ≡ Ok (None, t) → B
    by_step (Err d) e = absurd (let g : ⊥ = cc in g)
    by_step (Ok x) e = none_is t x.1 x.0 (sym e)

    by_head : (h : Result Head Wrong) → (h >>= (λ head. reads head >>= answered)) ≡ Ok (None, t) → B
    by_head (Err d) e = absurd (let g : ⊥ = cc in g)
    by_head (Ok head) e = by_step (reads head) e

    by_place : (b : Bool)
        → cond b (Ok (None, s)) (head_at (length file) (drop s.place file) >>= (λ head. reads head >>= answered)) ≡ Ok (None, t)
        → cond b (Ok (None, s)) (head_at (length file) (drop s.place file) >>= (λ head. done (head.count, s) >>= answered)) ≡ Ok (Some n, u) → B
    by_place true e counts = none_is s u n counts
    by_place false e counts = by_head (head_at (length file) (drop s.place file)) e

-- what is refused where the count is read is refused where the block is
count_refused : (s : State) (file : List ℕ) (w : Wrong) → count_of s file ≡ Err w → next_of s file ≡ Err w
unfolding next_of count_of
count_refused s file w e = by_place (eqb s.place (length file)) e
  where
    reads : Head → Result (Part × State) Wrong
    reads head = records_at (shape s.schema) (length file) head >>= (λ vs. marked s head (part_of s (length file) head vs, behind s (length file) head))

    by_head : (h : Result Head Wrong) → (h >>= (λ head. done (head.count, s) >>= answered)) ≡ Err w → (h >>= (λ head. reads head >>= answered)) ≡ Err w
    by_head (Err d) e = let same : d ≡ w = cc in ap (λ (x : Wrong). Err x) same
    by_head (Ok head) e = absurd (let g : ⊥ = cc in g)

    by_place : (b : Bool)
        → cond b (Ok (None, s)) (head_at (length file) (drop s.place file) >>= (λ head. done (head.count, s) >>= answered)) ≡ Err w
        → cond b (Ok (None, s)) (head_at (length file) (drop s.place file) >>= (λ head. reads head >>= answered)) ≡ Err w
    by_place true e = absurd (let g : ⊥ = cc in g)
    by_place false e = by_head (head_at (length file) (drop s.place file)) e

-- ---- a block whose rows are all left out

-- it is read
pub record IsNext (s : State) (file : List ℕ) (n : ℕ) : Type 0 where
  pub part : Part
  pub now : State
  pub is : next_of s file ≡ Ok (Some part, now)
  pub count : part.count ≡ n

-- rows that stop at once stop among those that are left out
stop_early : {B : Type 0} (s : Selection) (rows : Trace Row) (e : Stop) (n : ℕ) → s.range ≡ None → HasLeftOut s rows → rows.stop ≡ Some e → length rows.items < n → n ≤ s.skip → B
stop_early {B} s rows e n none has stop short few = by_end (has none)
  where
    by_end : (rows.stop ≡ None) ⊎ (s.skip ≤ length rows.items) → B
    by_end (inl whole) = absurd (let same : None ≡ Some e = sym whole ∙ stop in let g : ⊥ = cc in g)
    by_end (inr there) = absurd (let g : ⊥ = omega (arith, there, short, few) in g)

some_is : (m n : ℕ) → Some m ≡ Some n → m ≡ n
some_is m n e = cc

told_is : (x y : Option ℕ) (s t : State) → done {A = Option ℕ × State} (x, s) ≡ done {A = Option ℕ × State} (y, t) → (x ≡ y) × (s ≡ t)
told_is x y s t e =
    let a : Option ℕ × State = (x, s) in
    let b : Option ℕ × State = (y, t) in
    let p = done_is a b e in (ap (λ (q : Option ℕ × State). q.0) p, ap (λ (q : Option ℕ × State). q.1) p)

pub over_is : (columns : List Column) (f : Listed) (sel : Selection) (s : State) (file : List ℕ) (n : ℕ) → s.block ≤ length file → sel.range ≡ None → 0 < n → n ≤ sel.skip
    → HasLeftOut sel (rows_left columns f s file) → count_of s file ≡ Ok (Some n, s) → IsNext s file n
unfolding rows_left
over_is columns f sel s file n within none some few has counts = by_next (next_of s file) refl
  where
    by_next : (r : Step Part) → next_of s file ≡ r → IsNext s file n
    by_next (Err w) is =
        let rows : rows_left columns f s file ≡ stopped f (why.no_container w) = blocks_stop _ f s file w within is in
        let size : length (rows_left columns f s file).items ≡ 0 = ap (λ (t : Trace Row). length t.items) rows in
        stop_early sel (rows_left columns f s file) (record { file = f; why = why.no_container w }) n none has (ap (λ (t : Trace Row). t.stop) rows) (omega (arith, size, some)) few
    by_next (Ok (None, t)) is = no_count s t s file n is counts
    by_next (Ok (Some part, t)) is =
        let told = count_is_told s t file part.count (skipping_is_reading s t file part is) in
        record { part = part; now = t; is = is; count = some_is part.count n (told_is (Some part.count) (Some n) s s (sym told ∙ counts)).0 }

-- its rows are passed
over_rows : (columns : List Column) (f : Listed) (p q : Plan) (rows rest all : Trace Row) (n : ℕ) → all ≡ then_read rows rest → Sized n rows → p.range ≡ None → n ≤ p.skip
    → HasLeftOut (selection_by columns p) all → KeepsWords p q → q.skip ≡ p.skip - n → q.most ≡ p.most → q.text ≡ p.text → q.shown ≡ p.shown
    → Passes columns p q all.items rest.items × (rest.stop ≡ all.stop)
over_rows columns f p q rows rest all n is (inl (stop, size)) none few has words skip most text shown =
    let both : all ≡ trace.behind rows.items None rest = is ∙ ap (λ (o : Option Stop). trace.behind rows.items o rest) stop in
    let items : all.items ≡ rows.items ++ rest.items = ap (λ (t : Trace Row). t.items) both in
    let ends : all.stop ≡ rest.stop = ap (λ (t : Trace Row). t.stop) both in (
      subst (λ (rs : List Row). Passes columns p q rs rest.items) (sym items)
          (passes_out columns p q rows.items rest.items none (omega (arith, size, few)) words (skip ∙ ap (λ (k : ℕ). p.skip - k) (sym size)) most text shown),
      sym ends,
    )
over_rows columns f p q rows rest all n is (inr (e, stop, short)) none few has words skip most text shown =
    let both : all ≡ trace.behind rows.items (Some e) rest = is ∙ ap (λ (o : Option Stop). trace.behind rows.items o rest) stop in
    let size : length all.items ≡ length rows.items = ap (λ (t : Trace Row). length t.items) both in
    stop_early (selection_by columns p) all e n (ap (range_at columns) none) has (ap (λ (t : Trace Row). t.stop) both) (omega (arith, size, short)) few

-- a block was passed over
pub over_done : (columns : List Column) (f : Listed) (d now : DataFile) (mid : Opened) (p q : Plan) (file : List ℕ) (n : ℕ) (o : Option ℕ) → Stands columns d file
    → HasLeftOut (selection_by columns p) (left_of columns f d file) → p.range ≡ None → 0 < n → n ≤ p.skip → mid ≡ d.container
    → count_of (state_of d.container) file ≡ Ok (Some n, state_of d.container) → skipped_of (state_of mid) file ≡ Ok (o, state_of now.container)
    → now.projection ≡ d.projection → now.container.schema ≡ d.container.schema → KeepsWords p q → q.skip ≡ p.skip - n → q.most ≡ p.most → q.text ≡ p.text → q.shown ≡ p.shown
    → PassesBlocks columns f d now p q file
unfolding rows_left
over_done columns f d now mid p q file n o stands has none some few same counts skips projection schema words skip most text shown =
    let s : State = state_of d.container in
    let within : d.container.block ≤ length file = omega (arith, stands.within, stands.passed) in
    let next = over_is columns f (selection_by columns p) s file n within (ap (range_at columns) none) some few has counts in
    let skipped : skipped_of s file ≡ Ok (o, state_of now.container) = subst (λ (m : Opened). skipped_of (state_of m) file ≡ Ok (o, state_of now.container)) same skips in
    let told = skipping_is_reading s next.now file next.part next.is in
    let there : next.now ≡ state_of now.container = (told_is (Some next.part.count) o next.now (state_of now.container) (sym told ∙ skipped)).1 in
    let step : next_of s file ≡ Ok (Some next.part, state_of now.container) = subst (λ (t : State). next_of s file ≡ Ok (Some next.part, t)) there next.is in
    let trees = ap tree_of schema in
    let size : Sized n (rows_in f (all_of columns) (file_fields s.schema) next.part) =
    subst (λ (k : ℕ). Sized k (rows_in f (all_of columns) (file_fields s.schema) next.part)) next.count
    (sized columns f (file_fields s.schema) (next.part.place + length next.part.bytes) next.part.count next.part.bytes) in
    let rows = over_rows columns f p q (rows_in f (all_of columns) (file_fields s.schema) next.part) (rows_left columns f (state_of now.container) file) (rows_left columns f s file) n
    (left_then columns f s (state_of now.container) file next.part within stands.within step trees) size none few has words skip most text shown in
    record {
      passes = rows.0;
      same_stop = rows.1;
      stands = stands_behind columns d now file next.part stands projection schema step;
    }

-- what is passed over isn't refused
not_refused : {A B : Type 0} {r : Result A Wrong} {x : A} (w : Wrong) → r ≡ Ok x → r ≡ Err w → B
not_refused w told is = absurd (let both = sym told ∙ is in let g : ⊥ = cc in g)

-- it isn't passed over where it is refused
pub over_stopped : {F : Type 0} (columns : List Column) (f : Listed) (d : DataFile) (mid : Opened) (p q : Plan) (file : List ℕ) (n : ℕ) (e : ContainerFault F) → Stands columns d file
    → HasLeftOut (selection_by columns p) (left_of columns f d file) → p.range ≡ None → 0 < n → n ≤ p.skip → mid ≡ d.container
    → count_of (state_of d.container) file ≡ Ok (Some n, state_of d.container) → Refuses e (skipped_of (state_of mid) file)
    → KeepsWords p q → StaysPut p q → asks_none p.most ≡ false → StopsAt columns f p q (left_of columns f d file) (of_container e)
over_stopped columns f d mid p q file n e stands has none some few same counts refuses words put asked =
    let within : d.container.block ≤ length file = omega (arith, stands.within, stands.passed) in
    let next = over_is columns f (selection_by columns p) (state_of d.container) file n within (ap (range_at columns) none) some few has counts in
    let told = skipping_is_reading (state_of d.container) next.now file next.part next.is in
    let refused = subst (λ (m : Opened). Refuses e (skipped_of (state_of m) file)) same refuses in
    record {
      left = (left_of columns f d file).items;
      passes = none_passed columns p q (left_of columns f d file).items words put;
      ends_so = record {
        none_left = said_of e (skipped_of (state_of d.container) file) _ (λ w is. not_refused w told is) refused;
        why_ended = said_of e (skipped_of (state_of d.container) file) _ (λ w is. not_refused w told is) refused;
      };
      asked = ap asks_none put.same_most ∙ asked;
    }

-- its count is refused
pub count_stopped : {F : Type 0} (columns : List Column) (f : Listed) (d : DataFile) (p q : Plan) (file : List ℕ) (e : ContainerFault F) → Stands columns d file
    → Refuses e (count_of (state_of d.container) file) → KeepsWords p q → StaysPut p q → asks_none p.most ≡ false → StopsAt columns f p q (left_of columns f d file) (of_container e)
unfolding rows_left
count_stopped columns f d p q file e stands refuses words put asked =
    let s : State = state_of d.container in
    let within : d.container.block ≤ length file = omega (arith, stands.within, stands.passed) in
    record {
      left = (left_of columns f d file).items;
      passes = none_passed columns p q (left_of columns f d file).items words put;
      ends_so = record {
        none_left = said_of e (count_of s file) _ (λ w is. ap (λ (t : Trace Row). t.items) (blocks_stop _ f s file w within (count_refused s file w is))) refuses;
        why_ended = said_of e (count_of s file) _ (λ w is. ap (λ (t : Trace Row). t.stop) (blocks_stop _ f s file w within (count_refused s file w is))) refuses;
      };
      asked = ap asks_none put.same_most ∙ asked;
    }

-- the data file stays before the block
pub not_over : (columns : List Column) (f : Listed) (d now : DataFile) (p q : Plan) (file : List ℕ) → now.container ≡ d.container → now.projection ≡ d.projection → KeepsWords p q → StaysPut p q
    → Stands columns d file → PassesBlocks columns f d now p q file
not_over columns f d now p q file container projection words put stands = record {
  passes = subst (λ (c : Opened). Passes columns p q (left_of columns f d file).items (rows_left columns f (state_of c) file).items) (sym container)
      (none_passed columns p q (left_of columns f d file).items words put);
  same_stop = ap (λ (c : Opened). (rows_left columns f (state_of c) file).stop) container;
  stands = record {
    is_projection = rw (projection, container) stands.is_projection;
    within = rw container stands.within;
    passed = rw container stands.passed;
  };
}

-- ---- several blocks

-- nothing but the number of rows that are left out is another
pub only_words : (p q : Plan) → OnlySkips p q → KeepsWords p q
only_words p q only = record { same_columns = ap (λ (x : Plan). x.columns) only; same_range = ap (λ (x : Plan). x.range) only }

pub only_twice : (p q r : Plan) → OnlySkips p q → OnlySkips q r → OnlySkips p r
only_twice p q r one two = two ∙ ap (λ (x : Plan). (let y : Plan = record x { skip = r.skip } in y)) one

-- the rows that are left out are still there
pub still_left_out : (columns : List Column) (p q : Plan) (rows rest : Trace Row) → KeepsWords p q → Passes columns p q rows.items rest.items → rest.stop ≡ rows.stop
    → HasLeftOut (selection_by columns p) rows → HasLeftOut (selection_by columns q) rest
still_left_out columns p q rows rest words passes stop has none = by_end (has before)
  where
    before : (selection_by columns p).range ≡ None
    before = sym (ap (range_at columns) words.same_range) ∙ none

    by_end : (rows.stop ≡ None) ⊎ (p.skip ≤ length rows.items) → (rest.stop ≡ None) ⊎ (q.skip ≤ length rest.items)
    by_end (inl whole) = inl (stop ∙ whole)
    by_end (inr there) =
        let size : matches (range_at columns p.range) passes.passed ≡ length passes.passed = ap length (none_outside (range_at columns p.range) passes.passed before) in
        let sum : length rows.items ≡ length passes.passed + length rest.items = ap length passes.first ∙ length-append passes.passed rest.items in
        inr (omega (arith, there, size, sum, passes.counts.skips))

-- blocks, and then others
pub over_twice : (columns : List Column) (f : Listed) (d mid now : DataFile) (p q r : Plan) (file : List ℕ) → KeepsWords p q → PassesBlocks columns f d mid p q file
    → PassesBlocks columns f mid now q r file → PassesBlocks columns f d now p r file
over_twice columns f d mid now p q r file words one two = record {
  passes = passes_more columns p q r (left_of columns f d file).items (left_of columns f mid file).items (left_of columns f now file).items words one.passes two.passes;
  same_stop = two.same_stop ∙ one.same_stop;
  stands = two.stands;
}

-- blocks, behind which the rows end
pub over_then : {F : Type 0} (columns : List Column) (f : Listed) (d mid : DataFile) (p q r : Plan) (file : List ℕ) (e : RecordsFault F) → KeepsWords p q → PassesBlocks columns f d mid p q file
    → StopsAt columns f q r (left_of columns f mid file) e → StopsAt columns f p r (left_of columns f d file) e
over_then columns f d mid p q r file e words one two = record {
  left = two.left;
  passes = passes_more columns p q r (left_of columns f d file).items (left_of columns f mid file).items two.left words one.passes two.passes;
  ends_so = record {
    none_left = two.ends_so.none_left;
    why_ended = subst (λ (o : Option Stop). IfSome (refusal_of e) (λ w. o ≡ Some (record { file = f; why = why_of w }))) one.same_stop two.ends_so.why_ended;
  };
  asked = two.asked;
}

-- a plan's text is emptied
pub emptied_only : (p : Plan) (t : List ℕ) → t ≡ [] → OnlySkips (emptied p) (record p { text = t })
emptied_only p t e = ap (λ (x : List ℕ). (let y : Plan = record p { text = x } in y)) e

-- a plan is one where its text is emptied
pub empty_plan : (columns : List Column) (p : Plan) → IsPlanOf columns p → IsPlanOf columns (emptied p)
empty_plan columns p is = record { own_ids = is.own_ids; shown = is.shown; range_in = is.range_in }

-- where there is no range
pub no_range : (range : Option PlanRange) → is_some range ≡ false → range ≡ None
no_range None e = refl
no_range (Some r) e = absurd (let g : ⊥ = cc in g)
