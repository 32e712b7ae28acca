-- Rows that are printed, and more rows behind them.
use Rattle.std.proofs.Common.{◌≡◌, ℕ, ◌+◌, List, [], ◌++◌, length, Bool, true, false, Option, Some, None, IfSome, Result, Ok, Err, inl, inr, refl, sym, ap, ◌∙◌, subst, arith, append_assoc, length-append, true≢false}
use Rattle.std.specs.Prelude.{◌⊎◌}
use Rattle.std.specs.List.{flat_map}
use Rattle.std.proofs.lemmas.List.Concat.{flat_map-append}
use Rattle.icb_base.specs.Calls.{WritesText}
use Rattle.icb_base.specs.Causes.{Blames}
use Rattle.icb_base.specs.declared.transfer.Sink as sink
use Rattle.icb_base.proofs.CallLemmas.{writes_at_rest, writes_twice}
use Rattle.icb_types.specs.declared.columns.Column.{Column}
use Rattle.icb_rows.specs.Records.{Row}
use Rattle.icb_rows.specs.Views as views
use Rattle.icb_table.specs.Selection.{Selection, chosen, line_of}
use Rattle.icb_reader.specs.Records.{Refusal}
use Rattle.icb_reader.specs.declared.fault.RecordsFault.{RecordsFault}
use Rattle.icb_table.specs.Listed.{Listed}
use Rattle.icb_table.specs.Rows.{rows_of}
use Rattle.icb_table.specs.Steps.{why_of}
use Rattle.icb_table.specs.Trace.{Stop, Trace}
use Rattle.icb_datafile.specs.declared.data_file.DataFile.{DataFile}
use Rattle.icb_datafile.specs.declared.fault.RowsFault.{RowsFault}
use Rattle.icb_datafile.specs.declared.fault.RowsFault.TheVariants as rows_fault
use Rattle.icb_datafile.specs.declared.plan.Plan.{Plan}
use Rattle.icb_datafile.specs.Answers.{PassesBlocks, StepsBy, StopsAt}
use Rattle.icb_datafile.specs.Left.{EndsSo, Stands, all_of, left_of, refusal_of}
use Rattle.icb_datafile.specs.Plans.{KeepsWords, Passes, asks_none, emptied, range_at, selection_by}
use Rattle.icb_datafile.specs.Whole.{Prints, PrintsRows}
use Rattle.icb_datafile.proofs.ChoosingLemmas.{chosen_more, chosen_none, counts_more, counts_none}

-- a fault that is told otherwise
pub blames_as : {A B : Type 0} (x y : ℕ) → (A → B) → (B → A) → Blames A x y → Blames B x y
blames_as x y to from b = record { later = b.later; rose = λ h. b.rose (from h); stays = λ none. b.stays (λ h. none (to h)) }

pub writes_as : {Self A B : Type 0} (of : sink.Ghosts Self) (text : List ℕ) (x y : Self) → (A → B) → (B → A) → WritesText of text A x y → WritesText of text B x y
writes_as of text x y to from w = record {
  count = blames_as (of.faults x) (of.faults y) to from w.count;
  front = w.front;
  whole = λ none. w.whole (λ h. none (to h));
}

-- nothing was printed
pub prints_none : {Self : Type 0} (of : sink.Ghosts Self) (columns : List Column) (p : Plan) (rows : List Row) (x : Self) → Prints of ⊥ columns p p rows rows x x
prints_none of columns p rows x =
    let s : Selection = selection_by columns p in
    let size : length (chosen s []) ≡ 0 = ap length (chosen_none s) in
    let text : [] ≡ flat_map (line_of s.columns) (chosen s []) = ap (flat_map (line_of s.columns)) (sym (chosen_none s)) in
    record {
      passed = [];
      first = refl;
      counts = counts_none s s [] refl refl refl;
      counted = λ fits. omega (arith, size);
      writes = subst (λ (t : List ℕ). WritesText of t ⊥ x x) text (writes_at_rest of ⊥ x (λ never. never));
    }

-- what was passed then was printed too
pub prints_more : {Self : Type 0} (of : sink.Ghosts Self) (failed : Type 0) (columns : List Column) (p q r : Plan) (rows mid left : List Row) (x y z : Self) → KeepsWords p q
    → Prints of ⊥ columns p q rows mid x y → Passes columns (emptied q) r mid left → WritesText of r.text failed y z → Prints of failed columns p r rows left x z
prints_more of failed columns p q r rows mid left x y z words one two writes =
    let line : Row → List ℕ = line_of (views.chosen columns p.columns) in
    let sp : Selection = selection_by columns p in
    let sq : Selection = selection_by columns q in
    let same : sq.range ≡ sp.range = ap (range_at columns) words.same_range in
    let all : chosen sp (one.passed ++ two.passed) ≡ chosen sp one.passed ++ chosen sq two.passed = chosen_more sp sq one.passed two.passed same one.counts in
    let size = ap length all ∙ length-append (chosen sp one.passed) (chosen sq two.passed) in
    let text : r.text ≡ flat_map line (chosen sq two.passed) =
    two.is_text ∙ ap (λ (ps : List ℕ). flat_map (line_of (views.chosen columns ps)) (chosen sq two.passed)) words.same_columns in
    let both : WritesText of (flat_map line (chosen sp one.passed) ++ r.text) failed x z =
    writes_twice of (flat_map line (chosen sp one.passed)) r.text ⊥ failed x y z (λ never. never) one.writes writes in
    record {
      passed = one.passed ++ two.passed;
      first = one.first ∙ ap (λ (rs : List Row). one.passed ++ rs) two.first ∙ sym (append_assoc one.passed two.passed left);
      counts = counts_more sp sq (selection_by columns r) one.passed two.passed same one.counts two.counts;
      counted = λ fits.
          let first : q.shown ≡ p.shown + length (chosen sp one.passed) = one.counted (omega (arith, fits, size)) in
          let second : r.shown ≡ q.shown + length (chosen sq two.passed) = two.counted (omega (arith, fits, size, first)) in
          omega (arith, size, first, second);
      writes = subst (λ (t : List ℕ). WritesText of t failed x z)
          (ap (λ (t : List ℕ). flat_map line (chosen sp one.passed) ++ t) text ∙ sym (flat_map-append line (chosen sp one.passed) (chosen sq two.passed)) ∙ ap (flat_map line) (sym all)) both;
    }

-- the rows of a file are printed up to where a data file stands
pub record PrintedUpTo {Self : Type 0} (of : sink.Ghosts Self) (columns : List Column) (f : Listed) (p q : Plan) (d : DataFile) (x y : Self) (file : List ℕ) : Type 0 where
  pub stands : Stands columns d file
  pub prints : Prints of ⊥ columns p q (rows_of (all_of columns) f file).items (left_of columns f d file).items x y
  pub same_stop : (left_of columns f d file).stop ≡ (rows_of (all_of columns) f file).stop

-- the rows of a file are printed up to where a data file stands, or as many as are asked for
pub record PrintedFar {Self : Type 0} (of : sink.Ghosts Self) (columns : List Column) (f : Listed) (p q : Plan) (d : DataFile) (x y : Self) (file : List ℕ) : Type 0 where
  pub stands : Stands columns d file
  pub left : List Row
  pub prints : Prints of ⊥ columns p q (rows_of (all_of columns) f file).items left x y
  pub ends : (asks_none q.most ≡ true) ⊎ ((left ≡ (left_of columns f d file).items) × ((left_of columns f d file).stop ≡ (rows_of (all_of columns) f file).stop))

-- where further rows are asked for, they are printed up to there
pub printed_to : {Self : Type 0} (of : sink.Ghosts Self) (columns : List Column) (f : Listed) (p q : Plan) (d : DataFile) (x y : Self) (file : List ℕ) → asks_none q.most ≡ false
    → PrintedFar of columns f p q d x y file → PrintedUpTo of columns f p q d x y file
printed_to of columns f p q d x y file asked done = by_end done.left done.prints done.ends
  where
    by_end : (left : List Row) → Prints of ⊥ columns p q (rows_of (all_of columns) f file).items left x y
        → (asks_none q.most ≡ true) ⊎ ((left ≡ (left_of columns f d file).items) × ((left_of columns f d file).stop ≡ (rows_of (all_of columns) f file).stop))
        → PrintedUpTo of columns f p q d x y file
    by_end left prints (inl none) = absurd (true≢false (sym none ∙ asked))
    by_end left prints (inr (same, stop)) = record {
      stands = done.stands;
      prints = subst (λ (rs : List Row). Prints of ⊥ columns p q (rows_of (all_of columns) f file).items rs x y) same prints;
      same_stop = stop;
    }

-- nothing is printed yet
pub printed_none : {Self : Type 0} (of : sink.Ghosts Self) (columns : List Column) (f : Listed) (p : Plan) (d : DataFile) (x : Self) (file : List ℕ) → Stands columns d file
    → rows_of (all_of columns) f file ≡ left_of columns f d file → PrintedFar of columns f p p d x x file
printed_none of columns f p d x file stands is = record {
  stands = stands;
  left = (left_of columns f d file).items;
  prints = subst (λ (t : Trace Row). Prints of ⊥ columns p p t.items (left_of columns f d file).items x x) (sym is) (prints_none of columns p (left_of columns f d file).items x);
  ends = inr (refl, ap (λ (t : Trace Row). t.stop) (sym is));
}

-- blocks were passed over in front
pub printed_over : {Self : Type 0} (of : sink.Ghosts Self) (columns : List Column) (f : Listed) (p q : Plan) (d e : DataFile) (x : Self) (file : List ℕ)
    → rows_of (all_of columns) f file ≡ left_of columns f d file → PassesBlocks columns f d e (emptied p) q file → q.text ≡ [] → PrintedFar of columns f p q e x x file
printed_over of columns f p q d e x file is over text = record {
  stands = over.stands;
  left = (left_of columns f e file).items;
  prints = prints_more of ⊥ columns p p q (rows_of (all_of columns) f file).items (left_of columns f d file).items (left_of columns f e file).items x x x
      (record { same_columns = refl; same_range = refl })
      (subst (λ (t : Trace Row). Prints of ⊥ columns p p t.items (left_of columns f d file).items x x) (sym is) (prints_none of columns p (left_of columns f d file).items x))
      over.passes (subst (λ (t : List ℕ). WritesText of t ⊥ x x) (sym text) (writes_at_rest of ⊥ x (λ never. never)));
  ends = inr (refl, over.same_stop ∙ ap (λ (t : Trace Row). t.stop) (sym is));
}

-- a block more is printed
pub printed_more : {Self : Type 0} (F : Type 0) (of : sink.Ghosts Self) (columns : List Column) (f : Listed) (p q r : Plan) (d e : DataFile) (x y z : Self) (file : List ℕ) → KeepsWords p q
    → PrintedUpTo of columns f p q d x y file → StepsBy {F = F} (Ok true) columns f d e (emptied q) r file → WritesText of r.text ⊥ y z → PrintedFar of columns f p r e x z file
printed_more F of columns f p q r d e x y z file words done step writes = record {
  stands = step.stands;
  left = step.left;
  prints = prints_more of ⊥ columns p q r (rows_of (all_of columns) f file).items (left_of columns f d file).items step.left x y z words done.prints step.passes writes;
  ends = ends_as step.ends;
}
  where
    ends_as : (asks_none r.most ≡ true) ⊎ ((step.left ≡ (left_of columns f e file).items) × ((left_of columns f e file).stop ≡ (left_of columns f d file).stop))
        → (asks_none r.most ≡ true) ⊎ ((step.left ≡ (left_of columns f e file).items) × ((left_of columns f e file).stop ≡ (rows_of (all_of columns) f file).stop))
    ends_as (inl none) = inl none
    ends_as (inr (same, stop)) = inr (same, stop ∙ done.same_stop)

-- all rows are printed
pub printed_all : {Self : Type 0} (F : Type 0) (of : sink.Ghosts Self) (columns : List Column) (f : Listed) (p q r : Plan) (d e : DataFile) (x y z : Self) (file : List ℕ) → KeepsWords p q
    → PrintedUpTo of columns f p q d x y file → StepsBy {F = F} (Ok false) columns f d e (emptied q) r file → WritesText of r.text ⊥ y z
    → PrintsRows {Self = Self} {F = F} of (Ok tt) columns f p r (rows_of (all_of columns) f file) x z
printed_all F of columns f p q r d e x y z file words done step writes =
    let items : (left_of columns f d file).items ≡ [] = ap (λ (t : Trace Row). t.items) step.0 in
    let stop : (left_of columns f d file).stop ≡ None = ap (λ (t : Trace Row). t.stop) step.0 in
    let prints = subst (λ (rows : List Row). Prints of ⊥ columns p q (rows_of (all_of columns) f file).items rows x y) items done.prints in
    ([], prints_more of ⊥ columns p q r (rows_of (all_of columns) f file).items [] [] x y z words prints step.1 writes, inr (refl, sym done.same_stop ∙ stop))

-- as many rows are printed as are asked for
pub printed_enough : {Self : Type 0} (F : Type 0) (of : sink.Ghosts Self) (columns : List Column) (f : Listed) (p q : Plan) (d : DataFile) (x y : Self) (file : List ℕ)
    → PrintedFar of columns f p q d x y file → asks_none q.most ≡ true → PrintsRows {Self = Self} {F = F} of (Ok tt) columns f p q (rows_of (all_of columns) f file) x y
printed_enough F of columns f p q d x y file done none = (done.left, done.prints, inl none)

-- the rows end, or no more could be read
pub printed_until : {Self F : Type 0} (of : sink.Ghosts Self) (columns : List Column) (f : Listed) (p q r : Plan) (d e : DataFile) (x y z : Self) (file : List ℕ) (fault : RecordsFault F) → KeepsWords p q
    → PrintedUpTo of columns f p q d x y file → StopsAt columns f (emptied q) r (left_of columns f d file) fault → WritesText of r.text ⊥ y z
    → PrintsRows of (Err (rows_fault.File fault)) columns f p r (rows_of (all_of columns) f file) x z
printed_until of columns f p q r d e x y z file fault words done step writes = (
  step.left,
  prints_more of ⊥ columns p q r (rows_of (all_of columns) f file).items (left_of columns f d file).items step.left x y z words done.prints step.passes writes,
  record { none_left = step.ends_so.none_left; why_ended = ends_as f (refusal_of fault) (left_of columns f d file).stop (rows_of (all_of columns) f file).stop done.same_stop step.ends_so.why_ended },
  step.asked,
)
  where
    ends_as : (f : Listed) (o : Option Refusal) (a b : Option Stop) → a ≡ b → IfSome o (λ r. a ≡ Some (record { file = f; why = why_of r })) → IfSome o (λ r. b ≡ Some (record { file = f; why = why_of r }))
    ends_as f None a b e h = tt
    ends_as f (Some r) a b e h = sym e ∙ h

-- blocks were passed over in front up to where the rows end
pub printed_not : {Self F : Type 0} (of : sink.Ghosts Self) (columns : List Column) (f : Listed) (p q : Plan) (d e : DataFile) (x : Self) (file : List ℕ) (fault : RecordsFault F)
    → Stands columns d file → rows_of (all_of columns) f file ≡ left_of columns f d file → StopsAt columns f (emptied p) q (left_of columns f d file) fault → q.text ≡ []
    → PrintsRows of (Err (rows_fault.File fault)) columns f p q (rows_of (all_of columns) f file) x x
printed_not of columns f p q d e x file fault stands is stops text =
    printed_until of columns f p p q d e x x x file fault (record { same_columns = refl; same_range = refl }) (record {
      stands = stands;
      prints = subst (λ (t : Trace Row). Prints of ⊥ columns p p t.items (left_of columns f d file).items x x) (sym is) (prints_none of columns p (left_of columns f d file).items x);
      same_stop = ap (λ (t : Trace Row). t.stop) (sym is);
    }) stops (subst (λ (t : List ℕ). WritesText of t ⊥ x x) (sym text) (writes_at_rest of ⊥ x (λ never. never)))

-- the sink failed
pub printed_some : {Self : Type 0} (F : Type 0) (of : sink.Ghosts Self) (columns : List Column) (f : Listed) (p q r : Plan) (d : DataFile) (x y z : Self) (file : List ℕ) (left : List Row) → KeepsWords p q
    → PrintedUpTo of columns f p q d x y file → Passes columns (emptied q) r (left_of columns f d file).items left → WritesText of r.text (Unit {0}) y z
    → PrintsRows {Self = Self} {F = F} of (Err rows_fault.Sink) columns f p r (rows_of (all_of columns) f file) x z
printed_some F of columns f p q r d x y z file left words done passes writes =
    (left, prints_more of (Unit {0}) columns p q r (rows_of (all_of columns) f file).items (left_of columns f d file).items left x y z words done.prints passes writes)

-- nothing is read of a file that isn't opened
pub not_printed : {Self F : Type 0} (of : sink.Ghosts Self) (columns : List Column) (f : Listed) (p : Plan) (rows : Trace Row) (x : Self) (fault : RecordsFault F) → EndsSo f rows rows.items fault
    → asks_none p.most ≡ false → PrintsRows of (Err (rows_fault.File fault)) columns f p p rows x x
not_printed of columns f p rows x fault ends asked = (rows.items, prints_none of columns p rows.items x, ends, asked)

-- ---- faults of the sink

-- calls without a fault, one after another
pub blames_more : (x y z : ℕ) → Blames ⊥ x y → Blames ⊥ y z → Blames ⊥ x z
blames_more x y z one two = record {
  later = omega (arith, one.later, two.later);
  rose = λ never. absurd never;
  stays = λ none. two.stays none ∙ one.stays none;
}

-- no call is none without a fault
pub blames_none : (x : ℕ) → Blames ⊥ x x
blames_none x = record { later = omega arith; rose = λ never. absurd never; stays = λ none. refl }

-- where a step is Ok the sink didn't fail
pub ok_writes : {Self F : Type 0} (of : sink.Ghosts Self) (text : List ℕ) (x y : Self) (more : Bool) → WritesText of text ((let r : Result Bool (RowsFault F) = Ok more in r) ≡ Err rows_fault.Sink) x y → WritesText of text ⊥ x y
ok_writes of text x y more w = writes_as of text x y (λ h. let never : ⊥ = cc in never) (λ never. absurd never) w

-- a step was refused
pub printed_err : {Self F : Type 0} (of : sink.Ghosts Self) (columns : List Column) (f : Listed) (p q r : Plan) (d now : DataFile) (x y z : Self) (file : List ℕ) (e : RowsFault F) → KeepsWords p q
    → PrintedUpTo of columns f p q d x y file → StepsBy (Err e) columns f d now (emptied q) r file
    → WritesText of r.text ((let a : Result Bool (RowsFault F) = Err e in a) ≡ Err rows_fault.Sink) y z → PrintsRows of (Err e) columns f p r (rows_of (all_of columns) f file) x z
printed_err of columns f p q r d now x y z file (rows_fault.File inner) words done step w =
    printed_until of columns f p q r d now x y z file inner words done step (writes_as of r.text y z (λ h. let never : ⊥ = cc in never) (λ never. absurd never) w)
printed_err {F = F} of columns f p q r d now x y z file rows_fault.Sink words done step w =
    printed_some F of columns f p q r d x y z file step.0 words done step.1 (writes_as of r.text y z (λ h. tt) (λ h. refl) w)
