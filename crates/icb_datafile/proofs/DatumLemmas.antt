-- The data of a row by its columns' ids, and the line that is printed of them.
use Rattle.std.proofs.Common.{◌≡◌, ℕ, zero, suc, ◌+◌, ◌<◌, true, false, List, [], ◌∷◌, ◌++◌, length, map, drop, Option, Some, None, Result, Ok, Err, IfSome, IfErr, OnOk, OnErr, is_err, ◌≤◌, refl, sym, ap, ◌∙◌, arith, get_or}
use Rattle.std.specs.Prelude.{slice_get, unwrap_or, fold}
use Rattle.icb_schema.specs.Tree.{Fields}
use Rattle.icb_avro.specs.declared.value.Value.{Value}
use Rattle.icb_types.specs.declared.columns.Column.{Column}
use Rattle.icb_types.specs.declared.datum.Datum.{Datum}
use Rattle.icb_types.specs.declared.datum.Datum.TheVariants as datum
use Rattle.icb_types.specs.Lines.{closing, row_line, with_datum}
use Rattle.icb_types.proofs.RowLemmas.{line_of_pieces}
use Rattle.icb_rows.specs.Bounds.{present}
use Rattle.icb_rows.specs.Ranges.{holds}
use Rattle.icb_rows.specs.Records.{datum_by_id, row_by_ids}
use Rattle.icb_rows.specs.Views as views
use Rattle.icb_rows.proofs.RowLemmas.{their_data}
use Rattle.icb_rows.proofs.ChosenLemmas.{chosen_there}
use Rattle.icb_table.specs.Selection.{datum_in, is_within, line_of}
use Rattle.icb_datafile.specs.declared.plan.PlanRange.{PlanRange}
use Rattle.icb_datafile.specs.Plans.{ArePositions, HaveOwnIds, range_at}

-- ---- a datum by its column's id

-- an item that is made of another one stands where that one does
pub get_map : {A B : Type 0} (f : A → B) (xs : List A) (at : ℕ) (x : A) → slice_get xs at ≡ Some x → slice_get (map f xs) at ≡ Some (f x)
get_map f [] zero x e = absurd (let never : ⊥ = cc in never)
get_map f [] (suc at) x e = absurd (let never : ⊥ = cc in never)
get_map {A} f (y ∷ xs) zero x e = ap (λ (z : A). Some (f z)) (the_one y x e)
  where
    the_one : (a b : A) → Some a ≡ Some b → a ≡ b
    the_one a b e = cc
get_map f (y ∷ xs) (suc at) x e = get_map f xs at x e

-- an item stands at each place below the length
pub get_below : {A : Type 0} (xs : List A) (at : ℕ) → at < length xs → (x : A) × (slice_get xs at ≡ Some x)
get_below [] at h = absurd (let never : ⊥ = omega (arith, h) in never)
get_below (x ∷ xs) zero h = (x, refl)
get_below (x ∷ xs) (suc at) h = get_below xs at (omega (arith, h))

-- a datum is present, or null
pub present_is : (d : Datum) → unwrap_or (present d) datum.Null ≡ d
present_is datum.Null = refl
present_is (datum.Boolean b) = refl
present_is (datum.Int n) = refl
present_is (datum.Long n) = refl
present_is (datum.Date n) = refl
present_is (datum.Time n) = refl
present_is (datum.Timestamp n) = refl
present_is (datum.TimestampTz n) = refl
present_is (datum.Text t) = refl
present_is (datum.Uuid n) = refl
present_is (datum.Fixed b) = refl
present_is (datum.Binary b) = refl

-- a row has the datum of each of its columns
pub datum_is : (columns : List Column) (fs : Fields) (vs : List Value) (at : ℕ) (c : Column) → HaveOwnIds columns → slice_get columns at ≡ Some c
    → datum_in (row_by_ids columns fs vs) c.id ≡ datum_by_id c fs vs
datum_is columns fs vs at c own e =
    let g : Column → Datum = λ k. datum_by_id k fs vs in
    ap (λ (d : Option Datum). unwrap_or d datum.Null) (their_data columns (map g columns) own at c e)
    ∙ ap (λ (d : Option Datum). unwrap_or (present (unwrap_or d datum.Null)) datum.Null) (get_map g columns at c e)
    ∙ present_is (g c)

-- ---- the range

pub within_is : (columns : List Column) (fs : Fields) (vs : List Value) (r : PlanRange) (d : Datum) → HaveOwnIds columns → r.place < length columns
    → ((c : Column) → slice_get columns r.place ≡ Some c → d ≡ datum_by_id c fs vs)
    → holds r.range d ≡ is_within (range_at columns (Some r)) (row_by_ids columns fs vs)
within_is columns fs vs r d own h is =
    let there = get_below columns r.place h in
    let c = there.0 in
    ap (holds r.range) (is c there.1 ∙ sym (datum_is columns fs vs r.place c own there.1)) ∙ rw there.1 refl

-- ---- the line

-- the data of the columns that are shown
pub data_are : (columns : List Column) (fs : Fields) (vs : List Value) (positions : List ℕ) → HaveOwnIds columns → ArePositions columns positions
    → map (λ c. datum_in (row_by_ids columns fs vs) c.id) (views.chosen columns positions) ≡ map (λ c. datum_by_id c fs vs) (views.chosen columns positions)
data_are columns fs vs [] own all = refl
data_are columns fs vs (at ∷ positions) own all =
    let there = get_below columns at all.0 in
    let c = there.0 in
    let more = data_are columns fs vs positions own all.1 in
    rw there.1 (ap (λ (d : Datum). d ∷ map (λ k. datum_in (row_by_ids columns fs vs) k.id) (views.chosen columns positions)) (datum_is columns fs vs at c own there.1)
    ∙ ap (λ (ds : List Datum). datum_by_id c fs vs ∷ ds) more)

-- what a line has when the data that are left are put on it
abbrev pub line_with : List ℕ → List Datum → List ℕ
line_with line ds = fold with_datum line ds

-- a position below the length of a list holds in it
pub position_there : (columns : List Column) (positions : List ℕ) (i d : ℕ) → i < length positions → ArePositions columns positions → get_or positions i d < length columns
position_there columns [] i d h all = absurd (let never : ⊥ = omega (arith, h) in never)
position_there columns (p ∷ positions) zero d h all = all.0
position_there columns (p ∷ positions) (suc i) d h all = position_there columns positions i d (omega (arith, h)) all.1

-- one more datum was put on the line
pub line_more : (columns : List Column) (fs : Fields) (vs : List Value) (positions : List ℕ) (i d : ℕ) (line : List ℕ) (x : Datum) → i < length positions → ArePositions columns positions
    → ((c : Column) → slice_get columns (get_or positions i d) ≡ Some c → x ≡ datum_by_id c fs vs)
    → line_with line (map (λ c. datum_by_id c fs vs) (views.chosen columns (drop i positions)))
    ≡ line_with (with_datum line x) (map (λ c. datum_by_id c fs vs) (views.chosen columns (drop (i + 1) positions)))
line_more columns fs vs positions i d line x h all is =
    let there = get_below columns (get_or positions i d) (position_there columns positions i d h all) in
    let c = there.0 in
    ap (λ (cs : List Column). line_with line (map (λ k. datum_by_id k fs vs) cs)) (chosen_there columns positions i d c h there.1)
    ∙ ap (λ (y : Datum). line_with (with_datum line y) (map (λ k. datum_by_id k fs vs) (views.chosen columns (drop (i + 1) positions)))) (sym (is c there.1))

-- the line that is ended is that of the row
pub line_is : (columns : List Column) (fs : Fields) (vs : List Value) (positions : List ℕ) (line : List ℕ) → HaveOwnIds columns → ArePositions columns positions
    → line ≡ line_with [] (map (λ c. datum_by_id c fs vs) (views.chosen columns positions))
    → line ++ closing line ≡ line_of (views.chosen columns positions) (row_by_ids columns fs vs)
line_is columns fs vs positions line own all is =
    ap (λ (l : List ℕ). l ++ closing l) is ∙ line_of_pieces (map (λ c. datum_by_id c fs vs) (views.chosen columns positions))
    ∙ ap row_line (sym (data_are columns fs vs positions own all))

-- nothing is left behind the last position
drop_all : {A : Type 0} (n : ℕ) (xs : List A) → length xs ≤ n → drop n xs ≡ []
drop_all zero [] h = refl
drop_all (suc n) [] h = refl
drop_all zero (x ∷ xs) h = absurd (let never : ⊥ = omega (arith, h) in never)
drop_all (suc n) (x ∷ xs) h = drop_all n xs (omega (arith, h))

-- all data were put on the line
pub line_done : (columns : List Column) (fs : Fields) (vs : List Value) (positions : List ℕ) (i : ℕ) (line all : List ℕ) → length positions ≤ i
    → line_with line (map (λ c. datum_by_id c fs vs) (views.chosen columns (drop i positions))) ≡ all → line ≡ all
line_done columns fs vs positions i line all h is =
    ap (λ (ps : List ℕ). line_with line (map (λ c. datum_by_id c fs vs) (views.chosen columns ps))) (sym (drop_all i positions h)) ∙ is

-- ---- results

-- what follows where a call is Ok
pub ok_then : {A E : Type 0} (r : Result A E) (P Q : Type 0) → (P → Q) → OnOk r P → OnOk r Q
ok_then (Ok x) P Q h p = h p
ok_then (Err e) P Q h p = tt

-- what holds of a call that is Ok
pub when_ok : {A E : Type 0} (r : Result A E) (P : Type 0) → is_err r ≡ false → OnOk r P → P
when_ok (Ok x) P e h = h
when_ok (Err x) P e h = absurd (let never : ⊥ = cc in never)

-- what holds of one that isn't
pub when_err : {A E : Type 0} (r : Result A E) (P : Type 0) → is_err r ≡ true → OnErr r P → P
when_err (Ok x) P e h = absurd (let never : ⊥ = cc in never)
when_err (Err x) P e h = h

-- where the reader failed nothing was to be written, and nothing failed there
pub reader_is_calm : {E : Type 0} {F : Type 0} (o : Option F) (text : List ℕ) (r : Result (Unit {0}) E) → IfSome o (λ _. text ≡ []) → (text ≡ [] → IfErr r (λ _. ⊥)) → is_err r ≡ true → o ≡ None
reader_is_calm None text r quiet empty e = refl
reader_is_calm (Some f) text (Ok x) quiet empty e = absurd (let never : ⊥ = cc in never)
reader_is_calm (Some f) text (Err x) quiet empty e = absurd (empty quiet)
