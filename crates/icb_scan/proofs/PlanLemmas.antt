-- Columns by their names, and by their positions.
use Rattle.std.specs.Prelude.{◌≡◌, ◌<◌, ℕ, ℤ, zero, suc, ◌+◌, Bool, true, List, [], ◌∷◌, ◌++◌, length, drop, bytes_eq, slice_get, Option, Some, None, option_map, Result, Ok, Err, if◌then◌else◌}
use Rattle.std.proofs.Common.{refl, ap, sym, ◌∙◌, append_assoc, append-nil, get_or, add-one}
use Rattle.std.proofs.Math.Seq.{drop-cons}
use Rattle.icb_types.specs.declared.columns.Column.{Column}
use Rattle.icb_types.specs.Steps.{◌>>=◌}
use Rattle.icb_rows.specs.Ranges.{column_named, may_hold}
use Rattle.icb_rows.specs.Views.{chosen}
use Rattle.icb_rows.specs.declared.fault.RangeFault.{RangeFault}
use Rattle.icb_rows.specs.declared.fault.RangeFault.TheVariants as fault
use Rattle.icb_datafile.proofs.DatumLemmas.{get_below}
use Rattle.icb_datafile.proofs.PositionLemmas.{chosen_append, positions_more}
use Rattle.icb_datafile.specs.Plans.{ArePositions}
use Rattle.icb_manifest.specs.declared.file.DataFile.{DataFile}
use Rattle.icb_datafile.specs.Plans.{range_at}
use Rattle.icb_datafile.specs.declared.plan.PlanRange.{PlanRange}
use Rattle.icb_table.specs.Selection.{ColumnRange, Query, columns_named, columns_shown, range_meant, selection_of}
use Rattle.icb_table.specs.Visited.{bound_of, may_match}
use Rattle.icb_scan.specs.Planning.{FindsColumns, IsFirst, IsNoColumn}

-- columns, and then those that are found
abbrev pub prepend : List Column → Result (List Column) RangeFault → Result (List Column) RangeFault
prepend columns (Ok more) = Ok (columns ++ more)
prepend columns (Err e) = Err e

-- the columns of the names up to one are found, and those behind are still to be
pub record Found (columns : List Column) (names : List (List ℕ)) (rest : List (List ℕ)) (positions : List ℕ) : Type 0 where
  pub same : columns_named columns names ≡ prepend (chosen columns positions) (columns_named columns rest)
  pub are : ArePositions columns positions

prepend_none : (r : Result (List Column) RangeFault) → r ≡ prepend [] r
prepend_none (Ok cs) = refl
prepend_none (Err e) = refl

pub found_none : (columns : List Column) (names : List (List ℕ)) → Found columns names names []
found_none columns names = record { same = prepend_none (columns_named columns names); are = tt }

prepend_more : (cs : List Column) (c : Column) (r : Result (List Column) RangeFault) → prepend cs (r >>= (λ ds. Ok (c ∷ ds))) ≡ prepend (cs ++ c ∷ []) r
prepend_more cs c (Ok ds) = ap (λ (es : List Column). (let r : Result (List Column) RangeFault = Ok es in r)) (sym (append_assoc cs (c ∷ []) ds))
prepend_more cs c (Err e) = refl

named_some : (columns : List Column) (name : List ℕ) (names : List (List ℕ)) (c : Column) → column_named name columns ≡ Some c
    → columns_named columns (name ∷ names) ≡ (columns_named columns names >>= (λ ds. Ok (c ∷ ds)))
unfolding columns_named
named_some columns name names c e = rw e refl

named_none : (columns : List Column) (name : List ℕ) (names : List (List ℕ)) → column_named name columns ≡ None
    → columns_named columns (name ∷ names) ≡ Err (fault.NoColumn name)
unfolding columns_named
named_none columns name names e = rw e refl

-- one column more is found
pub found_more : (columns : List Column) (names rest behind : List (List ℕ)) (name : List ℕ) (positions more : List ℕ) (at : ℕ) → Found columns names rest positions
    → rest ≡ name ∷ behind → at < length columns → column_named name columns ≡ slice_get columns at → more ≡ positions ++ at ∷ [] → Found columns names behind more
found_more columns names rest behind name positions more at h split inside is pushed =
    let there = get_below columns at inside in
    let c : Column = there.0 in
    let one : chosen columns (at ∷ []) ≡ c ∷ [] = rw there.1 refl in
    let shown : chosen columns more ≡ chosen columns positions ++ c ∷ [] =
    ap (chosen columns) pushed ∙ chosen_append columns positions (at ∷ []) ∙ ap (λ (cs : List Column). chosen columns positions ++ cs) one in
    record {
      same = h.same ∙ ap (λ (ns : List (List ℕ)). prepend (chosen columns positions) (columns_named columns ns)) split
          ∙ ap (prepend (chosen columns positions)) (named_some columns name behind c (is ∙ there.1))
          ∙ prepend_more (chosen columns positions) c (columns_named columns behind)
          ∙ ap (λ (cs : List Column). prepend cs (columns_named columns behind)) (sym shown);
      are = positions_more columns positions more at inside h.are pushed;
    }

none_behind : (columns : List Column) → columns_named columns [] ≡ Ok []
unfolding columns_named
none_behind columns = refl

-- all columns are found
pub found_all : (columns : List Column) (names rest : List (List ℕ)) (positions : List ℕ) → Found columns names rest positions → rest ≡ []
    → FindsColumns columns (columns_named columns names) (Ok positions)
found_all columns names rest positions h none = (
  h.same ∙ ap (λ (ns : List (List ℕ)). prepend (chosen columns positions) (columns_named columns ns)) none
      ∙ ap (prepend (chosen columns positions)) (none_behind columns)
      ∙ ap (λ (cs : List Column). (let r : Result (List Column) RangeFault = Ok cs in r)) (append-nil (chosen columns positions)),
  h.are,
)

-- a column isn't there
pub found_not : (columns : List Column) (names rest behind : List (List ℕ)) (name : List ℕ) (positions : List ℕ) (e : RangeFault) → Found columns names rest positions
    → rest ≡ name ∷ behind → column_named name columns ≡ None → IsNoColumn name e → FindsColumns columns (columns_named columns names) (Err e)
found_not columns names rest behind name positions (fault.NoColumn other) h split none is =
    h.same ∙ ap (λ (ns : List (List ℕ)). prepend (chosen columns positions) (columns_named columns ns)) split
    ∙ ap (prepend (chosen columns positions)) (named_none columns name behind none)
    ∙ ap (λ (n : List ℕ). (let r : Result (List Column) RangeFault = Err (fault.NoColumn n) in r)) (sym is)
found_not columns names rest behind name positions (fault.BadRange other) h split none is = absurd is
found_not columns names rest behind name positions fault.NoMemory h split none is = tt

-- ---- what a query's words mean

plan_first : (columns : List Column) (q : Query) (e : RangeFault) → columns_shown columns q.columns ≡ Err e → selection_of columns q ≡ Err e
unfolding selection_of
plan_first columns q e is = rw is refl

pub plan_columns : (columns : List Column) (q : Query) (e : RangeFault) → IsFirst (columns_shown columns q.columns) e → IsFirst (selection_of columns q) e
plan_columns columns q (fault.NoColumn name) h = plan_first columns q (fault.NoColumn name) h
plan_columns columns q (fault.BadRange name) h = plan_first columns q (fault.BadRange name) h
plan_columns columns q fault.NoMemory h = tt

plan_second : (columns shown : List Column) (q : Query) (e : RangeFault) → columns_shown columns q.columns ≡ Ok shown → range_meant columns q.range ≡ Err e → selection_of columns q ≡ Err e
unfolding selection_of
plan_second columns shown q e is h = rw (is, h) refl

pub plan_range : (columns shown : List Column) (q : Query) (e : RangeFault) → columns_shown columns q.columns ≡ Ok shown → IsFirst (range_meant columns q.range) e → IsFirst (selection_of columns q) e
plan_range columns shown q (fault.NoColumn name) is h = plan_second columns shown q (fault.NoColumn name) is h
plan_range columns shown q (fault.BadRange name) is h = plan_second columns shown q (fault.BadRange name) is h
plan_range columns shown q fault.NoMemory is h = tt

pub plan_is : (columns shown : List Column) (q : Query) (range : Option ColumnRange) → columns_shown columns q.columns ≡ Ok shown → range_meant columns q.range ≡ Ok range
    → selection_of columns q ≡ Ok (record { columns = shown; range = range; skip = q.skip; most = q.most })
unfolding selection_of
plan_is columns shown q range is h = rw (is, h) refl

-- ---- a column's position

got_is : {A : Type 0} (xs : List A) (n : ℕ) (d x : A) → slice_get xs n ≡ Some x → get_or xs n d ≡ x
got_is [] zero d x e = absurd (let never : ⊥ = cc in never)
got_is [] (suc n) d x e = absurd (let never : ⊥ = cc in never)
got_is (y ∷ xs) zero d x e = cc
got_is (y ∷ xs) (suc n) d x e = got_is xs n d x e

named_here : (columns : List Column) (name : List ℕ) (at : ℕ) (c : Column) → slice_get columns at ≡ Some c → bytes_eq c.name name ≡ true
    → column_named name (drop at columns) ≡ Some c
named_here columns name at c got is = found columns at got
  where
    found : (cs : List Column) (n : ℕ) → slice_get cs n ≡ Some c → column_named name (drop n cs) ≡ Some c
    found [] zero e = absurd (let never : ⊥ = cc in never)
    found [] (suc n) e = absurd (let never : ⊥ = cc in never)
    found (d ∷ cs) zero e = let one : d ≡ c = cc in ap (λ (x : Column). (if bytes_eq x.name name then Some x else column_named name cs)) one ∙ rw is refl
    found (d ∷ cs) (suc n) e = found cs n e

-- the first column behind some that haven't the name
pub position_here : (columns : List Column) (name : List ℕ) (at : ℕ) (c : Column) → at < length columns → c ≡ get_or columns at c → bytes_eq c.name name ≡ true
    → column_named name (drop at columns) ≡ column_named name columns → column_named name columns ≡ slice_get columns at
position_here columns name at c inside is named same =
    let there = get_below columns at inside in
    let one : c ≡ there.0 = is ∙ got_is columns at c there.0 there.1 in
    sym same ∙ named_here columns name at there.0 there.1 (ap (λ (x : Column). bytes_eq x.name name) (sym one) ∙ named) ∙ sym there.1

-- ---- bounds

matches_by : (r : PlanRange) (o : Option Column) (id : ℤ) (file : DataFile) → option_map (λ c. c.id) o ≡ Some id
    → may_hold r.range (bound_of id file.lower) (bound_of id file.upper) ≡ may_match (option_map (λ c. record { id = c.id; range = r.range }) o) file
matches_by r None id file e = absurd (let never : ⊥ = cc in never)
matches_by r (Some c) id file e = let same : c.id ≡ id = cc in ap (λ (i : ℤ). may_hold r.range (bound_of i file.lower) (bound_of i file.upper)) (sym same)

pub matches_is : (columns : List Column) (o : Option PlanRange) (r : PlanRange) (id : ℤ) (file : DataFile) (answer : Bool) → o ≡ Some r → option_map (λ c. c.id) (slice_get columns r.place) ≡ Some id
    → answer ≡ may_hold r.range (bound_of id file.lower) (bound_of id file.upper) → answer ≡ may_match (range_at columns o) file
matches_is columns o r id file answer is got h =
    h ∙ matches_by r (slice_get columns r.place) id file got ∙ sym (ap (λ (x : Option PlanRange). may_match (range_at columns x) file) is)

-- ---- names

pub next_name : (names : List (List ℕ)) (i : ℕ) (name : List ℕ) → i < length names → name ≡ get_or names i name → drop i names ≡ name ∷ drop (i + 1) names
next_name names i name within is = rw (add-one, drop-cons names i name, ← is) refl
