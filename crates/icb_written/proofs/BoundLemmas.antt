-- The bounds of rows bound what is read of them.
use Rattle.std.proofs.Common.{◌≡◌, ℕ, zero, suc, ◌+◌, Bool, true, false, List, [], ◌∷◌, ◌++◌, map, Option, Some, None, IfSome, inl, inr, refl, sym, ap, subst, ◌∙◌, arith}
use Rattle.std.specs.Prelude.{ℤ, ◌⊎◌, not, slice_get, unwrap_or, if◌then◌else◌}
use Rattle.std.specs.List.{AllByRecursion, list_any}
use Rattle.std.specs.Ordering.{int_eq}
use Rattle.std.proofs.lemmas.Bool.{and_parts}
use Rattle.icb_types.specs.Columns.{are_distinct_ids}
use Rattle.icb_types.specs.Fits.{FitsColumn, FitsColumns, IsDatum, kind_of}
use Rattle.icb_types.specs.declared.columns.Column.{Column}
use Rattle.icb_types.specs.declared.datum.Datum.{Datum}
use Rattle.icb_types.specs.declared.datum.Datum.TheVariants as datum
use Rattle.icb_rows.specs.Bounds.{IsLowerBound, IsUpperBound, bounds_from, bounds_of, column_data, datum_at, entry_of, lower_of, present, upper_of}
use Rattle.icb_rows.specs.Laws.{IsOfKind}
use Rattle.icb_rows.specs.Order.{is_null}
use Rattle.icb_rows.specs.Records.{row_from}
use Rattle.icb_rows.specs.Rows.{IsRowOf}
use Rattle.icb_rows.proofs.BoundLemmas.{bounds_bound}
use Rattle.icb_rows.proofs.FileLemmas.{from_zero, is_false, neither, other_id, same_id}
use Rattle.icb_rows.proofs.RowLemmas.{their_data}
use Rattle.icb_manifest.specs.declared.file.DataFile.{DataFile}
use Rattle.icb_table.specs.Selection.{datum_in}
use Rattle.icb_table.specs.Table.{BoundsHold}
use Rattle.icb_table.specs.Visited.{bound_of}
use Rattle.icb_written.specs.Laws.{WrittenBoundsHold}

-- ---- the bound of a column among those that are written

-- one bound of each column, where it is there
abbrev entries_from : (List Datum → Option (List ℕ)) → ℕ → List Column → List (List Datum) → List (ℤ × List ℕ)
entries_from pick at [] rows = []
entries_from pick at (c ∷ columns) rows = entry_of c.id (pick (column_data at rows)) ++ entries_from pick (at + 1) columns rows

lower_entries : (at : ℕ) (columns : List Column) (rows : List (List Datum)) → (bounds_from at columns rows).lower ≡ entries_from lower_of at columns rows
lower_entries at [] rows = refl
lower_entries at (c ∷ columns) rows = ap (λ (more : List (ℤ × List ℕ)). entry_of c.id (lower_of (column_data at rows)) ++ more) (lower_entries (at + 1) columns rows)

upper_entries : (at : ℕ) (columns : List Column) (rows : List (List Datum)) → (bounds_from at columns rows).upper ≡ entries_from upper_of at columns rows
upper_entries at [] rows = refl
upper_entries at (c ∷ columns) rows = ap (λ (more : List (ℤ × List ℕ)). entry_of c.id (upper_of (column_data at rows)) ++ more) (upper_entries (at + 1) columns rows)

-- a bound of another column doesn't count
past_entry : (id own : ℤ) (o : Option (List ℕ)) (more : List (ℤ × List ℕ)) → int_eq own id ≡ false → bound_of id (entry_of own o ++ more) ≡ bound_of id more
unfolding bound_of
past_entry id own None more e = refl
past_entry id own (Some bytes) more e = rw e refl

-- the bound of a column in front of others
own_entry : (id : ℤ) (o : Option (List ℕ)) (more : List (ℤ × List ℕ)) → bound_of id more ≡ None → bound_of id (entry_of id o ++ more) ≡ o
unfolding bound_of
own_entry id None more none = none
own_entry id (Some bytes) more none = rw (same_id id) refl

no_entry : (pick : List Datum → Option (List ℕ)) (id : ℤ) (at : ℕ) (columns : List Column) (rows : List (List Datum)) → list_any (λ other. int_eq other id) (map (λ c. c.id) columns) ≡ false
    → bound_of id (entries_from pick at columns rows) ≡ None
unfolding bound_of
no_entry pick id at [] rows h = refl
no_entry pick id at (c ∷ columns) rows h =
    let apart = neither (int_eq c.id id) (list_any (λ other. int_eq other id) (map (λ e. e.id) columns)) h in
    past_entry id c.id (pick (column_data at rows)) (entries_from pick (at + 1) columns rows) apart.0 ∙ no_entry pick id (at + 1) columns rows apart.1

the_one : {A : Type 0} (x y : A) → Some x ≡ Some y → x ≡ y
the_one x y e = cc

-- a column that is there has another id than one that isn't
other_there : (columns : List Column) (id : ℤ) (at : ℕ) (c : Column) → list_any (λ e. int_eq e id) (map (λ e. e.id) columns) ≡ false → slice_get columns at ≡ Some c → int_eq c.id id ≡ false
other_there [] id zero c h e = absurd (let never : ⊥ = cc in never)
other_there [] id (suc at) c h e = absurd (let never : ⊥ = cc in never)
other_there (x ∷ columns) id zero c h e =
    ap (λ (y : Column). int_eq y.id id) (sym (the_one x c e)) ∙ (neither (int_eq x.id id) (list_any (λ e. int_eq e id) (map (λ e. e.id) columns)) h).0
other_there (x ∷ columns) id (suc at) c h e = other_there columns id at c (neither (int_eq x.id id) (list_any (λ e. int_eq e id) (map (λ e. e.id) columns)) h).1 e

-- the bound of the column at a position is what was picked of its data
entry_there : (pick : List Datum → Option (List ℕ)) (first : ℕ) (columns : List Column) (rows : List (List Datum)) (at : ℕ) (c : Column)
    → are_distinct_ids (map (λ e. e.id) columns) ≡ true → slice_get columns at ≡ Some c → bound_of c.id (entries_from pick first columns rows) ≡ pick (column_data (first + at) rows)
entry_there pick first [] rows zero c ids e = absurd (let never : ⊥ = cc in never)
entry_there pick first [] rows (suc at) c ids e = absurd (let never : ⊥ = cc in never)
entry_there pick first (x ∷ columns) rows zero c ids e =
    let apart = and_parts (not (list_any (λ other. int_eq other x.id) (map (λ y. y.id) columns))) (are_distinct_ids (map (λ y. y.id) columns)) ids in
    let none = no_entry pick x.id (first + 1) columns rows (is_false _ apart.0) in
    let same : first ≡ first + 0 = omega arith in
    ap (λ (y : Column). bound_of y.id (entries_from pick first (x ∷ columns) rows)) (sym (the_one x c e))
    ∙ own_entry x.id (pick (column_data first rows)) (entries_from pick (first + 1) columns rows) none ∙ ap (λ (n : ℕ). pick (column_data n rows)) same
entry_there pick first (x ∷ columns) rows (suc at) c ids e =
    let apart = and_parts (not (list_any (λ other. int_eq other x.id) (map (λ y. y.id) columns))) (are_distinct_ids (map (λ y. y.id) columns)) ids in
    let other = other_id c.id x.id (other_there columns x.id at c (is_false _ apart.0) e) in
    let same : first + 1 + at ≡ first + suc at = omega arith in
    past_entry c.id x.id (pick (column_data first rows)) (entries_from pick (first + 1) columns rows) other
    ∙ entry_there pick (first + 1) columns rows at c apart.1 e ∙ ap (λ (n : ℕ). pick (column_data n rows)) same

-- ---- the data of a column

null_is : (d : Datum) → is_null d ≡ true → d ≡ datum.Null
null_is datum.Null e = refl
null_is (datum.Boolean b) e = absurd (let never : ⊥ = cc in never)
null_is (datum.Int n) e = absurd (let never : ⊥ = cc in never)
null_is (datum.Long n) e = absurd (let never : ⊥ = cc in never)
null_is (datum.Date n) e = absurd (let never : ⊥ = cc in never)
null_is (datum.Time n) e = absurd (let never : ⊥ = cc in never)
null_is (datum.Timestamp n) e = absurd (let never : ⊥ = cc in never)
null_is (datum.TimestampTz n) e = absurd (let never : ⊥ = cc in never)
null_is (datum.Text text) e = absurd (let never : ⊥ = cc in never)
null_is (datum.Uuid u) e = absurd (let never : ⊥ = cc in never)
null_is (datum.Fixed bytes) e = absurd (let never : ⊥ = cc in never)
null_is (datum.Binary bytes) e = absurd (let never : ⊥ = cc in never)

present_or_null : (d : Datum) → unwrap_or (present d) datum.Null ≡ d
present_or_null d = by_test (is_null d) refl
  where
    by_test : (b : Bool) → is_null d ≡ b → unwrap_or (if b then None else Some d) datum.Null ≡ d
    by_test true e = sym (null_is d e)
    by_test false e = refl

column_read : (columns : List Column) (at : ℕ) (c : Column) (given : List (List Datum)) → are_distinct_ids (map (λ e. e.id) columns) ≡ true → slice_get columns at ≡ Some c
    → map (λ row. datum_in row c.id) (map (row_from columns) given) ≡ column_data at given
column_read columns at c [] ids e = refl
column_read columns at c (row ∷ given) ids e =
    let here : datum_in (row_from columns row) c.id ≡ datum_at at row = ap (λ (o : Option Datum). unwrap_or o datum.Null) (their_data columns row ids at c e) ∙ present_or_null (datum_at at row) in
    ap (λ (d : Datum). d ∷ map (λ r. datum_in r c.id) (map (row_from columns) given)) here
    ∙ ap (λ (ds : List Datum). datum_at at row ∷ ds) (column_read columns at c given ids e)

kind_there : (c : Column) (d : Datum) → FitsColumn c d → (is_null d ≡ true) ⊎ (kind_of d ≡ Some c.kind)
kind_there c datum.Null h = inl refl
kind_there c (datum.Boolean b) h = inr (ap Some (sym h))
kind_there c (datum.Int n) h = inr (ap Some (sym h))
kind_there c (datum.Long n) h = inr (ap Some (sym h))
kind_there c (datum.Date n) h = inr (ap Some (sym h))
kind_there c (datum.Time n) h = inr (ap Some (sym h))
kind_there c (datum.Timestamp n) h = inr (ap Some (sym h))
kind_there c (datum.TimestampTz n) h = inr (ap Some (sym h))
kind_there c (datum.Text text) h = inr (ap Some (sym h))
kind_there c (datum.Uuid u) h = inr (ap Some (sym h))
kind_there c (datum.Fixed bytes) h = inr (ap Some (sym h))
kind_there c (datum.Binary bytes) h = inr (ap Some (sym h))

of_kind : (columns : List Column) (row : List Datum) (at : ℕ) (c : Column) → FitsColumns columns row → AllByRecursion IsDatum row → slice_get columns at ≡ Some c → IsOfKind c.kind (datum_at at row)
of_kind [] row zero c fits is e = absurd (let never : ⊥ = cc in never)
of_kind [] row (suc at) c fits is e = absurd (let never : ⊥ = cc in never)
of_kind (x ∷ columns) [] at c fits is e = absurd fits
of_kind (x ∷ columns) (d ∷ row) zero c fits is e = subst (λ (y : Column). IsOfKind y.kind d) (the_one x c e) (is.0, kind_there x d fits.0)
of_kind (x ∷ columns) (d ∷ row) (suc at) c fits is e = of_kind columns row at c fits.1 is.1 e

column_of_kind : (columns : List Column) (at : ℕ) (c : Column) (given : List (List Datum)) → AllByRecursion (IsRowOf columns) given → slice_get columns at ≡ Some c
    → AllByRecursion (IsOfKind c.kind) (column_data at given)
column_of_kind columns at c [] all e = tt
column_of_kind columns at c (row ∷ given) all e = (of_kind columns row at c all.0.0 all.0.1 e, column_of_kind columns at c given all.1 e)

-- ---- the bounds

-- what a bound that is there says of the data
bound_says : (P : List ℕ → List Datum → Type 0) (found picked : Option (List ℕ)) (ds read : List Datum) → found ≡ picked → read ≡ ds → ((bytes : List ℕ) → picked ≡ Some bytes → P bytes ds)
    → IfSome found (λ bytes. P bytes read)
bound_says P found None ds read e same says = subst (λ (o : Option (List ℕ)). IfSome o (λ bytes. P bytes read)) (sym e) tt
bound_says P found (Some bytes) ds read e same says = subst (λ (o : Option (List ℕ)). IfSome o (λ b. P b read)) (sym e) (subst (λ (xs : List Datum). P bytes xs) (sym same) (says bytes refl))

column_bounded : (columns : List Column) (given : List (List Datum)) (file : DataFile) (at : ℕ) (c : Column) → are_distinct_ids (map (λ e. e.id) columns) ≡ true → AllByRecursion (IsRowOf columns) given
    → file.lower ≡ (bounds_of columns given).lower → file.upper ≡ (bounds_of columns given).upper → slice_get columns at ≡ Some c → BoundsHold file (map (row_from columns) given) c
column_bounded columns given file at c ids all low high there =
    let ds : List Datum = column_data at given in
    let read = column_read columns at c given ids there in
    let bounds = λ (bytes : List ℕ). bounds_bound c.kind ds bytes (column_of_kind columns at c given all there) in
    let lower : bound_of c.id file.lower ≡ lower_of ds =
    ap (bound_of c.id) (low ∙ lower_entries 0 columns given) ∙ entry_there lower_of 0 columns given at c ids there ∙ ap (λ (n : ℕ). lower_of (column_data n given)) (from_zero at) in
    let upper : bound_of c.id file.upper ≡ upper_of ds =
    ap (bound_of c.id) (high ∙ upper_entries 0 columns given) ∙ entry_there upper_of 0 columns given at c ids there ∙ ap (λ (n : ℕ). upper_of (column_data n given)) (from_zero at) in
    record {
      lower = λ _. bound_says (IsLowerBound c.kind) (bound_of c.id file.lower) (lower_of ds) ds _ lower read (λ bytes e. (bounds bytes).0 e);
      upper = λ _. bound_says (IsUpperBound c.kind) (bound_of c.id file.upper) (upper_of ds) ds _ upper read (λ bytes e. (bounds bytes).1 e);
    }

each_column : (P : Column → Type 0) (columns : List Column) → ((at : ℕ) (c : Column) → slice_get columns at ≡ Some c → P c) → AllByRecursion P columns
each_column P [] h = tt
each_column P (c ∷ columns) h = (h 0 c refl, each_column P columns (λ at e is. h (suc at) e is))

pub written_bounds_hold : WrittenBoundsHold
written_bounds_hold columns given file are all low high =
    each_column (BoundsHold file (map (row_from columns) given)) columns (λ at c there. column_bounded columns given file at c are.ids all low high there)
