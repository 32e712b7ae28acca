-- The bounds of columns, one after another.
use Rattle.std.proofs.Common.{◌≡◌, ℕ, ◌+◌, ◌<◌, ◌^◌, ℤ, pos, List, [], ◌∷◌, ◌++◌, length, map, drop, get_or, true, false, Option, None, refl, sym, ap, ◌∙◌, append_assoc, add-one, drop-cons, suc}
use Rattle.std.specs.Prelude.{option_and_then}
use Rattle.std.specs.List.{list_all}
use Rattle.std.proofs.lemmas.List.{append-nil}
use Rattle.std.proofs.lemmas.Int.{to_z-of_z, to_z_pos}
use mir.Val.{SFits, of_z, to_z}
use mir.Syntax.{w32, w64}
use Rattle.icb_types.specs.declared.columns.Column.{Column}
use Rattle.icb_types.specs.declared.datum.Datum.{Datum}
use Rattle.icb_types.specs.Single.{single_of}
use Rattle.icb_rows.specs.declared.bounds.Bounds.{Bounds}
use Rattle.icb_rows.specs.Bounds.{bound_of, bounds_from, column_bounds, column_data, count_nulls, entry_of, greatest, is_short, least, lower_of, then_bounds, upper_of}

-- a column has as many data as there are rows
pub as_many : {A : Type 0} (items : A → List Datum) (at : ℕ) (rows : List A) → length (column_data at (map items rows)) ≡ length rows
as_many items at [] = refl
as_many items at (row ∷ rows) = ap suc (as_many items at rows)

short_bound : (found : Option Datum) (ds : List Datum) → list_all is_short ds ≡ true → option_and_then single_of found ≡ bound_of found ds
short_bound found ds e = rw e refl

alike : {v w n m : List (ℤ × ℤ)} {l k u t : List (ℤ × List ℕ)} → v ≡ w → n ≡ m → l ≡ k → u ≡ t
    → ◌≡◌ {A = Bounds} (record { values = v; nulls = n; lower = l; upper = u }) (record { values = w; nulls = m; lower = k; upper = t })
alike ev en el eu = rw (ev, en, el, eu) refl

-- a column whose data are short was added
pub added_short : (b : Bounds) (values nulls : List (ℤ × ℤ)) (lower upper : List (ℤ × List ℕ)) (id : ℤ) (ds : List Datum) (low high : Option Datum)
    → list_all is_short ds ≡ true → low ≡ least ds → high ≡ greatest ds
    → values ≡ b.values ++ (id, pos (length ds)) ∷ [] → nulls ≡ b.nulls ++ (id, pos (count_nulls ds)) ∷ []
    → lower ≡ b.lower ++ entry_of id (option_and_then single_of low) → upper ≡ b.upper ++ entry_of id (option_and_then single_of high)
    → ◌≡◌ {A = Bounds} (record { values = values; nulls = nulls; lower = lower; upper = upper }) (then_bounds b (column_bounds id ds))
added_short b values nulls lower upper id ds low high short l h ev en el eu =
    let lows : lower ≡ b.lower ++ entry_of id (lower_of ds) =
    el ∙ ap (λ (x : Option (List ℕ)). b.lower ++ entry_of id x) (ap (option_and_then single_of) l ∙ short_bound (least ds) ds short) in
    let highs : upper ≡ b.upper ++ entry_of id (upper_of ds) =
    eu ∙ ap (λ (x : Option (List ℕ)). b.upper ++ entry_of id x) (ap (option_and_then single_of) h ∙ short_bound (greatest ds) ds short) in
    alike ev en lows highs

no_bound : (found : Option Datum) (ds : List Datum) → list_all is_short ds ≡ false → bound_of found ds ≡ None
no_bound found ds e = rw e refl

-- a column without bounds was added
pub added_long : (b : Bounds) (values nulls : List (ℤ × ℤ)) (id : ℤ) (ds : List Datum) → list_all is_short ds ≡ false
    → values ≡ b.values ++ (id, pos (length ds)) ∷ [] → nulls ≡ b.nulls ++ (id, pos (count_nulls ds)) ∷ []
    → ◌≡◌ {A = Bounds} (record { values = values; nulls = nulls; lower = b.lower; upper = b.upper }) (then_bounds b (column_bounds id ds))
added_long b values nulls id ds long ev en =
    let lows : b.lower ≡ b.lower ++ entry_of id (lower_of ds) =
    sym (append-nil b.lower) ∙ ap (λ (x : Option (List ℕ)). b.lower ++ entry_of id x) (sym (no_bound (least ds) ds long)) in
    let highs : b.upper ≡ b.upper ++ entry_of id (upper_of ds) =
    sym (append-nil b.upper) ∙ ap (λ (x : Option (List ℕ)). b.upper ++ entry_of id x) (sym (no_bound (greatest ds) ds long)) in
    alike ev en lows highs

joined : (a b c : Bounds) → then_bounds (then_bounds a b) c ≡ then_bounds a (then_bounds b c)
joined a b c = rw (append_assoc a.values b.values c.values, append_assoc a.nulls b.nulls c.nulls, append_assoc a.lower b.lower c.lower, append_assoc a.upper b.upper c.upper) refl

-- one column more
pub bounds_more : (columns : List Column) (i : ℕ) (c : Column) (rows : List (List Datum)) (now new whole : Bounds) → i < length columns → c ≡ get_or columns i c
    → then_bounds now (bounds_from i (drop i columns) rows) ≡ whole → new ≡ then_bounds now (column_bounds c.id (column_data i rows))
    → then_bounds new (bounds_from (i + 1) (drop (i + 1) columns) rows) ≡ whole
bounds_more columns i c rows now new whole h is was done =
    let left : bounds_from i (drop i columns) rows ≡ then_bounds (column_bounds c.id (column_data i rows)) (bounds_from (i + 1) (drop (suc i) columns) rows) =
    rw (drop-cons columns i c, ← is) refl in
    let next : drop (i + 1) columns ≡ drop (suc i) columns = ap (λ (n : ℕ). drop n columns) (add-one i) in
    rw (next, done) (joined now (column_bounds c.id (column_data i rows)) (bounds_from (i + 1) (drop (suc i) columns) rows) ∙ sym (ap (then_bounds now) left) ∙ was)

-- a count was pushed with its column's id
pub pushed : (old new : List (ℤ × ℤ)) (id : ℤ) (n m : ℕ) → SFits w32 id → n < 2 ^ 63 → n ≡ m → new ≡ old ++ (to_z w32 (of_z w32 id), to_z w64 n) ∷ [] → new ≡ old ++ (id, pos m) ∷ []
pushed old new id n m fits small same e =
    let both : ◌≡◌ {A = ℤ × ℤ} (to_z w32 (of_z w32 id), to_z w64 n) (id, pos m) = rw (to_z-of_z w32 id fits, to_z_pos w64 n small, same) refl in
    e ∙ ap (λ (x : ℤ × ℤ). old ++ x ∷ []) both
