-- Rows as maps by the ids of their columns.
use Rattle.std.proofs.Common.{◌≡◌, ℕ, zero, suc, ℤ, Bool, true, false, List, [], ◌∷◌, map, Option, Some, None, refl, sym, ap, ◌∙◌}
use Rattle.std.specs.Prelude.{◌||◌, not, slice_get, if◌then◌else◌}
use Rattle.std.specs.FinMap as finite
use Rattle.std.specs.List.{list_any}
use Rattle.std.specs.Ordering.{int_cmp, int_eq}
use Rattle.std.proofs.lemmas.Bool.{and_parts}
use Rattle.std.proofs.lemmas.Cmp.{int_cmp_total}
use Rattle.icb_types.specs.Columns.{are_distinct_ids}
use Rattle.icb_types.specs.declared.columns.Column.{Column}
use Rattle.icb_types.specs.declared.datum.Datum.{Datum}
use Rattle.icb_rows.specs.Bounds.{present}
use Rattle.icb_rows.specs.Laws.{RowsHaveNoMore, RowsHaveTheirData}
use Rattle.icb_rows.specs.Order.{is_null}
use Rattle.icb_rows.specs.Records.{row_from}
use Rattle.icb_rows.proofs.FileLemmas.{is_false, neither, other_id, same_id}

no_row : (columns : List Column) (id : ℤ) → finite.get (row_from columns []) id ≡ None
no_row [] id = finite.get-empty int_cmp id
no_row (c ∷ columns) id = finite.get-empty int_cmp id

-- a datum in front of others
one_more : (c : Column) (columns : List Column) (d : Datum) (row : List Datum) (id : ℤ)
    → finite.get (row_from (c ∷ columns) (d ∷ row)) id ≡ (if is_null d then finite.get (row_from columns row) id else (if int_eq id c.id then Some d else finite.get (row_from columns row) id))
one_more c columns d row id = by_test (is_null d) refl
  where
    by_test : (b : Bool) → is_null d ≡ b → finite.get (row_from (c ∷ columns) (d ∷ row)) id ≡ (if b then finite.get (row_from columns row) id else (if int_eq id c.id then Some d else finite.get (row_from columns row) id))
    by_test true e = rw e refl
    by_test false e = rw e (finite.get-insert int_cmp_total (row_from columns row) c.id d id)

pub no_more : RowsHaveNoMore
no_more [] row id h = no_row [] id
no_more (c ∷ columns) [] id h = no_row (c ∷ columns) id
no_more (c ∷ columns) (d ∷ row) id h =
    let apart = neither (int_eq c.id id) (list_any (λ e. int_eq e.id id) columns) h in
    one_more c columns d row id ∙ rw (other_id c.id id apart.0, no_more columns row id apart.1) (both (is_null d))
  where
    both : (b : Bool) → ◌≡◌ {A = Option Datum} (if b then None else None) None
    both true = refl
    both false = refl

by_columns : (columns : List Column) (id : ℤ) → list_any (λ other. int_eq other id) (map (λ c. c.id) columns) ≡ list_any (λ c. int_eq c.id id) columns
by_columns [] id = refl
by_columns (c ∷ columns) id = ap (λ (b : Bool). int_eq c.id id || b) (by_columns columns id)

-- a column that is there has another id
other_column : (columns : List Column) (id : ℤ) (at : ℕ) (c : Column) → list_any (λ e. int_eq e.id id) columns ≡ false → slice_get columns at ≡ Some c → int_eq c.id id ≡ false
other_column [] id zero c h e = absurd (let never : ⊥ = cc in never)
other_column [] id (suc at) c h e = absurd (let never : ⊥ = cc in never)
other_column (x ∷ columns) id zero c h e = ap (λ (y : Column). int_eq y.id id) (sym (the_one x c e)) ∙ (neither (int_eq x.id id) (list_any (λ e. int_eq e.id id) columns) h).0
  where
    the_one : (a b : Column) → Some a ≡ Some b → a ≡ b
    the_one a b e = cc
other_column (x ∷ columns) id (suc at) c h e = other_column columns id at c (neither (int_eq x.id id) (list_any (λ e. int_eq e.id id) columns) h).1 e

pub their_data : RowsHaveTheirData
their_data [] row ids zero c e = absurd (let never : ⊥ = cc in never)
their_data [] row ids (suc at) c e = absurd (let never : ⊥ = cc in never)
their_data (x ∷ columns) [] ids zero c e = no_row (x ∷ columns) c.id
their_data (x ∷ columns) [] ids (suc at) c e = no_row (x ∷ columns) c.id
their_data (x ∷ columns) (d ∷ row) ids zero c e =
    let apart = and_parts (not (list_any (λ other. int_eq other x.id) (map (λ y. y.id) columns))) (are_distinct_ids (map (λ y. y.id) columns)) ids in
    let none : finite.get (row_from columns row) x.id ≡ None = no_more columns row x.id (sym (by_columns columns x.id) ∙ is_false _ apart.0) in
    let here : finite.get (row_from (x ∷ columns) (d ∷ row)) x.id ≡ present d = one_more x columns d row x.id ∙ rw (same_id x.id, none) refl in
    ap (λ (y : Column). finite.get (row_from (x ∷ columns) (d ∷ row)) y.id) (sym (the_one x c e)) ∙ here
  where
    the_one : (a b : Column) → Some a ≡ Some b → a ≡ b
    the_one a b e = cc
their_data (x ∷ columns) (d ∷ row) ids (suc at) c e =
    let apart = and_parts (not (list_any (λ other. int_eq other x.id) (map (λ y. y.id) columns))) (are_distinct_ids (map (λ y. y.id) columns)) ids in
    let other = other_column columns x.id at c (sym (by_columns columns x.id) ∙ is_false _ apart.0) e in
    one_more x columns d row c.id ∙ rw other (both (is_null d)) ∙ their_data columns row apart.1 at c e
  where
    both : (b : Bool) → (if b then finite.get (row_from columns row) c.id else finite.get (row_from columns row) c.id) ≡ finite.get (row_from columns row) c.id
    both true = refl
    both false = refl
