-- A file that holds rows is read as them.
use Rattle.std.proofs.Common.{◌≡◌, ℕ, zero, suc, Bool, true, false, true≢false, List, [], ◌∷◌, map, Option, Some, None, refl, sym, ap, subst, ◌∙◌}
use Rattle.std.specs.Prelude.{◌&&◌, not, slice_get}
use Rattle.std.specs.List.{AllByRecursion, list_all}
use Rattle.std.specs.FinMap as finite
use Rattle.icb_schema.specs.Tree.{Fields, Tree}
use Rattle.icb_schema.specs.Shape.{shape}
use Rattle.icb_avro.specs.declared.value.Value.{Value}
use Rattle.icb_container.specs.Content.{Content}
use Rattle.icb_types.specs.Columns.{are_distinct_ids}
use Rattle.icb_types.specs.Fits.{FitsColumn, FitsColumns}
use Rattle.icb_types.specs.Table.{table_tree}
use Rattle.icb_types.specs.declared.columns.Column.{Column}
use Rattle.icb_types.specs.declared.datum.Datum.{Datum}
use Rattle.icb_types.specs.declared.datum.Datum.TheVariants as datum
use Rattle.icb_rows.specs.Bounds.{datum_at, present}
use Rattle.icb_rows.specs.Laws.{has_required}
use Rattle.icb_rows.specs.Order.{is_null}
use Rattle.icb_rows.specs.Records.{Row, datum_by_id, file_fields, first_unfit, row_by_ids, row_from}
use Rattle.icb_rows.specs.Rows.{field_values}
use Rattle.icb_rows.proofs.RowLemmas.{their_data}
use Rattle.icb_table.specs.Laws.{IsDataFile}
use Rattle.icb_table.specs.Rows.{record_shape}
use Rattle.icb_table.specs.Trace.{whole}
use Rattle.icb_table.proofs.DataLemmas.{data_rows_are_content}
use Rattle.icb_written.specs.Laws.{HeldRowsAreRead}
use Rattle.icb_written.proofs.FieldLemmas.{columns_fit}

-- ---- no required column is null

the_one : {A : Type 0} (x y : A) → Some x ≡ Some y → x ≡ y
the_one x y e = cc

-- the datum of a column at its position
pub mapped_at : (f : Column → Datum) (columns : List Column) (at : ℕ) (c : Column) → slice_get columns at ≡ Some c → datum_at at (map f columns) ≡ f c
mapped_at f [] zero c e = absurd (let never : ⊥ = cc in never)
mapped_at f [] (suc at) c e = absurd (let never : ⊥ = cc in never)
mapped_at f (x ∷ columns) zero c e = ap f (the_one x c e)
mapped_at f (x ∷ columns) (suc at) c e = mapped_at f columns at c e

-- a datum of a required column isn't null
never_null : (c : Column) (d : Datum) → FitsColumn c d → c.required ≡ true → is_null d ≡ false
never_null c datum.Null h r = absurd (true≢false (sym r ∙ h))
never_null c (datum.Boolean b) h r = refl
never_null c (datum.Int n) h r = refl
never_null c (datum.Long n) h r = refl
never_null c (datum.Date n) h r = refl
never_null c (datum.Time n) h r = refl
never_null c (datum.Timestamp n) h r = refl
never_null c (datum.TimestampTz n) h r = refl
never_null c (datum.Text text) h r = refl
never_null c (datum.Uuid u) h r = refl
never_null c (datum.Fixed bytes) h r = refl
never_null c (datum.Binary bytes) h r = refl

no_datum : (d : Datum) → ◌≡◌ {A = Option Datum} None (Some d) → ⊥
no_datum d e = cc

null_absent : (d : Datum) → is_null d ≡ true → present d ≡ None
null_absent d e = rw e refl

other_present : (d : Datum) → is_null d ≡ false → present d ≡ Some d
other_present d e = rw e refl

-- data that are there together
both_there : (a d : Datum) → present a ≡ present d → is_null d ≡ false → is_null a ≡ false
both_there a d same there = by_test (is_null a) refl
  where
    by_test : (b : Bool) → is_null a ≡ b → is_null a ≡ false
    by_test true e = absurd (no_datum d (sym (null_absent a e) ∙ same ∙ other_present d there))
    by_test false e = e

required_there : (c : Column) (a d : Datum) → FitsColumn c d → present a ≡ present d → not (c.required && is_null a) ≡ true
required_there c a d fits same = by_required c.required refl
  where
    by_required : (b : Bool) → c.required ≡ b → not (c.required && is_null a) ≡ true
    by_required true r = rw (r, both_there a d same (never_null c d fits r)) refl
    by_required false r = rw r refl

all_required : (f : Column → Datum) (columns : List Column) (row : List Datum) → FitsColumns columns row
    → ((at : ℕ) (c : Column) → slice_get columns at ≡ Some c → present (f c) ≡ present (datum_at at row))
    → list_all (λ c. not (c.required && is_null (f c))) columns ≡ true
all_required f [] row fits same = refl
all_required f (c ∷ columns) [] fits same = absurd fits
all_required f (c ∷ columns) (d ∷ row) fits same =
    rw (required_there c (f c) d fits.0 (same 0 c refl), all_required f columns row fits.1 (λ at e is. same (suc at) e is)) refl

-- a record that is a row that fits has its required data
row_required : (columns : List Column) (fs : Fields) (vs : List Value) (row : List Datum) → are_distinct_ids (map (λ c. c.id) columns) ≡ true → FitsColumns columns row
    → row_by_ids columns fs vs ≡ row_from columns row → has_required columns fs vs ≡ true
row_required columns fs vs row ids fits is = all_required (λ c. datum_by_id c fs vs) columns row fits same
  where
    same : (at : ℕ) (c : Column) → slice_get columns at ≡ Some c → present (datum_by_id c fs vs) ≡ present (datum_at at row)
    same at c there =
        ap present (sym (mapped_at (λ e. datum_by_id e fs vs) columns at c there))
        ∙ sym (their_data columns (map (λ e. datum_by_id e fs vs) columns) ids at c there)
        ∙ ap (λ (r : Row). finite.get r c.id) is ∙ their_data columns row ids at c there

first_row : (r q : Row) (rs qs : List Row) → r ∷ rs ≡ q ∷ qs → r ≡ q
first_row r q rs qs e = cc

more_rows : (r q : Row) (rs qs : List Row) → r ∷ rs ≡ q ∷ qs → rs ≡ qs
more_rows r q rs qs e = cc

rows_required : (columns : List Column) (fs : Fields) (records : List Value) (given : List (List Datum)) → are_distinct_ids (map (λ c. c.id) columns) ≡ true
    → AllByRecursion (FitsColumns columns) given → map (λ v. row_by_ids columns fs (field_values v)) records ≡ map (row_from columns) given
    → AllByRecursion (λ v. has_required columns fs (field_values v) ≡ true) records
rows_required columns fs [] given ids fits are = tt
rows_required columns fs (v ∷ records) [] ids fits are = absurd (let never : ⊥ = cc in never)
rows_required columns fs (v ∷ records) (row ∷ given) ids fits are =
    let here = first_row (row_by_ids columns fs (field_values v)) (row_from columns row) (map (λ w. row_by_ids columns fs (field_values w)) records) (map (row_from columns) given) are in
    let rest = more_rows (row_by_ids columns fs (field_values v)) (row_from columns row) (map (λ w. row_by_ids columns fs (field_values w)) records) (map (row_from columns) given) are in
    (row_required columns fs (field_values v) row ids fits.0 here, rows_required columns fs records given ids fits.1 rest)

-- ---- the file

-- the records of the columns' own schema are shaped as its fields say
record_of_table : (columns : List Column) → shape (table_tree columns) ≡ record_shape (file_fields (table_tree columns))
unfolding table_tree
record_of_table columns = refl

fields_fit : (columns : List Column) → are_distinct_ids (map (λ c. c.id) columns) ≡ true → first_unfit columns (file_fields (table_tree columns)) ≡ None
unfolding table_tree
fields_fit columns ids = columns_fit columns ids

pub held_rows_are_read : HeldRowsAreRead
held_rows_are_read columns given f bytes are fits holds =
    let content : Content = holds.content in
    let t : content.schema ≡ table_tree columns = holds.schema in
    let is_file : IsDataFile columns content = record {
      records = subst (λ (s : Tree). shape s ≡ record_shape (file_fields s)) (sym t) (record_of_table columns);
      fits = subst (λ (s : Tree). first_unfit columns (file_fields s) ≡ None) (sym t) (fields_fit columns are.ids);
      required = rows_required columns (file_fields content.schema) content.records given are.ids fits holds.rows;
    } in
    data_rows_are_content columns f bytes content holds.read is_file ∙ ap (λ (rows : List Row). whole rows) holds.rows
