-- The rows that are read of a data file are those of its content.
use Rattle.std.specs.Prelude.{◌≡◌, ℕ, zero, suc, ◌+◌, true, List, [], ◌∷◌, ◌++◌, length, map, Some, None, Ok, Err}
use Rattle.std.specs.List.{AllByRecursion, flat_map}
use Rattle.std.proofs.Common.{refl, ap, ◌∙◌, sym, subst}
use Rattle.std.proofs.lemmas.List.{append-nil, map-append}
use Rattle.icb_schema.specs.Tree.{Fields, Tree}
use Rattle.icb_schema.specs.Shape.{fields, fields_shapes, shape}
use Rattle.icb_avro.specs.declared.value.Value.{Value, out-Value, out-roll-Value}
use Rattle.icb_avro.specs.declared.value.Value.TheOpen.{Value-F}
use Rattle.icb_avro.specs.declared.value.Value.TheVariants as value
use Rattle.icb_avro.specs.Reading.{Read, fields_at, items_at, read_as, value_at}
use Rattle.icb_avro.specs.Reading as avro
use Rattle.icb_container.specs.Header.{Header, header_of}
use Rattle.icb_container.specs.Blocks.{Part, begins}
use Rattle.icb_container.specs.Content.{blocks_of, by_key, content_from, content_of}
use Rattle.icb_container.proofs.Steps.{bind_ok, done_is}
use Rattle.icb_types.specs.declared.columns.Column.{Column}
use Rattle.icb_rows.specs.Laws.{has_required}
use Rattle.icb_rows.specs.Records.{Row, file_fields, first_unfit, row_by_ids}
use Rattle.icb_rows.specs.Rows.{field_values}
use Rattle.icb_rows.specs.Views.{passed_of, record_at}
use Rattle.icb_rows.proofs.NullLemmas.{views_read_fields}
use Rattle.icb_table.specs.Laws.{DataRowsAreContent, IsDataFile, UnfitIsRefused}
use Rattle.icb_table.specs.Listed.{Listed}
use Rattle.icb_table.specs.Records.{blocks_behind, opened}
use Rattle.icb_table.specs.Rows.{Columns, fitting, rows_behind, rows_in, rows_of, rows_to, then_rows}
use Rattle.icb_table.specs.Trace.{Trace, each_in, ended, one, then_read, through, whole}
use Rattle.icb_table.proofs.ContentLemmas.{ValuesAre, blocks_read, each_whole, ok_is, parts_read}

-- columns that are both kept and shown
abbrev both : List Column → Columns
both columns = record { kept = columns; shown = columns }

-- the row of a record
abbrev row_of : List Column → Fields → Value → Row
row_of columns fs v = row_by_ids columns fs (field_values v)

-- no required column is null in a record
abbrev IsFull : List Column → Fields → Value → Type 0
IsFull columns fs v = has_required columns fs (field_values v) ≡ true

values_of_record : (vs : List Value) → field_values (value.Record vs) ≡ vs
values_of_record vs = rw (ap out-Value (sym (value.rolls-Record vs)) ∙ out-roll-Value (Value-F.Record vs)) refl

-- a row and those behind it
row_then : (f : Listed) (columns : List Column) (fs : Fields) (end : ℕ) (more : List ℕ → Trace Row) (bytes : List ℕ)
    (vs : List Value) (r : List ℕ) (found : Read (List Value)) (values : List Value) (rest : List ℕ)
    → first_unfit columns fs ≡ None → fields_at (fields_shapes fs) bytes ≡ Ok (vs, r)
    → (avro.◌>>=◌ {B = List Value × List ℕ} found (λ xs. Ok (value.Record vs ∷ xs.0, xs.1))) ≡ Ok (values, rest)
    → AllByRecursion (IsFull columns fs) values
    → ((ws : List Value) (q : List ℕ) → found ≡ Ok (ws, q) → AllByRecursion (IsFull columns fs) ws
    → more r ≡ whole (map (row_of columns fs) ws))
    → then_rows f (row_by_ids columns fs) more end (record_at (passed_of columns fs) bytes)
    ≡ whole (map (row_of columns fs) values)
row_then f columns fs end more bytes vs r (Err e) values rest fit read is full h = absurd (let g : ⊥ = cc in g)
row_then f columns fs end more bytes vs r (Ok (ws, q)) values rest fit read is full h =
    let all : value.Record vs ∷ ws ≡ values = ap (λ x. x.0) (ok_is (value.Record vs ∷ ws, q) (values, rest) is) in
    let fulls : AllByRecursion (IsFull columns fs) (value.Record vs ∷ ws) =
    subst (AllByRecursion (IsFull columns fs)) (sym all) full in
    let here : has_required columns fs vs ≡ true =
    subst (λ us. has_required columns fs us ≡ true) (values_of_record vs) fulls.0 in
    let record_is : record_at (passed_of columns fs) bytes ≡ Ok (vs, r) =
    (views_read_fields columns fs bytes vs r fit).1 (read, here) in
    ap (then_rows f (row_by_ids columns fs) more end) record_is
    ∙ ap (then_read (one (row_by_ids columns fs vs))) (h ws q refl fulls.1)
    ∙ ap (λ us. whole (row_by_ids columns fs us ∷ map (row_of columns fs) ws)) (sym (values_of_record vs))
    ∙ ap (λ us. whole (map (row_of columns fs) us)) all

-- the first record, where its fields are read
record_then : (f : Listed) (columns : List Column) (fs : Fields) (end : ℕ) (more : List ℕ → Trace Row) (bytes : List ℕ)
    (next : List ℕ → Read (List Value)) (read : Read (List Value)) (values : List Value) (rest : List ℕ)
    → first_unfit columns fs ≡ None → fields_at (fields_shapes fs) bytes ≡ read
    → (avro.◌>>=◌ {B = List Value × List ℕ} (read_as value.Record read)
    (λ x. avro.◌>>=◌ {B = List Value × List ℕ} (next x.1) (λ xs. Ok (x.0 ∷ xs.0, xs.1)))) ≡ Ok (values, rest)
    → AllByRecursion (IsFull columns fs) values
    → ((b : List ℕ) (ws : List Value) (q : List ℕ) → next b ≡ Ok (ws, q) → AllByRecursion (IsFull columns fs) ws
    → more b ≡ whole (map (row_of columns fs) ws))
    → then_rows f (row_by_ids columns fs) more end (record_at (passed_of columns fs) bytes)
    ≡ whole (map (row_of columns fs) values)
record_then f columns fs end more bytes next (Err e) values rest fit r is full h = absurd (let g : ⊥ = cc in g)
record_then f columns fs end more bytes next (Ok (vs, b)) values rest fit r is full h =
    row_then f columns fs end more bytes vs b (next b) values rest fit r is full (h b)

rows_read : (f : Listed) (columns : List Column) (fs : Fields) (end n : ℕ) (bytes : List ℕ) (values : List Value)
    (rest : List ℕ) → first_unfit columns fs ≡ None
    → items_at (value_at (fields (fields_shapes fs))) n bytes ≡ Ok (values, rest)
    → AllByRecursion (IsFull columns fs) values
    → rows_to f (both columns) fs end n bytes ≡ whole (map (row_of columns fs) values)
unfolding items_at rows_to
rows_read f columns fs end zero bytes values rest fit e full =
    ap (λ vs. whole (map (row_of columns fs) vs)) (ap (λ x. x.0) (ok_is ([], bytes) (values, rest) e))
rows_read f columns fs end (suc n) bytes values rest fit e full =
    record_then f columns fs end (rows_to f (both columns) fs end n) bytes
    (items_at (value_at (fields (fields_shapes fs))) n) (fields_at (fields_shapes fs) bytes) values rest fit refl e full
    (λ b ws q p fulls. rows_read f columns fs end n b ws q fit p fulls)

-- ---- blocks

all_first : {A : Type 0} (P : A → Type 0) (xs ys : List A) → AllByRecursion P (xs ++ ys) → AllByRecursion P xs
all_first P [] ys all = tt
all_first P (x ∷ xs) ys all = (all.0, all_first P xs ys all.1)

all_second : {A : Type 0} (P : A → Type 0) (xs ys : List A) → AllByRecursion P (xs ++ ys) → AllByRecursion P ys
all_second P [] ys all = all
all_second P (x ∷ xs) ys all = all_second P xs ys all.1

blocks_rows : (f : Listed) (columns : List Column) (t : Tree) (parts : List Part)
    → shape t ≡ fields (fields_shapes (file_fields t)) → first_unfit columns (file_fields t) ≡ None
    → ValuesAre t parts → AllByRecursion (IsFull columns (file_fields t)) (flat_map (λ part. part.records) parts)
    → AllByRecursion (λ part. rows_in f (both columns) (file_fields t) part
    ≡ whole (map (row_of columns (file_fields t)) part.records)) parts
blocks_rows f columns t [] s fit all full = tt
blocks_rows f columns t (part ∷ parts) s fit all full = (
  rows_read f columns (file_fields t) (part.place + length part.bytes) part.count part.bytes part.records all.0.0 fit
      (subst (λ sh. items_at (value_at sh) part.count part.bytes ≡ Ok (part.records, all.0.0)) s all.0.1)
      (all_first (IsFull columns (file_fields t)) part.records (flat_map (λ p. p.records) parts) full),
  blocks_rows f columns t parts s fit all.1
      (all_second (IsFull columns (file_fields t)) part.records (flat_map (λ p. p.records) parts) full),
)

flat_rows : (g : Value → Row) (parts : List Part)
    → flat_map (λ part. map g part.records) parts ≡ map g (flat_map (λ part. part.records) parts)
flat_rows g [] = refl
flat_rows g (part ∷ parts) = ap (λ rs. map g part.records ++ rs) (flat_rows g parts)
    ∙ sym (map-append g part.records (flat_map (λ p. p.records) parts))

pub data_rows_are_content : DataRowsAreContent
unfolding content_of rows_of
data_rows_are_content columns f bytes found e is_data =
    let a = bind_ok (header_of bytes) (content_from bytes) found e in
    let h : Header = a.0 in
    let b = bind_ok (blocks_of (suc (length bytes)) (begins bytes h) bytes) (λ parts. Ok (record {
      schema = h.schema;
      properties = by_key h.properties;
      records = flat_map (λ part. part.records) parts;
    })) found a.2 in
    let parts : List Part = b.0 in
    let made : record {
      schema = h.schema;
      properties = by_key h.properties;
      records = flat_map (λ part. part.records) parts;
    } ≡ found = done_is _ found b.2 in
    let data_file : IsDataFile columns (record {
      schema = h.schema;
      properties = by_key h.properties;
      records = flat_map (λ part. part.records) parts;
    }) = subst (IsDataFile columns) (sym made) is_data in
    let fs : Fields = file_fields h.schema in
    let blocks = blocks_read f (suc (length bytes)) (begins bytes h) bytes parts b.1 in
    let X : List Row = flat_map (λ part. map (row_of columns fs) part.records) parts in
    let each : each_in (rows_in f (both columns) fs) parts ≡ whole X =
    each_whole (rows_in f (both columns) fs) (λ part. map (row_of columns fs) part.records) parts
    (blocks_rows f columns h.schema parts data_file.records data_file.fits
    (parts_read (suc (length bytes)) (begins bytes h) bytes parts b.1) data_file.required) in
    ap (opened f (rows_behind (both columns) f bytes)) a.1
    ∙ ap (λ o. fitting f o (through (rows_in f (both columns) fs) (blocks_behind f bytes h))) data_file.fits
    ∙ ap (through (rows_in f (both columns) fs)) blocks
    ∙ ap (λ t. then_read t (ended None)) each
    ∙ ap whole (append-nil X ∙ flat_rows (row_of columns fs) parts)
    ∙ ap (λ c. whole (map (row_of columns (file_fields c.schema)) c.records)) made

pub unfit_is_refused : UnfitIsRefused
unfolding content_of rows_of
unfit_is_refused columns f bytes found id e is =
    let a = bind_ok (header_of bytes) (content_from bytes) found e in
    let h : Header = a.0 in
    let b = bind_ok (blocks_of (suc (length bytes)) (begins bytes h) bytes) (λ parts. Ok (record {
      schema = h.schema;
      properties = by_key h.properties;
      records = flat_map (λ part. part.records) parts;
    })) found a.2 in
    let made : record {
      schema = h.schema;
      properties = by_key h.properties;
      records = flat_map (λ part. part.records) b.0;
    } ≡ found = done_is _ found b.2 in
    let fit : first_unfit columns.shown (file_fields h.schema) ≡ Some id =
    subst (λ c. first_unfit columns.shown (file_fields c.schema) ≡ Some id) (sym made) is in
    ap (opened f (rows_behind columns f bytes)) a.1
    ∙ ap (λ o. fitting f o (through (rows_in f columns (file_fields h.schema)) (blocks_behind f bytes h))) fit
