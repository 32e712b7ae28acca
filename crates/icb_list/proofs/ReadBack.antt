-- A row that is written is read.
use Rattle.std.proofs.Common.{◌≡◌, ◌≤◌, ℕ, suc, zero, ℤ, pos, List, [], ◌∷◌, length, Ok, option_map, refl, ap, ◌∙◌, arith}
use Rattle.icb_schema.specs.Tree.{root_form}
use Rattle.icb_schema.specs.Nodes.{fields_of}
use Rattle.icb_avro.specs.declared.value.Value.{out-Value}
use Rattle.icb_avro.specs.declared.value.Value.TheVariants as value
use Rattle.icb_fields.specs.Fields.{Row, bytes_at, held_at, int_at, long_at, needed_int, needed_long, needed_text, record_of, text_at}
use Rattle.icb_fields.specs.Making.{optional}
use Rattle.icb_fields.proofs.OutLemmas.{bytes_or_null, long_or_null, out_int, out_long, out_record, out_text}
use Rattle.icb_list.specs.Rows.{content_of, files_of, is_content, list_row, numbers_of, rows_of}
use Rattle.icb_list.specs.Laws.{RowsReadBack}
use Rattle.icb_list.specs.Written.{row_parts, row_tree, row_value}
use Rattle.icb_list.specs.declared.row.ListRow.{ListRow}

-- three numbers
record Three (xs : List ℤ) : Type 0 where
  first : ℤ
  second : ℤ
  third : ℤ
  is : xs ≡ first ∷ second ∷ third ∷ []

three : (xs : List ℤ) → length xs ≡ 3 → Three xs
three [] e = absurd (let x : ⊥ = omega (arith, e) in x)
three (a ∷ []) e = absurd (let x : ⊥ = omega (arith, e) in x)
three (a ∷ b ∷ []) e = absurd (let x : ⊥ = omega (arith, e) in x)
three (a ∷ b ∷ c ∷ []) e = record { first = a; second = b; third = c; is = refl }
three (a ∷ b ∷ c ∷ d ∷ xs) e = absurd (let x : ⊥ = omega (arith, e) in x)

-- the row as a record, with its numbers written out
abbrev at_hand : ListRow → ℤ → ℤ → ℤ → ℤ → ℤ → ℤ → Row
at_hand r a b c d e f = record {
  fields = fields_of row_parts;
  values = value.Text r.path ∷ value.Long r.length ∷ value.Int r.spec ∷ value.Int r.content ∷ value.Long r.sequence ∷ value.Long r.min_sequence ∷ value.Long r.snapshot
      ∷ value.Int a ∷ value.Int b ∷ value.Int c ∷ value.Long d ∷ value.Long e ∷ value.Long f
      ∷ optional (option_map value.Bytes r.key) ∷ optional (option_map value.Long r.first_row) ∷ [];
}

got_path : (r : ListRow) (a b c d e f : ℤ) → needed_text (pos 500) (at_hand r a b c d e f) ≡ Ok r.path
unfolding needed_text text_at held_at
got_path r a b c d e f = rw (out_text r.path) refl

got_size : (r : ListRow) (a b c d e f : ℤ) → needed_long (pos 501) (at_hand r a b c d e f) ≡ Ok r.length
unfolding needed_long long_at held_at
got_size r a b c d e f = rw (out_long r.length) refl

got_spec : (r : ListRow) (a b c d e f : ℤ) → needed_int (pos 502) (at_hand r a b c d e f) ≡ Ok r.spec
unfolding needed_int int_at held_at
got_spec r a b c d e f = rw (out_int r.spec) refl

got_content : (r : ListRow) (a b c d e f : ℤ) → needed_int (pos 517) (at_hand r a b c d e f) ≡ Ok r.content
unfolding needed_int int_at held_at
got_content r a b c d e f = rw (out_int r.content) refl

got_sequence : (r : ListRow) (a b c d e f : ℤ) → needed_long (pos 515) (at_hand r a b c d e f) ≡ Ok r.sequence
unfolding needed_long long_at held_at
got_sequence r a b c d e f = rw (out_long r.sequence) refl

got_least : (r : ListRow) (a b c d e f : ℤ) → needed_long (pos 516) (at_hand r a b c d e f) ≡ Ok r.min_sequence
unfolding needed_long long_at held_at
got_least r a b c d e f = rw (out_long r.min_sequence) refl

got_snapshot : (r : ListRow) (a b c d e f : ℤ) → needed_long (pos 503) (at_hand r a b c d e f) ≡ Ok r.snapshot
unfolding needed_long long_at held_at
got_snapshot r a b c d e f = rw (out_long r.snapshot) refl

got_added : (r : ListRow) (a b c d e f : ℤ) → needed_int (pos 504) (at_hand r a b c d e f) ≡ Ok a
unfolding needed_int int_at held_at
got_added r a b c d e f = rw (out_int a) refl

got_existing : (r : ListRow) (a b c d e f : ℤ) → needed_int (pos 505) (at_hand r a b c d e f) ≡ Ok b
unfolding needed_int int_at held_at
got_existing r a b c d e f = rw (out_int b) refl

got_deleted : (r : ListRow) (a b c d e f : ℤ) → needed_int (pos 506) (at_hand r a b c d e f) ≡ Ok c
unfolding needed_int int_at held_at
got_deleted r a b c d e f = rw (out_int c) refl

got_rows_added : (r : ListRow) (a b c d e f : ℤ) → needed_long (pos 512) (at_hand r a b c d e f) ≡ Ok d
unfolding needed_long long_at held_at
got_rows_added r a b c d e f = rw (out_long d) refl

got_rows_existing : (r : ListRow) (a b c d e f : ℤ) → needed_long (pos 513) (at_hand r a b c d e f) ≡ Ok e
unfolding needed_long long_at held_at
got_rows_existing r a b c d e f = rw (out_long e) refl

got_rows_deleted : (r : ListRow) (a b c d e f : ℤ) → needed_long (pos 514) (at_hand r a b c d e f) ≡ Ok f
unfolding needed_long long_at held_at
got_rows_deleted r a b c d e f = rw (out_long f) refl

got_key : (r : ListRow) (a b c d e f : ℤ) → bytes_at (pos 519) (at_hand r a b c d e f) ≡ Ok r.key
unfolding bytes_at held_at
got_key r a b c d e f = rw (bytes_or_null r.key) refl

got_first : (r : ListRow) (a b c d e f : ℤ) → long_at (pos 520) (at_hand r a b c d e f) ≡ Ok r.first_row
unfolding long_at held_at
got_first r a b c d e f = rw (long_or_null r.first_row) refl

the_row : (r : ListRow) (a b c d e f : ℤ) → r.files ≡ a ∷ b ∷ c ∷ [] → r.rows ≡ d ∷ e ∷ f ∷ []
    → record_of (root_form row_tree) (out-Value (row_value r)) ≡ at_hand r a b c d e f
unfolding row_tree row_value
the_row r a b c d e f x y = rw (x, y, out_record) refl

content_kept : (z : ℤ) (k : ℕ) → z ≡ pos k → k ≤ 1 → is_content z ≡ Ok z
content_kept z zero e h = rw e refl
content_kept z (suc zero) e h = rw e refl
content_kept z (suc (suc k)) e h = absurd (let x : ⊥ = omega (arith, h) in x)

read_it : (r : ListRow) (k : ℕ) (a b c d e f : ℤ) → r.content ≡ pos k → k ≤ 1 → r.files ≡ a ∷ b ∷ c ∷ [] → r.rows ≡ d ∷ e ∷ f ∷ []
    → list_row (at_hand r a b c d e f) ≡ Ok r
unfolding list_row numbers_of content_of files_of rows_of
read_it r k a b c d e f is h x y = rw (got_path r a b c d e f, got_size r a b c d e f, got_spec r a b c d e f, got_content r a b c d e f, got_sequence r a b c d e f, got_least r a b c d e f, got_snapshot r a b c d e f, got_added r a b c d e f, got_existing r a b c d e f, got_deleted r a b c d e f, got_rows_added r a b c d e f, got_rows_existing r a b c d e f, got_rows_deleted r a b c d e f, got_key r a b c d e f, got_first r a b c d e f, content_kept r.content k is h, ← x, ← y) refl

pub rows_read_back : RowsReadBack
rows_read_back r w =
    let x = three r.files w.files in
    let y = three r.rows w.rows in
    ap list_row (the_row r x.first x.second x.third y.first y.second y.third x.is y.is)
    ∙ read_it r w.kind x.first x.second x.third y.first y.second y.third w.content w.known x.is y.is
