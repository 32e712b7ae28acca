-- What is written of rows is read as them.
use Rattle.std.proofs.Common.{◌≡◌, ℕ, suc, ◌+◌, ◌^◌, ◌<◌, ◌≤◌, Bool, true, false, true≢false, List, [], ◌∷◌, ◌++◌, length, map, Some, None, refl, sym, ap, subst, ◌∙◌, arith, length-append}
use Rattle.std.specs.Prelude.{ℤ, pos, negsuc, ◌||◌, not, Option, if◌then◌else◌, slice_get, MatchOption, option_map, option_and_then}
use Rattle.std.specs.List.{AllByRecursion, list_any}
use Rattle.std.specs.Ordering.{int_eq}
use Rattle.std.specs.Int.{w128, to_be_bytes}
use Rattle.std.specs.Cmp.{signed_Decides}
use Rattle.std.proofs.lemmas.Bool.{and_parts, ltb-true}
use Rattle.icb_schema.specs.Tree as tree
use Rattle.icb_schema.specs.Tree.{Fields, Tree}
use Rattle.icb_schema.specs.Nodes.{fields_of}
use Rattle.icb_schema.specs.Reading.{fits_32}
use Rattle.icb_schema.specs.Shape.{Shape, shape, fields_shapes}
use Rattle.icb_avro.specs.declared.value.Value.{Value}
use Rattle.icb_avro.specs.declared.value.Value.TheVariants as value
use Rattle.icb_avro.specs.Numbers.{zigzag}
use Rattle.icb_avro.specs.Writing.{Fits, FieldsFit, all_written, written, written_long}
use Rattle.icb_avro.proofs.WriteLemmas as write
use Rattle.icb_types.specs.declared.columns.ColType.{ColType}
use Rattle.icb_types.specs.declared.columns.ColType.TheVariants as kind
use Rattle.icb_types.specs.declared.columns.Column.{Column}
use Rattle.icb_types.specs.declared.datum.Datum.{Datum}
use Rattle.icb_types.specs.declared.datum.Datum.TheVariants as datum
use Rattle.icb_types.specs.Columns.{are_distinct_ids}
use Rattle.icb_types.specs.Fits.{FitsColumn, FitsColumns, IsDatum, fits_64, kind_of}
use Rattle.icb_types.specs.Table.{column_part, column_tree, kind_tree}
use Rattle.icb_types.proofs.SingleLemmas.{single_back}
use Rattle.icb_rows.specs.Bounds.{datum_at}
use Rattle.icb_rows.specs.Data.{column_value, value_of, values_from}
use Rattle.icb_rows.specs.Order.{bytes_of, is_null}
use Rattle.icb_rows.specs.Records.{datum_by_id, datum_of, datum_there, field_from, field_of, has_id, or_null}
use Rattle.icb_rows.proofs.ValueLemmas as read

-- ---- a datum that isn't null

-- the datum is of this kind, and isn't null
abbrev pub IsOf : ColType → Datum → Type 0
IsOf k d = MatchOption (kind_of d) ⊥ (λ own. k ≡ own)

zigzag_32 : (n : ℤ) → fits_32 n ≡ true → zigzag n < 2 ^ 32
zigzag_32 (pos n) h = let small = ltb-true n 2147483648 h in omega (arith, small)
zigzag_32 (negsuc n) h = let small = ltb-true n 2147483648 h in omega (arith, small)

zigzag_64 : (n : ℤ) → fits_64 n ≡ true → zigzag n < 2 ^ 64
zigzag_64 (pos n) h = let small = ltb-true n 9223372036854775808 h in omega (arith, small)
zigzag_64 (negsuc n) h = let small = ltb-true n 9223372036854775808 h in omega (arith, small)

value_fits : (id : ℤ) (k : ColType) (d : Datum) → IsOf k d → IsDatum d → length (bytes_of d) < 2 ^ 63 → Fits (shape (kind_tree id k)) (value_of d)
value_fits id k datum.Null e is small = absurd e
value_fits id k (datum.Boolean b) e is small = subst (λ (j : ColType). Fits (shape (kind_tree id j)) (value.Boolean b)) (sym e) (b, refl)
value_fits id k (datum.Int n) e is small = subst (λ (j : ColType). Fits (shape (kind_tree id j)) (value.Int n)) (sym e) (n, refl, zigzag_32 n is)
value_fits id k (datum.Long n) e is small = subst (λ (j : ColType). Fits (shape (kind_tree id j)) (value.Long n)) (sym e) (n, refl, zigzag_64 n is)
value_fits id k (datum.Date n) e is small = subst (λ (j : ColType). Fits (shape (kind_tree id j)) (value.Int n)) (sym e) (n, refl, zigzag_32 n is)
value_fits id k (datum.Time n) e is small = subst (λ (j : ColType). Fits (shape (kind_tree id j)) (value.Long n)) (sym e) (n, refl, zigzag_64 n is)
value_fits id k (datum.Timestamp n) e is small = subst (λ (j : ColType). Fits (shape (kind_tree id j)) (value.Long n)) (sym e) (n, refl, zigzag_64 n is)
value_fits id k (datum.TimestampTz n) e is small = subst (λ (j : ColType). Fits (shape (kind_tree id j)) (value.Long n)) (sym e) (n, refl, zigzag_64 n is)
value_fits id k (datum.Text text) e is small = subst (λ (j : ColType). Fits (shape (kind_tree id j)) (value.Text text)) (sym e) (text, refl, is, small)
value_fits id k (datum.Uuid u) e is small = subst (λ (j : ColType). Fits (shape (kind_tree id j)) (value.Fixed (to_be_bytes w128 u))) (sym e) (to_be_bytes w128 u, refl, refl)
value_fits id k (datum.Fixed bytes) e is small = subst (λ (j : ColType). Fits (shape (kind_tree id j)) (value.Fixed bytes)) (sym e) (bytes, refl, refl)
value_fits id k (datum.Binary bytes) e is small = subst (λ (j : ColType). Fits (shape (kind_tree id j)) (value.Bytes bytes)) (sym e) (bytes, refl, small)

value_back : (k : ColType) (d : Datum) → IsOf k d → IsDatum d → datum_of (value_of d) k ≡ d
value_back k datum.Null e is = absurd e
value_back k (datum.Boolean b) e is = subst (λ (j : ColType). datum_of (value.Boolean b) j ≡ datum.Boolean b) (sym e) (read.datum_of_Boolean b kind.Boolean)
value_back k (datum.Int n) e is = subst (λ (j : ColType). datum_of (value.Int n) j ≡ datum.Int n) (sym e) (read.datum_of_Int n kind.Int)
value_back k (datum.Long n) e is = subst (λ (j : ColType). datum_of (value.Long n) j ≡ datum.Long n) (sym e) (read.datum_of_Long n kind.Long)
value_back k (datum.Date n) e is = subst (λ (j : ColType). datum_of (value.Int n) j ≡ datum.Date n) (sym e) (read.datum_of_Int n kind.Date)
value_back k (datum.Time n) e is = subst (λ (j : ColType). datum_of (value.Long n) j ≡ datum.Time n) (sym e) (read.datum_of_Long n kind.Time)
value_back k (datum.Timestamp n) e is = subst (λ (j : ColType). datum_of (value.Long n) j ≡ datum.Timestamp n) (sym e) (read.datum_of_Long n kind.Timestamp)
value_back k (datum.TimestampTz n) e is = subst (λ (j : ColType). datum_of (value.Long n) j ≡ datum.TimestampTz n) (sym e) (read.datum_of_Long n kind.TimestampTz)
value_back k (datum.Text text) e is = subst (λ (j : ColType). datum_of (value.Text text) j ≡ datum.Text text) (sym e) (read.datum_of_Text text kind.Text)
value_back k (datum.Uuid u) e is =
    subst (λ (j : ColType). datum_of (value.Fixed (to_be_bytes w128 u)) j ≡ datum.Uuid u) (sym e)
    (read.datum_of_Fixed (to_be_bytes w128 u) kind.Uuid ∙ ap or_null (single_back kind.Uuid (datum.Uuid u) (to_be_bytes w128 u) refl is refl))
value_back k (datum.Fixed bytes) e is =
    subst (λ (j : ColType). datum_of (value.Fixed bytes) j ≡ datum.Fixed bytes) (sym e)
    (read.datum_of_Fixed bytes (kind.Fixed (length bytes)) ∙ ap or_null (single_back (kind.Fixed (length bytes)) (datum.Fixed bytes) bytes refl is refl))
value_back k (datum.Binary bytes) e is = subst (λ (j : ColType). datum_of (value.Bytes bytes) j ≡ datum.Binary bytes) (sym e) (read.datum_of_Bytes bytes kind.Binary)

counted : (content : List ℕ) → length content ≤ length (written_long (pos (length content)) ++ content)
counted content = omega (arith, length-append (written_long (pos (length content))) content)

-- the bytes of a datum are in those of its value
value_within : (d : Datum) → length (bytes_of d) ≤ length (written (value_of d))
value_within datum.Null = omega arith
value_within (datum.Boolean b) = omega arith
value_within (datum.Int n) = omega arith
value_within (datum.Long n) = omega arith
value_within (datum.Date n) = omega arith
value_within (datum.Time n) = omega arith
value_within (datum.Timestamp n) = omega arith
value_within (datum.TimestampTz n) = omega arith
value_within (datum.Text text) = subst (λ (b : List ℕ). length text ≤ length b) (sym (write.written_Text text)) (counted text)
value_within (datum.Uuid u) = omega arith
value_within (datum.Fixed bytes) = subst (λ (b : List ℕ). length bytes ≤ length b) (sym (write.written_Fixed bytes)) (omega arith)
value_within (datum.Binary bytes) = subst (λ (b : List ℕ). length bytes ≤ length b) (sym (write.written_Bytes bytes)) (counted bytes)

-- ---- a datum of a column

-- null, which the column allows, or a datum of its kind
data Case (c : Column) (d : Datum) : Type 0 where
  none : d ≡ datum.Null → c.required ≡ false → Case c d
  some : is_null d ≡ false → IsOf c.kind d → Case c d

case_of : (c : Column) (d : Datum) → FitsColumn c d → Case c d
case_of c datum.Null h = none refl h
case_of c (datum.Boolean b) h = some refl h
case_of c (datum.Int n) h = some refl h
case_of c (datum.Long n) h = some refl h
case_of c (datum.Date n) h = some refl h
case_of c (datum.Time n) h = some refl h
case_of c (datum.Timestamp n) h = some refl h
case_of c (datum.TimestampTz n) h = some refl h
case_of c (datum.Text text) h = some refl h
case_of c (datum.Uuid u) h = some refl h
case_of c (datum.Fixed bytes) h = some refl h
case_of c (datum.Binary bytes) h = some refl h

-- the value of a column that isn't required, of a datum that isn't null
optional_value : (c : Column) (d : Datum) → c.required ≡ false → is_null d ≡ false → column_value c d ≡ value.Union 1 (value_of d)
optional_value c d r n = rw (r, n) refl

required_value : (c : Column) (d : Datum) → c.required ≡ true → column_value c d ≡ value_of d
required_value c d r = rw r refl

null_value : (c : Column) → c.required ≡ false → column_value c datum.Null ≡ value.Union 0 value.Null
null_value c r = rw r refl

column_fits : (c : Column) (d : Datum) → FitsColumn c d → IsDatum d → length (bytes_of d) < 2 ^ 63 → Fits (shape (column_tree c)) (column_value c d)
column_fits c d h is small = by_case (case_of c d h)
  where
    by_required : (b : Bool) → c.required ≡ b → is_null d ≡ false → IsOf c.kind d → Fits (shape (column_tree c)) (column_value c d)
    by_required true e n k = rw e (value_fits c.id c.kind d k is small)
    by_required false e n k = rw (e, n) (1, value_of d, refl, omega arith, value_fits c.id c.kind d k is small)

    by_case : Case c d → Fits (shape (column_tree c)) (column_value c d)
    by_case (none e r) = rw (e, r) (0, value.Null, refl, omega arith, refl)
    by_case (some n k) = by_required c.required refl n k

column_back : (c : Column) (d : Datum) → FitsColumn c d → IsDatum d → datum_of (column_value c d) c.kind ≡ d
column_back c d h is = by_case (case_of c d h)
  where
    by_required : (b : Bool) → c.required ≡ b → is_null d ≡ false → IsOf c.kind d → datum_of (column_value c d) c.kind ≡ d
    by_required true e n k = ap (λ (v : Value). datum_of v c.kind) (required_value c d e) ∙ value_back c.kind d k is
    by_required false e n k = ap (λ (v : Value). datum_of v c.kind) (optional_value c d e n) ∙ read.datum_of_Union 1 (value_of d) c.kind ∙ value_back c.kind d k is

    by_case : Case c d → datum_of (column_value c d) c.kind ≡ d
    by_case (none e r) =
        ap (λ (x : Datum). datum_of (column_value c x) c.kind) e ∙ ap (λ (v : Value). datum_of v c.kind) (null_value c r) ∙ read.datum_of_Union 0 value.Null c.kind
        ∙ read.datum_of_Null c.kind ∙ sym e
    by_case (some n k) = by_required c.required refl n k

column_within : (c : Column) (d : Datum) → length (bytes_of d) ≤ length (written (column_value c d))
column_within c d = by_required c.required refl
  where
    by_required : (b : Bool) → c.required ≡ b → length (bytes_of d) ≤ length (written (column_value c d))
    by_required true e = subst (λ (v : Value). length (bytes_of d) ≤ length (written v)) (sym (required_value c d e)) (value_within d)
    by_required false e =
        let k : ℕ = if is_null d then 0 else 1 in
        let is : column_value c d ≡ value.Union k (value_of d) = rw e refl in
        let n = ap length (ap written is ∙ write.written_Union k (value_of d)) ∙ length-append (written_long (pos k)) (written (value_of d)) in
        omega (arith, n, value_within d)

-- ---- the values of a row

-- the values of columns and their data, place by place
abbrev pub zipped : List Column → List Datum → List Value
zipped [] row = []
zipped (c ∷ columns) [] = []
zipped (c ∷ columns) (d ∷ row) = column_value c d ∷ zipped columns row

pub from_zero : (i : ℕ) → 0 + i ≡ i
from_zero i = omega arith

there : (at : ℕ) (row : List Datum) (d : Datum) → slice_get row at ≡ Some d → datum_at at row ≡ d
there at row d e = rw e refl

-- the values of a row's data, from a place on
pub values_zipped : (columns : List Column) (at : ℕ) (row rest : List Datum) → FitsColumns columns rest → ((i : ℕ) → slice_get row (at + i) ≡ slice_get rest i)
    → values_from at columns row ≡ zipped columns rest
values_zipped [] at row rest h same = refl
values_zipped (c ∷ columns) at row [] h same = absurd h
values_zipped (c ∷ columns) at row (d ∷ rest) h same =
    let here : datum_at at row ≡ d = there at row d (ap (slice_get row) (let n : at ≡ at + 0 = omega arith in n) ∙ same 0) in
    let more : values_from (at + 1) columns row ≡ zipped columns rest =
    values_zipped columns (at + 1) row rest h.1 (λ i. ap (slice_get row) (let n : at + 1 + i ≡ at + suc i = omega arith in n) ∙ same (suc i)) in
    ap (λ (x : Datum). column_value c x ∷ values_from (at + 1) columns row) here ∙ ap (λ (vs : List Value). column_value c d ∷ vs) more

-- no datum has more bytes than the row
pub small_data : (columns : List Column) (row : List Datum) (most : ℕ) → FitsColumns columns row → length (all_written (zipped columns row)) ≤ most → AllByRecursion (λ d. length (bytes_of d) ≤ most) row
small_data [] [] most h n = tt
small_data [] (d ∷ row) most h n = absurd h
small_data (c ∷ columns) [] most h n = absurd h
small_data (c ∷ columns) (d ∷ row) most h n =
    let m : length (all_written (zipped (c ∷ columns) (d ∷ row))) ≡ length (written (column_value c d)) + length (all_written (zipped columns row)) =
    length-append (written (column_value c d)) (all_written (zipped columns row)) in
    (omega (arith, m, n, column_within c d), small_data columns row most h.1 (omega (arith, m, n)))

pub row_fits : (columns : List Column) (row : List Datum) (most : ℕ) → most < 2 ^ 63 → FitsColumns columns row → AllByRecursion IsDatum row → AllByRecursion (λ d. length (bytes_of d) ≤ most) row
    → FieldsFit (fields_shapes (fields_of (map column_part columns))) (zipped columns row)
row_fits [] [] most lt h is small = tt
row_fits [] (d ∷ row) most lt h is small = absurd h
row_fits (c ∷ columns) [] most lt h is small = absurd h
row_fits (c ∷ columns) (d ∷ row) most lt h is small = (column_fits c d h.0 is.0 (omega (arith, lt, small.0)), row_fits columns row most lt h.1 is.1 small.1)

-- ---- fields by their ids

pub same_id : (n : ℤ) → int_eq n n ≡ true
same_id n = (signed_Decides n n).1 refl

pub other_id : (n m : ℤ) → int_eq n m ≡ false → int_eq m n ≡ false
other_id n m e = by_test (int_eq m n) refl
  where
    by_test : (b : Bool) → int_eq m n ≡ b → int_eq m n ≡ false
    by_test true f = absurd (true≢false (sym ((signed_Decides n m).1 (sym ((signed_Decides m n).0 f))) ∙ e))
    by_test false f = f

pub neither : (a b : Bool) → (a || b) ≡ false → (a ≡ false) × (b ≡ false)
neither true b e = absurd (true≢false e)
neither false b e = (refl, e)

pub is_false : (b : Bool) → not b ≡ true → b ≡ false
is_false true e = absurd (true≢false (sym e))
is_false false e = refl

shifted : (at : ℕ) (id : ℤ) (fs : Fields) → field_from (suc at) id fs ≡ option_map (λ f. (suc f.0, f.1)) (field_from at id fs)
shifted at id tree.no_fields = refl
shifted at id (tree.field name own t fs) = by_test (shifted (suc at) id fs) (has_id id own)
  where
    by_test : field_from (suc (suc at)) id fs ≡ option_map (λ f. (suc f.0, f.1)) (field_from (suc at) id fs) → (b : Bool)
        → (if b then Some (suc at, shape t) else field_from (suc (suc at)) id fs) ≡ option_map (λ f. (suc f.0, f.1)) (if b then Some (at, shape t) else field_from (suc at) id fs)
    by_test more true = refl
    by_test more false = more

behind_first : (k : ColType) (v : Value) (vs : List Value) (o : Option (ℕ × Shape))
    → datum_there k (option_and_then (λ (f : ℕ × Shape). slice_get (v ∷ vs) f.0) (option_map (λ (f : ℕ × Shape). (suc f.0, f.1)) o)) ≡ datum_there k (option_and_then (λ (f : ℕ × Shape). slice_get vs f.0) o)
behind_first k v vs None = refl
behind_first k v vs (Some f) = refl

-- the datum of a column with another id is one of the later values
past_one : (c : Column) (name : List ℕ) (id : ℤ) (t : Tree) (fs : Fields) (v : Value) (vs : List Value) → int_eq c.id id ≡ false → datum_by_id c (tree.field name (Some id) t fs) (v ∷ vs) ≡ datum_by_id c fs vs
past_one c name id t fs v vs e =
    let moved : field_of c.id (tree.field name (Some id) t fs) ≡ option_map (λ (f : ℕ × Shape). (suc f.0, f.1)) (field_of c.id fs) = rw (other_id c.id id e) (shifted 0 c.id fs) in
    ap (λ (o : Option (ℕ × Shape)). datum_there c.kind (option_and_then (λ (f : ℕ × Shape). slice_get (v ∷ vs) f.0) o)) moved ∙ behind_first c.kind v vs (field_of c.id fs)

-- the values of later columns are those behind the first
past : (name : List ℕ) (id : ℤ) (t : Tree) (fs : Fields) (v : Value) (vs : List Value) (columns : List Column) → list_any (λ other. int_eq other id) (map (λ c. c.id) columns) ≡ false
    → map (λ e. datum_by_id e (tree.field name (Some id) t fs) (v ∷ vs)) columns ≡ map (λ e. datum_by_id e fs vs) columns
past name id t fs v vs [] h = refl
past name id t fs v vs (c ∷ columns) h =
    let apart = neither (int_eq c.id id) (list_any (λ other. int_eq other id) (map (λ e. e.id) columns)) h in
    ap (λ (x : Datum). x ∷ map (λ e. datum_by_id e (tree.field name (Some id) t fs) (v ∷ vs)) columns) (past_one c name id t fs v vs apart.0)
    ∙ ap (λ (xs : List Datum). datum_by_id c fs vs ∷ xs) (past name id t fs v vs columns apart.1)

-- the datum of the first column is the first value
first_datum : (c : Column) (name : List ℕ) (t : Tree) (fs : Fields) (v : Value) (vs : List Value) → datum_by_id c (tree.field name (Some c.id) t fs) (v ∷ vs) ≡ datum_of v c.kind
first_datum c name t fs v vs = rw (same_id c.id) refl

-- the data of columns by their ids are those that were written
pub data_back : (columns : List Column) (row : List Datum) → FitsColumns columns row → AllByRecursion IsDatum row → are_distinct_ids (map (λ c. c.id) columns) ≡ true
    → map (λ c. datum_by_id c (fields_of (map column_part columns)) (zipped columns row)) columns ≡ row
data_back [] [] h is ids = refl
data_back [] (d ∷ row) h is ids = absurd h
data_back (c ∷ columns) [] h is ids = absurd h
data_back (c ∷ columns) (d ∷ row) h is ids =
    let apart = and_parts (not (list_any (λ other. int_eq other c.id) (map (λ e. e.id) columns))) (are_distinct_ids (map (λ e. e.id) columns)) ids in
    let fs : Fields = fields_of (map column_part columns) in
    let vs : List Value = zipped columns row in
    let v : Value = column_value c d in
    let first : datum_by_id c (tree.field c.name (Some c.id) (column_tree c) fs) (v ∷ vs) ≡ d = first_datum c c.name (column_tree c) fs v vs ∙ column_back c d h.0 is.0 in
    let more : map (λ e. datum_by_id e (tree.field c.name (Some c.id) (column_tree c) fs) (v ∷ vs)) columns ≡ row =
    past c.name c.id (column_tree c) fs v vs columns (is_false _ apart.0) ∙ data_back columns row h.1 is.1 apart.1 in
    ap (λ (x : Datum). x ∷ map (λ e. datum_by_id e (tree.field c.name (Some c.id) (column_tree c) fs) (v ∷ vs)) columns) first ∙ ap (λ (xs : List Datum). d ∷ xs) more
