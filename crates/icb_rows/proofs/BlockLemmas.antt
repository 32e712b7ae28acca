-- A data file is read again as its rows.
use Rattle.std.proofs.Common.{◌≡◌, ℕ, suc, ◌+◌, ◌==◌, ◌<◌, ◌≤◌, inl, inr, Bool, true, false, List, [], ◌∷◌, ◌++◌, length, map, Result, Ok, Err, IfOk, refl, sym, ap, subst, ◌∙◌, arith, add-one, append_assoc, append-nil, length-append, eqb-true, get_or, drop}
use Rattle.std.specs.Prelude.{ℤ, nat_le, slice_get, if◌then◌else◌}
use Rattle.std.specs.List.{All, AllByRecursion, AllZip, flat_map, list_all}
use Rattle.std.proofs.lemmas.List.Elements.{All-head, All-tail}
use Rattle.std.proofs.Math.Seq.{drop-cons}
use Rattle.std.proofs.lemmas.Bool.{and_parts, leb-true, lt-ltb, cases_lt, ne_eqb}
use Rattle.icb_schema.specs.Tree.{Fields, Tree}
use Rattle.icb_schema.specs.Nodes.{fields_of}
use Rattle.icb_schema.specs.Shape.{Shape, shape, fields_shapes, takes_bytes}
use Rattle.icb_schema.specs.Rules.{has_distinct_names}
use Rattle.icb_avro.specs.declared.value.Value.{Value, out-Value, out-roll-Value}
use Rattle.icb_avro.specs.declared.value.Value.TheOpen.{Value-F}
use Rattle.icb_avro.specs.declared.value.Value.TheVariants as value
use Rattle.icb_avro.specs.Spelling.{SpellAll, Spells}
use Rattle.icb_avro.specs.Writing.{FieldsFit, all_written, written}
use Rattle.icb_avro.proofs.WriteLemmas.{written_Record}
use Rattle.icb_avro.proofs.WrittenIsSpelled.{value_spells}
use Rattle.icb_container.specs.Blocks.{max_block}
use Rattle.icb_container.specs.Content.{content_of}
use Rattle.icb_container.specs.Header.{is_row}
use Rattle.icb_container.specs.Input.{AreRecords, IsInput, content_given}
use Rattle.icb_container.specs.declared.block.Block.{Block}
use Rattle.icb_types.specs.declared.columns.ColType.{ColType}
use Rattle.icb_types.specs.declared.columns.ColType.TheVariants as kind
use Rattle.icb_types.specs.declared.columns.Column.{Column}
use Rattle.icb_types.specs.declared.datum.Datum.{Datum}
use Rattle.icb_types.specs.Columns.{AreColumns, is_kind}
use Rattle.icb_types.specs.Fits.{FitsColumns, IsDatum}
use Rattle.icb_types.specs.Table.{column_part, column_tree, kind_tree, table_tree}
use Rattle.icb_rows.specs.Bounds.{datum_at}
use Rattle.icb_rows.specs.Data.{blocks_from, blocks_of, column_value, empty_block, row_bytes, values_from, with_record}
use Rattle.icb_rows.specs.Records.{row_by_ids, row_from}
use Rattle.icb_rows.specs.Rows.{HasData, HoldsRows, IsHeaded, IsReadable, IsRowOf, are_within, field_values}
use Rattle.icb_rows.proofs.FileLemmas.{data_back, from_zero, row_fits, small_data, values_zipped, zipped}

-- ---- records in blocks

spell_more : {A : Type 0} (Spell : A → List ℕ → Type 0) (xs : List A) (x : A) (all bytes : List ℕ) → SpellAll Spell xs all → Spell x bytes → SpellAll Spell (xs ++ x ∷ []) (all ++ bytes)
spell_more Spell [] x all bytes h s = (bytes, [], ap (λ (b : List ℕ). b ++ bytes) h ∙ sym (append-nil bytes), s, refl)
spell_more Spell (y ∷ xs) x all bytes h s = (h.0, h.1 ++ bytes, ap (λ (b : List ℕ). b ++ bytes) h.2 ∙ append_assoc h.0 h.1 bytes, h.3, spell_more Spell xs x h.1 bytes h.4 s)

-- a block's bytes are these records, whatever their length
record IsBlock (s : Shape) (b : Block) (vs : List Value) : Type 0 where
  count : b.count ≡ length vs
  spelled : SpellAll (Spells s) vs b.bytes

-- a block with one more record
record_more : (s : Shape) (b : Block) (vs : List Value) (w : Value) → IsBlock s b vs → Spells s w (written w) → IsBlock s (with_record b (written w)) (vs ++ w ∷ [])
record_more s b vs w are spelled = record {
  count = omega (arith, are.count, length-append vs (w ∷ []));
  spelled = spell_more (Spells s) vs w b.bytes (written w) are.spelled spelled;
}

no_records : (s : Shape) → IsBlock s empty_block []
no_records s = record { count = refl; spelled = refl }

-- the records of blocks: those of this block, and those behind it
abbrev groups : ℕ → Block → List Value → List Value → List (List Value)
groups size b vs [] = if b.count == 0 then [] else vs ∷ []
groups size b vs (w ∷ ws) = if nat_le size (length (with_record b (written w)).bytes)
    then (vs ++ w ∷ []) ∷ groups size empty_block [] ws
    else groups size (with_record b (written w)) (vs ++ w ∷ []) ws

-- blocks are as short as a reader takes them
abbrev AreWithin : List Block → Type 0
AreWithin blocks = AllByRecursion (λ b. length b.bytes ≤ max_block) blocks

within_all : (blocks : List Block) → are_within blocks ≡ true → AreWithin blocks
within_all [] h = tt
within_all (b ∷ blocks) h =
    let both = and_parts (nat_le (length b.bytes) max_block) (are_within blocks) h in
    (leb-true (length b.bytes) max_block both.0, within_all blocks both.1)

held : (s : Shape) (size : ℕ) (b : Block) (vs ws : List Value) → IsBlock s b vs → AllByRecursion (λ w. Spells s w (written w)) ws → AreWithin (blocks_from size b (map written ws))
    → AllZip (AreRecords s) (blocks_from size b (map written ws)) (groups size b vs ws)
held s size b vs [] are spelled within = by_test (b.count == 0) within
  where
    by_test : (t : Bool) → AreWithin (if t then [] else b ∷ []) → AllZip (AreRecords s) (if t then [] else b ∷ []) (if t then [] else vs ∷ [])
    by_test true h = tt
    by_test false h = (record { count = are.count; spelled = are.spelled; within = h.0 }, tt)
held s size b vs (w ∷ ws) are spelled within =
    by_test (held s size empty_block [] ws (no_records s) spelled.1) (held s size (with_record b (written w)) (vs ++ w ∷ []) ws more spelled.1)
    (nat_le size (length (b.bytes ++ written w))) within
  where
    more : IsBlock s (with_record b (written w)) (vs ++ w ∷ [])
    more = record_more s b vs w are spelled.0

    by_test : (AreWithin (blocks_from size empty_block (map written ws)) → AllZip (AreRecords s) (blocks_from size empty_block (map written ws)) (groups size empty_block [] ws))
        → (AreWithin (blocks_from size (with_record b (written w)) (map written ws))
        → AllZip (AreRecords s) (blocks_from size (with_record b (written w)) (map written ws)) (groups size (with_record b (written w)) (vs ++ w ∷ []) ws))
        → (t : Bool)
        → AreWithin (if t then with_record b (written w) ∷ blocks_from size empty_block (map written ws) else blocks_from size (with_record b (written w)) (map written ws))
        → AllZip (AreRecords s)
        (if t then with_record b (written w) ∷ blocks_from size empty_block (map written ws) else blocks_from size (with_record b (written w)) (map written ws))
        (if t then (vs ++ w ∷ []) ∷ groups size empty_block [] ws else groups size (with_record b (written w)) (vs ++ w ∷ []) ws)
    by_test next same true h = (record { count = more.count; spelled = more.spelled; within = h.0 }, next h.1)
    by_test next same false h = same h

-- a block that has a record is within the limit where the blocks from it on are
front_within : (size : ℕ) (b : Block) (records : List (List ℕ)) → (b.count == 0) ≡ false → AreWithin (blocks_from size b records) → length b.bytes ≤ max_block
front_within size b [] some within =
    let h : AreWithin (b ∷ []) = subst (λ (t : Bool). AreWithin (if t then [] else b ∷ [])) some within in
    h.0
front_within size b (bytes ∷ records) some within =
    let n = length-append b.bytes bytes in
    by_test (front_within size (with_record b bytes) records (ne_eqb (b.count + 1) 0 (λ e. absurd (let never : ⊥ = omega (arith, e) in never)))) (nat_le size (length (b.bytes ++ bytes))) within
  where
    by_test : (AreWithin (blocks_from size (with_record b bytes) records) → length (b.bytes ++ bytes) ≤ max_block) → (t : Bool)
        → AreWithin (if t then with_record b bytes ∷ blocks_from size empty_block records else blocks_from size (with_record b bytes) records) → length b.bytes ≤ max_block
    by_test more true h = omega (arith, h.0, length-append b.bytes bytes)
    by_test more false h = omega (arith, more h, length-append b.bytes bytes)

-- and so is each record
records_within : (size : ℕ) (b : Block) (records : List (List ℕ)) → AreWithin (blocks_from size b records) → AllByRecursion (λ bytes. length bytes ≤ max_block) records
records_within size b [] within = tt
records_within size b (bytes ∷ records) within =
    by_test (records_within size empty_block records) (records_within size (with_record b bytes) records)
    (front_within size (with_record b bytes) records (ne_eqb (b.count + 1) 0 (λ e. absurd (let never : ⊥ = omega (arith, e) in never)))) (nat_le size (length (b.bytes ++ bytes))) within
  where
    by_test : (AreWithin (blocks_from size empty_block records) → AllByRecursion (λ r. length r ≤ max_block) records)
        → (AreWithin (blocks_from size (with_record b bytes) records) → AllByRecursion (λ r. length r ≤ max_block) records)
        → (AreWithin (blocks_from size (with_record b bytes) records) → length (b.bytes ++ bytes) ≤ max_block) → (t : Bool)
        → AreWithin (if t then with_record b bytes ∷ blocks_from size empty_block records else blocks_from size (with_record b bytes) records)
        → (length bytes ≤ max_block) × AllByRecursion (λ r. length r ≤ max_block) records
    by_test next same front true h = (omega (arith, h.0, length-append b.bytes bytes), next h.1)
    by_test next same front false h = (omega (arith, front h, length-append b.bytes bytes), same h)

no_values : (vs : List Value) → length vs ≡ 0 → vs ≡ []
no_values [] e = refl
no_values (v ∷ vs) e = absurd (let never : ⊥ = omega (arith, e) in never)

-- all records stand in the blocks, in order
joined : (size : ℕ) (b : Block) (vs ws : List Value) → b.count ≡ length vs → flat_map (λ g. g) (groups size b vs ws) ≡ vs ++ ws
joined size b vs [] n = by_test (b.count == 0) refl
  where
    by_test : (t : Bool) → (b.count == 0) ≡ t → flat_map (λ g. g) (if t then [] else vs ∷ []) ≡ vs ++ []
    by_test true e = sym (append-nil vs ∙ no_values vs (sym n ∙ eqb-true b.count 0 e))
    by_test false e = refl
joined size b vs (w ∷ ws) n =
    by_test (joined size empty_block [] ws refl) (joined size (with_record b (written w)) (vs ++ w ∷ []) ws (omega (arith, n, length-append vs (w ∷ [])))) (nat_le size (length (b.bytes ++ written w)))
  where
    by_test : flat_map (λ g. g) (groups size empty_block [] ws) ≡ ws → flat_map (λ g. g) (groups size (with_record b (written w)) (vs ++ w ∷ []) ws) ≡ (vs ++ w ∷ []) ++ ws
        → (t : Bool) → flat_map (λ g. g) (if t then (vs ++ w ∷ []) ∷ groups size empty_block [] ws else groups size (with_record b (written w)) (vs ++ w ∷ []) ws) ≡ vs ++ w ∷ ws
    by_test next same true = ap (λ (xs : List Value). (vs ++ w ∷ []) ++ xs) next ∙ append_assoc vs (w ∷ []) ws
    by_test next same false = same ∙ append_assoc vs (w ∷ []) ws

-- ---- rows

abbrev row_value : List Column → List Datum → Value
row_value columns row = value.Record (values_from 0 columns row)

row_spelled : (columns : List Column) (row : List Datum) → IsRowOf columns row → length (row_bytes columns row) ≤ max_block → Spells (shape (table_tree columns)) (row_value columns row) (row_bytes columns row)
unfolding table_tree
row_spelled columns row is within =
    let same = values_zipped columns 0 row row is.0 (λ i. ap (slice_get row) (from_zero i)) in
    let bytes : row_bytes columns row ≡ all_written (zipped columns row) = written_Record (values_from 0 columns row) ∙ ap all_written same in
    let small = small_data columns row max_block is.0 (omega (arith, ap length bytes, within)) in
    let fit = row_fits columns row max_block (omega arith) is.0 is.1 small in
    value_spells (shape (table_tree columns)) (row_value columns row)
    (values_from 0 columns row, refl, subst (λ (vs : List Value). FieldsFit (fields_shapes (fields_of (map column_part columns))) vs) (sym same) fit)

rows_spelled : (columns : List Column) (rows : List (List Datum)) → AllByRecursion (IsRowOf columns) rows → AllByRecursion (λ bytes. length bytes ≤ max_block) (map (row_bytes columns) rows)
    → AllByRecursion (λ w. Spells (shape (table_tree columns)) w (written w)) (map (row_value columns) rows)
rows_spelled columns [] is within = tt
rows_spelled columns (row ∷ rows) is within = (row_spelled columns row is.0 within.0, rows_spelled columns rows is.1 within.1)

bytes_of_rows : (columns : List Column) (rows : List (List Datum)) → map written (map (row_value columns) rows) ≡ map (row_bytes columns) rows
bytes_of_rows columns [] = refl
bytes_of_rows columns (row ∷ rows) = ap (λ (bs : List (List ℕ)). row_bytes columns row ∷ bs) (bytes_of_rows columns rows)

values_of_record : (vs : List Value) → field_values (value.Record vs) ≡ vs
values_of_record vs = rw (ap out-Value (sym (value.rolls-Record vs)) ∙ out-roll-Value (Value-F.Record vs)) refl

rows_back : (columns : List Column) (rows : List (List Datum)) → AreColumns columns → AllByRecursion (IsRowOf columns) rows
    → map (λ v. row_by_ids columns (fields_of (map column_part columns)) (field_values v)) (map (row_value columns) rows) ≡ map (row_from columns) rows
rows_back columns [] are is = refl
rows_back columns (row ∷ rows) are is =
    let fs : Fields = fields_of (map column_part columns) in
    let values : field_values (row_value columns row) ≡ zipped columns row = values_of_record (values_from 0 columns row) ∙ values_zipped columns 0 row row is.0.0 (λ i. ap (slice_get row) (from_zero i)) in
    let first : row_by_ids columns fs (field_values (row_value columns row)) ≡ row_from columns row =
    ap (row_by_ids columns fs) values ∙ ap (row_from columns) (data_back columns row is.0.0 is.0.1 are.ids) in
    ap (λ x. x ∷ map (λ v. row_by_ids columns fs (field_values v)) (map (row_value columns) rows)) first ∙ ap (λ xs. row_from columns row ∷ xs) (rows_back columns rows are is.1)

-- ---- the schema

kind_takes : (id : ℤ) (k : ColType) → is_kind k ≡ true → takes_bytes (shape (kind_tree id k)) ≡ true
kind_takes id kind.Boolean h = refl
kind_takes id kind.Int h = refl
kind_takes id kind.Long h = refl
kind_takes id kind.Date h = refl
kind_takes id kind.Time h = refl
kind_takes id kind.Timestamp h = refl
kind_takes id kind.TimestampTz h = refl
kind_takes id kind.Text h = refl
kind_takes id kind.Uuid h = refl
kind_takes id (kind.Fixed size) h = lt-ltb 0 size (let n = leb-true 1 size (and_parts (nat_le 1 size) (nat_le size 1048576) h).0 in omega (arith, n))
kind_takes id kind.Binary h = refl

column_takes : (c : Column) → is_kind c.kind ≡ true → takes_bytes (shape (column_tree c)) ≡ true
column_takes c h = by_required c.required refl
  where
    by_required : (b : Bool) → c.required ≡ b → takes_bytes (shape (column_tree c)) ≡ true
    by_required true e = rw e (kind_takes c.id c.kind h)
    by_required false e = rw e refl

table_takes : (columns : List Column) → AreColumns columns → is_row (table_tree columns) ≡ true
unfolding table_tree
table_takes [] are = absurd (let never : ⊥ = omega (arith, are.some) in never)
table_takes (c ∷ columns) are = rw (column_takes c (and_parts (is_kind c.kind) (list_all is_kind (map (λ e. e.kind) columns)) are.kinds).0) refl

-- what holds anyway holds where a call gave a value
pub if_ok : {A E : Type 0} (P : Type 0) (r : Result A E) → P → IfOk r (λ _. P)
if_ok P (Ok a) h = h
if_ok P (Err e) h = tt

-- ---- one record more

-- what is left from a place on begins with what stands there
pub left_from : {A : Type 0} (xs : List A) (at : ℕ) (x : A) → at < length xs → x ≡ get_or xs at x → drop at xs ≡ x ∷ drop (at + 1) xs
left_from xs at x within here = rw (add-one, drop-cons xs at x, sym here) refl

-- the values of a row with one more
pub values_more : (columns : List Column) (at : ℕ) (c : Column) (row : List Datum) (values new whole : List Value) (d : Datum) (v : Value) → at < length columns → c ≡ get_or columns at c → d ≡ datum_at at row
    → v ≡ column_value c d → new ≡ values ++ v ∷ [] → values ++ values_from at (drop at columns) row ≡ whole → new ++ values_from (at + 1) (drop (at + 1) columns) row ≡ whole
values_more columns at c row values new whole d v within here same made pushed before =
    let left = ap (λ (cs : List Column). values ++ values_from at cs row) (left_from columns at c within here) in
    let v-is : v ≡ column_value c (datum_at at row) = made ∙ ap (column_value c) same in
    rw pushed (append_assoc values (v ∷ []) (values_from (at + 1) (drop (at + 1) columns) row)
    ∙ ap (λ (w : Value). values ++ (w ∷ values_from (at + 1) (drop (at + 1) columns) row)) v-is ∙ sym left ∙ before)

-- a block that one more record was put into, and the block that comes next
pub block_more : (size : ℕ) (columns : List Column) (blocks new whole : List Block) (last put next : Block) (row : List Datum) (rest all : List (List Datum)) (most : ℕ) → last.count ≤ most
    → put ≡ with_record last (row_bytes columns row) → next ≡ (if nat_le size (length put.bytes) then empty_block else put) → new ≡ (if nat_le size (length put.bytes) then blocks ++ put ∷ [] else blocks)
    → all ≡ row ∷ rest → blocks ++ blocks_from size last (map (row_bytes columns) all) ≡ whole
    → (next.count ≤ most + 1) × (new ++ blocks_from size next (map (row_bytes columns) rest) ≡ whole)
block_more size columns blocks new whole last put next row rest all most few is next-is new-is all-is before =
    by_test (nat_le size (length (last.bytes ++ row_bytes columns row)))
    (subst (λ (p : Block). next ≡ (if nat_le size (length p.bytes) then empty_block else p)) is next-is)
    (subst (λ (p : Block). new ≡ (if nat_le size (length p.bytes) then blocks ++ p ∷ [] else blocks)) is new-is)
    (subst (λ (rows : List (List Datum)). blocks ++ blocks_from size last (map (row_bytes columns) rows) ≡ whole) all-is before)
  where
    bytes : List ℕ
    bytes = row_bytes columns row

    more : List (List ℕ)
    more = map (row_bytes columns) rest

    by_test : (t : Bool) → next ≡ (if t then empty_block else with_record last bytes) → new ≡ (if t then blocks ++ with_record last bytes ∷ [] else blocks)
        → blocks ++ (if t then with_record last bytes ∷ blocks_from size empty_block more else blocks_from size (with_record last bytes) more) ≡ whole
        → (next.count ≤ most + 1) × (new ++ blocks_from size next more ≡ whole)
    by_test true n m b =
        (subst (λ (x : Block). x.count ≤ most + 1) (sym n) (omega arith), rw (n, m) (append_assoc blocks (with_record last bytes ∷ []) (blocks_from size empty_block more) ∙ b))
    by_test false n m b = (subst (λ (x : Block). x.count ≤ most + 1) (sym n) (omega (arith, few)), rw (n, m) b)

-- ---- data of the code

-- one datum more
pub data_more : (row : List Datum) (n : ℕ) → ((i : ℕ) → i < n → IsDatum (datum_at i row)) → IsDatum (datum_at n row) → (i : ℕ) → i < n + 1 → IsDatum (datum_at i row)
data_more row n before here i h = elim (cases_lt i n) [
  | inl less ↦ before i less
  | inr not_less ↦ (let same : n ≡ i = omega (arith, h, not_less) in subst (λ (k : ℕ). IsDatum (datum_at k row)) same here)
]

-- a row whose data at the columns' positions are data of the code is one of them, where it fits
row_data : (columns : List Column) (row : List Datum) → FitsColumns columns row → HasData columns row → AllByRecursion IsDatum row
row_data [] [] fits has = tt
row_data [] (d ∷ row) fits has = absurd fits
row_data (c ∷ columns) [] fits has = absurd fits
row_data (c ∷ columns) (d ∷ row) fits has = (has 0 (omega arith), row_data columns row fits.1 (λ at n. has (suc at) (omega (arith, n))))

-- so it is for rows
pub rows_data : (columns : List Column) (rows : List (List Datum)) → All (HasData columns) rows → AllByRecursion (FitsColumns columns) rows → AllByRecursion (IsRowOf columns) rows
rows_data columns [] has fits = tt
rows_data columns (row ∷ rows) has fits =
    ((fits.0, row_data columns row fits.0 (All-head (HasData columns) row rows has)), rows_data columns rows (All-tail (HasData columns) row rows has) fits.1)

-- ---- the file

pub is_input : (columns : List Column) (rows : List (List Datum)) (size : ℕ) (marker : List ℕ) → AreColumns columns → has_distinct_names (table_tree columns) ≡ true → IsReadable columns rows size marker
    → AllByRecursion (IsRowOf columns) rows
    → IsInput (table_tree columns) [] marker (blocks_of size columns rows) (groups size empty_block [] (map (row_value columns) rows))
is_input columns rows size marker are names is own = record {
  names = names;
  row = table_takes columns are;
  header = is.headed.header;
  held = subst (λ (bs : List (List ℕ)). AllZip (AreRecords (shape (table_tree columns))) (blocks_from size empty_block bs) (groups size empty_block [] (map (row_value columns) rows))) (bytes_of_rows columns rows)
      (held (shape (table_tree columns)) size empty_block [] (map (row_value columns) rows) (no_records (shape (table_tree columns)))
      (rows_spelled columns rows own (records_within size empty_block (map (row_bytes columns) rows) (within_all (blocks_of size columns rows) is.blocks)))
      (subst (λ (bs : List (List ℕ)). AreWithin (blocks_from size empty_block bs)) (sym (bytes_of_rows columns rows)) (within_all (blocks_of size columns rows) is.blocks)));
}

-- a file that is read as what was given holds the rows
pub holds_rows : (columns : List Column) (rows : List (List Datum)) (size : ℕ) (marker file : List ℕ) → AreColumns columns → has_distinct_names (table_tree columns) ≡ true
    → ((records : List (List Value)) → IsInput (table_tree columns) [] marker (blocks_of size columns rows) records → content_of file ≡ Ok (content_given (table_tree columns) [] records))
    → IsReadable columns rows size marker → AllByRecursion (IsRowOf columns) rows → HoldsRows columns rows file
unfolding table_tree
holds_rows columns rows size marker file are names reads is own =
    let ws : List Value = map (row_value columns) rows in
    let records : List (List Value) = groups size empty_block [] ws in
    let all : flat_map (λ block. block) records ≡ ws = joined size empty_block [] ws refl in
    record {
      content = content_given (table_tree columns) [] records;
      read = reads records (is_input columns rows size marker are names is own);
      schema = refl;
      rows = ap (λ (vs : List Value). map (λ v. row_by_ids columns (fields_of (map column_part columns)) (field_values v)) vs) all ∙ rows_back columns rows are own;
    }

-- the file that a call wrote, where it wrote one
pub written_holds : {E : Type 0} (result : Result (List ℕ) E) (t : Tree) (marker : List ℕ) (blocks : List Block) (columns : List Column) (rows : List (List Datum)) (size : ℕ)
    → IfOk result (λ file. (records : List (List Value)) → IsInput t [] marker blocks records → content_of file ≡ Ok (content_given t [] records))
    → t ≡ table_tree columns → has_distinct_names t ≡ true → blocks ≡ blocks_of size columns rows → AreColumns columns
    → (AllByRecursion (FitsColumns columns) rows → AllByRecursion (IsRowOf columns) rows)
    → IfOk result (λ file. IsReadable columns rows size marker → HoldsRows columns rows file)
written_holds (Err e) t marker blocks columns rows size h same names are columns-are own = tt
written_holds (Ok file) t marker blocks columns rows size h same names are columns-are own = λ is.
    let names-are : has_distinct_names (table_tree columns) ≡ true = ap has_distinct_names (sym same) ∙ names in
    holds_rows columns rows size marker file columns-are names-are (λ records input. moved records input) is (own is.headed.fit)
  where
    moved : (records : List (List Value)) → IsInput (table_tree columns) [] marker (blocks_of size columns rows) records → content_of file ≡ Ok (content_given (table_tree columns) [] records)
    moved records input =
        h records (subst (λ (s : Tree). IsInput s [] marker blocks records) (sym same) (subst (λ (bs : List Block). IsInput (table_tree columns) [] marker bs records) (sym are) input))
        ∙ ap (λ (s : Tree). Ok (content_given s [] records)) same

-- the same where the blocks passed the test
pub limited_holds : {E : Type 0} (result : Result (List ℕ) E) (columns : List Column) (rows : List (List Datum)) (size : ℕ) (marker : List ℕ)
    → IfOk result (λ file. IsReadable columns rows size marker → HoldsRows columns rows file) → are_within (blocks_of size columns rows) ≡ true
    → IfOk result (λ file. IsHeaded columns rows marker → HoldsRows columns rows file)
limited_holds (Err e) columns rows size marker h within = tt
limited_holds (Ok file) columns rows size marker h within = λ is. h (record { headed = is; blocks = within })
