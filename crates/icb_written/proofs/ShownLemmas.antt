-- Manifests and lists that are sealed show what was written to them.
use Rattle.std.proofs.Common.{◌≡◌, ◌≤◌, ◌+◌, ℕ, zero, suc, ℤ, pos, Bool, true, false, cond, List, [], ◌∷◌, ◌++◌, length, map, Option, Some, Result, Ok, refl, sym, ap, ◌∙◌, subst, arith, length-append}
use Rattle.std.specs.Prelude.{nat_le}
use Rattle.std.specs.List.{AllByRecursion, flat_map}
use Rattle.std.proofs.lemmas.List.{append-nil}
use Rattle.icb_schema.specs.Printing.{text_of}
use Rattle.icb_schema.specs.Shape.{shape}
use Rattle.icb_schema.specs.Tree.{root_form}
use Rattle.icb_avro.specs.declared.value.Value.{Value, out-Value}
use Rattle.icb_avro.specs.Writing.{Fits, written, written_long}
use Rattle.icb_container.specs.Content.{Content, content_of}
use Rattle.icb_container.specs.Header.{max_header}
use Rattle.icb_container.specs.Written.{properties_of, written_block, written_header}
use Rattle.icb_container.specs.declared.block.Block.{Block}
use Rattle.icb_container.proofs.ContentAgain.{content_again}
use Rattle.icb_fields.specs.Fields as field
use Rattle.icb_fields.specs.Fields.{record_of}
use Rattle.icb_records.specs.Gathering.{block_of, gather, last_block}
use Rattle.icb_records.specs.Laws.{AreShort, max_record}
use Rattle.icb_records.proofs.GatherLemmas.{blocks_hold_their_records}
use Rattle.icb_list.specs.Laws.{IsRow}
use Rattle.icb_list.specs.Rows.{list_row}
use Rattle.icb_list.specs.Written.{list_content, list_properties, row_tree, row_value, written_list}
use Rattle.icb_list.specs.declared.row.ListRow.{ListRow}
use Rattle.icb_list.proofs.InputLemmas as list_input
use Rattle.icb_list.proofs.ReadBack.{rows_read_back}
use Rattle.icb_manifest.specs.Entries.{entry_of}
use Rattle.icb_manifest.specs.Laws.{IsEntry}
use Rattle.icb_manifest.specs.Written.{entry_tree, entry_value, manifest_content, properties, written_manifest}
use Rattle.icb_manifest.specs.declared.entry.Entry.{Entry}
use Rattle.icb_manifest.proofs.InputLemmas as manifest_input
use Rattle.icb_manifest.proofs.ReadBack.{entries_read_back}
use Rattle.icb_types.specs.declared.columns.TableSchema.{TableSchema}
use Rattle.icb_table.specs.Contents.{read_plain}
use Rattle.icb_table.specs.Listed.{Listed, listed}
use Rattle.icb_table.specs.Records.{records_of}
use Rattle.icb_written.specs.Laws.{IsShortFile, ShowsAll, WrittenEntriesShow, WrittenListRowsShow}
use Rattle.icb_written.proofs.PlainLemmas.{sealed_is_plain}
use Rattle.icb_written.proofs.RecordLemmas.{content_shows}
use Rattle.icb_written.proofs.SchemaLemmas.{entry_arrays, entry_reads, list_texts, manifest_texts, row_arrays, row_reads}

-- ---- a record is no longer than its file

-- the bytes of blocks
abbrev all_blocks : List ℕ → List Block → List ℕ
all_blocks marker blocks = flat_map (written_block marker) blocks

-- a block that is first has its bytes among those of all
block_within : (marker : List ℕ) (b : Block) (rest : List ℕ) → length b.bytes ≤ length (written_block marker b ++ rest)
block_within marker b rest =
    let front : List ℕ = written_long (pos b.count) ++ written_long (pos (length b.bytes)) in
    let all = length-append (written_block marker b) rest in
    let last = length-append (front ++ b.bytes) marker in
    let own = length-append front b.bytes in
    omega (arith, all, last, own)

-- bytes, and each of some records, are no longer than this
record Within (n : ℕ) (bytes : List ℕ) (rs : List (List ℕ)) : Type 0 where
  own : length bytes ≤ n
  each : AllByRecursion (λ r. length r ≤ n) rs

wider : (n m : ℕ) (rs : List (List ℕ)) → n ≤ m → AllByRecursion (λ r. length r ≤ n) rs → AllByRecursion (λ r. length r ≤ m) rs
wider n m [] le all = tt
wider n m (r ∷ rs) le all = (omega (arith, le, all.0), wider n m rs le all.1)

-- the last block has the bytes that are left
last_within : (marker : List ℕ) (count : ℕ) (bytes : List ℕ) → (count ≡ 0 → bytes ≡ []) → length bytes ≤ length (all_blocks marker (last_block count bytes))
last_within marker zero bytes none = let e = ap length (none refl) in omega (arith, e)
last_within marker (suc n) bytes none = block_within marker (block_of (suc n) bytes) []

gathered_within : (marker : List ℕ) (most count : ℕ) (bytes : List ℕ) (rs : List (List ℕ)) → (count ≡ 0 → bytes ≡ [])
    → Within (length (all_blocks marker (gather most count bytes rs))) bytes rs
unfolding gather
gathered_within marker most count bytes [] none = record { own = last_within marker count bytes none; each = tt }
gathered_within marker most count bytes (r ∷ rs) none =
    by_test (nat_le most (length (bytes ++ r))) (gathered_within marker most 0 [] rs (λ e. refl)) (gathered_within marker most (suc count) (bytes ++ r) rs (λ e. absurd (let g : ⊥ = cc in g)))
  where
    size : length (bytes ++ r) ≡ length bytes + length r
    size = length-append bytes r

    by_test : (b : Bool) → Within (length (all_blocks marker (gather most 0 [] rs))) [] rs
        → Within (length (all_blocks marker (gather most (suc count) (bytes ++ r) rs))) (bytes ++ r) rs
        → Within (length (all_blocks marker (cond b (block_of (suc count) (bytes ++ r) ∷ gather most 0 [] rs) (gather most (suc count) (bytes ++ r) rs)))) bytes (r ∷ rs)
    by_test true rest more =
        let block = block_within marker (block_of (suc count) (bytes ++ r)) (all_blocks marker (gather most 0 [] rs)) in
        let all = length-append (written_block marker (block_of (suc count) (bytes ++ r))) (all_blocks marker (gather most 0 [] rs)) in
        record { own = omega (arith, size, block); each = (omega (arith, size, block), wider _ _ rs (omega (arith, all)) rest.each) }
    by_test false rest more = record { own = omega (arith, size, more.own); each = (omega (arith, size, more.own), more.each) }

short_values : (n : ℕ) (vs : List Value) → n ≤ max_record → AllByRecursion (λ r. length r ≤ n) (map written vs) → AreShort vs
short_values n [] le all = tt
short_values n (v ∷ vs) le all = (omega (arith, le, all.0), short_values n vs le all.1)

-- the values of a short file are short
values_short : (front marker : List ℕ) (vs : List Value) → length (front ++ all_blocks marker (gather 65536 0 [] (map written vs))) ≤ max_record → AreShort vs
values_short front marker vs short =
    let n : ℕ = length (all_blocks marker (gather 65536 0 [] (map written vs))) in
    let all = length-append front (all_blocks marker (gather 65536 0 [] (map written vs))) in
    short_values n vs (omega (arith, short, all)) (gathered_within marker 65536 0 [] (map written vs) (λ e. refl)).each

-- the file without records is its header
header_short : (front : List ℕ) (most : ℕ) → length (front ++ []) ≤ most → length front ≤ most
header_short front most h = subst (λ (x : List ℕ). length x ≤ most) (append-nil front) h

-- ---- what a manifest shows

entries_back : (entries : List Entry) → AllByRecursion IsEntry entries → AllByRecursion (λ e. entry_of (record_of (root_form entry_tree) (out-Value (entry_value e))) ≡ Ok e) entries
entries_back [] all = tt
entries_back (e ∷ es) all = (entries_read_back e all.0, entries_back es all.1)

manifest_read : (schema : TableSchema) (spec : ℤ) (entries : List Entry) (marker : List ℕ) → AllByRecursion (Fits (shape entry_tree)) (map entry_value entries)
    → length marker ≡ 16 → IsShortFile (written_manifest schema spec [] marker) (written_manifest schema spec entries marker)
    → content_of (written_manifest schema spec entries marker) ≡ Ok (manifest_content schema spec entries)
unfolding gather
manifest_read schema spec entries marker fit size short =
    let front : List ℕ = written_header (properties_of (text_of entry_tree) (properties schema spec)) marker in
    let h = blocks_hold_their_records (shape entry_tree) (map entry_value entries) fit (values_short front marker (map entry_value entries) short.short_file) in
    content_again entry_tree (properties schema spec) marker (gather 65536 0 [] (map written (map entry_value entries))) h.records (λ _. entry_reads) entry_arrays
    (manifest_texts schema spec) size (manifest_input.manifest_is_input schema spec entries marker (header_short front max_header short.short_header) h)
    ∙ ap (λ (c : Content). Ok c) (manifest_input.content_is schema spec entries h)

-- what is shown of a file's plaintext
shown_of_plain : {A : Type 0} (read : field.Row → Result A ℤ) (f : Listed) (found : Option (List ℕ)) (plain : List ℕ) (items : List A) → found ≡ Some plain
    → ShowsAll (records_of read f plain) items → ShowsAll (read_plain (records_of read) f found) items
shown_of_plain read f found plain items is shows = subst (λ o. ShowsAll (read_plain (records_of read) f o) items) (sym is) shows

pub written_entries_show : WrittenEntriesShow
written_entries_show meta files key path marker bytes block schema spec entries are fit size short is held =
    let f : Listed = listed path key (length bytes) in
    let plain : List ℕ = written_manifest schema spec entries marker in
    shown_of_plain entry_of f _ plain entries (sealed_is_plain files key path plain bytes block is held)
    (content_shows entry_of f plain (manifest_content schema spec entries) entry_value entries (manifest_read schema spec entries marker fit size short) refl (entries_back entries are))

-- ---- what a list shows

rows_back : (rows : List ListRow) → AllByRecursion IsRow rows → AllByRecursion (λ r. list_row (record_of (root_form row_tree) (out-Value (row_value r))) ≡ Ok r) rows
rows_back [] all = tt
rows_back (r ∷ rs) all = (rows_read_back r all.0, rows_back rs all.1)

list_read : (rows : List ListRow) (marker : List ℕ) → AllByRecursion (Fits (shape row_tree)) (map row_value rows) → length marker ≡ 16
    → IsShortFile (written_list [] marker) (written_list rows marker) → content_of (written_list rows marker) ≡ Ok (list_content rows)
unfolding gather
list_read rows marker fit size short =
    let front : List ℕ = written_header (properties_of (text_of row_tree) list_properties) marker in
    let h = blocks_hold_their_records (shape row_tree) (map row_value rows) fit (values_short front marker (map row_value rows) short.short_file) in
    content_again row_tree list_properties marker (gather 65536 0 [] (map written (map row_value rows))) h.records (λ _. row_reads) row_arrays
    list_texts size (list_input.list_is_input rows marker (header_short front max_header short.short_header) h)
    ∙ ap (λ (c : Content). Ok c) (list_input.content_is rows h)

pub written_list_rows_show : WrittenListRowsShow
written_list_rows_show meta files key path marker bytes block rows are fit size short is held =
    let f : Listed = listed path key (length bytes) in
    let plain : List ℕ = written_list rows marker in
    shown_of_plain list_row f _ plain rows (sealed_is_plain files key path plain bytes block is held)
    (content_shows list_row f plain (list_content rows) row_value rows (list_read rows marker fit size short) refl (rows_back rows are))
