-- An entry that is written is read.
use Rattle.std.proofs.Common.{◌≡◌, ◌≤◌, ℕ, suc, zero, ℤ, pos, List, [], ◌∷◌, ◌++◌, codes, map, Some, Ok, refl, ap, ◌∙◌, arith}
use Rattle.icb_schema.specs.Tree as tree
use Rattle.icb_schema.specs.Tree.{Tree, Form, root_form}
use Rattle.icb_schema.specs.Nodes.{fields_of}
use Rattle.icb_avro.specs.declared.value.Value.{Value, out-Value}
use Rattle.icb_avro.specs.declared.value.Value.TheVariants as value
use Rattle.icb_fields.specs.Fields as field
use Rattle.icb_fields.specs.Fields.{Row, first_type, held_at, int_at, list_at, long_at, needed_bytes, needed_int, needed_long, needed_row, needed_text, record_of, row_at, text_at}
use Rattle.icb_fields.specs.Making.{pair_name, primitive, record_tree}
use Rattle.icb_fields.proofs.OutLemmas.{bytes_or_null, long_or_null, out_array, out_bytes, out_int, out_long, out_record, out_text, out_union}
use Rattle.icb_manifest.specs.Maps.{all_pairs, bytes_at, bytes_pair, long_pair, longs_at, map_ids, maps_of}
use Rattle.icb_manifest.specs.Files.{file_of}
use Rattle.icb_manifest.specs.Entries.{entry_of, is_status, numbers_of, status_of}
use Rattle.icb_manifest.specs.Laws.{EntriesReadBack}
use Rattle.icb_manifest.specs.Written.{bytes_value, count_parts, entry_tree, entry_value, entry_values, file_tree, file_value, file_values, long_value, name_parts, number_parts, part, partition_part}
use Rattle.icb_manifest.specs.declared.entry.Entry.{Entry}
use Rattle.icb_manifest.specs.declared.file.DataFile.{DataFile}

-- the file as a record
abbrev file_row : DataFile → Row
file_row f = record { fields = fields_of (name_parts ++ partition_part ∷ count_parts); values = file_values f }

-- the entry as a record
abbrev entry_row : Entry → Row
entry_row e = record { fields = fields_of (number_parts ++ part (codes "data_file") (pos 2) file_tree ∷ []); values = entry_values e }

-- ---- maps

-- the type of the items of a map
abbrev pair_tree : ℤ → ℤ → tree.Primitive → Tree
pair_tree key val p = record_tree (pair_name key val) ((codes "key", Some key, primitive tree.int) ∷ (codes "value", Some val, primitive p) ∷ [])

-- the item of a key and its value, as a record
abbrev pair_row : ℤ → ℤ → tree.Primitive → ℤ → Value → Row
pair_row key val p k v = record { fields = fields_of ((codes "key", Some key, primitive tree.int) ∷ (codes "value", Some val, primitive p) ∷ []); values = value.Int k ∷ v ∷ [] }

values_key : (n : ℤ) (v : Value) → needed_int (pos 119) (pair_row (pos 119) (pos 120) tree.long n v) ≡ Ok n
unfolding needed_int int_at held_at
values_key n v = rw (out_int n) refl

values_value : (n : ℤ) (x : ℤ) → needed_long (pos 120) (pair_row (pos 119) (pos 120) tree.long n (value.Long x)) ≡ Ok x
unfolding needed_long long_at held_at
values_value n x = rw (out_long x) refl

values_pair : (n : ℤ) (x : ℤ) → long_pair (map_ids (pos 109) (pos 119) (pos 120)) (record_of (root_form (pair_tree (pos 119) (pos 120) tree.long)) (out-Value (long_value (n, x)))) ≡ Ok (n, x)
unfolding long_pair
values_pair n x = rw (out_record, values_key n (value.Long x), values_value n x) refl

values_all : (ps : List (ℤ × ℤ)) → all_pairs (long_pair (map_ids (pos 109) (pos 119) (pos 120))) (root_form (pair_tree (pos 119) (pos 120) tree.long)) (map long_value ps) ≡ Ok ps
values_all [] = refl
values_all ((n, x) ∷ ps) = rw (values_pair n x, values_all ps) refl

values_list : (f : DataFile) → list_at (pos 109) (file_row f) ≡ Ok (Some (pair_tree (pos 119) (pos 120) tree.long, map long_value f.values))
unfolding list_at held_at
values_list f = rw (out_union 1 (value.Array (map long_value f.values)), out_array (map long_value f.values)) refl

got_values : (f : DataFile) → longs_at (map_ids (pos 109) (pos 119) (pos 120)) (file_row f) ≡ Ok f.values
unfolding longs_at first_type
got_values f = rw (values_list f, values_all f.values) refl

nulls_key : (n : ℤ) (v : Value) → needed_int (pos 121) (pair_row (pos 121) (pos 122) tree.long n v) ≡ Ok n
unfolding needed_int int_at held_at
nulls_key n v = rw (out_int n) refl

nulls_value : (n : ℤ) (x : ℤ) → needed_long (pos 122) (pair_row (pos 121) (pos 122) tree.long n (value.Long x)) ≡ Ok x
unfolding needed_long long_at held_at
nulls_value n x = rw (out_long x) refl

nulls_pair : (n : ℤ) (x : ℤ) → long_pair (map_ids (pos 110) (pos 121) (pos 122)) (record_of (root_form (pair_tree (pos 121) (pos 122) tree.long)) (out-Value (long_value (n, x)))) ≡ Ok (n, x)
unfolding long_pair
nulls_pair n x = rw (out_record, nulls_key n (value.Long x), nulls_value n x) refl

nulls_all : (ps : List (ℤ × ℤ)) → all_pairs (long_pair (map_ids (pos 110) (pos 121) (pos 122))) (root_form (pair_tree (pos 121) (pos 122) tree.long)) (map long_value ps) ≡ Ok ps
nulls_all [] = refl
nulls_all ((n, x) ∷ ps) = rw (nulls_pair n x, nulls_all ps) refl

nulls_list : (f : DataFile) → list_at (pos 110) (file_row f) ≡ Ok (Some (pair_tree (pos 121) (pos 122) tree.long, map long_value f.nulls))
unfolding list_at held_at
nulls_list f = rw (out_union 1 (value.Array (map long_value f.nulls)), out_array (map long_value f.nulls)) refl

got_nulls : (f : DataFile) → longs_at (map_ids (pos 110) (pos 121) (pos 122)) (file_row f) ≡ Ok f.nulls
unfolding longs_at first_type
got_nulls f = rw (nulls_list f, nulls_all f.nulls) refl

lower_key : (n : ℤ) (v : Value) → needed_int (pos 126) (pair_row (pos 126) (pos 127) tree.bytes n v) ≡ Ok n
unfolding needed_int int_at held_at
lower_key n v = rw (out_int n) refl

lower_value : (n : ℤ) (x : List ℕ) → needed_bytes (pos 127) (pair_row (pos 126) (pos 127) tree.bytes n (value.Bytes x)) ≡ Ok x
unfolding needed_bytes field.bytes_at held_at
lower_value n x = rw (out_bytes x) refl

lower_pair : (n : ℤ) (x : List ℕ) → bytes_pair (map_ids (pos 125) (pos 126) (pos 127)) (record_of (root_form (pair_tree (pos 126) (pos 127) tree.bytes)) (out-Value (bytes_value (n, x)))) ≡ Ok (n, x)
unfolding bytes_pair
lower_pair n x = rw (out_record, lower_key n (value.Bytes x), lower_value n x) refl

lower_all : (ps : List (ℤ × List ℕ)) → all_pairs (bytes_pair (map_ids (pos 125) (pos 126) (pos 127))) (root_form (pair_tree (pos 126) (pos 127) tree.bytes)) (map bytes_value ps) ≡ Ok ps
lower_all [] = refl
lower_all ((n, x) ∷ ps) = rw (lower_pair n x, lower_all ps) refl

lower_list : (f : DataFile) → list_at (pos 125) (file_row f) ≡ Ok (Some (pair_tree (pos 126) (pos 127) tree.bytes, map bytes_value f.lower))
unfolding list_at held_at
lower_list f = rw (out_union 1 (value.Array (map bytes_value f.lower)), out_array (map bytes_value f.lower)) refl

got_lower : (f : DataFile) → bytes_at (map_ids (pos 125) (pos 126) (pos 127)) (file_row f) ≡ Ok f.lower
unfolding bytes_at first_type
got_lower f = rw (lower_list f, lower_all f.lower) refl

upper_key : (n : ℤ) (v : Value) → needed_int (pos 129) (pair_row (pos 129) (pos 130) tree.bytes n v) ≡ Ok n
unfolding needed_int int_at held_at
upper_key n v = rw (out_int n) refl

upper_value : (n : ℤ) (x : List ℕ) → needed_bytes (pos 130) (pair_row (pos 129) (pos 130) tree.bytes n (value.Bytes x)) ≡ Ok x
unfolding needed_bytes field.bytes_at held_at
upper_value n x = rw (out_bytes x) refl

upper_pair : (n : ℤ) (x : List ℕ) → bytes_pair (map_ids (pos 128) (pos 129) (pos 130)) (record_of (root_form (pair_tree (pos 129) (pos 130) tree.bytes)) (out-Value (bytes_value (n, x)))) ≡ Ok (n, x)
unfolding bytes_pair
upper_pair n x = rw (out_record, upper_key n (value.Bytes x), upper_value n x) refl

upper_all : (ps : List (ℤ × List ℕ)) → all_pairs (bytes_pair (map_ids (pos 128) (pos 129) (pos 130))) (root_form (pair_tree (pos 129) (pos 130) tree.bytes)) (map bytes_value ps) ≡ Ok ps
upper_all [] = refl
upper_all ((n, x) ∷ ps) = rw (upper_pair n x, upper_all ps) refl

upper_list : (f : DataFile) → list_at (pos 128) (file_row f) ≡ Ok (Some (pair_tree (pos 129) (pos 130) tree.bytes, map bytes_value f.upper))
unfolding list_at held_at
upper_list f = rw (out_union 1 (value.Array (map bytes_value f.upper)), out_array (map bytes_value f.upper)) refl

got_upper : (f : DataFile) → bytes_at (map_ids (pos 128) (pos 129) (pos 130)) (file_row f) ≡ Ok f.upper
unfolding bytes_at first_type
got_upper f = rw (upper_list f, upper_all f.upper) refl

got_maps : (f : DataFile) → maps_of (file_row f) ≡ Ok (record { values = f.values; nulls = f.nulls; lower = f.lower; upper = f.upper })
unfolding maps_of
got_maps f = rw (got_values f, got_nulls f, got_lower f, got_upper f) refl

-- ---- a file

got_content : (f : DataFile) → needed_int (pos 134) (file_row f) ≡ Ok f.content
unfolding needed_int int_at held_at
got_content f = rw (out_int f.content) refl

got_path : (f : DataFile) → needed_text (pos 100) (file_row f) ≡ Ok f.path
unfolding needed_text text_at held_at
got_path f = rw (out_text f.path) refl

got_format : (f : DataFile) → needed_text (pos 101) (file_row f) ≡ Ok f.format
unfolding needed_text text_at held_at
got_format f = rw (out_text f.format) refl

got_records : (f : DataFile) → needed_long (pos 103) (file_row f) ≡ Ok f.records
unfolding needed_long long_at held_at
got_records f = rw (out_long f.records) refl

got_size : (f : DataFile) → needed_long (pos 104) (file_row f) ≡ Ok f.size
unfolding needed_long long_at held_at
got_size f = rw (out_long f.size) refl

got_file_key : (f : DataFile) → field.bytes_at (pos 131) (file_row f) ≡ Ok f.key
unfolding field.bytes_at held_at
got_file_key f = rw (bytes_or_null f.key) refl

got_first : (f : DataFile) → long_at (pos 142) (file_row f) ≡ Ok f.first_row
unfolding long_at held_at
got_first f = rw (long_or_null f.first_row) refl

file_read : (f : DataFile) → file_of (file_row f) ≡ Ok f
unfolding file_of
file_read f = rw (got_content f, got_path f, got_format f, got_records f, got_size f, got_maps f, got_file_key f, got_first f) refl

-- ---- an entry

got_status : (e : Entry) → needed_int (pos 0) (entry_row e) ≡ Ok e.status
unfolding needed_int int_at held_at
got_status e = rw (out_int e.status) refl

got_snapshot : (e : Entry) → long_at (pos 1) (entry_row e) ≡ Ok e.snapshot
unfolding long_at held_at
got_snapshot e = rw (long_or_null e.snapshot) refl

got_sequence : (e : Entry) → long_at (pos 3) (entry_row e) ≡ Ok e.sequence
unfolding long_at held_at
got_sequence e = rw (long_or_null e.sequence) refl

got_file_sequence : (e : Entry) → long_at (pos 4) (entry_row e) ≡ Ok e.file_sequence
unfolding long_at held_at
got_file_sequence e = rw (long_or_null e.file_sequence) refl

got_file : (e : Entry) → needed_row (pos 2) (entry_row e) ≡ Ok (file_row e.file)
unfolding needed_row row_at held_at file_tree file_value
got_file e = rw (out_record (file_values e.file)) refl

the_row : (e : Entry) → record_of (root_form entry_tree) (out-Value (entry_value e)) ≡ entry_row e
unfolding entry_tree entry_value
the_row e = rw out_record refl

status_kept : (z : ℤ) (k : ℕ) → z ≡ pos k → k ≤ 2 → is_status z ≡ Ok z
status_kept z zero e h = rw e refl
status_kept z (suc zero) e h = rw e refl
status_kept z (suc (suc zero)) e h = rw e refl
status_kept z (suc (suc (suc k))) e h = absurd (let x : ⊥ = omega (arith, h) in x)

entry_read : (e : Entry) (k : ℕ) → e.status ≡ pos k → k ≤ 2 → entry_of (entry_row e) ≡ Ok e
unfolding entry_of numbers_of status_of
entry_read e k is h = rw (got_status e, status_kept e.status k is h, got_snapshot e, got_sequence e, got_file_sequence e, got_file e, file_read e.file) refl

pub entries_read_back : EntriesReadBack
entries_read_back e w = ap entry_of (the_row e) ∙ entry_read e w.kind w.status w.known
