-- A manifest as it is written: its schema, its properties, and the value of each entry.
use Rattle.std.specs.Prelude.{ℕ, ◌≤◌, ℤ, pos, List, [], ◌∷◌, ◌++◌, length, codes, map}
use Rattle.std.specs.Prelude.{Option, Some, option_map}
use Rattle.std.specs.Fmt.{signed_decimal}
use Rattle.icb_schema.specs.Tree as tree
use Rattle.icb_schema.specs.Tree.{Tree}
use Rattle.icb_schema.specs.Nodes.{Part}
use Rattle.icb_schema.specs.Printing.{text_of}
use Rattle.icb_avro.specs.declared.value.Value.{Value}
use Rattle.icb_avro.specs.declared.value.Value.TheVariants as value
use Rattle.icb_avro.specs.Writing.{written}
use Rattle.icb_container.specs.Header.{max_header}
use Rattle.icb_container.specs.Content.{Content}
use Rattle.icb_container.specs.Written.{properties_of, written_container, written_header}
use Rattle.icb_types.specs.declared.columns.TableSchema.{TableSchema}
use Rattle.icb_columns.specs.Printed.{schema_text}
use Rattle.icb_fields.specs.Making.{optional, or_null, pairs_tree, primitive, record_tree}
use Rattle.icb_records.specs.Gathering.{gather}
use Rattle.icb_manifest.specs.declared.entry.Entry.{Entry}
use Rattle.icb_manifest.specs.declared.file.DataFile.{DataFile}

-- ---- the schema

-- a field with its id
abbrev pub part : List ℕ → ℤ → Tree → Part
part name id t = (name, Some id, t)

-- a map of numbers, with the ids of its keys and values
abbrev pub long_map : ℤ → ℤ → Tree
long_map key value = or_null (pairs_tree key value (primitive tree.long))

-- a map of bytes, with the ids of its keys and values
abbrev pub bytes_map : ℤ → ℤ → Tree
bytes_map key value = or_null (pairs_tree key value (primitive tree.bytes))

-- the fields of a data file before its partition
abbrev pub name_parts : List Part
name_parts =
    part (codes "content") (pos 134) (primitive tree.int)
    ∷ part (codes "file_path") (pos 100) (primitive tree.text)
    ∷ part (codes "file_format") (pos 101) (primitive tree.text)
    ∷ []

-- the fields of a data file behind its partition
abbrev pub count_parts : List Part
count_parts =
    part (codes "record_count") (pos 103) (primitive tree.long)
    ∷ part (codes "file_size_in_bytes") (pos 104) (primitive tree.long)
    ∷ part (codes "value_counts") (pos 109) (long_map (pos 119) (pos 120))
    ∷ part (codes "null_value_counts") (pos 110) (long_map (pos 121) (pos 122))
    ∷ part (codes "lower_bounds") (pos 125) (bytes_map (pos 126) (pos 127))
    ∷ part (codes "upper_bounds") (pos 128) (bytes_map (pos 129) (pos 130))
    ∷ part (codes "key_metadata") (pos 131) (or_null (primitive tree.bytes))
    ∷ part (codes "first_row_id") (pos 142) (or_null (primitive tree.long))
    ∷ []

-- the partition, which has no fields
abbrev pub partition_part : Part
partition_part = part (codes "partition") (pos 102) (record_tree (codes "r102") [])

-- the schema of a data file
unfoldable pub file_tree : Tree
file_tree = record_tree (codes "r2") (name_parts ++ partition_part ∷ count_parts)

-- the fields of an entry before its file
abbrev pub number_parts : List Part
number_parts =
    part (codes "status") (pos 0) (primitive tree.int)
    ∷ part (codes "snapshot_id") (pos 1) (or_null (primitive tree.long))
    ∷ part (codes "sequence_number") (pos 3) (or_null (primitive tree.long))
    ∷ part (codes "file_sequence_number") (pos 4) (or_null (primitive tree.long))
    ∷ []

-- the schema of an entry
unfoldable pub entry_tree : Tree
entry_tree = record_tree (codes "manifest_entry")
    (number_parts ++ part (codes "data_file") (pos 2) file_tree ∷ [])

-- ---- the values

-- a key and its value
abbrev pub pair_value : ℤ → Value → Value
pair_value key v = value.Record (value.Int key ∷ v ∷ [])

-- a key and its number
abbrev pub long_value : ℤ × ℤ → Value
long_value pair = pair_value pair.0 (value.Long pair.1)

-- a key and its bytes
abbrev pub bytes_value : ℤ × List ℕ → Value
bytes_value pair = pair_value pair.0 (value.Bytes pair.1)

-- a map of numbers, which is an array with no items where it is empty
abbrev pub longs_array : List (ℤ × ℤ) → Value
longs_array pairs = optional (Some (value.Array (map long_value pairs)))

-- a map of bytes, which is an array with no items where it is empty
abbrev pub bytes_array : List (ℤ × List ℕ) → Value
bytes_array pairs = optional (Some (value.Array (map bytes_value pairs)))

-- null, or bytes
abbrev pub optional_bytes : Option (List ℕ) → Value
optional_bytes b = optional (option_map value.Bytes b)

-- null, or a number
abbrev pub optional_long : Option ℤ → Value
optional_long n = optional (option_map value.Long n)

-- the values of a data file's fields
abbrev pub file_values : DataFile → List Value
file_values f =
    value.Int f.content ∷ value.Text f.path ∷ value.Text f.format ∷ value.Record []
    ∷ value.Long f.records ∷ value.Long f.size ∷ longs_array f.values ∷ longs_array f.nulls
    ∷ bytes_array f.lower ∷ bytes_array f.upper ∷ optional_bytes f.key
    ∷ optional_long f.first_row ∷ []

-- the value of a data file
unfoldable pub file_value : DataFile → Value
file_value f = value.Record (file_values f)

-- the values of an entry's fields
abbrev pub entry_values : Entry → List Value
entry_values e =
    value.Int e.status ∷ optional_long e.snapshot ∷ optional_long e.sequence
    ∷ optional_long e.file_sequence ∷ file_value e.file ∷ []

-- the value of an entry
unfoldable pub entry_value : Entry → Value
entry_value e = value.Record (entry_values e)

-- ---- the file

-- the properties beside those of every container
abbrev pub properties : TableSchema → ℤ → List (List ℕ × List ℕ)
properties schema spec =
    (codes "schema", schema_text schema) ∷ (codes "schema-id", signed_decimal schema.id)
    ∷ (codes "partition-spec", codes "[]") ∷ (codes "partition-spec-id", signed_decimal spec)
    ∷ (codes "format-version", codes "3") ∷ (codes "content", codes "data") ∷ []

-- a manifest of these entries, with this schema, this partition spec and this marker
abbrev pub written_manifest : TableSchema → ℤ → List Entry → List ℕ → List ℕ
written_manifest schema spec entries marker =
    written_container (text_of entry_tree) (properties schema spec) marker
    (gather 65536 0 [] (map written (map entry_value entries)))

-- what a manifest of these entries holds: the schema, the properties, and a record for each entry
abbrev pub manifest_content : TableSchema → ℤ → List Entry → Content
manifest_content schema spec entries = record {
  schema = entry_tree;
  properties = properties_of (text_of entry_tree) (properties schema spec);
  records = map entry_value entries;
}

-- the header of a manifest of this schema and this spec, with this marker, is within the limit
abbrev pub HasShortHeader : TableSchema → ℤ → List ℕ → Type 0
HasShortHeader schema spec marker =
    length (written_header (properties_of (text_of entry_tree) (properties schema spec)) marker)
    ≤ max_header
