-- A manifest list as it is written: its schema, and the value of each row.
use Rattle.std.specs.Prelude.{ℕ, ◌≤◌, ℤ, pos, List, [], ◌∷◌, ◌++◌, length, codes, map, take}
use Rattle.std.specs.Prelude.{Some, option_map}
use Rattle.icb_schema.specs.Tree as tree
use Rattle.icb_schema.specs.Tree.{Tree}
use Rattle.icb_schema.specs.Nodes.{Part}
use Rattle.icb_schema.specs.Printing.{text_of}
use Rattle.icb_avro.specs.declared.value.Value.{Value}
use Rattle.icb_avro.specs.declared.value.Value.TheVariants as value
use Rattle.icb_avro.specs.Writing.{written}
use Rattle.icb_container.specs.Content.{Content}
use Rattle.icb_container.specs.Header.{max_header}
use Rattle.icb_container.specs.Written.{properties_of, written_container, written_header}
use Rattle.icb_fields.specs.Making.{optional, or_null, primitive, record_tree}
use Rattle.icb_records.specs.Gathering.{gather}
use Rattle.icb_list.specs.declared.row.ListRow.{ListRow}

-- a field with its id
abbrev pub part : List ℕ → ℤ → Tree → Part
part name id t = (name, Some id, t)

-- the fields of a row
abbrev pub row_parts : List Part
row_parts =
    part (codes "manifest_path") (pos 500) (primitive tree.text)
    ∷ part (codes "manifest_length") (pos 501) (primitive tree.long)
    ∷ part (codes "partition_spec_id") (pos 502) (primitive tree.int)
    ∷ part (codes "content") (pos 517) (primitive tree.int)
    ∷ part (codes "sequence_number") (pos 515) (primitive tree.long)
    ∷ part (codes "min_sequence_number") (pos 516) (primitive tree.long)
    ∷ part (codes "added_snapshot_id") (pos 503) (primitive tree.long)
    ∷ part (codes "added_files_count") (pos 504) (primitive tree.int)
    ∷ part (codes "existing_files_count") (pos 505) (primitive tree.int)
    ∷ part (codes "deleted_files_count") (pos 506) (primitive tree.int)
    ∷ part (codes "added_rows_count") (pos 512) (primitive tree.long)
    ∷ part (codes "existing_rows_count") (pos 513) (primitive tree.long)
    ∷ part (codes "deleted_rows_count") (pos 514) (primitive tree.long)
    ∷ part (codes "key_metadata") (pos 519) (or_null (primitive tree.bytes))
    ∷ part (codes "first_row_id") (pos 520) (or_null (primitive tree.long))
    ∷ []

-- the schema of a row
unfoldable pub row_tree : Tree
row_tree = record_tree (codes "manifest_file") row_parts

-- the values of a row's fields, with three numbers of files and of rows
abbrev pub row_values : ListRow → List Value
row_values r =
    value.Text r.path ∷ value.Long r.length ∷ value.Int r.spec ∷ value.Int r.content
    ∷ value.Long r.sequence ∷ value.Long r.min_sequence ∷ value.Long r.snapshot
    ∷ (map value.Int (take 3 r.files) ++ map value.Long (take 3 r.rows)
    ++ optional (option_map value.Bytes r.key) ∷ optional (option_map value.Long r.first_row) ∷ [])

-- the value of a row
unfoldable pub row_value : ListRow → Value
row_value r = value.Record (row_values r)

-- the properties beside those of every container
abbrev pub list_properties : List (List ℕ × List ℕ)
list_properties = (codes "format-version", codes "3") ∷ []

-- a manifest list of these rows, with this marker
abbrev pub written_list : List ListRow → List ℕ → List ℕ
written_list rows marker = written_container (text_of row_tree) list_properties marker
    (gather 65536 0 [] (map written (map row_value rows)))

-- the header of a manifest list with this marker is within the limit
abbrev pub HasShortHeader : List ℕ → Type 0
HasShortHeader marker =
    length (written_header (properties_of (text_of row_tree) list_properties) marker) ≤ max_header

-- what a manifest list of these rows holds: the schema, the properties, and a record for each row
abbrev pub list_content : List ListRow → Content
list_content rows = record {
  schema = row_tree;
  properties = properties_of (text_of row_tree) list_properties;
  records = map row_value rows;
}
