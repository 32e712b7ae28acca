-- The metadata of a new table (Apache Iceberg Table Spec, "Table Metadata Fields"; which members
-- are written, and the numbers that they begin with, are ours: docs/FORMATS.md).
use Rattle.std.specs.Prelude.{◌≡◌, ℕ, ℤ, pos, List, [], ◌∷◌, ◌++◌, codes, fold, if◌then◌else◌}
use Rattle.std.specs.Prelude.{int_lt, true, false, Some, None}
use Rattle.serde_json.specs.Data as json
use Rattle.serde_json.specs.Data.{Data}
use Rattle.icb_columns.specs.Printed.{schema_json}
use Rattle.icb_types.specs.Columns.{AreColumns}
use Rattle.icb_types.specs.Lines.{number_json, uuid_text}
use Rattle.icb_types.specs.declared.columns.Column.{Column}
use Rattle.icb_meta.specs.Forms.{is_location}
use Rattle.icb_meta.specs.declared.fields.Fields.{Fields}
use Rattle.icb_meta.specs.declared.records.KeyEntry.{KeyEntry}
use Rattle.icb_meta.specs.declared.records.NewTable.{NewTable}
use Rattle.icb_edits.specs.Sets.{Sets, object_of}
use Rattle.icb_edits.specs.Values.{array_of, entry_json, in_order, ordered, texts_json}

-- the greater of a number and a column's id
abbrev pub greater_id : ℤ → Column → ℤ
greater_id last c = if int_lt last c.id then c.id else last

-- the greatest column id
unfoldable pub last_id : List Column → ℤ
last_id columns = fold greater_id (pos 0) columns

-- the members of a partition spec or a sort order without fields, whose id is 0 by this name
abbrev pub order_members : List ℕ → Sets
order_members name = (name, Some (number_json (pos 0))) ∷ (codes "fields", Some (array_of [])) ∷ []

-- such a partition spec or sort order
abbrev pub order_json : List ℕ → Data
order_json name = object_of (order_members name)

-- what the table is, and how far it has come
abbrev pub heading_sets : NewTable → ℕ → ℕ → Sets
heading_sets t uuid now =
    (codes "table-uuid", Some (json.string (uuid_text uuid)))
    ∷ (codes "location", Some (json.string t.location))
    ∷ (codes "last-updated-ms", Some (number_json (pos now)))
    ∷ (codes "last-sequence-number", Some (number_json (pos 0)))
    ∷ (codes "last-column-id", Some (number_json (last_id t.schema.columns)))
    ∷ (codes "format-version", Some (number_json (pos 3)))
    ∷ []

-- one schema, one partition spec and one sort order, both without fields
abbrev pub layout_sets : NewTable → Sets
layout_sets t =
    (codes "sort-orders", Some (array_of (order_json (codes "order-id") ∷ [])))
    ∷ (codes "partition-specs", Some (array_of (order_json (codes "spec-id") ∷ [])))
    ∷ (codes "last-partition-id", Some (number_json (pos 999)))
    ∷ (codes "default-spec-id", Some (number_json (pos 0)))
    ∷ (codes "default-sort-order-id", Some (number_json (pos 0)))
    ∷ (codes "schemas", Some (array_of (schema_json t.schema ∷ [])))
    ∷ (codes "current-schema-id", Some (number_json t.schema.id))
    ∷ []

-- no snapshots, its properties and one sealed key
abbrev pub state_sets : NewTable → KeyEntry → Sets
state_sets t entry =
    (codes "snapshots", Some (array_of []))
    ∷ (codes "snapshot-log", Some (array_of []))
    ∷ (codes "refs", Some (object_of []))
    ∷ (codes "properties", Some (texts_json t.properties))
    ∷ (codes "next-row-id", Some (number_json (pos 0)))
    ∷ (codes "metadata-log", Some (array_of []))
    ∷ (codes "encryption-keys", Some (array_of (entry_json entry ∷ [])))
    ∷ []

-- all of them
abbrev pub new_sets : NewTable → ℕ → KeyEntry → ℕ → Sets
new_sets t uuid entry now = heading_sets t uuid now ++ (layout_sets t ++ state_sets t entry)

-- the metadata of a new table
unfoldable pub new_json : NewTable → ℕ → KeyEntry → ℕ → Data
new_json t uuid entry now = object_of (new_sets t uuid entry now)

-- the record that it shows
abbrev pub new_fields : NewTable → ℕ → KeyEntry → ℕ → Fields
new_fields t uuid entry now = record {
  heading = record {
    uuid = uuid;
    location = t.location;
    last_sequence = pos 0;
    updated = pos now;
  };
  layout = record {
    schema = t.schema;
    spec = pos 0;
    partitioned = false;
    sorted = false;
  };
  state = record {
    properties = in_order t.properties;
    snapshots = [];
    current = None;
    next_row = pos 0;
    entries = ordered entry ∷ [];
  };
}

-- what a new table is asked to be: a location, and columns that make a schema
pub record IsNewTable (t : NewTable) : Type 0 where
  pub location : is_location t.location ≡ true
  pub columns : AreColumns t.schema.columns
