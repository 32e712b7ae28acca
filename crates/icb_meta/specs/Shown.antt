-- Which record a JSON value shows as table metadata, or the name of the first field that isn't
-- there in its form (Apache Iceberg Table Spec, "Table Metadata Fields", format version 3). The
-- order of the fields is ours (docs/FORMATS.md).
use Rattle.std.specs.Prelude.{ℤ, ℕ, List, [], codes, Option, Some, None, option_and_then}
use Rattle.std.specs.Prelude.{Result, Ok, Err}
use Rattle.serde_json.specs.Data.{Data}
use Rattle.serde_json.specs.Find.{get}
use Rattle.icb_schema.specs.Reading.{json_in, only_if}
use Rattle.icb_types.specs.Lines.{int_in, long_in, uuid_in}
use Rattle.icb_types.specs.Steps.{◌>>=◌}
use Rattle.icb_meta.specs.Forms.{current_in, entries_in, if_absent, is_plain_object, location_in}
use Rattle.icb_meta.specs.Forms.{natural_in, order_named, orders_in, properties_in}
use Rattle.icb_meta.specs.Forms.{schema_named, schemas_in, snapshots_in, version_in}
use Rattle.icb_meta.specs.declared.fields.Fields.{Fields}
use Rattle.icb_meta.specs.declared.fields.Heading.{Heading}
use Rattle.icb_meta.specs.declared.fields.Layout.{Layout}
use Rattle.icb_meta.specs.declared.fields.State.{State}

-- a field is refused by its name where nothing is shown
abbrev pub or_field : {A : Type 0} → List ℕ → Option A → Result A (List ℕ)
or_field name None = Err name
or_field name (Some a) = Ok a

-- a member that is needed
abbrev pub member : {A : Type 0} → (Data → Option A) → List ℕ → Data → Result A (List ℕ)
member read name d = or_field name (option_and_then read (get name d))

-- a member that may be absent, and then stands for this
abbrev pub member_or : {A : Type 0} → A → (Data → Option A) → List ℕ → Data
    → Result A (List ℕ)
member_or other read name d = or_field name (if_absent other read (get name d))

-- the one that a whole number of 32 bits names
abbrev pub chosen_by : {A : Type 0} → (ℤ → Option A) → Data → Option A
chosen_by named d = option_and_then named (int_in d)

-- what the table is and how far it has come
unfoldable pub heading_of : Data → Result Heading (List ℕ)
heading_of d = do
  version ← member version_in (codes "format-version") d
  uuid ← member uuid_in (codes "table-uuid") d
  location ← member location_in (codes "location") d
  last_sequence ← member natural_in (codes "last-sequence-number") d
  updated ← member long_in (codes "last-updated-ms") d
  last_column ← member int_in (codes "last-column-id") d
  Ok (record {
    uuid = uuid;
    location = location;
    last_sequence = last_sequence;
    updated = updated;
  })

-- its current schema, its default partition spec and its default sort order
unfoldable pub layout_of : Data → Result Layout (List ℕ)
layout_of d = do
  schemas ← member schemas_in (codes "schemas") d
  schema ← member (chosen_by (λ id. schema_named id schemas)) (codes "current-schema-id") d
  specs ← member (orders_in (codes "spec-id")) (codes "partition-specs") d
  spec ← member (chosen_by (λ id. order_named id specs)) (codes "default-spec-id") d
  last_partition ← member long_in (codes "last-partition-id") d
  orders ← member (orders_in (codes "order-id")) (codes "sort-orders") d
  order ← member (chosen_by (λ id. order_named id orders)) (codes "default-sort-order-id") d
  Ok (record {
    schema = schema;
    spec = spec.id;
    partitioned = spec.has_fields;
    sorted = order.has_fields;
  })

-- its properties, snapshots and keys
unfoldable pub state_of : Data → Result State (List ℕ)
state_of d = do
  properties ← member_or [] properties_in (codes "properties") d
  snapshots ← member_or [] snapshots_in (codes "snapshots") d
  current ← member_or None (current_in snapshots) (codes "current-snapshot-id") d
  next_row ← member natural_in (codes "next-row-id") d
  entries ← member_or [] entries_in (codes "encryption-keys") d
  Ok (record {
    properties = properties;
    snapshots = snapshots;
    current = current;
    next_row = next_row;
    entries = entries;
  })

-- the record that a value shows, or the first refused field; a value that is no object, or has
-- any number that isn't whole or doesn't fit 64 bits, is refused by the empty name
unfoldable pub fields_of : Data → Result Fields (List ℕ)
fields_of d = do
  plain ← or_field [] (only_if is_plain_object d)
  heading ← heading_of d
  layout ← layout_of d
  state ← state_of d
  Ok (record { heading = heading; layout = layout; state = state })

-- the value and the record that a text shows, or the first refused field; a text that is no JSON
-- text that `serde_json` reads is refused by the empty name
unfoldable pub meta_of : List ℕ → Result (Data × Fields) (List ℕ)
meta_of text = do
  d ← or_field [] (json_in text)
  fields ← fields_of d
  Ok (d, fields)
