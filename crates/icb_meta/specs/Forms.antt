-- The forms of JSON values in table metadata (Apache Iceberg Table Spec, "Appendix C: JSON
-- Serialization"; the limits on columns are ours).
use Rattle.std.specs.Prelude.{ℕ, ◌-◌, ◌==◌, length, slice_index, nat_le, nat_lt}
use Rattle.std.specs.Prelude.{ℤ, pos, negsuc, List, [], ◌∷◌, map, codes, bytes_eq}
use Rattle.std.specs.Prelude.{Bool, true, false, not, ◌&&◌, if◌then◌else◌}
use Rattle.std.specs.Prelude.{Option, Some, None, is_some, option_map, option_and_then}
use Rattle.std.specs.Result.{result_ok}
use Rattle.std.specs.Ordering.{int_eq}
use Rattle.serde_json.specs.Data as json
use Rattle.serde_json.specs.Data.{Data, Members}
use Rattle.serde_json.specs.Find.{get, as_bool, as_null, as_object, as_str}
use Rattle.serde_json.specs.Written.{has_float}
use Rattle.base64.specs.GeneralPurpose.{decode_of}
use Rattle.base64.specs.Engines.{standard}
use Rattle.icb_schema.specs.Names.{are_distinct, is_empty}
use Rattle.icb_schema.specs.Reading.{all_read, as_list, needed, only_if, optional}
use Rattle.icb_types.specs.Columns.{are_distinct_ids, is_id}
use Rattle.icb_types.specs.Lines.{int_in, long_in}
use Rattle.icb_types.specs.Words.{kind_of_word}
use Rattle.icb_types.specs.declared.columns.Column.{Column}
use Rattle.icb_types.specs.declared.columns.TableSchema.{TableSchema}
use Rattle.icb_meta.specs.declared.orders.Order.{Order}
use Rattle.icb_meta.specs.declared.records.KeyEntry.{KeyEntry}
use Rattle.icb_meta.specs.declared.records.Snapshot.{Snapshot}

infixl 10 ◌>>=◌
-- the second step, where the first gave a value
abbrev pub ◌>>=◌ : {A B : Type 0} → Option A → (A → Option B) → Option B
o >>= f = option_and_then f o

-- ---- single values

-- an object in which each number, at any depth, is a whole number of 64 bits
abbrev pub is_plain_object : Data → Bool
is_plain_object d = is_some (as_object d) && not (has_float d)

-- the number 3
abbrev pub version_in : Data → Option ℤ
version_in d = long_in d >>= only_if (int_eq (pos 3))

-- a number isn't below 0
abbrev pub is_natural : ℤ → Bool
is_natural (pos n) = true
is_natural (negsuc n) = false

-- a number from 0 up
abbrev pub natural_in : Data → Option ℤ
natural_in d = long_in d >>= only_if is_natural

-- a text that isn't empty and has no `/` at its end
abbrev pub is_location : List ℕ → Bool
is_location text = nat_lt 0 (length text) && not (slice_index text (length text - 1) == 47)

-- the location of a table
abbrev pub location_in : Data → Option (List ℕ)
location_in d = as_str d >>= only_if is_location

-- bytes in base64 with its standard alphabet and padding (RFC 4648, section 4)
abbrev pub base64_in : Data → Option (List ℕ)
base64_in d = as_str d >>= (λ text. result_ok (decode_of standard text))

-- what a member shows, or this where it is absent
abbrev pub if_absent : {A : Type 0} → A → (Data → Option A) → Option Data → Option A
if_absent other read None = Some other
if_absent other read (Some d) = read d

-- ---- texts by name

-- members that are all texts, with their names, in the order of the names' bytes
abbrev pub texts_of : Members → Option (List (List ℕ × List ℕ))
texts_of json.no_members = Some []
texts_of (json.member name d ms) =
    as_str d >>= (λ text. option_map (λ rest. (name, text) ∷ rest) (texts_of ms))

-- an object of texts
abbrev pub properties_in : Data → Option (List (List ℕ × List ℕ))
properties_in d = as_object d >>= texts_of

-- the text of a name
abbrev pub text_named : List ℕ → List (List ℕ × List ℕ) → Option (List ℕ)
text_named name [] = None
text_named name (p ∷ ps) = if bytes_eq p.0 name then Some p.1 else text_named name ps

-- ---- schemas

-- a member is absent or null
abbrev pub is_unset : Option Data → Bool
is_unset None = true
is_unset (Some d) = is_some (as_null d)

-- a column without defaults ("Schemas and Data Types"): an object with `id`, `name`, `type` and
-- `required`
unfoldable pub column_in : Data → Option Column
column_in d = do
  id ← needed int_in (codes "id") d >>= only_if is_id
  name ← needed as_str (codes "name") d
  kind ← needed as_str (codes "type") d >>= kind_of_word
  required ← needed as_bool (codes "required") d
  only_if (λ _. is_unset (get (codes "initial-default") d)
      && is_unset (get (codes "write-default") d))
      (record { id = id; name = name; kind = kind; required = required })

-- 1 to 1,000 columns whose ids and names are distinct
abbrev pub are_columns : List Column → Bool
are_columns columns = nat_le 1 (length columns) && nat_le (length columns) 1000
    && are_distinct_ids (map (λ c. c.id) columns) && are_distinct (map (λ c. c.name) columns)

-- a schema: an object with `schema-id` and `fields`
unfoldable pub schema_in : Data → Option TableSchema
schema_in d = do
  id ← needed int_in (codes "schema-id") d
  columns ← needed as_list (codes "fields") d >>= all_read column_in >>= only_if are_columns
  Some (record { id = id; columns = columns })

-- schemas with distinct ids
unfoldable pub schemas_in : Data → Option (List TableSchema)
schemas_in d = as_list d >>= all_read schema_in
    >>= only_if (λ schemas. are_distinct_ids (map (λ s. s.id) schemas))

-- the schema of an id
abbrev pub schema_named : ℤ → List TableSchema → Option TableSchema
schema_named id [] = None
schema_named id (s ∷ ss) = if int_eq s.id id then Some s else schema_named id ss

-- ---- partition specs and sort orders

-- a partition spec ("Partition Specs") or a sort order ("Sorting"): an object with an id by this
-- name and `fields`; its id, and whether it has fields
unfoldable pub order_in : List ℕ → Data → Option Order
order_in name d = do
  id ← needed int_in name d
  fields ← needed as_list (codes "fields") d
  Some (record { id = id; has_fields = not (is_empty fields) })

-- partition specs or sort orders with distinct ids
unfoldable pub orders_in : List ℕ → Data → Option (List Order)
orders_in name d = as_list d >>= all_read (order_in name)
    >>= only_if (λ orders. are_distinct_ids (map (λ o. o.id) orders))

-- the one of an id
abbrev pub order_named : ℤ → List Order → Option Order
order_named id [] = None
order_named id (o ∷ os) = if int_eq o.id id then Some o else order_named id os

-- ---- snapshots

-- a snapshot ("Snapshots")
unfoldable pub snapshot_in : Data → Option Snapshot
snapshot_in d = do
  id ← needed long_in (codes "snapshot-id") d
  sequence ← needed long_in (codes "sequence-number") d
  ms ← needed long_in (codes "timestamp-ms") d
  summary ← get (codes "summary") d
  parent ← optional long_in (get (codes "parent-snapshot-id") d)
  schema ← optional int_in (get (codes "schema-id") d)
  first_row ← optional long_in (get (codes "first-row-id") d)
  added ← optional long_in (get (codes "added-rows") d)
  list ← needed as_str (codes "manifest-list") d
  operation ← needed as_str (codes "operation") summary
  key ← optional as_str (get (codes "key-id") d)
  Some (record {
    id = id;
    parent = parent;
    sequence = sequence;
    ms = ms;
    list = list;
    operation = operation;
    schema = schema;
    first_row = first_row;
    added = added;
    key = key;
  })

-- snapshots with distinct ids
unfoldable pub snapshots_in : Data → Option (List Snapshot)
snapshots_in d = as_list d >>= all_read snapshot_in
    >>= only_if (λ snapshots. are_distinct_ids (map (λ s. s.id) snapshots))

-- the snapshot of an id
abbrev pub snapshot_named : ℤ → List Snapshot → Option Snapshot
snapshot_named id [] = None
snapshot_named id (s ∷ ss) = if int_eq s.id id then Some s else snapshot_named id ss

-- the id of one of the snapshots, or -1 for none
abbrev pub current_id : List Snapshot → ℤ → Option (Option ℤ)
current_id snapshots id =
    if int_eq id (negsuc 0) then Some None
    else option_map (λ s. Some s.id) (snapshot_named id snapshots)

-- the current snapshot's id: null and -1 mean none
abbrev pub current_in : List Snapshot → Data → Option (Option ℤ)
current_in snapshots d =
    if is_some (as_null d) then Some None else long_in d >>= current_id snapshots

-- ---- keys

-- the entry of sealed bytes and properties, with its ids
unfoldable pub entry_of : List ℕ → List (List ℕ × List ℕ) → Data → Option KeyEntry
entry_of sealed properties d = do
  id ← needed as_str (codes "key-id") d
  by ← optional as_str (get (codes "encrypted-by-id") d)
  Some (record { id = id; sealed = sealed; by = by; properties = properties })

-- an entry of `encryption-keys` ("Encryption Keys"); its properties may be absent
unfoldable pub entry_in : Data → Option KeyEntry
entry_in d = do
  sealed ← needed base64_in (codes "encrypted-key-metadata") d
  properties ← if_absent [] properties_in (get (codes "properties") d)
  entry_of sealed properties d

-- entries with distinct key ids
unfoldable pub entries_in : Data → Option (List KeyEntry)
entries_in d = as_list d >>= all_read entry_in
    >>= only_if (λ entries. are_distinct (map (λ e. e.id) entries))

-- the entry of a key id
abbrev pub entry_named : List ℕ → List KeyEntry → Option KeyEntry
entry_named id [] = None
entry_named id (e ∷ es) = if bytes_eq e.id id then Some e else entry_named id es
