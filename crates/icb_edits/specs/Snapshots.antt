-- The metadata of a table with one more snapshot (Apache Iceberg Table Spec, "Snapshots",
-- "Snapshot References" and "Table Metadata Fields"; which members change is ours:
-- docs/FORMATS.md).
use Rattle.std.specs.Prelude.{◌≡◌, ◌^◌, ◌+ℤ◌, ℕ, ℤ, pos, int_lt, List, [], ◌∷◌, ◌++◌, codes, true}
use Rattle.std.specs.Prelude.{Some, None, option_map, unwrap_or}
use Rattle.serde_json.specs.Data as json
use Rattle.serde_json.specs.Data.{Data}
use Rattle.icb_types.specs.Lines.{number_json}
use Rattle.icb_meta.specs.Forms.{entry_named, is_natural, snapshot_named}
use Rattle.icb_meta.specs.declared.fields.Fields.{Fields}
use Rattle.icb_meta.specs.declared.records.KeyEntry.{KeyEntry}
use Rattle.icb_meta.specs.declared.records.Snapshot.{Snapshot}
use Rattle.icb_edits.specs.Keys.{elements, logged, members_in}
use Rattle.icb_edits.specs.Sets.{Sets, object_of}
use Rattle.icb_edits.specs.Values.{array_of, entry_json, ordered}

-- the members of a snapshot that it needs
abbrev pub needed_members : Snapshot → Sets
needed_members s =
    (codes "timestamp-ms", Some (number_json s.ms))
    ∷ (
      codes "summary",
      Some (object_of ((codes "operation", Some (json.string s.operation)) ∷ [])),
    )
    ∷ (codes "snapshot-id", Some (number_json s.id))
    ∷ (codes "sequence-number", Some (number_json s.sequence))
    ∷ (codes "manifest-list", Some (json.string s.list))
    ∷ []

-- those that it may have
abbrev pub other_members : Snapshot → Sets
other_members s =
    (codes "schema-id", option_map number_json s.schema)
    ∷ (codes "parent-snapshot-id", option_map number_json s.parent)
    ∷ (codes "key-id", option_map json.string s.key)
    ∷ (codes "first-row-id", option_map number_json s.first_row)
    ∷ (codes "added-rows", option_map number_json s.added)
    ∷ []

-- all of them
abbrev pub snapshot_members : Snapshot → Sets
snapshot_members s = needed_members s ++ other_members s

-- a snapshot
unfoldable pub snapshot_json : Snapshot → Data
snapshot_json s = object_of (snapshot_members s)

-- which snapshot became the current one, and when
abbrev pub change_members : ℤ → ℕ → Sets
change_members id now =
    (codes "timestamp-ms", Some (number_json (pos now)))
    ∷ (codes "snapshot-id", Some (number_json id))
    ∷ []

-- an element of `snapshot-log`
unfoldable pub change_json : ℤ → ℕ → Data
change_json id now = object_of (change_members id now)

-- a branch and the snapshot that is its head
abbrev pub branch_members : ℤ → Sets
branch_members id =
    (codes "type", Some (json.string (codes "branch")))
    ∷ (codes "snapshot-id", Some (number_json id))
    ∷ []

-- the branch whose head is a snapshot
unfoldable pub branch_json : ℤ → Data
branch_json id = object_of (branch_members id)

-- how many row ids a snapshot takes
abbrev pub taken : Snapshot → ℤ
taken s = unwrap_or s.added (pos 0)

-- the id of the next row behind those of a snapshot
abbrev pub next_of : Fields → Snapshot → ℤ
next_of f s = f.state.next_row +ℤ taken s

-- how far the table has come with it
abbrev pub number_sets : Fields → Snapshot → ℕ → Sets
number_sets f s now =
    (codes "next-row-id", Some (number_json (next_of f s)))
    ∷ (codes "last-updated-ms", Some (number_json (pos now)))
    ∷ (codes "last-sequence-number", Some (number_json s.sequence))
    ∷ (codes "current-snapshot-id", Some (number_json s.id))
    ∷ []

-- what joins the lists, and the main branch
abbrev pub element_sets : Data → Fields → Snapshot → KeyEntry → List ℕ → ℕ → Sets
element_sets d f s entry previous now =
    (codes "snapshots", Some (array_of (elements (codes "snapshots") d ++ snapshot_json s ∷ [])))
    ∷ (
      codes "snapshot-log",
      Some (array_of (elements (codes "snapshot-log") d ++ change_json s.id now ∷ [])),
    )
    ∷ (
      codes "refs",
      Some (json.object
          (json.put (codes "main") (branch_json s.id) (members_in (codes "refs") d))),
    )
    ∷ (codes "metadata-log", Some (array_of (logged d previous f.heading.updated)))
    ∷ (
      codes "encryption-keys",
      Some (array_of (elements (codes "encryption-keys") d ++ entry_json entry ∷ [])),
    )
    ∷ []

-- the members that change where a snapshot becomes the current one
abbrev pub snapshot_sets : Data → Fields → Snapshot → KeyEntry → List ℕ → ℕ → Sets
snapshot_sets d f s entry previous now =
    element_sets d f s entry previous now ++ number_sets f s now

-- the record with one more snapshot, which is the current one, and one more key
abbrev pub snapshot_fields : Fields → Snapshot → KeyEntry → ℕ → Fields
snapshot_fields f s entry now = record {
  heading = record {
    uuid = f.heading.uuid;
    location = f.heading.location;
    last_sequence = s.sequence;
    updated = pos now;
  };
  layout = f.layout;
  state = record {
    properties = f.state.properties;
    snapshots = f.state.snapshots ++ s ∷ [];
    current = Some s.id;
    next_row = next_of f s;
    entries = f.state.entries ++ ordered entry ∷ [];
  };
}

-- its row ids end below 2^63
pub record HasRoom (f : Fields) (s : Snapshot) : Type 0 where
  pub added : is_natural (taken s) ≡ true
  pub room : int_lt (next_of f s) (pos (2 ^ 63)) ≡ true

-- what a snapshot and its key are asked to be: new, next in the sequence, within the row ids
pub record IsNext (f : Fields) (s : Snapshot) (entry : KeyEntry) : Type 0 where
  pub above : int_lt (pos 0) s.id ≡ true
  pub unused : snapshot_named s.id f.state.snapshots ≡ None
  pub sequence : s.sequence ≡ f.heading.last_sequence +ℤ pos 1
  pub rows : HasRoom f s
  pub key_unused : entry_named entry.id f.state.entries ≡ None
