-- The metadata of a table whose keys are replaced (Apache Iceberg Table Spec, "Table Metadata
-- Fields" and "Encryption Keys"; which members change is ours: docs/FORMATS.md).
use Rattle.std.specs.Prelude.{ℕ, ◌-◌, ℤ, pos, List, [], ◌∷◌, ◌++◌, length, drop, map, codes}
use Rattle.std.specs.Prelude.{Some, option_and_then, unwrap_or}
use Rattle.serde_json.specs.Data as json
use Rattle.serde_json.specs.Data.{Data, Members}
use Rattle.serde_json.specs.Find.{as_object, get}
use Rattle.icb_schema.specs.Reading.{as_list}
use Rattle.icb_types.specs.Lines.{number_json}
use Rattle.icb_meta.specs.declared.fields.Fields.{Fields}
use Rattle.icb_meta.specs.declared.records.KeyEntry.{KeyEntry}
use Rattle.icb_edits.specs.Sets.{Sets, object_of, set_all}
use Rattle.icb_edits.specs.Values.{array_of, entry_json, ordered, with_text}

-- ---- what members were

-- the elements of a member that is an array, none where it isn't one or isn't there
abbrev pub elements : List ℕ → Data → List Data
elements name d = unwrap_or (option_and_then as_list (get name d)) []

-- the members of a member that is an object, none where it isn't one or isn't there
abbrev pub members_in : List ℕ → Data → Members
members_in name d = unwrap_or (option_and_then as_object (get name d)) json.no_members

-- ---- the log of metadata

-- the last n elements
abbrev pub last_of : ℕ → List Data → List Data
last_of n list = drop (length list - n) list

-- where a version was, and when it was made
abbrev pub version_members : List ℕ → ℤ → Sets
version_members path ms =
    (codes "timestamp-ms", Some (number_json ms))
    ∷ (codes "metadata-file", Some (json.string path))
    ∷ []

-- an element of `metadata-log`
unfoldable pub version_json : List ℕ → ℤ → Data
version_json path ms = object_of (version_members path ms)

-- the log with one more version, of which the last 100 are kept
abbrev pub logged : Data → List ℕ → ℤ → List Data
logged d path time = last_of 100 (elements (codes "metadata-log") d ++ version_json path time ∷ [])

-- ---- keys

-- the members that change where keys and the master key are replaced
abbrev pub key_sets : Data → ℤ → List KeyEntry → List ℕ → List ℕ → ℕ → Sets
key_sets d updated entries master previous now =
    (codes "metadata-log", Some (array_of (logged d previous updated)))
    ∷ (codes "last-updated-ms", Some (number_json (pos now)))
    ∷ (codes "encryption-keys", Some (array_of (map entry_json entries)))
    ∷ (
      codes "properties",
      Some (json.object (json.put (codes "encryption.key-id")
          (json.string master) (members_in (codes "properties") d))),
    )
    ∷ []

-- an object with these members, and its others
abbrev pub with_sets : Data → Sets → Data
with_sets d sets = json.object (set_all sets (unwrap_or (as_object d) json.no_members))

-- the record with other keys and another master key
abbrev pub key_fields : Fields → List KeyEntry → List ℕ → ℕ → Fields
key_fields f entries master now = record {
  heading = record {
    uuid = f.heading.uuid;
    location = f.heading.location;
    last_sequence = f.heading.last_sequence;
    updated = pos now;
  };
  layout = f.layout;
  state = record {
    properties = with_text f.state.properties (codes "encryption.key-id", master);
    snapshots = f.state.snapshots;
    current = f.state.current;
    next_row = f.state.next_row;
    entries = map ordered entries;
  };
}
