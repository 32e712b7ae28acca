-- What is printed of a table's metadata (ours: README.md of this crate).
use Rattle.std.specs.Prelude.{ℕ, ℤ, List, ◌++◌, codes, flat_map, Option, Some, None}
use Rattle.std.specs.Prelude.{if◌then◌else◌}
use Rattle.std.specs.Fmt.{signed_decimal}
use Rattle.json.specs.Print.{quoted}
use Rattle.icb_chain.specs.Opening.{KeyTable, seals_key, table_of}
use Rattle.icb_meta.specs.declared.fields.Fields.{Fields}
use Rattle.icb_meta.specs.declared.records.KeyEntry.{KeyEntry}
use Rattle.icb_meta.specs.declared.records.Snapshot.{Snapshot}

-- a number in decimal digits, or `-` where there is none
abbrev pub number_or_dash : Option ℤ → List ℕ
number_or_dash None = codes "-"
number_or_dash (Some n) = signed_decimal n

-- a text as a JSON string text (RFC 8259, 7), or `-` where there is none
abbrev pub text_or_dash : Option (List ℕ) → List ℕ
text_or_dash None = codes "-"
text_or_dash (Some text) = quoted text

-- `ID PARENT` of a snapshot
abbrev pub lineage : Snapshot → List ℕ
lineage s = signed_decimal s.id ++ codes " " ++ number_or_dash s.parent

-- `ID PARENT SEQUENCE` of a snapshot
abbrev pub snapshot_ids : Snapshot → List ℕ
snapshot_ids s = lineage s ++ codes " " ++ signed_decimal s.sequence

-- `MS OPERATION ADDED`, the operation as a JSON string text
abbrev pub snapshot_work : Snapshot → List ℕ
snapshot_work s = signed_decimal s.ms ++ codes " " ++ quoted s.operation ++ codes " "
    ++ number_or_dash s.added

-- a snapshot: `ID PARENT SEQUENCE MS OPERATION ADDED`
abbrev pub snapshot_line : Snapshot → List ℕ
snapshot_line s = snapshot_ids s ++ codes " " ++ snapshot_work s ++ codes "\n"

-- a line for each snapshot, in the metadata's order
abbrev pub snapshots_text : Fields → List ℕ
snapshots_text fields = flat_map snapshot_line fields.state.snapshots

-- what a sealed key seals: a key-encryption key, or the key metadata of a manifest list
abbrev pub kind_of : KeyTable → KeyEntry → List ℕ
kind_of table e = if seals_key table e then codes "kek" else codes "list"

-- a sealed key: `ID BY kek` or `ID BY list`, the ids as JSON string texts
abbrev pub key_line : KeyTable → KeyEntry → List ℕ
key_line table e = quoted e.id ++ codes " " ++ text_or_dash e.by ++ codes " "
    ++ kind_of table e ++ codes "\n"

-- a line for each sealed key, in the metadata's order
abbrev pub keys_text : Fields → List ℕ
keys_text fields = flat_map (key_line (table_of fields.state)) fields.state.entries
