-- Laws of the definitions. Each is the contract of a function of `src/laws.rt`.
use Rattle.std.specs.Prelude.{◌≡◌, ℕ, pos, ◌≤◌, Ok}
use Rattle.icb_schema.specs.Tree.{root_form}
use Rattle.icb_avro.specs.declared.value.Value.{out-Value}
use Rattle.icb_fields.specs.Fields.{record_of}
use Rattle.icb_manifest.specs.declared.entry.Entry.{Entry}
use Rattle.icb_manifest.specs.Entries.{entry_of}
use Rattle.icb_manifest.specs.Written.{entry_tree, entry_value}

-- an entry whose file exists, is added or is deleted
pub record IsEntry (e : Entry) : Type 0 where
  pub kind : ℕ
  pub status : e.status ≡ pos kind
  pub known : kind ≤ 2

-- The value that is written of an entry is read as that entry.
abbrev pub EntriesReadBack : Type 0
EntriesReadBack = (e : Entry) → IsEntry e
    → entry_of (record_of (root_form entry_tree) (out-Value (entry_value e))) ≡ Ok e
