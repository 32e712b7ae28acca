-- What a call answers beside its definition.
use Rattle.std.specs.Prelude.{◌≡◌, List, ℕ, Result, Ok, Err, codes, unwrap_or}
use Rattle.serde_json.specs.Data.{Data, Members, no_members}
use Rattle.serde_json.specs.Find.{as_object}
use Rattle.serde_json.specs.View.{view}
use Rattle.icb_meta.specs.declared.fault.MetaFault.{MetaFault}
use Rattle.icb_meta.specs.declared.fault.MetaFault.TheVariants as fault
use Rattle.icb_meta.specs.declared.fault.Refusal.{Refusal}
use Rattle.icb_meta.specs.declared.fault.Refusal.TheVariants as refusal
use Rattle.icb_meta.specs.Forms.{text_named}
use Rattle.icb_meta.specs.Ids.{IsNextOf}
use Rattle.icb_meta.specs.Shown.{fields_of}
use Rattle.icb_meta.specs.declared.fields.Fields.{Fields}
use Rattle.icb_meta.specs.declared.fields.State.{State}
use Rattle.icb_meta.specs.declared.table.TableMeta.{TableMeta}

-- the JSON value of a table's metadata, with all that the record doesn't show
abbrev pub json_of : TableMeta → Data
json_of meta = view meta.json

-- the record that it shows
abbrev pub shown_of : TableMeta → Fields
shown_of meta = meta.fields

-- the metadata that a text shows, its first refused field, or want of memory
abbrev pub ReadsMeta : Result TableMeta MetaFault → Result (Data × Fields) (List ℕ) → Type 0
ReadsMeta (Ok meta) shown = shown ≡ Ok (json_of meta, shown_of meta)
ReadsMeta (Err (fault.BadMeta field)) shown = shown ≡ Err field
ReadsMeta (Err fault.NoMemory) shown = Unit {0}

-- the definition's value or its refused field, or want of memory
abbrev pub Shows : {A B : Type 0} → (A → B) → Result A Refusal → Result B (List ℕ) → Type 0
Shows view (Ok a) shown = shown ≡ Ok (view a)
Shows view (Err (refusal.Field name)) shown = shown ≡ Err name.now
Shows view (Err refusal.NoMemory) shown = Unit {0}

-- the metadata that a value shows, its first refused field, or want of memory
abbrev pub ReadsJson : Result TableMeta MetaFault → Data → Type 0
ReadsJson (Ok meta) d = (json_of meta ≡ d) × (fields_of d ≡ Ok (shown_of meta))
ReadsJson (Err (fault.BadMeta field)) d = fields_of d ≡ Err field
ReadsJson (Err fault.NoMemory) d = Unit {0}

-- the members of the metadata's JSON object
abbrev pub members_of : TableMeta → Members
members_of meta = unwrap_or (as_object (json_of meta)) no_members

-- `key-N` with the least N from 1 up that no key has or was sealed by, and that isn't the master's
abbrev pub IsNextKeyId : State → List ℕ → Type 0
IsNextKeyId state id =
    IsNextOf state.entries (text_named (codes "encryption.key-id") state.properties) id
