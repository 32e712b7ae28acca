-- Which key opens which entry of a table's metadata, from the master down (Apache Iceberg Table
-- Spec, "Encryption Keys"; the sealed form and the two kinds of entries are ours, docs/FORMATS.md).
use Rattle.std.specs.Prelude.{ℕ, Bool, true, if◌then◌else◌, List, codes, bytes_eq, length}
use Rattle.std.specs.Prelude.{Option, Some, None, is_none, option_and_then, Result, Ok, Err}
use Rattle.icb_base.specs.KeyMetadata.{KeyRecord}
use Rattle.icb_keymeta.specs.Decoded.{key_metadata_of}
use Rattle.icb_meta.specs.Answers.{shown_of}
use Rattle.icb_meta.specs.Forms.{entry_named, text_named}
use Rattle.icb_meta.specs.declared.fields.State.{State}
use Rattle.icb_meta.specs.declared.records.KeyEntry.{KeyEntry}
use Rattle.icb_meta.specs.declared.table.TableMeta.{TableMeta}
use Rattle.icb_seal.specs.Block.{unwrapped}
use Rattle.icb_chain.specs.Ring.{Ring, as_key, key_named}
use Rattle.icb_chain.specs.declared.fault.ChainFault.{ChainFault}
use Rattle.icb_chain.specs.declared.fault.ChainFault.TheVariants as fault

-- what a table's metadata says of keys: the master's id, and the sealed keys
pub record KeyTable : Type 0 where
  pub master : Option (List ℕ)
  pub entries : List KeyEntry

-- that of metadata that shows this state
abbrev pub table_of : State → KeyTable
table_of state = record {
  master = text_named (codes "encryption.key-id") state.properties;
  entries = state.entries;
}

-- that of metadata
abbrev pub keys_of : TableMeta → KeyTable
keys_of meta = table_of (shown_of meta).state

infixl 10 ◌>>=◌
-- what comes next, where nothing is refused
abbrev pub ◌>>=◌ : {A B : Type 0} → Result A ChainFault → (A → Result B ChainFault)
    → Result B ChainFault
(Ok x) >>= f = f x
(Err refused) >>= f = Err refused

-- what is there, or a refusal
abbrev pub or_refused : {A : Type 0} → ChainFault → Option A → Result A ChainFault
or_refused refused None = Err refused
or_refused refused (Some x) = Ok x

-- ---- entries

-- the entry of the key that sealed another
abbrev pub sealer_of : KeyTable → KeyEntry → Option KeyEntry
sealer_of table e = option_and_then (λ by. entry_named by table.entries) e.by

-- an entry seals a key-encryption key where no entry sealed it, and else the key of a list
abbrev pub seals_key : KeyTable → KeyEntry → Bool
seals_key table e = is_none (sealer_of table e)

-- the id of a key-encryption key's master: the one that the entry names, or else the table's
abbrev pub master_of : KeyTable → KeyEntry → Option (List ℕ)
master_of table e = named e.by
  where
    named : Option (List ℕ) → Option (List ℕ)
    named None = table.master
    named (Some by) = Some by

-- the entry is sealed in the first way, which is meant where nothing else is said
abbrev pub is_scheme_1 : KeyEntry → Bool
is_scheme_1 e = said (text_named (codes "icb.scheme") e.properties)
  where
    said : Option (List ℕ) → Bool
    said None = true
    said (Some scheme) = bytes_eq scheme (codes "1")

-- what an entry opens to under a key: its id is the additional data
abbrev pub opened_entry : List ℕ → KeyEntry → Option (List ℕ)
opened_entry key e = if is_scheme_1 e then unwrapped key e.id e.sealed else None

-- the key that an entry opens to
abbrev pub opened_key : List ℕ → KeyEntry → Option (List ℕ)
opened_key key e = option_and_then as_key (opened_entry key e)

-- the key metadata that bytes are
abbrev pub metadata_in : List ℕ → Option KeyRecord
metadata_in bytes = read (key_metadata_of bytes)
  where
    read : Result KeyRecord ℕ → Option KeyRecord
    read (Ok meta) = Some meta
    read (Err place) = None

-- the key metadata that an entry opens to
abbrev pub opened_metadata : List ℕ → KeyEntry → Option KeyRecord
opened_metadata key e = option_and_then metadata_in (opened_entry key e)

-- ---- keys

-- the key-encryption entry of an id
abbrev pub key_entry : KeyTable → List ℕ → Option KeyEntry
key_entry table id = option_and_then (λ e. if seals_key table e then Some e else None)
    (entry_named id table.entries)

-- the list entry of an id
abbrev pub list_entry : KeyTable → List ℕ → Option KeyEntry
list_entry table id = option_and_then (λ e. if seals_key table e then None else Some e)
    (entry_named id table.entries)

-- the key-encryption key of an id, or the first refusal
unfoldable pub kek_of : KeyTable → Ring → List ℕ → Result (List ℕ) ChainFault
kek_of table ring id = do
  e ← or_refused (fault.NoKey id) (key_entry table id)
  by ← or_refused (fault.KeyRefused id) (master_of table e)
  master ← or_refused (fault.NoKey by) (key_named by ring)
  or_refused (fault.KeyRefused id) (opened_key master e)

-- the key metadata of a list entry, or the first refusal: its sealer must be a key-encryption entry
unfoldable pub list_key_of : KeyTable → Ring → List ℕ → Result KeyRecord ChainFault
list_key_of table ring id = do
  e ← or_refused (fault.NoKey id) (list_entry table id)
  by ← or_refused (fault.KeyRefused id) e.by
  key ← kek_of table ring by
  or_refused (fault.KeyRefused id) (opened_metadata key e)
