-- The laws of rotations. Each is the contract of a function of `src/laws.rt`.
use Rattle.std.specs.Prelude.{◌≡◌, ℕ, List, [], ◌∷◌, None, Some, true}
use Rattle.icb_base.specs.Objects.{Objects}
use Rattle.icb_chain.specs.Opening.{KeyTable, kek_of, list_key_of, table_of}
use Rattle.icb_chain.specs.Ring.{Ring, key_named}
use Rattle.icb_edits.specs.Keys.{key_fields}
use Rattle.icb_meta.specs.Forms.{entry_named}
use Rattle.icb_meta.specs.declared.fields.Fields.{Fields}
use Rattle.icb_meta.specs.declared.records.KeyEntry.{KeyEntry}
use Rattle.icb_rotate.specs.Keys.{all_ascend, rewrapped, rotated}
use Rattle.icb_rotate.specs.declared.keys.Master.{Master}
use Rattle.icb_table.specs.Table.{IsTable, Table}

-- each key opens to what it opened to, or is refused as it was
pub record OpensAlike (table : KeyTable) (ring : Ring) (now : KeyTable) (ring_now : Ring)
    : Type 0 where
  pub keys : (id : List ℕ) → kek_of now ring_now id ≡ kek_of table ring id
  pub lists : (id : List ℕ) → list_key_of now ring_now id ≡ list_key_of table ring id

-- the entries are those of a table, sealed again by a new master with some nonces
pub record AreSealedAgain (table : KeyTable) (ring : Ring) (master : Master)
    (entries : List KeyEntry) : Type 0 where
  pub new : entry_named master.id table.entries ≡ None
  pub drawn : List ℕ
  pub sealed : rewrapped table ring master table.entries drawn ≡ Some entries

-- Under each keyring in which the new master has its key, the keys of a table whose master was
-- replaced open as they did.
abbrev pub KeysStay : Type 0
KeysStay = (table : KeyTable) (ring ring_now : Ring) (master : Master) (entries : List KeyEntry)
    → AreSealedAgain table ring master entries
    → key_named master.id ring_now ≡ Some master.key
    → OpensAlike table ring (rotated master entries) ring_now

-- a keyring with the new master alone is one of them
abbrev pub OnlyMaster : Type 0
OnlyMaster = (master : Master)
    → key_named master.id ((master.id, master.key) ∷ []) ≡ Some master.key

-- The files that hold a table hold the same one under metadata whose keys were sealed again.
abbrev pub RotatedIsTable : Type 0
RotatedIsTable = (files : Objects) (meta : Fields) (ring ring_now : Ring) (table : Table)
    (master : Master) (entries : List KeyEntry) (now : ℕ)
    → AreSealedAgain (table_of meta.state) ring master entries → all_ascend entries ≡ true
    → key_named master.id ring_now ≡ Some master.key → IsTable files meta ring table
    → IsTable files (key_fields meta entries master.id now) ring_now table
