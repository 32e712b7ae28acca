-- The first version of a new table (Apache Iceberg Table Spec, "Table Metadata Fields" and
-- "Encryption Keys"; the ids and the properties are ours, docs/FORMATS.md).
use Rattle.std.specs.Prelude.{ℕ, ◌≡◌, List, [], ◌∷◌, codes, bytes_eq, decimal, if◌then◌else◌, Some}
use Rattle.std.specs.Prelude.{Ok}
use Rattle.serde_json.specs.Written.{compact_text}
use Rattle.icb_chain.specs.Opening.{kek_of}
use Rattle.icb_chain.specs.Opening as chain
use Rattle.icb_chain.specs.Ring.{Ring, key_named}
use Rattle.icb_create.specs.Drawn.{uuid_of}
use Rattle.icb_create.specs.declared.drawing.Drawn.{Drawn}
use Rattle.icb_edits.specs.Tables.{new_fields, new_json}
use Rattle.icb_meta.specs.Shown.{meta_of}
use Rattle.icb_meta.specs.declared.fields.Fields.{Fields}
use Rattle.icb_meta.specs.declared.records.KeyEntry.{KeyEntry}
use Rattle.icb_meta.specs.declared.records.NewTable.{NewTable}
use Rattle.icb_seal.specs.Block.{sealed_cipher_block}
use Rattle.icb_seal.specs.Keys.{key_bytes}
use Rattle.icb_words.specs.declared.create_words.Create.{Create}

-- the properties of a new table, in the order of their names
unfoldable pub properties_of : Create → List (List ℕ × List ℕ)
properties_of words =
    (codes "commit.retry.num-retries", decimal words.retries)
    ∷ (codes "encryption.data-key-length", decimal (key_bytes words.key_size))
    ∷ (codes "encryption.key-id", words.master)
    ∷ (codes "icb.avro-block", decimal words.avro_block)
    ∷ (codes "icb.block-length", decimal words.block)
    ∷ (codes "icb.rows-per-file", decimal words.rows_per_file)
    ∷ []

-- what a new table is made of
abbrev pub table_of : Create → NewTable
table_of words = record {
  schema = words.schema;
  location = words.location;
  properties = properties_of words;
}

-- the id of the first key: key-1, or key-2 where its master has that id
abbrev pub first_id : List ℕ → List ℕ
first_id master = if bytes_eq master (codes "key-1") then codes "key-2" else codes "key-1"

-- an entry is that of the first key: the key that was drawn, sealed under the master and the drawn
-- nonce; it opens to that key again
pub record IsFirstEntry (words : Create) (master : List ℕ) (drawn : Drawn)
    (entry : KeyEntry) : Type 0 where
  pub id : entry.id ≡ first_id words.master
  pub by : entry.by ≡ Some words.master
  pub properties : entry.properties ≡ []
  pub is_sealed : sealed_cipher_block master drawn.nonce (first_id words.master) drawn.key
      ≡ Some entry.sealed
  pub opens : chain.opened_key master entry ≡ Some drawn.key

-- the record that the first version shows: no snapshot, and this key
abbrev pub first_fields : Create → Drawn → ℕ → KeyEntry → Fields
first_fields words drawn now_ms entry =
    new_fields (table_of words) (uuid_of drawn.random) entry now_ms

-- A text is the first version of a table: the metadata of a new table with its first key, it shows
-- the record of that, and from a keyring in which the master has this key the chain opens the first
-- key again.
pub record IsFirstVersion (words : Create) (master : List ℕ) (drawn : Drawn) (now_ms : ℕ)
    (text : List ℕ) : Type 0 where
  pub entry : KeyEntry
  pub is_entry : IsFirstEntry words master drawn entry
  pub written : text
      ≡ compact_text (new_json (table_of words) (uuid_of drawn.random) entry now_ms)
  pub shows : meta_of text ≡ Ok (
    new_json (table_of words) (uuid_of drawn.random) entry now_ms,
    first_fields words drawn now_ms entry,
  )
  pub opens : (ring : Ring) → key_named words.master ring ≡ Some master
      → kek_of (chain.table_of (first_fields words drawn now_ms entry).state) ring
      (first_id words.master) ≡ Ok drawn.key
