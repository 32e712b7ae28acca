-- The version that an append puts (Apache Iceberg Table Spec, "Snapshots"; which numbers a snapshot
-- has is ours: docs/FORMATS.md, "Files of an append").
use Rattle.std.specs.Prelude.{◌≡◌, ◌≤◌, ◌<◌, ◌+◌, ℕ, ℤ, pos, ◌+ℤ◌, int_lt, false, List, [], length}
use Rattle.std.specs.Prelude.{codes, Some, Result, Ok, Err}
use Rattle.icb_base.specs.Calls.{DrawsText, PutsPath}
use Rattle.icb_base.specs.KeyMetadata.{KeyRecord}
use Rattle.icb_base.specs.declared.limits.Limited.TheVariants as limit
use Rattle.icb_base.specs.declared.storage.Failed.{Failed}
use Rattle.icb_base.specs.declared.storage.Put.{Put}
use Rattle.icb_base.specs.declared.storage.Put.TheVariants as put
use Rattle.icb_base.specs.declared.storage.Store as store
use Rattle.icb_base.specs.declared.transfer.Draws as draws
use Rattle.icb_keymeta.specs.Decoded.{key_metadata_of}
use Rattle.icb_keymeta.specs.Encoded.{encoded}
use Rattle.icb_seal.specs.Block.{sealed_cipher_block}
use Rattle.icb_edits.specs.Snapshots.{snapshot_fields, snapshot_sets}
use Rattle.icb_edits.specs.Keys.{with_sets}
use Rattle.serde_json.specs.Data.{Data}
use Rattle.serde_json.specs.Written.{compact_text}
use Rattle.icb_meta.specs.Answers.{IsNextKeyId}
use Rattle.icb_meta.specs.Shown.{meta_of}
use Rattle.icb_meta.specs.declared.fields.Fields.{Fields}
use Rattle.icb_meta.specs.declared.records.KeyEntry.{KeyEntry}
use Rattle.icb_meta.specs.declared.records.Snapshot.{Snapshot}
use Rattle.icb_tree.specs.Versions.{most_bytes, version_path}
use Rattle.icb_turns.specs.Naming.{full_path}
use Rattle.icb_append.specs.Reading.{most_number}
use Rattle.icb_append.specs.declared.reading.Wrapper.{Wrapper}
use Rattle.icb_turns.specs.declared.fault.JobFault.{JobFault}
use Rattle.icb_turns.specs.declared.fault.JobFault.TheVariants as fault

-- the sequence number of the next snapshot
abbrev pub next_sequence : Fields → ℤ
next_sequence meta = meta.heading.last_sequence +ℤ pos 1

-- the next sequence number and so many more rows are within the limits
pub record HasRoomFor (meta : Fields) (rows : ℕ) : Type 0 where
  pub few : rows ≤ most_number
  pub sequence : int_lt (pos most_number) (next_sequence meta) ≡ false
  pub row_ids : int_lt (pos most_number) (meta.state.next_row +ℤ pos rows) ≡ false

-- The snapshot of an append of so many rows behind the current one: its list is at this path, and
-- the key of its list has this id.
abbrev pub snapshot_of : Fields → ℤ → List ℕ → ℕ → List ℕ → ℕ → Snapshot
snapshot_of meta id list rows key now = record {
  id = id;
  parent = meta.state.current;
  sequence = next_sequence meta;
  ms = pos now;
  list = full_path meta.heading.location list;
  operation = codes "append";
  schema = Some meta.layout.schema.id;
  first_row = Some meta.state.next_row;
  added = Some (pos rows);
  key = Some key;
}

-- the entry that holds a list's key metadata, sealed by a key-encryption key with a nonce; its own
-- id is the additional data, and what it holds is read as the key metadata
pub record IsListEntry (meta : Fields) (wrapper : Wrapper) (nonce : List ℕ) (list : KeyRecord)
    (entry : KeyEntry) : Type 0 where
  pub id : IsNextKeyId meta.state entry.id
  pub by : entry.by ≡ Some wrapper.id
  pub sealed : sealed_cipher_block wrapper.key nonce entry.id (encoded list) ≡ Some entry.sealed
  pub plain : entry.properties ≡ []
  pub size : length nonce ≡ 12
  pub reads_back : key_metadata_of (encoded list) ≡ Ok list

-- The text of the version behind one with this metadata: the metadata with the append's snapshot
-- and the key of its list, and nothing else changed.
pub record IsNextVersion (json : Data) (meta : Fields) (wrapper : Wrapper) (version : ℕ) (id : ℤ)
    (path : List ℕ) (list : KeyRecord) (rows : ℕ) (now : ℕ) (nonce text : List ℕ) : Type 0 where
  pub entry : KeyEntry
  pub is_entry : IsListEntry meta wrapper nonce list entry
  pub is_text : text ≡ compact_text (with_sets json (snapshot_sets json meta
      (snapshot_of meta id path rows entry.id now) entry
      (full_path meta.heading.location (version_path version)) now))
  pub shows : meta_of text ≡ Ok (
    with_sets json (snapshot_sets json meta
        (snapshot_of meta id path rows entry.id now) entry
        (full_path meta.heading.location (version_path version)) now),
    snapshot_fields meta (snapshot_of meta id path rows entry.id now) entry now,
  )

-- the nonce that was drawn, none after a failure
abbrev pub nonce_of : Result (List ℕ) Failed → List ℕ
nonce_of (Ok nonce) = nonce
nonce_of (Err failed) = []

-- what is answered of the put of a version's text: it is put where none is held, or it is too long
abbrev pub AnswersVersion : (List ℕ → List ℕ → Type 0) → List ℕ → List ℕ → Result Put JobFault
    → Type 0
AnswersVersion is nonce text (Ok put) = is nonce text × (length text ≤ most_bytes)
AnswersVersion is nonce text (Err fault.Store) = is nonce text × (length text ≤ most_bytes)
AnswersVersion is nonce text (Err (fault.Limit what number)) = is nonce text
    × (most_bytes < length text) × (what ≡ limit.Metadata) × (number ≡ most_bytes)
AnswersVersion is nonce text (Err fault.Random) = Unit {0}
AnswersVersion is nonce text (Err fault.NoMemory) = Unit {0}
AnswersVersion is nonce text (Err other) = ⊥

-- A turn that puts a version: a nonce is drawn, the text is made with it, and it is put where no
-- version of its number is held.
pub record PutsVersion {S D : Type 0} (of : store.Ghosts S) (from : draws.Ghosts D)
    (is : List ℕ → List ℕ → Type 0) (version : ℕ) (result : Result Put JobFault) (before now : S)
    (unused used : D) : Type 0 where
  pub nonce : List ℕ
  pub text : List ℕ
  pub draws : DrawsText from nonce (result ≡ Err fault.Random) unused used
  pub puts : PutsPath of (version_path (version + 1)) text (result ≡ Ok put.Done)
      (result ≡ Ok put.Taken) (result ≡ Err fault.Store) before now
  pub answers : AnswersVersion is nonce text result
