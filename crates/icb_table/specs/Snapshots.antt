-- The manifest list of a snapshot, and how it opens (Apache Iceberg Table Spec, "Snapshots" and
-- "Encryption Keys"; the order of refusals is ours).
use Rattle.std.specs.Prelude.{ℤ, List, ℕ, Option, Some, None, Result, Ok, Err}
use Rattle.icb_base.specs.KeyMetadata.{KeyRecord}
use Rattle.icb_chain.specs.Opening.{list_key_of, table_of}
use Rattle.icb_chain.specs.Ring.{Ring}
use Rattle.icb_chain.specs.declared.fault.ChainFault.{ChainFault}
use Rattle.icb_meta.specs.Forms.{snapshot_named}
use Rattle.icb_meta.specs.Ids.{resolved}
use Rattle.icb_meta.specs.declared.fields.Fields.{Fields}
use Rattle.icb_table.specs.Listed.{Listed, listed}
use Rattle.icb_table.specs.Rows.{Columns}
use Rattle.icb_table.specs.Why.{Unread}
use Rattle.icb_table.specs.Why as why

-- why a snapshot has no list that can be read
pub data Refused : Type 0 where
  -- the metadata has no snapshot of this id
  no_snapshot : ℤ → Refused
  -- the list of the snapshot of this id has no key
  plain_list : ℤ → Refused
  -- the list's key isn't opened
  no_key : ChainFault → Refused
  -- the list of this snapshot, at this path, isn't read
  bad_list : ℤ → List ℕ → Unread → Refused

infixl 10 ◌>>=◌
-- what comes next, where nothing is refused
abbrev pub ◌>>=◌ : {A B : Type 0} → Result A Refused → (A → Result B Refused) → Result B Refused
(Ok x) >>= f = f x
(Err e) >>= f = Err e

-- what is there, or this refusal
abbrev pub or_refused : {A : Type 0} → Refused → Option A → Result A Refused
or_refused e None = Err e
or_refused e (Some x) = Ok x

-- the key metadata of a list, or why it isn't opened
abbrev pub key_opened : Result KeyRecord ChainFault → Result KeyRecord Refused
key_opened (Ok meta) = Ok meta
key_opened (Err e) = Err (no_key e)

-- The list of a snapshot as a file, or the first refusal: the snapshot is there, it names a key,
-- the key opens, the list lies in the table, and its length is told.
unfoldable pub list_of : Fields → Ring → ℤ → Result Listed Refused
list_of meta ring id = do
  snapshot ← or_refused (no_snapshot id) (snapshot_named id meta.state.snapshots)
  key ← or_refused (plain_list id) snapshot.key
  opened ← key_opened (list_key_of (table_of meta.state) ring key)
  path ← or_refused (bad_list id snapshot.list why.outside_table)
      (resolved meta.heading.location snapshot.list)
  recorded ← or_refused (bad_list id snapshot.list why.no_length) opened.length_told
  Ok (listed path opened recorded)

-- the columns of the table's rows: those of the current schema
abbrev pub columns_of : Fields → Columns
columns_of meta =
    record { kept = meta.layout.schema.columns; shown = meta.layout.schema.columns }
