-- A file as its parent names it, and what the tests of its parent's record are (Apache Iceberg
-- Table Spec, "Manifest Lists", "Manifests" and "Table Encryption"; the order of tests is ours).
use Rattle.std.specs.Prelude.{ℕ, zero, suc, ℤ, pos, negsuc, List, Option, Some, None, Result, Ok}
use Rattle.std.specs.Prelude.{Err}
use Rattle.icb_base.specs.KeyMetadata.{KeyRecord, prefix_of}
use Rattle.icb_keymeta.specs.Decoded.{key_metadata_of}
use Rattle.icb_meta.specs.Ids.{resolved}
use Rattle.icb_table.specs.Why.{Why, Unread}
use Rattle.icb_table.specs.Why as why

-- the path of an object, the key and the prefix by which it opens, and its recorded length; the
-- prefix is empty where key metadata has none, so that one way to open a file is one value
pub record Listed : Type 0 where
  pub path : List ℕ
  pub key : List ℕ
  pub prefix : List ℕ
  pub recorded : ℕ

-- the file at a path, by its key metadata and its recorded length
abbrev pub listed : List ℕ → KeyRecord → ℕ → Listed
listed path meta recorded = record {
  path = path;
  key = meta.key;
  prefix = prefix_of meta;
  recorded = recorded;
}

infixl 10 ◌>>=◌
-- the next test, where the ones before it were passed
abbrev pub ◌>>=◌ : {A B : Type 0} → Result A Why → (A → Result B Why) → Result B Why
(Ok x) >>= f = f x
(Err e) >>= f = Err e

-- what is there, or this reason
abbrev pub or_why : {A : Type 0} → Why → Option A → Result A Why
or_why e None = Err e
or_why e (Some x) = Ok x

-- the key metadata that bytes are, in the record at this place
abbrev pub key_in : ℕ → Result KeyRecord ℕ → Result KeyRecord Why
key_in place (Ok meta) = Ok meta
key_in place (Err at) = Err (why.bad_key place)

-- a length that the parent's record says counts where it is above 0
abbrev pub said_length : ℤ → Option ℕ
said_length (pos zero) = None
said_length (pos (suc n)) = Some (suc n)
said_length (negsuc n) = None

-- the length of a file: the one that its key metadata tells, or else the one that is said
abbrev pub length_of : KeyRecord → Option ℕ → Option ℕ
length_of meta said = if_told meta.length_told
  where
    if_told : Option ℕ → Option ℕ
    if_told None = said
    if_told (Some n) = Some n

-- The file of a full path, with key metadata and a length that its record says, in a table at a
-- location; or the first test that refuses it: it has key metadata, it lies in the table, the bytes
-- are key metadata, and there is a length.
unfoldable pub listed_by : List ℕ → ℕ → List ℕ → Option (List ℕ) → ℤ → Result Listed Why
listed_by location place full key size = do
  bytes ← or_why (why.plain_file full) key
  path ← or_why (why.unread full why.outside_table) (resolved location full)
  meta ← key_in place (key_metadata_of bytes)
  recorded ← or_why (why.unread full why.no_length) (length_of meta (said_length size))
  Ok (listed path meta recorded)
