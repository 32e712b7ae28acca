-- What listed files show where each has this plaintext, or none (ours). The files of an honest
-- store and those that were committed are two choices of plaintexts.
use Rattle.std.specs.Prelude.{ℕ, List, Option, Some, None, Result, Ok, Err}
use Rattle.icb_base.specs.KeyMetadata.{KeyRecord}
use Rattle.icb_base.specs.Objects.{Objects, object_at}
use Rattle.icb_stream.specs.Content.{plaintext}
use Rattle.icb_stream.specs.Layout.{Layout}
use Rattle.icb_stream.specs.Opening.{opening_of}
use Rattle.icb_stream.specs.declared.fault.StreamFault.{StreamFault}
use Rattle.icb_list.specs.Rows.{list_row}
use Rattle.icb_manifest.specs.Entries.{entry_of}
use Rattle.icb_table.specs.Listed.{Listed}
use Rattle.icb_table.specs.Why as why
use Rattle.icb_table.specs.Records.{records_of}
use Rattle.icb_table.specs.Rows.{Columns, rows_of}
use Rattle.icb_table.specs.Trace.{Trace, stopped}
use Rattle.icb_table.specs.Tree.{Contents}

-- the plaintext of each listed file, where it has one
abbrev pub Plaintexts : Type 0
Plaintexts = Listed → Option (List ℕ)

-- what is read of a file's plaintext, where it has one
abbrev pub read_plain : {A : Type 0} → (Listed → List ℕ → Trace A) → Listed → Option (List ℕ)
    → Trace A
read_plain read file None = stopped file why.no_plaintext
read_plain read file (Some bytes) = read file bytes

-- what files with these plaintexts show in a table with these columns
abbrev pub contents_of : Columns → Plaintexts → Contents
contents_of columns plain = record {
  list_rows = λ f. read_plain (records_of list_row) f (plain f);
  entries = λ f. read_plain (records_of entry_of) f (plain f);
  data_rows = λ f. read_plain (rows_of columns) f (plain f);
}

-- ---- over what a store holds

-- the key metadata by which a listed file opens
abbrev pub opening_key : Listed → KeyRecord
opening_key f = record { key = f.key; prefix = Some f.prefix; length_told = Some f.recorded }

-- how a listed file is read over a store's objects, or the first cause why it isn't open
abbrev pub opening_in : Objects → Listed → Result Layout StreamFault
opening_in files f = opening_of files f.path (opening_key f) f.recorded

-- what is known of the object at a path, read so
abbrev pub of_object : {A : Type 0} → (List ℕ → Layout → Option A) → Option (List ℕ)
    → Result Layout StreamFault → Option A
of_object see None layout = None
of_object see (Some bytes) (Ok layout) = see bytes layout
of_object see (Some bytes) (Err e) = None

-- the plaintexts of listed files over a store's objects: of those that are open and whole
abbrev pub plaintexts_in : Objects → Plaintexts
plaintexts_in files f = of_object plaintext (object_at files f.path) (opening_in files f)
