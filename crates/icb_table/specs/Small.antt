-- A small table, written out by hand: two snapshots, two data files, a deleted entry, and a row of
-- a list that is passed over. The laws say what the definitions compute of it.
use Rattle.std.specs.Prelude.{ℕ, ℤ, pos, negsuc, List, [], ◌∷◌, ◌++◌, codes, bytes_eq}
use Rattle.std.specs.Prelude.{if◌then◌else◌, Option, Some, None, option_map, Bool, true, false}
use Rattle.std.specs.Prelude.{Result, Ok, Err}
use Rattle.std.specs.FinMap as finite
use Rattle.icb_schema.specs.Tree.{Tree}
use Rattle.icb_schema.specs.Tree as schema
use Rattle.icb_fields.specs.Making.{primitive}
use Rattle.icb_avro.specs.declared.value.Value.{Value}
use Rattle.icb_avro.specs.declared.value.Value.TheVariants as value
use Rattle.icb_container.specs.Blocks.{Part}
use Rattle.icb_chain.specs.declared.fault.ChainFault.TheVariants as chain
use Rattle.icb_list.specs.declared.row.ListRow.{ListRow}
use Rattle.icb_meta.specs.declared.fields.Fields.{Fields}
use Rattle.icb_meta.specs.declared.records.Snapshot.{Snapshot}
use Rattle.icb_types.specs.declared.columns.Column.{Column}
use Rattle.icb_types.specs.declared.columns.ColType.TheVariants as kind
use Rattle.icb_types.specs.declared.datum.Datum.TheVariants as datum
use Rattle.icb_rows.specs.Records.{Row}
use Rattle.icb_manifest.specs.declared.file.DataFile.{DataFile}
use Rattle.icb_manifest.specs.declared.entry.Entry.{Entry}
use Rattle.icb_table.specs.Listed.{Listed}
use Rattle.icb_rows.specs.declared.fault.RangeFault.{RangeFault}
use Rattle.icb_rows.specs.declared.fault.RangeFault.TheVariants as fault
use Rattle.icb_table.specs.Selection.{Query, Selection}
use Rattle.icb_table.specs.Snapshots.{Refused}
use Rattle.icb_table.specs.Snapshots as refused
use Rattle.icb_table.specs.Trace.{Trace, stopped, whole}
use Rattle.icb_table.specs.Tree.{Contents, LiveFile, TreeFile}
use Rattle.icb_table.specs.Tree as tree
use Rattle.icb_table.specs.Why.{Why}
use Rattle.icb_table.specs.Why as why

-- where the table is
abbrev pub location : List ℕ
location = codes "file:///t"

-- a key of 16 bytes that are all this one
abbrev pub key_of : ℕ → List ℕ
key_of b = b ∷ b ∷ b ∷ b ∷ b ∷ b ∷ b ∷ b ∷ b ∷ b ∷ b ∷ b ∷ b ∷ b ∷ b ∷ b ∷ []

-- key metadata of that key, without a prefix and a length
abbrev pub key_bytes : ℕ → List ℕ
key_bytes b = 1 ∷ 32 ∷ (key_of b ++ 0 ∷ 0 ∷ [])

-- the file at a path, with that key
abbrev pub file_at : List ℕ → ℕ → Listed
file_at path b = record { path = path; key = key_of b; prefix = []; recorded = 100 }

-- ---- the rows of its lists

-- a row of a manifest of data files, one of which was added
abbrev pub data_row : List ℕ → ℕ → ListRow
data_row path b = record {
  path = path;
  length = pos 100;
  spec = pos 0;
  content = pos 0;
  sequence = pos 1;
  min_sequence = pos 1;
  snapshot = pos 1;
  files = pos 1 ∷ pos 0 ∷ pos 0 ∷ [];
  rows = pos 2 ∷ pos 0 ∷ pos 0 ∷ [];
  key = Some (key_bytes b);
  first_row = Some (pos 0);
}

-- a row of a manifest of delete files, none of which is live
abbrev pub passed_row : ListRow
passed_row = record {
  path = codes "elsewhere";
  length = pos 0;
  spec = pos 0;
  content = pos 1;
  sequence = pos 1;
  min_sequence = pos 1;
  snapshot = pos 1;
  files = pos 0 ∷ pos 0 ∷ pos 3 ∷ [];
  rows = pos 0 ∷ pos 0 ∷ pos 9 ∷ [];
  key = None;
  first_row = None;
}

-- ---- the entries of its manifests

-- a data file of so many rows of the column 1, whose bounds are these
abbrev pub file_of : List ℕ → ℕ → ℕ → ℕ → DataFile
file_of path b low high = record {
  content = pos 0;
  path = path;
  format = codes "AVRO";
  records = pos 2;
  size = pos 100;
  values = [];
  nulls = [];
  lower = (pos 1, low ∷ 0 ∷ 0 ∷ 0 ∷ 0 ∷ 0 ∷ 0 ∷ 0 ∷ []) ∷ [];
  upper = (pos 1, high ∷ 0 ∷ 0 ∷ 0 ∷ 0 ∷ 0 ∷ 0 ∷ 0 ∷ []) ∷ [];
  key = Some (key_bytes b);
  first_row = None;
}

-- an entry of this status: 1 where the file is added, 2 where it is deleted
abbrev pub entry_of : ℕ → DataFile → Entry
entry_of status file = record {
  status = pos status;
  snapshot = None;
  sequence = None;
  file_sequence = None;
  file = file;
}

-- the data files
abbrev pub first_file : DataFile
first_file = file_of (codes "file:///t/data/1") 1 1 2

-- the second one
abbrev pub second_file : DataFile
second_file = file_of (codes "file:///t/data/2") 2 3 4

-- a file that was deleted, of which nothing else is asked
abbrev pub deleted_file : DataFile
deleted_file = record first_file { path = codes "elsewhere"; key = None }

-- ---- files that are refused

-- key metadata that tell a length of 36 bytes
abbrev pub told_bytes : List ℕ
told_bytes = 1 ∷ 32 ∷ (key_of 1 ++ 0 ∷ 2 ∷ 72 ∷ [])

-- the data file of the record at place 7, by what the record says: each case has one fault fewer
-- than the one before it, and the last two have none
abbrev pub refusals : List (DataFile × Result Listed Why)
refusals = (
  record deleted_file { content = pos 1; format = codes "orc" },
  Err (why.unread (codes "elsewhere") why.delete_file),
)
    ∷ (
      record deleted_file { format = codes "orc" },
      Err (why.unread (codes "elsewhere") why.format),
    )
    ∷ (deleted_file, Err (why.plain_file (codes "elsewhere")))
    ∷ (
      record deleted_file { key = Some (0 ∷ []); size = pos 0 },
      Err (why.unread (codes "elsewhere") why.outside_table),
    )
    ∷ (record first_file { key = Some (0 ∷ []); size = pos 0 }, Err (why.bad_key 7))
    ∷ (
      record first_file { size = pos 0 },
      Err (why.unread (codes "file:///t/data/1") why.no_length),
    )
    ∷ (first_file, Ok (file_at (codes "data/1") 1))
    ∷ (
      record first_file { key = Some told_bytes },
      Ok (record (file_at (codes "data/1") 1) { recorded = 36 }),
    )
    ∷ []

-- ---- rows that are refused or passed over

-- a row of delete files, of which so many were added, exist and were deleted
abbrev pub delete_row : ℕ → ℕ → ℕ → ListRow
delete_row added existing deleted =
    record passed_row { files = pos added ∷ pos existing ∷ pos deleted ∷ [] }

-- rows of a list at place 7: whether they are passed over, and the manifest of one that isn't
abbrev pub rows_judged : List (ListRow × (Bool × Result Listed Why))
rows_judged =
    (delete_row 0 0 3, (true, Err (why.unread (codes "elsewhere") why.delete_manifest)))
    ∷ (delete_row 1 0 0, (false, Err (why.unread (codes "elsewhere") why.delete_manifest)))
    ∷ (delete_row 0 1 0, (false, Err (why.unread (codes "elsewhere") why.delete_manifest)))
    ∷ (record passed_row { content = pos 0 }, (false, Err (why.plain_file (codes "elsewhere"))))
    ∷ (
      data_row (codes "elsewhere") 3,
      (false, Err (why.unread (codes "elsewhere") why.outside_table)),
    )
    ∷ (
      data_row (codes "file:///t/metadata/manifest-1") 3,
      (false, Ok (file_at (codes "metadata/manifest-1") 3)),
    )
    ∷ []

-- ---- what its files show

-- a row with this number in the column 1
abbrev pub row_of : ℕ → Row
row_of n = finite.from_entries ((pos 1, datum.Long (pos n)) ∷ [])

-- the rows of a list
abbrev pub rows_at : List ℕ → List (ℕ × ListRow)
rows_at path = if bytes_eq path (codes "metadata/list-1")
    then (40, data_row (codes "file:///t/metadata/manifest-1") 3) ∷ []
    else (40, data_row (codes "file:///t/metadata/manifest-1") 3) ∷ (90, passed_row)
    ∷ (140, data_row (codes "file:///t/metadata/manifest-2") 4) ∷ []

-- the entries of a manifest
abbrev pub entries_at : List ℕ → List (ℕ × Entry)
entries_at path = if bytes_eq path (codes "metadata/manifest-1")
    then (50, entry_of 1 first_file) ∷ []
    else (50, entry_of 2 deleted_file) ∷ (120, entry_of 1 second_file) ∷ []

-- the rows of a data file
abbrev pub data_at : List ℕ → List Row
data_at path = if bytes_eq path (codes "data/1") then row_of 1 ∷ row_of 2 ∷ []
    else row_of 3 ∷ row_of 4 ∷ []

-- what all files show
abbrev pub contents : Contents
contents = record {
  list_rows = λ f. whole (rows_at f.path);
  entries = λ f. whole (entries_at f.path);
  data_rows = λ f. whole (data_at f.path);
}

-- the same, but that no manifest has a plaintext
abbrev pub without_manifests : Contents
without_manifests = record {
  list_rows = λ f. whole (rows_at f.path);
  entries = λ f. stopped f why.no_plaintext;
  data_rows = λ f. whole (data_at f.path);
}

-- ---- its trees

-- the list of a snapshot
abbrev pub list_1 : Listed
list_1 = file_at (codes "metadata/list-1") 9

-- the list of the other one
abbrev pub list_2 : Listed
list_2 = file_at (codes "metadata/list-2") 8

-- the first manifest
abbrev pub manifest_1 : Listed
manifest_1 = file_at (codes "metadata/manifest-1") 3

-- the second one
abbrev pub manifest_2 : Listed
manifest_2 = file_at (codes "metadata/manifest-2") 4

-- the first data file, below the row at position 0
abbrev pub live_1 : LiveFile
live_1 = record { listed = file_at (codes "data/1") 1; file = first_file; row = 0 }

-- the second one, below the row at position 2
abbrev pub live_2 : LiveFile
live_2 = record { listed = file_at (codes "data/2") 2; file = second_file; row = 2 }

-- the tree of the first snapshot
abbrev pub tree_1 : List TreeFile
tree_1 = tree.list list_1 ∷ tree.manifest manifest_1 ∷ tree.data_file live_1 ∷ []

-- the tree of the second one
abbrev pub tree_2 : List TreeFile
tree_2 = tree.list list_2 ∷ tree.manifest manifest_1 ∷ tree.data_file live_1
    ∷ tree.manifest manifest_2 ∷ tree.data_file live_2 ∷ []

-- its rows
abbrev pub rows_2 : List Row
rows_2 = row_of 1 ∷ row_of 2 ∷ row_of 3 ∷ row_of 4 ∷ []

-- what is read of it where no manifest has a plaintext
abbrev pub tree_without : Trace TreeFile
tree_without = record {
  items = tree.list list_2 ∷ tree.manifest manifest_1 ∷ [];
  stop = Some (record { file = manifest_1; why = why.no_plaintext });
}

-- its files where bounds exclude the first data file
abbrev pub files_excluded : List TreeFile
files_excluded = tree.list list_2 ∷ tree.manifest manifest_1 ∷ tree.manifest manifest_2
    ∷ tree.data_file live_2 ∷ []

-- its files up to the first data file
abbrev pub files_ended : List TreeFile
files_ended = tree.list list_2 ∷ tree.manifest manifest_1 ∷ tree.data_file live_1 ∷ []

-- the first row ids of three files, of which the second one has its own
abbrev pub files_numbered : List DataFile
files_numbered =
    first_file ∷ record first_file { first_row = Some (pos 77) } ∷ second_file ∷ []

-- ---- a query

-- its column
abbrev pub column : Column
column = record { id = pos 1; name = codes "n"; kind = kind.Long; required = true }

-- the rows from a number on, without the first ones, at most so many
abbrev pub from_on : ℕ → ℕ → Option ℕ → Selection
from_on low skip most = record {
  columns = column ∷ [];
  range = Some (record {
    id = pos 1;
    range = record { kind = kind.Long; low = Some (datum.Long (pos low)); high = None };
  });
  skip = skip;
  most = most;
}

-- ---- a query's words

-- a column that its rows don't have
abbrev pub other : Column
other = record { id = pos 2; name = codes "m"; kind = kind.Text; required = false }

-- the words of a query: columns, a column of a range without ends, and numbers of rows
abbrev pub words_of : Option (List (List ℕ)) → Option (List ℕ) → ℕ → Option ℕ → Query
words_of names range skip most = record {
  snapshot = None;
  columns = names;
  range = option_map (λ name. record { column = name; low = None; high = None }) range;
  skip = skip;
  most = most;
}

-- words under these two columns, and what they mean: a column that isn't there is refused, those
-- that are shown before that of the range
abbrev pub words_judged : List (Query × Result Selection RangeFault)
words_judged = (
  words_of (Some (codes "n" ∷ codes "x" ∷ codes "y" ∷ [])) (Some (codes "z")) 0 None,
  Err (fault.NoColumn (codes "x")),
)
    ∷ (words_of None (Some (codes "z")) 0 None, Err (fault.NoColumn (codes "z")))
    ∷ (
      words_of (Some (codes "n" ∷ codes "m" ∷ codes "n" ∷ [])) (Some (codes "n")) 2 (Some 5),
      Ok (record {
        columns = column ∷ other ∷ column ∷ [];
        range = Some (record {
          id = pos 1;
          range = record { kind = kind.Long; low = None; high = None };
        });
        skip = 2;
        most = Some 5;
      }),
    )
    ∷ (
      words_of None None 0 None,
      Ok (record { columns = other ∷ column ∷ []; range = None; skip = 0; most = None }),
    )
    ∷ []

-- ---- what is inherited

-- a row of a list with a sequence number and a snapshot of its own
abbrev pub row_inherited : ListRow
row_inherited = record (data_row (codes "file:///t/metadata/manifest-1") 3) {
  sequence = pos 5;
  snapshot = pos 6;
}

-- an entry that says its snapshot and its sequence numbers
abbrev pub entry_said : Entry
entry_said = record (entry_of 1 first_file) {
  snapshot = Some (pos 1);
  sequence = Some (pos 2);
  file_sequence = Some (pos 3);
}

-- the files of its second tree before the second data file
abbrev pub files_before : List TreeFile
files_before = tree.list list_2 ∷ tree.manifest manifest_1 ∷ tree.data_file live_1
    ∷ tree.manifest manifest_2 ∷ []

-- ---- metadata

-- a snapshot with a list at this path, which has this key if any
abbrev pub snapshot_of : ℕ → List ℕ → Option (List ℕ) → Snapshot
snapshot_of id path key = record {
  id = pos id;
  parent = None;
  sequence = pos 1;
  ms = pos 0;
  list = path;
  operation = codes "append";
  schema = None;
  first_row = None;
  added = None;
  key = key;
}

-- metadata of two snapshots, of which the first names no key, and the second one that isn't there
-- for a list that lies elsewhere
abbrev pub meta : Fields
meta = record {
  heading =
      record { uuid = 0; location = location; last_sequence = pos 2; updated = pos 0 };
  layout = record {
    schema = record { id = pos 0; columns = column ∷ [] };
    spec = pos 0;
    partitioned = false;
    sorted = false;
  };
  state = record {
    properties = [];
    snapshots = snapshot_of 1 (codes "file:///t/metadata/list-1") None
        ∷ snapshot_of 2 (codes "elsewhere") (Some (codes "key-2")) ∷ [];
    current = Some (pos 2);
    next_row = pos 4;
    entries = [];
  };
}

-- ids of snapshots, and their lists: an id that isn't there is refused before a key that isn't
-- named, and a key that isn't opened before the list's place
abbrev pub lists_judged : List (ℤ × Result Listed Refused)
lists_judged = (pos 3, Err (refused.no_snapshot (pos 3)))
    ∷ (pos 1, Err (refused.plain_list (pos 1)))
    ∷ (pos 2, Err (refused.no_key (chain.NoKey (codes "key-2")))) ∷ []

-- ---- places

-- the schema of numbers
abbrev pub number : Tree
number = primitive schema.long

-- a block of the numbers 1 and -1 at place 40
abbrev pub numbers : Part
numbers = record { first = 0; count = 2; place = 40; bytes = 2 ∷ 1 ∷ []; records = [] }

-- its records, with the place of each
abbrev pub numbers_placed : List (ℕ × Value)
numbers_placed = (40, value.Long (pos 1)) ∷ (41, value.Long (negsuc 0)) ∷ []
