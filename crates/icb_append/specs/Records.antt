-- What an append writes of its files: the entries of its manifest, and the manifest's row in the
-- list (Apache Iceberg Table Spec, "Manifests", "Manifest Lists", "Sequence Number Inheritance").
use Rattle.std.specs.Prelude.{ℕ, ℤ, pos, List, [], ◌∷◌, ◌++◌, codes, Some, None}
use Rattle.icb_base.specs.KeyMetadata.{KeyRecord}
use Rattle.icb_keymeta.specs.Encoded.{encoded}
use Rattle.icb_list.specs.declared.row.ListRow.{ListRow}
use Rattle.icb_manifest.specs.declared.entry.Entry.{Entry}
use Rattle.icb_manifest.specs.declared.file.DataFile.{DataFile}

-- the entry of a file that is added: its snapshot and its sequence numbers are those of the
-- manifest's row
abbrev pub added_entry : DataFile → Entry
added_entry file = record {
  status = pos 1;
  snapshot = None;
  sequence = None;
  file_sequence = None;
  file = file;
}

-- the row of a manifest at a path in a table at a location, of so many added files that have so
-- many rows; the numbers of its snapshot aren't known yet
abbrev pub manifest_row : List ℕ → List ℕ → ℤ → ℕ → ℕ → KeyRecord → ℕ → ListRow
manifest_row location path spec files rows key size = record {
  path = location ++ (codes "/" ++ path);
  length = pos size;
  spec = spec;
  content = pos 0;
  sequence = pos 0;
  min_sequence = pos 0;
  snapshot = pos 0;
  files = pos files ∷ pos 0 ∷ pos 0 ∷ [];
  rows = pos rows ∷ pos 0 ∷ pos 0 ∷ [];
  key = Some (encoded key);
  first_row = None;
}

-- a manifest's row in the list of a snapshot of this id, whose sequence number and first row id are
-- these
abbrev pub row_in : ListRow → ℤ → ℤ → ℤ → ListRow
row_in row id sequence first = record {
  path = row.path;
  length = row.length;
  spec = row.spec;
  content = row.content;
  sequence = sequence;
  min_sequence = sequence;
  snapshot = id;
  files = row.files;
  rows = row.rows;
  key = row.key;
  first_row = Some first;
}
