-- The data files of an append: which bytes are put, and what a manifest says of them.
use Rattle.std.specs.Prelude.{◌≡◌, ◌*◌, ◌^◌, ◌&&◌, ℕ, pos, Bool, true, false, nat_le}
use Rattle.std.specs.Prelude.{List, [], ◌++◌, length, codes, Some, None, Result, Ok, Err}
use Rattle.std.specs.List.{AllByRecursion}
use Rattle.icb_base.specs.KeyMetadata.{KeyRecord}
use Rattle.icb_base.specs.Paths.{is_object_path}
use Rattle.icb_base.specs.declared.limits.Limited.TheVariants as limit
use Rattle.icb_container.specs.Blocks.{max_block}
use Rattle.icb_container.specs.Header.{max_header}
use Rattle.icb_keymeta.specs.Encoded.{encoded}
use Rattle.icb_seal.specs.Keys.{FileKeyValue}
use Rattle.icb_stream.specs.Sealing.{IsStreamOf, stream_bytes}
use Rattle.icb_types.specs.Fits.{FitsColumns}
use Rattle.icb_types.specs.declared.columns.Column.{Column}
use Rattle.icb_types.specs.declared.datum.Datum.{Datum}
use Rattle.icb_rows.specs.Bounds.{bounds_of}
use Rattle.icb_rows.specs.Data.{blocks_of, data_file}
use Rattle.icb_rows.specs.Rows.{HoldsRows, IsHeaded, IsRowOf, are_within}
use Rattle.icb_manifest.specs.declared.file.DataFile.{DataFile}
use Rattle.icb_append.specs.declared.fault.SealFault.{SealFault}
use Rattle.icb_append.specs.declared.fault.SealFault.TheVariants as seal
use Rattle.icb_append.specs.declared.fresh.Fresh.{Fresh}
use Rattle.icb_append.specs.declared.sealing.SealedData.{SealedData}
use Rattle.icb_append.specs.declared.settings.Settings.{Settings}
use Rattle.icb_turns.specs.declared.fault.JobFault.{JobFault}
use Rattle.icb_turns.specs.declared.fault.JobFault.TheVariants as fault

-- the fault of a job whose file isn't sealed
abbrev pub fault_of : SealFault → JobFault
fault_of seal.Limit = fault.Limit limit.Block max_block
fault_of seal.NoMemory = fault.NoMemory

-- rows are cut into container blocks as short as a reader takes them, and a stream has blocks
-- enough for their file
abbrev pub is_cut : Settings → List Column → List (List Datum) → List ℕ → Bool
is_cut s columns rows marker = are_within (blocks_of s.avro columns rows)
    && nat_le (length (data_file columns rows s.avro marker)) (s.block * 2 ^ 31)

-- rows may be one data file: they are cut so, and the header, which is the file without rows, is as
-- short as a reader takes it
abbrev pub is_file : Settings → List Column → List (List Datum) → List ℕ → Bool
is_file s columns rows marker = nat_le (length (data_file columns [] s.avro marker)) max_header
    && is_cut s columns rows marker

-- The object of a data file, with its key metadata: the stream of the file, sealed under a key that
-- was drawn, with its path, which is one of an object, in each block's additional data. It is the
-- rows' file, and they are data of the code.
pub record IsDataObject (s : Settings) (columns : List Column) (rows : List (List Datum))
    (path marker : List ℕ) (key : FileKeyValue) (object : List ℕ) (meta : KeyRecord)
    : Type 0 where
  pub bytes : stream_bytes key.key path key.seed s.block (data_file columns rows s.avro marker)
      ≡ Some object
  pub own : meta ≡ record {
    key = key.key;
    prefix = Some path;
    length_told = Some (length object);
  }
  pub stream : IsStreamOf meta (data_file columns rows s.avro marker) s.block object
  pub is_path : is_object_path path ≡ true
  pub holds : IsHeaded columns rows marker
      → HoldsRows columns rows (data_file columns rows s.avro marker)
  pub are_rows : AllByRecursion (FitsColumns columns) rows → AllByRecursion (IsRowOf columns) rows

-- what a manifest says of a data file at a path in a table at a location: its rows' counts and
-- bounds, its length and its key metadata; its first row id is given by the list
abbrev pub file_record : List ℕ → List ℕ → List Column → List (List Datum) → KeyRecord → ℕ
    → DataFile
file_record location path columns rows key size = record {
  content = pos 0;
  path = location ++ (codes "/" ++ path);
  format = codes "avro";
  records = pos (length rows);
  size = pos size;
  values = (bounds_of columns rows).values;
  nulls = (bounds_of columns rows).nulls;
  lower = (bounds_of columns rows).lower;
  upper = (bounds_of columns rows).upper;
  key = Some (encoded key);
  first_row = None;
}

-- a data file is sealed with what was drawn for it, and its record is made; or its rows may not be
-- one file
abbrev pub SealsData : Settings → List Column → List (List Datum) → List ℕ → List ℕ → Fresh
    → Result (SealedData × DataFile) SealFault → Type 0
SealsData s columns rows location path fresh (Ok made) =
    (is_file s columns rows fresh.marker ≡ true)
    × IsDataObject s columns rows path fresh.marker fresh.key made.0.object made.0.meta
    × (made.1 ≡ file_record location path columns rows made.0.meta (length made.0.object))
SealsData s columns rows location path fresh (Err seal.Limit) =
    is_file s columns rows fresh.marker ≡ false
SealsData s columns rows location path fresh (Err seal.NoMemory) = Unit {0}
