-- Which command a list of words is (ours; README.md of this crate).
use Rattle.std.specs.Prelude.{ℕ, ◌≡◌, ◌≤◌, ◌^◌, true, if◌then◌else◌, List, codes, bytes_eq}
use Rattle.std.specs.Prelude.{length, pos, Option, Some, None, is_some, option_map, unwrap_or}
use Rattle.std.specs.Prelude.{Result, Ok, Err}
use Rattle.icb_base.specs.KeyMetadata.{KeyRecord}
use Rattle.icb_chain.specs.Ring.{key_of_digits}
use Rattle.icb_meta.specs.Forms.{is_location}
use Rattle.icb_seal.specs.declared.file_key.KeySize.TheVariants.{Bytes16}
use Rattle.icb_types.specs.Columns.{AreColumns}
use Rattle.icb_types.specs.Words.{parts_of}
use Rattle.icb_words.specs.Forms.{id_of, key_size_of, location_of, number_of, number_within}
use Rattle.icb_words.specs.Forms.{path_of, schema_of}
use Rattle.icb_words.specs.Options.{given, needed, pairs_from, position, value_of}
use Rattle.icb_words.specs.OptionTables.{options_of}
use Rattle.icb_words.specs.Steps.{◌>>=◌, word_as}
use Rattle.icb_words.specs.declared.option_tables.OptionTable.{OptionTable}
use Rattle.icb_words.specs.declared.option_tables.OptionTable.TheVariants as table
use Rattle.icb_words.specs.declared.scan_words.RangeWords.{RangeWords}
use Rattle.icb_words.specs.declared.words.Command.{Command}
use Rattle.icb_words.specs.declared.words.Command.TheVariants as command

-- the path and the pairs of options of a command on one file
pub record FileWords : Type 0 where
  pub path : List ℕ
  pub pairs : List (List ℕ)

-- the metadata of a file under a key and perhaps a prefix, with no length told
abbrev pub file_meta : List ℕ → Option (List ℕ) → KeyRecord
file_meta key prefix = record { key = key; prefix = prefix; length_told = None }

-- the metadata that the options of a file give: its key is needed, its prefix isn't
abbrev pub meta_of : List (List ℕ) → List (List ℕ) → Result KeyRecord ℕ
meta_of words pairs = do
  key ← needed words (given key_of_digits (codes "--key") pairs)
  Ok (file_meta key (value_of (codes "--prefix") pairs))

-- what a command on one file reads first: TABLE PATH, and then pairs of options
unfoldable pub file_words_of : OptionTable → List (List ℕ) → Result FileWords ℕ
file_words_of table words = do
  folder ← word_as Some words 1
  path ← word_as path_of words 2
  pairs ← pairs_from (options_of table) 3 words
  Ok (record { path = path; pairs = pairs })

-- cat-file TABLE PATH --key HEX --length N [--prefix TEXT] [--skip N] [--take N], the options in
-- any order
unfoldable pub cat_file_of : List (List ℕ) → Result Command ℕ
cat_file_of words = do
  file ← file_words_of table.CatFile words
  meta ← meta_of words file.pairs
  file_length ← needed words (given number_of (codes "--length") file.pairs)
  Ok (command.CatFile (record {
    path = file.path;
    meta = meta;
    file_length = file_length;
    skip = unwrap_or (given number_of (codes "--skip") file.pairs) 0;
    take = given number_of (codes "--take") file.pairs;
  }))

-- seal-file TABLE PATH [--key-bytes 16|24|32] [--block N], the options in any order
unfoldable pub seal_file_of : List (List ℕ) → Result Command ℕ
seal_file_of words = do
  file ← file_words_of table.SealFile words
  Ok (command.SealFile (record {
    path = file.path;
    key_size = unwrap_or (given key_size_of (codes "--key-bytes") file.pairs) Bytes16;
    block = unwrap_or (given (number_within 1 16777216) (codes "--block") file.pairs) 1048576;
  }))

-- create TABLE --keys FILE --master ID --schema TEXT [--location TEXT] [--key-bytes 16|24|32]
-- [--block N] [--avro-block N] [--rows-per-file N] [--retries N], the options in any order
unfoldable pub create_of : List (List ℕ) → Result Command ℕ
create_of words = do
  folder ← word_as Some words 1
  pairs ← pairs_from (options_of table.Create) 2 words
  keys ← needed words (value_of (codes "--keys") pairs)
  master ← needed words (given id_of (codes "--master") pairs)
  schema ← needed words (given schema_of (codes "--schema") pairs)
  Ok (command.Create (record {
    master = master;
    schema = schema;
    location = unwrap_or (given location_of (codes "--location") pairs) (codes "file:///table");
    key_size = unwrap_or (given key_size_of (codes "--key-bytes") pairs) Bytes16;
    block = unwrap_or (given (number_within 1 16777216) (codes "--block") pairs) 1048576;
    avro_block = unwrap_or (given (number_within 1 1048576) (codes "--avro-block") pairs) 65536;
    rows_per_file =
        unwrap_or (given (number_within 1 1000000) (codes "--rows-per-file") pairs) 100000;
    retries = unwrap_or (given (number_within 0 100) (codes "--retries") pairs) 4;
  }))

-- a range of a column and its ends; ends without a column lack it: the number of words
abbrev pub range_of : List (List ℕ) → Option (List ℕ) → Option (List ℕ) → Option (List ℕ)
    → Result (Option RangeWords) ℕ
range_of words (Some column) low high =
    Ok (Some (record { column = column; low = low; high = high }))
range_of words None None None = Ok None
range_of words None low high = Err (position (length words))

-- the range that options give
abbrev pub range_given : List (List ℕ) → List (List ℕ) → Result (Option RangeWords) ℕ
range_given words pairs = range_of words (value_of (codes "--range") pairs)
    (value_of (codes "--low") pairs) (value_of (codes "--high") pairs)

-- scan TABLE --keys FILE [--metadata FILE] [--snapshot N] [--columns A,B] [--range A] [--low V]
-- [--high V] [--skip N] [--take N], the options in any order
unfoldable pub scan_of : List (List ℕ) → Result Command ℕ
scan_of words = do
  folder ← word_as Some words 1
  pairs ← pairs_from (options_of table.Scan) 2 words
  keys ← needed words (value_of (codes "--keys") pairs)
  range ← range_given words pairs
  Ok (command.Scan (record {
    is_handed_in = is_some (value_of (codes "--metadata") pairs);
    snapshot = option_map pos (given number_of (codes "--snapshot") pairs);
    columns = option_map parts_of (value_of (codes "--columns") pairs);
    range = range;
    skip = unwrap_or (given number_of (codes "--skip") pairs) 0;
    take = given number_of (codes "--take") pairs;
  }))

-- rotate TABLE --keys FILE --master ID, the options in any order
unfoldable pub rotate_of : List (List ℕ) → Result Command ℕ
rotate_of words = do
  folder ← word_as Some words 1
  pairs ← pairs_from (options_of table.Rotate) 2 words
  keys ← needed words (value_of (codes "--keys") pairs)
  master ← needed words (given id_of (codes "--master") pairs)
  Ok (command.Rotate (record { master = master }))

-- a command on a table alone: TABLE, and no options
unfoldable pub table_word_of : Command → List (List ℕ) → Result Command ℕ
table_word_of command words = do
  folder ← word_as Some words 1
  pairs ← pairs_from (options_of table.Empty) 2 words
  Ok command

-- a command on a table under a keyring: TABLE --keys FILE
unfoldable pub keyring_word_of : Command → List (List ℕ) → Result Command ℕ
keyring_word_of command words = do
  folder ← word_as Some words 1
  pairs ← pairs_from (options_of table.Keyring) 2 words
  keys ← needed words (value_of (codes "--keys") pairs)
  Ok command

-- a command by its first word
abbrev pub command_named : List ℕ → List (List ℕ) → Result Command ℕ
command_named name words =
    if bytes_eq name (codes "--help") then Ok command.Help
    else if bytes_eq name (codes "--version") then Ok command.Version
    else if bytes_eq name (codes "cat-file") then cat_file_of words
    else if bytes_eq name (codes "seal-file") then seal_file_of words
    else if bytes_eq name (codes "create") then create_of words
    else if bytes_eq name (codes "append") then keyring_word_of command.Append words
    else if bytes_eq name (codes "scan") then scan_of words
    else if bytes_eq name (codes "rotate") then rotate_of words
    else if bytes_eq name (codes "snapshots") then table_word_of command.Snapshots words
    else if bytes_eq name (codes "keys") then table_word_of command.Keys words
    else Err 0

-- the command that a list of words is, or the position of the first word that has no place, which
-- is the number of words where something needed isn't there
unfoldable pub command_of : List (List ℕ) → Result Command ℕ
command_of words = do
  name ← word_as Some words 0
  command_named name words

-- the block length of a command that seals is 1 to 16,777,216, and a new table's columns and its
-- location are such as a table may have
abbrev pub KeepsLimits : Command → Type 0
KeepsLimits (command.SealFile words) = (1 ≤ words.block) × (words.block ≤ 2 ^ 24)
KeepsLimits (command.Create words) =
    AreColumns words.schema.columns × (is_location words.location ≡ true)
KeepsLimits other = Unit {0}
