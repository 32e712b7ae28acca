-- The numbers by which files are written, from a table's properties (ours: docs/FORMATS.md,
-- "Numbers of properties"). A text that isn't a decimal number of its range counts as the default.
use Rattle.std.specs.Prelude.{ℕ, ◌≤◌, ◌==◌, ◌^◌, ◌&&◌, Bool, nat_le, nat_lt, List, length}
use Rattle.std.specs.Prelude.{codes, Option, Some, None, if◌then◌else◌}
use Rattle.std.specs.Char.{is_ascii_digit}
use Rattle.std.specs.List.{list_all}
use Rattle.std.specs.Str.Parse.{digits_value}
use Rattle.icb_meta.specs.Forms.{text_named}
use Rattle.icb_seal.specs.declared.file_key.KeySize.{KeySize}
use Rattle.icb_seal.specs.declared.file_key.KeySize.TheVariants as size
use Rattle.icb_append.specs.declared.settings.Settings.{Settings}

-- one or more decimal digits
abbrev pub is_decimal : List ℕ → Bool
is_decimal text = nat_lt 0 (length text) && list_all is_ascii_digit text

-- the number, where it has 32 bits
abbrev pub of_32_bits : ℕ → Option ℕ
of_32_bits n = if nat_lt n (2 ^ 32) then Some n else None

-- the number that decimal digits are, where it has 32 bits
abbrev pub decimal_in : List ℕ → Option ℕ
decimal_in text = if is_decimal text then of_32_bits (digits_value 10 text) else None

-- a number that is there and in a range, or else the default
abbrev pub in_range : ℕ → ℕ → ℕ → Option ℕ → ℕ
in_range low high default None = default
in_range low high default (Some n) = if nat_le low n && nat_le n high then n else default

-- the number that a property's text says
abbrev pub number_of : ℕ → ℕ → ℕ → Option (List ℕ) → ℕ
number_of low high default None = default
number_of low high default (Some text) = in_range low high default (decimal_in text)

-- the size of a key of so many bytes: 24, 32, and else 16
abbrev pub key_size : ℕ → KeySize
key_size n = if n == 24 then size.Bytes24 else (if n == 32 then size.Bytes32 else size.Bytes16)

-- the numbers that a table's properties say
abbrev pub settings_of : List (List ℕ × List ℕ) → Settings
settings_of properties = record {
  key = key_size (number_of 16 32 16 (text_named (codes "encryption.data-key-length") properties));
  block = number_of 1 16777216 1048576 (text_named (codes "icb.block-length") properties);
  avro = number_of 1 1048576 65536 (text_named (codes "icb.avro-block") properties);
  rows = number_of 1 1000000 100000 (text_named (codes "icb.rows-per-file") properties);
}

-- a stream and containers may have such blocks, and a data file so many rows
pub record AreInRange (s : Settings) : Type 0 where
  pub some_block : 1 ≤ s.block
  pub most_block : s.block ≤ 2 ^ 24
  pub some_avro : 1 ≤ s.avro
  pub most_avro : s.avro ≤ 2 ^ 20
  pub some_rows : 1 ≤ s.rows
  pub most_rows : s.rows ≤ 1000000
