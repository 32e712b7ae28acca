-- The numbers that a table's properties give (Apache Iceberg Table Spec, "Table Metadata Fields",
-- `properties`; the ranges and defaults are ours: docs/FORMATS.md).
use Rattle.std.specs.Prelude.{ℕ, ◌^◌, nat_le, nat_lt, Bool, ◌&&◌, if◌then◌else◌, List, length}
use Rattle.std.specs.Prelude.{codes}
use Rattle.std.specs.Prelude.{Option, Some, None, option_and_then, unwrap_or}
use Rattle.std.specs.Char.{is_ascii_digit}
use Rattle.std.specs.List.{list_all}
use Rattle.std.specs.Str.Parse.{digits_value}
use Rattle.icb_meta.specs.Forms.{text_named}

-- decimal digits, of which there is one at least
abbrev pub is_decimal : List ℕ → Bool
is_decimal text = nat_lt 0 (length text) && list_all is_ascii_digit text

-- the number of 64 bits that decimal digits are; zeros may stand before it
abbrev pub decimal_in : List ℕ → Option ℕ
decimal_in text = if is_decimal text && nat_lt (digits_value 10 text) (2 ^ 64)
    then Some (digits_value 10 text) else None

-- a number from `least` to `most`
abbrev pub in_range : ℕ → ℕ → ℕ → Option ℕ
in_range least most n = if nat_le least n && nat_le n most then Some n else None

-- the number that a property gives where it is in its range, and else the default
abbrev pub property_number : List ℕ → ℕ → ℕ → ℕ → List (List ℕ × List ℕ) → ℕ
property_number name least most default properties = unwrap_or
    (option_and_then (in_range least most)
    (option_and_then decimal_in (text_named name properties))) default

-- how often a job tries again
abbrev pub retries : List (List ℕ × List ℕ) → ℕ
retries properties = property_number (codes "commit.retry.num-retries") 0 100 4 properties
