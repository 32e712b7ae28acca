-- Schema words (ours): columns with commas between, each `name:type`, or `name:type!` for a
-- required one.
use Rattle.std.specs.Prelude.{ℕ, ◌+◌, ◌-◌, ◌==◌, List, [], ◌∷◌, ◌++◌, length, take, drop}
use Rattle.std.specs.Prelude.{slice_index, codes, bytes_eq, ℤ, pos, Bool, true, false, not}
use Rattle.std.specs.Prelude.{◌&&◌, ◌||◌}
use Rattle.std.specs.Prelude.{nat_lt, nat_le, if◌then◌else◌, Option, Some, None}
use Rattle.std.specs.Prelude.{option_map, option_and_then}
use Rattle.std.specs.Prelude.{Result, Ok, Err}
use Rattle.std.specs.Char.{is_ascii_digit, is_ascii_alphabetic}
use Rattle.std.specs.List.{list_all, list_any, position_or_len, before_first, after_first}
use Rattle.std.specs.Str.Parse.{digits_value}
use Rattle.icb_schema.specs.Reading.{only_if}
use Rattle.icb_types.specs.Columns.{is_size}
use Rattle.icb_types.specs.Steps.{◌>>=◌}
use Rattle.icb_types.specs.declared.columns.ColType.{ColType}
use Rattle.icb_types.specs.declared.columns.ColType.TheVariants as kind
use Rattle.icb_types.specs.declared.columns.Column.{Column}

-- ---- texts

-- what stands behind a prefix, where the text begins with it
abbrev pub after_prefix : List ℕ → List ℕ → Option (List ℕ)
after_prefix prefix text =
    if bytes_eq (take (length prefix) text) prefix then Some (drop (length prefix) text) else None

-- what stands before a suffix, where the text ends with it
abbrev pub before_suffix : List ℕ → List ℕ → Option (List ℕ)
before_suffix suffix text =
    if bytes_eq (drop (length text - length suffix) text) suffix
    then Some (take (length text - length suffix) text) else None

-- what stands before the first byte that is this one, and what behind it, where there is one
unfoldable pub cut_at : ℕ → List ℕ → Option (List ℕ × List ℕ)
cut_at b text =
    if nat_lt (position_or_len (λ c. c == b) text) (length text)
    then Some (before_first (λ c. c == b) text, after_first (λ c. c == b) text) else None

-- the byte in front of the first part
abbrev pub onto_first : ℕ → List (List ℕ) → List (List ℕ)
onto_first c [] = []
onto_first c (part ∷ parts) = (c ∷ part) ∷ parts

-- the parts of a text that commas part
unfoldable pub parts_of : List ℕ → List (List ℕ)
parts_of [] = [] ∷ []
parts_of (c ∷ text) = if c == 44 then [] ∷ parts_of text else onto_first c (parts_of text)

-- ---- types

-- decimal digits without a leading zero
unfoldable pub has_plain_digits : List ℕ → Bool
has_plain_digits digits = list_all is_ascii_digit digits && nat_lt 48 (slice_index digits 0)

-- N: such digits of a size
unfoldable pub size_in : List ℕ → Option ℕ
size_in digits =
    if has_plain_digits digits && is_size (digits_value 10 digits)
    then Some (digits_value 10 digits) else None

-- `fixed[N]`
unfoldable pub fixed_word : List ℕ → Option ColType
fixed_word word = option_map kind.Fixed (option_and_then size_in
    (option_and_then (before_suffix (codes "]")) (after_prefix (codes "fixed[") word)))

-- the kind that a type's word names
unfoldable pub kind_of_word : List ℕ → Option ColType
kind_of_word word =
    if bytes_eq word (codes "boolean") then Some kind.Boolean else (
    if bytes_eq word (codes "int") then Some kind.Int else (
    if bytes_eq word (codes "long") then Some kind.Long else (
    if bytes_eq word (codes "date") then Some kind.Date else (
    if bytes_eq word (codes "time") then Some kind.Time else (
    if bytes_eq word (codes "timestamp") then Some kind.Timestamp else (
    if bytes_eq word (codes "timestamptz") then Some kind.TimestampTz else (
    if bytes_eq word (codes "string") then Some kind.Text else (
    if bytes_eq word (codes "uuid") then Some kind.Uuid else (
    if bytes_eq word (codes "binary") then Some kind.Binary else fixed_word word)))))))))

-- the word before the mark, or the whole text without one
abbrev pub either_mark : List ℕ → Option (List ℕ) → List ℕ × Bool
either_mark text (Some word) = (word, true)
either_mark text None = (text, false)

-- a type's word, and whether `!` stands behind it
unfoldable pub marked : List ℕ → List ℕ × Bool
marked text = either_mark text (before_suffix (codes "!") text)

-- ---- columns

-- a letter or `_`
abbrev pub begins_name : ℕ → Bool
begins_name c = is_ascii_alphabetic c || (c == 95)

-- a letter, a digit or `_`
abbrev pub is_in_name : ℕ → Bool
is_in_name c = begins_name c || is_ascii_digit c

-- an Avro name (Apache Avro 1.11, "Names") of 1 to 128 bytes
unfoldable pub is_name : List ℕ → Bool
is_name name =
    begins_name (slice_index name 0) && list_all is_in_name name && nat_le (length name) 128

-- the column of a name and a marked type
abbrev pub column_of : ℤ → List ℕ → List ℕ × Bool → Option Column
column_of id name type = option_map
    (λ k. record { id = id; name = name; kind = k; required = type.1 }) (kind_of_word type.0)

-- the column that a part is, with this id
unfoldable pub column_in : ℤ → List ℕ → Option Column
column_in id part = option_and_then
    (λ p. if is_name p.0 then column_of id p.0 (marked p.1) else None) (cut_at 58 part)

-- one of the columns has this name
unfoldable pub has_name : List ℕ → List Column → Bool
has_name name columns = list_any (λ c. bytes_eq c.name name) columns

-- The column that a part is behind these: one of the first 1,000, with a name that none of
-- them has. Ids count from 1.
unfoldable pub next_column : List Column → List ℕ → Option Column
next_column columns part =
    if nat_lt (length columns) 1000
    then option_and_then (only_if (λ c. not (has_name c.name columns)))
    (column_in (pos (length columns + 1)) part)
    else None

-- the columns with one more, where it is there, and else how many there are
abbrev pub with_column : List Column → Option Column → Result (List Column) ℕ
with_column columns None = Err (length columns)
with_column columns (Some c) = Ok (columns ++ c ∷ [])

-- the columns of parts behind these, or the position of the first part that is none
unfoldable pub columns_from : List Column → List (List ℕ) → Result (List Column) ℕ
columns_from columns [] = Ok columns
columns_from columns (part ∷ parts) =
    with_column columns (next_column columns part) >>= (λ more. columns_from more parts)

-- the columns of schema words, or the position of the first that isn't in the form
unfoldable pub columns_of : List ℕ → Result (List Column) ℕ
columns_of text = columns_from [] (parts_of text)
