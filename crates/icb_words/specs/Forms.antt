-- What a word may be, and what it is read as (ours; README.md of this crate).
use Rattle.std.specs.Prelude.{ℕ, ◌^◌, nat_le, nat_lt, pos, Bool, true, ◌&&◌, ◌||◌}
use Rattle.std.specs.Prelude.{codes, bytes_eq, slice_index, Option, Some, None, option_and_then}
use Rattle.std.specs.Prelude.{is_some, option_map, if◌then◌else◌, List}
use Rattle.std.specs.Char.{is_ascii_digit}
use Rattle.std.specs.List.{list_all}
use Rattle.std.specs.Result.{result_ok}
use Rattle.std.specs.Str.Parse.{digits_value}
use Rattle.icb_base.specs.Paths.{is_object_path}
use Rattle.icb_chain.specs.Ring.{is_id, key_of_digits}
use Rattle.icb_meta.specs.Forms.{is_location}
use Rattle.icb_seal.specs.declared.file_key.KeySize.{KeySize}
use Rattle.icb_seal.specs.declared.file_key.KeySize.TheVariants.{Bytes16, Bytes24, Bytes32}
use Rattle.icb_types.specs.Words.{columns_of}
use Rattle.icb_types.specs.declared.columns.Column.{Column}
use Rattle.icb_types.specs.declared.columns.TableSchema.{TableSchema}
use Rattle.icb_words.specs.declared.forms.ValueForm.{ValueForm}
use Rattle.icb_words.specs.declared.forms.ValueForm.TheVariants.{Id, Key, KeyBytes, Location}
use Rattle.icb_words.specs.declared.forms.ValueForm.TheVariants.{Number, Schema, Text}
use Rattle.icb_words.specs.declared.forms.ValueForm.TheVariants.{Within}

-- PATH: an object path
abbrev pub path_of : List ℕ → Option (List ℕ)
path_of word = if is_object_path word then Some word else None

-- decimal digits without sign or leading zero
abbrev pub is_plain_decimal : List ℕ → Bool
is_plain_decimal word =
    list_all is_ascii_digit word && (nat_lt 48 (slice_index word 0) || bytes_eq word (codes "0"))

-- N: plain decimal digits of a number below 2^63
abbrev pub number_of : List ℕ → Option ℕ
number_of word =
    if is_plain_decimal word && nat_lt (digits_value 10 word) (2 ^ 63)
    then Some (digits_value 10 word) else None

-- the number of bytes of a key: 16, 24 or 32
abbrev pub key_size_of : List ℕ → Option KeySize
key_size_of word =
    if bytes_eq word (codes "16") then Some Bytes16
    else if bytes_eq word (codes "24") then Some Bytes24
    else if bytes_eq word (codes "32") then Some Bytes32
    else None

-- a number from the least to the most one
abbrev pub between : ℕ → ℕ → ℕ → Option ℕ
between least most n = if nat_le least n && nat_le n most then Some n else None

-- N: such a number
abbrev pub number_within : ℕ → ℕ → List ℕ → Option ℕ
number_within least most word = option_and_then (between least most) (number_of word)

-- ID: the id of a master key
abbrev pub id_of : List ℕ → Option (List ℕ)
id_of word = if is_id word then Some word else None

-- the location of a new table
abbrev pub location_of : List ℕ → Option (List ℕ)
location_of word = if is_location word then Some word else None

-- the schema of columns, with the number 0
abbrev pub schema_with : List Column → TableSchema
schema_with columns = record { id = pos 0; columns = columns }

-- the schema of schema words
abbrev pub schema_of : List ℕ → Option TableSchema
schema_of word = option_map schema_with (result_ok (columns_of word))

-- whether a word is in a form
abbrev pub is_in_form : ValueForm → List ℕ → Bool
is_in_form Key word = is_some (key_of_digits word)
is_in_form Number word = is_some (number_of word)
is_in_form Text word = true
is_in_form KeyBytes word = is_some (key_size_of word)
is_in_form (Within least most) word = is_some (number_within least most word)
is_in_form Id word = is_id word
is_in_form Schema word = is_some (schema_of word)
is_in_form Location word = is_location word
