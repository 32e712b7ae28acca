-- The line of a row, printed and read (ours; JSON by RFC 8259, as `serde_json` has it).
use Rattle.std.specs.Prelude.{ℕ, ◌+◌, ◌-◌, ◌==◌, ◌^◌, min, List, [], ◌∷◌, ◌++◌, length, fold}
use Rattle.std.specs.Prelude.{ℤ, pos, negsuc, Bool, false, if◌then◌else◌, nat_lt}
use Rattle.std.specs.Prelude.{Option, Some, None, is_some, option_map, option_and_then}
use Rattle.std.specs.Prelude.{Result, Ok, Err}
use Rattle.std.specs.Result.{result_ok}
use Rattle.std.specs.Int.{w128, to_be_bytes, from_be_bytes}
use Rattle.serde_json.specs.Data as json
use Rattle.serde_json.specs.Data.{Data, Items}
use Rattle.serde_json.specs.Find.{as_bool, as_i64, as_null, as_number, as_str, of_integer}
use Rattle.serde_json.specs.Written.{compact_text}
use Rattle.hex.specs.Hex.{decode_of, encode_lower}
use Rattle.uuid.specs.Text.{hyphenated_text, lower, parsed}
use Rattle.icb_schema.specs.Reading.{as_list, fits_32, json_in, only_if}
use Rattle.icb_types.specs.declared.columns.ColType.{ColType}
use Rattle.icb_types.specs.declared.columns.ColType.TheVariants as kind
use Rattle.icb_types.specs.declared.columns.Column.{Column}
use Rattle.icb_types.specs.declared.datum.Datum.{Datum}
use Rattle.icb_types.specs.declared.datum.Datum.TheVariants as datum
use Rattle.icb_types.specs.declared.fault.RowFault.{RowFault}
use Rattle.icb_types.specs.declared.fault.RowFault.TheVariants as fault
use Rattle.icb_types.specs.Single.{sized}
use Rattle.icb_types.specs.Steps.{◌>>=◌}

-- ---- a line that is printed

-- a whole number
abbrev pub number_json : ℤ → Data
number_json n = json.number (of_integer n)

-- an identifier with hyphens, in lower case
abbrev pub uuid_text : ℕ → List ℕ
uuid_text id = hyphenated_text lower (to_be_bytes w128 id)

-- the JSON value of a datum: bytes are in lower-case hexadecimal
abbrev pub datum_json : Datum → Data
datum_json datum.Null = json.null
datum_json (datum.Boolean b) = json.boolean b
datum_json (datum.Int n) = number_json n
datum_json (datum.Long n) = number_json n
datum_json (datum.Date days) = number_json days
datum_json (datum.Time time) = number_json time
datum_json (datum.Timestamp time) = number_json time
datum_json (datum.TimestampTz time) = number_json time
datum_json (datum.Text text) = json.string text
datum_json (datum.Uuid id) = json.string (uuid_text id)
datum_json (datum.Fixed bytes) = json.string (encode_lower bytes)
datum_json (datum.Binary bytes) = json.string (encode_lower bytes)

-- the JSON values of data, in order
abbrev pub data_json : List Datum → Items
data_json [] = json.no_items
data_json (d ∷ row) = json.item (datum_json d) (data_json row)

-- the text of a datum: compact JSON
abbrev pub datum_text : Datum → List ℕ
datum_text d = compact_text (datum_json d)

-- the line of a row: the compact JSON of the array of its data, and a line feed
unfoldable pub row_line : List Datum → List ℕ
row_line row = compact_text (json.array (data_json row)) ++ 10 ∷ []

-- a bracket before the first datum of a line, and a comma before each other
abbrev pub opening : List ℕ → List ℕ
opening [] = 91 ∷ []
opening (c ∷ line) = 44 ∷ []

-- the line with one more datum
abbrev pub with_datum : List ℕ → Datum → List ℕ
with_datum line d = line ++ (opening line ++ datum_text d)

-- the closing bracket and a line feed, with the opening bracket where no datum stands before
abbrev pub closing : List ℕ → List ℕ
closing [] = 91 ∷ 93 ∷ 10 ∷ []
closing (c ∷ line) = 93 ∷ 10 ∷ []

-- the line of data that were put one after another on an empty line, ended
abbrev pub line_by_data : List Datum → List ℕ
line_by_data row = fold with_datum [] row ++ closing (fold with_datum [] row)

-- ---- a line that is read

-- A whole number of 64 bits, written without point and exponent, and not `-0`.
abbrev pub long_in : Data → Option ℤ
long_in d = option_and_then as_i64 (as_number d)

-- such a number of 32 bits
abbrev pub int_in : Data → Option ℤ
int_in d = option_and_then (only_if fits_32) (long_in d)

-- a time is below the microseconds of a day
abbrev pub is_time : ℤ → Bool
is_time (pos n) = nat_lt n 86400000000
is_time (negsuc n) = false

-- such a number that is a time
abbrev pub time_in : Data → Option ℤ
time_in d = option_and_then (only_if is_time) (long_in d)

-- the number of the identifier that a text is in one of its four forms
abbrev pub uuid_in : Data → Option ℕ
uuid_in d = option_map (from_be_bytes w128) (option_and_then parsed (as_str d))

-- the bytes of a text in hexadecimal, of either case
abbrev pub bytes_in : Data → Option (List ℕ)
bytes_in d = option_and_then (λ s. result_ok (decode_of s)) (as_str d)

-- the datum of a kind, other than null, that a JSON value is
abbrev pub datum_in : ColType → Data → Option Datum
datum_in kind.Boolean d = option_map datum.Boolean (as_bool d)
datum_in kind.Int d = option_map datum.Int (int_in d)
datum_in kind.Long d = option_map datum.Long (long_in d)
datum_in kind.Date d = option_map datum.Date (int_in d)
datum_in kind.Time d = option_map datum.Time (time_in d)
datum_in kind.Timestamp d = option_map datum.Timestamp (long_in d)
datum_in kind.TimestampTz d = option_map datum.TimestampTz (long_in d)
datum_in kind.Text d = option_map datum.Text (as_str d)
datum_in kind.Uuid d = option_map datum.Uuid (uuid_in d)
datum_in (kind.Fixed size) d = option_map datum.Fixed (option_and_then (sized size) (bytes_in d))
datum_in kind.Binary d = option_map datum.Binary (bytes_in d)

-- the datum of a kind, other than null, that a text shows as one JSON value
abbrev pub datum_of_text : ColType → List ℕ → Option Datum
datum_of_text k text = option_and_then (datum_in k) (json_in text)

-- the datum of a column that a JSON value is: null, where the column isn't required
abbrev pub column_datum : Column → Data → Option Datum
column_datum c d =
    if is_some (as_null d) then (if c.required then None else Some datum.Null)
    else datum_in c.kind d

-- a count or a position, at most the greatest number of 32 bits
abbrev pub as_u32 : ℕ → ℕ
as_u32 n = min n (2 ^ 32 - 1)

-- the datum of a column, or the refusal of its place
abbrev pub datum_at : ℕ → Option Datum → Result Datum RowFault
datum_at at None = Err (fault.BadValue (as_u32 at))
datum_at at (Some d) = Ok d

-- The data of columns, the first of which stands at this place. The first value that is not
-- one of its column's kind is refused.
abbrev pub data_from : ℕ → List Column → List Data → Result (List Datum) RowFault
data_from at [] values = Ok []
data_from at (c ∷ cs) [] = Ok []
data_from at (c ∷ cs) (d ∷ values) = datum_at at (column_datum c d) >>= (λ first.
    data_from (at + 1) cs values >>= (λ rest. Ok (first ∷ rest)))

-- as many values as columns
abbrev pub same_length : List Column → List Data → Result (List Data) RowFault
same_length columns values =
    if length values == length columns then Ok values
    else Err (fault.RowLength (as_u32 (length values)))

-- a value that is there, or this refusal
abbrev pub or_refuse : {A : Type 0} → RowFault → Option A → Result A RowFault
or_refuse e None = Err e
or_refuse e (Some a) = Ok a

-- the row that a JSON value shows, or the first refusal
unfoldable pub row_in : List Column → Data → Result (List Datum) RowFault
row_in columns d = or_refuse fault.NotArray (as_list d) >>= (λ values.
    same_length columns values >>= data_from 0 columns)

-- the row that a line shows, or the first refusal
unfoldable pub row_of : List Column → List ℕ → Result (List Datum) RowFault
row_of columns line = or_refuse fault.NotJson (json_in line) >>= row_in columns
