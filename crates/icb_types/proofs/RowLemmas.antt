-- The data of a row are the values of its line.
use Rattle.std.proofs.Common.{◌≡◌, ◌<◌, ◌+◌, ◌^◌, ◌==◌, ℕ, zero, suc, ℤ, pos, negsuc, List, [], ◌∷◌, ◌++◌, fold, length, map, All, get_or, append_assoc, true, Some}
use Rattle.std.proofs.Common.{option_map, Ok, refl, sym, ap, ◌∙◌, inl, arith, eq-eqb, nat_lt, true≢false}
use Rattle.std.proofs.lemmas.Bool.{and_parts, lt-ltb, ltb-true}
use Rattle.std.proofs.lemmas.Str.Ascii.{IsAscii-nil, IsAscii-cons}
use Rattle.std.specs.List.{list_all}
use Rattle.std.specs.Str.{IsAscii}
use Rattle.std.proofs.lemmas.Str.{IsUtf8-from_ascii, is_utf8-from_IsUtf8}
use Rattle.std.specs.Int.{w128, bytes_high_first, byte_at, to_be_bytes, from_be_bytes}
use Rattle.std.specs.Result.{result_ok}
use Rattle.serde_json.specs.Data as json
use Rattle.serde_json.specs.Data.{Data, Items}
use Rattle.serde_json.specs.Written.{items_text}
use Rattle.hex.specs.Hex.{IsBytes, encode_lower, lower_digits}
use Rattle.hex.proofs.HexLemmas.{IsAscii-encode_with, decode_of-encode_lower}
use Rattle.uuid.specs.Text.{lower}
use Rattle.uuid.proofs.RoundTrips.{parses_hyphenated}
use Rattle.uuid.proofs.TextLemmas.{hyphenated_ascii}
use Rattle.uuid.proofs.OrderLemmas.{from_be_bytes-to_be_bytes_16}
use Rattle.icb_schema.specs.Reading.{fits_32, json_in, list_of}
use Rattle.icb_types.specs.Lines.{bytes_in, column_datum, data_from, data_json, datum_json, datum_text, closing, int_in, is_time, line_by_data, long_in, number_json, row_in, row_line, row_of, time_in, uuid_in, with_datum}
use Rattle.icb_types.specs.Fits.{AreShown, FitsColumn, FitsColumns, IsShown, fits_64}
use Rattle.icb_types.specs.declared.columns.Column.{Column}
use Rattle.icb_types.specs.declared.datum.Datum.{Datum}
use Rattle.icb_types.specs.declared.datum.Datum.TheVariants as datum
use Rattle.icb_types.proofs.LineLemmas.{AreLeaves, IsLeaf, line_read, line_utf8}

-- ---- numbers

-- a number of 64 bits is a value of JSON
number_leaf : (n : ℤ) → fits_64 n ≡ true → IsLeaf (number_json n)
number_leaf (pos n) h = let small = ltb-true n 9223372036854775808 h in omega arith
number_leaf (negsuc n) h = ltb-true n 9223372036854775808 h

long_back : (n : ℤ) → fits_64 n ≡ true → long_in (number_json n) ≡ Some n
long_back (pos n) h = rw h refl
long_back (negsuc n) h = refl

-- one of 32 bits is one of 64
wider : (n : ℤ) → fits_32 n ≡ true → fits_64 n ≡ true
wider (pos n) h = let small = ltb-true n 2147483648 h in lt-ltb n 9223372036854775808 (omega arith)
wider (negsuc n) h = let small = ltb-true n 2147483648 h in lt-ltb n 9223372036854775808 (omega arith)

int_back : (n : ℤ) → fits_32 n ≡ true → int_in (number_json n) ≡ Some n
int_back n h = rw (long_back n (wider n h), h) refl

-- a time is a number of 64 bits
time_fits : (n : ℤ) → is_time n ≡ true → fits_64 n ≡ true
time_fits (pos n) h = let small = ltb-true n 86400000000 h in lt-ltb n 9223372036854775808 (omega arith)
time_fits (negsuc n) h = absurd (true≢false (sym h))

time_back : (n : ℤ) → is_time n ≡ true → time_in (number_json n) ≡ Some n
time_back n h = rw (long_back n (time_fits n h), h) refl

-- ---- bytes and identifiers

all_cons : (P : ℕ → Type 0) (x : ℕ) (xs : List ℕ) → P x → All P xs → (k d : ℕ) → k < length (x ∷ xs) → P (get_or (x ∷ xs) k d)
all_cons P x xs here there zero d h = here
all_cons P x xs here there (suc k) d h = there k d (omega arith)

byte_small : (i n : ℕ) → byte_at i n < 256
byte_small zero n = omega arith
byte_small (suc i) n = omega arith

bytes_small : (k n : ℕ) → All (λ b. b < 256) (bytes_high_first k n)
bytes_small zero n = λ i d h. absurd (let never : ⊥ = omega arith in never)
bytes_small (suc k) n = all_cons (λ b. b < 256) (byte_at k n) (bytes_high_first k n) (byte_small k n) (bytes_small k n)

uuid_back : (id : ℕ) → id < 2 ^ 128 → uuid_in (datum_json (datum.Uuid id)) ≡ Some id
uuid_back id small =
    let found = parses_hyphenated lower (to_be_bytes w128 id) (inl refl) refl (bytes_small 16 id) in
    ap (option_map (from_be_bytes w128)) (sym found) ∙ ap Some (from_be_bytes-to_be_bytes_16 id small)

bytes_back : (bytes : List ℕ) → IsBytes bytes → bytes_in (json.string (encode_lower bytes)) ≡ Some bytes
bytes_back bytes are = ap result_ok (decode_of-encode_lower bytes are)

-- a text of small bytes
ascii_of : (text : List ℕ) → list_all (λ c. nat_lt c 128) text ≡ true → IsAscii text
ascii_of [] h = IsAscii-nil
ascii_of (c ∷ text) h =
    let both = and_parts (nat_lt c 128) (list_all (λ d. nat_lt d 128) text) h in
    IsAscii-cons c text (ltb-true c 128 both.0) (ascii_of text both.1)

-- ---- data

-- the value of a datum that a line may show
datum_leaf : (d : Datum) → IsShown d → IsLeaf (datum_json d)
datum_leaf datum.Null is = tt
datum_leaf (datum.Boolean b) is = tt
datum_leaf (datum.Int n) is = number_leaf n (wider n is)
datum_leaf (datum.Long n) is = number_leaf n is
datum_leaf (datum.Date n) is = number_leaf n (wider n is)
datum_leaf (datum.Time n) is = number_leaf n (time_fits n is)
datum_leaf (datum.Timestamp n) is = number_leaf n is
datum_leaf (datum.TimestampTz n) is = number_leaf n is
datum_leaf (datum.Text text) is = is
datum_leaf (datum.Uuid id) is = IsUtf8-from_ascii _ (hyphenated_ascii lower (to_be_bytes w128 id) (inl refl))
datum_leaf (datum.Fixed bytes) is = IsUtf8-from_ascii _ (IsAscii-encode_with lower_digits bytes (ascii_of lower_digits refl))
datum_leaf (datum.Binary bytes) is = IsUtf8-from_ascii _ (IsAscii-encode_with lower_digits bytes (ascii_of lower_digits refl))

data_leaves : (row : List Datum) → AreShown row → AreLeaves (data_json row)
data_leaves [] are = tt
data_leaves (d ∷ row) are = (datum_leaf d are.0, data_leaves row are.1)

-- it reads as the datum
datum_back : (c : Column) (d : Datum) → FitsColumn c d → IsShown d → column_datum c (datum_json d) ≡ Some d
datum_back c datum.Null fits is = rw fits refl
datum_back c (datum.Boolean b) fits is = rw fits refl
datum_back c (datum.Int n) fits is = rw (fits, int_back n is) refl
datum_back c (datum.Long n) fits is = rw (fits, long_back n is) refl
datum_back c (datum.Date n) fits is = rw (fits, int_back n is) refl
datum_back c (datum.Time n) fits is = rw (fits, time_back n is) refl
datum_back c (datum.Timestamp n) fits is = rw (fits, long_back n is) refl
datum_back c (datum.TimestampTz n) fits is = rw (fits, long_back n is) refl
datum_back c (datum.Text text) fits is = rw fits refl
datum_back c (datum.Uuid id) fits is = rw fits (ap (option_map datum.Uuid) (uuid_back id is))
datum_back c (datum.Fixed bytes) fits is =
    let size : (length bytes == length bytes) ≡ true = eq-eqb (length bytes) (length bytes) refl in
    rw (fits, decode_of-encode_lower bytes is, size) refl
datum_back c (datum.Binary bytes) fits is = rw (fits, decode_of-encode_lower bytes is) refl

-- ---- rows

values_are : (row : List Datum) → list_of (data_json row) ≡ map datum_json row
values_are [] = refl
values_are (d ∷ row) = ap (λ ds. datum_json d ∷ ds) (values_are row)

same_size : (columns : List Column) (row : List Datum) → FitsColumns columns row → length (map datum_json row) ≡ length columns
same_size [] [] fits = refl
same_size [] (d ∷ row) fits = absurd fits
same_size (c ∷ columns) [] fits = absurd fits
same_size (c ∷ columns) (d ∷ row) fits = ap suc (same_size columns row fits.1)

data_back : (at : ℕ) (columns : List Column) (row : List Datum) → FitsColumns columns row → AreShown row
    → data_from at columns (map datum_json row) ≡ Ok row
data_back at [] [] fits are = refl
data_back at [] (d ∷ row) fits are = absurd fits
data_back at (c ∷ columns) [] fits are = absurd fits
data_back at (c ∷ columns) (d ∷ row) fits are = rw (datum_back c d fits.0 are.0, data_back (at + 1) columns row fits.1 are.1) refl

-- the line of a row shows the row
pub row_back : (columns : List Column) (row : List Datum) → FitsColumns columns row → AreShown row → row_of columns (row_line row) ≡ Ok row
unfolding row_of row_in row_line json_in
row_back columns row fits are =
    let leaves = data_leaves row are in
    let utf8 = is_utf8-from_IsUtf8 _ (line_utf8 (data_json row) leaves) in
    let same : (length (map datum_json row) == length columns) ≡ true = eq-eqb _ _ (same_size columns row fits) in
    rw (utf8, line_read (data_json row) leaves, values_are row, same, data_back 0 columns row fits are) refl

-- ---- pieces

-- data behind others
later_text : (c : ℕ) (line : List ℕ) (row : List Datum)
    → fold with_datum (c ∷ line) row ++ closing (fold with_datum (c ∷ line) row) ≡ (c ∷ line) ++ (items_text true (data_json row) ++ 10 ∷ [])
later_text c line [] = refl
later_text c line (d ∷ row) =
    let text = datum_text d in
    let rest = items_text true (data_json row) in
    later_text c (line ++ (44 ∷ text)) row
    ∙ ap (λ l. c ∷ l) (append_assoc line (44 ∷ text) (rest ++ 10 ∷ []) ∙ ap (λ l. line ++ (44 ∷ l)) (sym (append_assoc text rest (10 ∷ []))))

-- data that were put on a line one after another
pub line_of_pieces : (row : List Datum) → line_by_data row ≡ row_line row
unfolding row_line
line_of_pieces [] = refl
line_of_pieces (d ∷ row) =
    later_text 91 (datum_text d) row
    ∙ ap (λ l. 91 ∷ l) (sym (append_assoc (datum_text d) (items_text true (data_json row)) (10 ∷ [])))
