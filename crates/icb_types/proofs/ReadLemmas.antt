-- What the code has read, beside the definitions.
use Rattle.std.proofs.Common.{true≢false, ℤ, pos, negsuc, ◌≡◌, ℕ, ◌+◌, ◌<◌, ◌↔◌, Bool, true, false, List, [], ◌∷◌, ◌++◌, length, map, drop, get_or, Option, Some, None, Result, Ok, Err, IsOk, IsUtf8, refl, sym, ap, ◌∙◌, arith, add-one, append_assoc, ◌==◌, eq-eqb}
use Rattle.std.proofs.lemmas.Bool.{ne_eqb}
use Rattle.std.proofs.lemmas.List.{length-map}
use Rattle.std.proofs.Math.Seq.{drop-cons}
use lib.Signed.{le_z, lt_z}
use Rattle.std.proofs.lemmas.Int.{ints}
use Rattle.std.specs.Str.{is_utf8}
use Rattle.std.proofs.lemmas.Str.{is_utf8-from_IsUtf8, IsUtf8-from_is_utf8}
use Rattle.serde_json.specs.Data.{Data}
use Rattle.serde_json.specs.Read as serde
use Rattle.serde_json.specs.Find.{as_array}
use Rattle.serde_json.specs.View.{items_view, view}
use Rattle.serde_json.specs.declared.value.Value.{Value}
use Rattle.uuid.specs.Text.{parsed}
use Rattle.icb_schema.specs.Reading.{json_in}
use Rattle.icb_schema.proofs.JsonLemmas.{list_of_items}
use Rattle.icb_types.specs.Lines.{as_u32, column_datum, data_from, is_time, or_refuse, row_in, same_length}
use Rattle.icb_types.specs.Single.{text_in}
use Rattle.icb_types.specs.Steps.{◌>>=◌}
use Rattle.icb_types.specs.declared.columns.Column.{Column}
use Rattle.icb_types.specs.declared.datum.Datum.{Datum}
use Rattle.icb_types.specs.declared.fault.RowFault.{RowFault}
use Rattle.icb_types.specs.declared.fault.RowFault.TheVariants as fault

-- ---- texts

-- bytes in UTF-8 are a text
pub text_found : (bytes : List ℕ) → IsUtf8 bytes → text_in bytes ≡ Some bytes
text_found bytes u = rw (is_utf8-from_IsUtf8 bytes u) refl

-- other bytes are none
pub no_text : (bytes : List ℕ) → (IsUtf8 bytes → ⊥) → text_in bytes ≡ None
no_text bytes none = by_test (is_utf8 bytes) refl
  where
    by_test : (b : Bool) → is_utf8 bytes ≡ b → text_in bytes ≡ None
    by_test true e = absurd (none (IsUtf8-from_is_utf8 bytes e))
    by_test false e = rw e refl

-- a text in UTF-8 that reads as a value
pub json_found : (line : List ℕ) (d : Data) → IsUtf8 line → serde.read line ≡ Some d → or_refuse fault.NotJson (json_in line) ≡ Ok d
unfolding json_in
json_found line d u e = rw (is_utf8-from_IsUtf8 line u, e) refl

-- a text that reads as none
pub no_json : (line : List ℕ) → (IsUtf8 line → serde.read line ≡ None) → or_refuse fault.NotJson (json_in line) ≡ Err fault.NotJson
unfolding json_in
no_json line none = by_test (is_utf8 line) refl
  where
    by_test : (b : Bool) → is_utf8 line ≡ b → or_refuse fault.NotJson (json_in line) ≡ Err fault.NotJson
    by_test true e = rw (e, none (IsUtf8-from_is_utf8 line e)) refl
    by_test false e = rw e refl

-- ---- times

-- a number that isn't below 0 is a time exactly where it is below the microseconds of a day
pub time_below : (z : ℤ) → le_z (pos 0) z ≡ true → lt_z z (pos 86400000000) ≡ is_time z
time_below (pos n) h = refl
time_below (negsuc n) h = absurd (true≢false (sym h))

-- a number below 0 is none
pub time_negative : (z : ℤ) → le_z (pos 0) z ≡ false → le_z (pos 0) z ≡ is_time z
time_negative (pos n) h = absurd (let never : ⊥ = grind (arith, ints, h) in never)
time_negative (negsuc n) h = refl

-- ---- identifiers

-- a text that isn't parsed is none
pub no_uuid : {E : Type 0} (e : E) (r : Result (List ℕ) E) (text : List ℕ) → r ≡ Err e → (IsOk r ↔ ((id : List ℕ) × (parsed text ≡ Some id))) → parsed text ≡ None
no_uuid e r text refused exact = by_parse (parsed text) refl
  where
    by_parse : (o : Option (List ℕ)) → parsed text ≡ o → parsed text ≡ None
    by_parse (Some id) found = absurd (true≢false (sym (rw refused at (exact.1 (id, found)))))
    by_parse None found = found

-- ---- rows

-- data that were read, behind those before them
abbrev pub behind : List Datum → Result (List Datum) RowFault → Result (List Datum) RowFault
behind done r = r >>= (λ rest. Ok (done ++ rest))

pub behind-nil : (r : Result (List Datum) RowFault) → behind [] r ≡ r
behind-nil (Ok row) = refl
behind-nil (Err e) = refl

behind-twice : (done : List Datum) (d : Datum) (r : Result (List Datum) RowFault) → behind done (r >>= (λ rest. Ok (d ∷ rest))) ≡ behind (done ++ d ∷ []) r
behind-twice done d (Ok row) = ap Ok (sym (append_assoc done (d ∷ []) row))
behind-twice done d (Err e) = refl

-- what is left from a place on begins with what stands there
left_from : {A : Type 0} (xs : List A) (at : ℕ) (x : A) → at < length xs → x ≡ get_or xs at x → drop at xs ≡ x ∷ drop (at + 1) xs
left_from xs at x within here = rw (add-one, drop-cons xs at x, sym here) refl

-- one more datum
pub read_step : (at : ℕ) (columns : List Column) (values : List Value) (done : List Datum) (c : Column) (v : Value) (d : Datum)
    → at < length columns → length values ≡ length columns → c ≡ get_or columns at c → v ≡ get_or values at v → Some d ≡ column_datum c (view v)
    → behind done (data_from at (drop at columns) (map view (drop at values)))
    ≡ behind (done ++ d ∷ []) (data_from (at + 1) (drop (at + 1) columns) (map view (drop (at + 1) values)))
read_step at columns values done c v d within same column value found =
    let inside : at < length values = omega arith in
    rw (left_from columns at c within column, left_from values at v inside value, sym found) (behind-twice done d _)

-- the value at a place is none of its column's
pub read_refused : (at : ℕ) (columns : List Column) (values : List Value) (done : List Datum) (c : Column) (v : Value)
    → at < length columns → length values ≡ length columns → c ≡ get_or columns at c → v ≡ get_or values at v → None ≡ column_datum c (view v)
    → behind done (data_from at (drop at columns) (map view (drop at values))) ≡ Err (fault.BadValue (as_u32 at))
read_refused at columns values done c v within same column value found =
    let inside : at < length values = omega arith in
    rw (left_from columns at c within column, left_from values at v inside value, sym found) refl

-- ---- lines

-- the row of an array of these values
row_in_values : (columns : List Column) (d : Data) (values : List Value) → Some (items_view values) ≡ as_array d
    → row_in columns d ≡ same_length columns (map view values) >>= data_from 0 columns
unfolding row_in
row_in_values columns d values array = rw (sym array, list_of_items values) refl

-- as many values as columns
pub row_in_all : (columns : List Column) (d : Data) (values : List Value) → Some (items_view values) ≡ as_array d
    → length values ≡ length columns → row_in columns d ≡ data_from 0 columns (map view values)
row_in_all columns d values array same =
    let passes : (length (map view values) == length columns) ≡ true = rw (length-map, same) (eq-eqb (length columns) (length columns) refl) in
    row_in_values columns d values array ∙ rw passes refl

-- another number of values
pub row_in_others : (columns : List Column) (d : Data) (values : List Value) → Some (items_view values) ≡ as_array d
    → (length values ≡ length columns → ⊥) → row_in columns d ≡ Err (fault.RowLength (as_u32 (length values)))
row_in_others columns d values array other =
    let fails : (length (map view values) == length columns) ≡ false = rw length-map (ne_eqb _ _ other) in
    row_in_values columns d values array ∙ rw (fails, length-map) refl

-- a value that is no array
pub row_in_none : (columns : List Column) (d : Data) → None ≡ as_array d → row_in columns d ≡ Err fault.NotArray
unfolding row_in
row_in_none columns d array = rw (sym array) refl
