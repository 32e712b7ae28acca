-- Maps whose keys are whole numbers: arrays of records of a key and a value (Apache Iceberg Table
-- Spec, "Appendix A: Format-specific Requirements", Avro).
use Rattle.std.specs.Prelude.{ℤ, pos, List, [], ◌∷◌, ℕ, Bool, ◌&&◌, if◌then◌else◌}
use Rattle.std.specs.Prelude.{Option, Some, None, Result, Ok, Err}
use Rattle.icb_schema.specs.Tree.{Tree, Form, root_form}
use Rattle.icb_avro.specs.declared.value.Value.{Value, out-Value}
use Rattle.icb_fields.specs.Fields.{Row, ◌>>=◌, is_bytes, is_int, is_long, list_at, needed_bytes}
use Rattle.icb_fields.specs.Fields.{needed_int, needed_long, record_of, type_at}
use Rattle.icb_manifest.specs.declared.maps.MapIds.{MapIds}
use Rattle.icb_manifest.specs.declared.maps.Maps.{Maps}

-- the ids of a map, of its keys and of its values
abbrev pub map_ids : ℤ → ℤ → ℤ → MapIds
map_ids id key value = record { id = id; key = key; value = value }

-- what is there; else the id of the map
abbrev pub or_map : {A : Type 0} → MapIds → Result A ℤ → Result A ℤ
or_map ids (Ok x) = Ok x
or_map ids (Err id) = Err ids.id

-- a key and its number
unfoldable pub long_pair : MapIds → Row → Result (ℤ × ℤ) ℤ
long_pair ids r = or_map ids (needed_int ids.key r >>= (λ key.
    needed_long ids.value r >>= (λ value. Ok (key, value))))

-- a key and its bytes
unfoldable pub bytes_pair : MapIds → Row → Result (ℤ × List ℕ) ℤ
bytes_pair ids r = or_map ids (needed_int ids.key r >>= (λ key.
    needed_bytes ids.value r >>= (λ value. Ok (key, value))))

-- what items of this type are, in order
abbrev pub all_pairs : {A : Type 0} → (Row → Result A ℤ) → Form → List Value → Result (List A) ℤ
all_pairs pair form [] = Ok []
all_pairs pair form (v ∷ vs) = pair (record_of form (out-Value v)) >>= (λ first.
    all_pairs pair form vs >>= (λ rest. Ok (first ∷ rest)))

-- the items of a map, where its keys and its values have their types
abbrev pub pairs_of : {A : Type 0} → MapIds → Bool → (Row → Result A ℤ) → Form → List Value
    → Result (List A) ℤ
pairs_of ids typed pair form vs = if typed then all_pairs pair form vs else Err ids.id

-- the keys are whole numbers of 32 bits, and the values of 64
abbrev pub has_longs : MapIds → Form → Bool
has_longs ids form = is_int (type_at ids.key form) && is_long (type_at ids.value form)

-- the keys are whole numbers of 32 bits, and the values bytes
abbrev pub has_bytes : MapIds → Form → Bool
has_bytes ids form = is_int (type_at ids.key form) && is_bytes (type_at ids.value form)

-- whole numbers of 32 bits to those of 64
abbrev pub longs_in : MapIds → Option (Tree × List Value) → Result (List (ℤ × ℤ)) ℤ
longs_in ids None = Ok []
longs_in ids (Some x) =
    pairs_of ids (has_longs ids (root_form x.0)) (long_pair ids) (root_form x.0) x.1

-- whole numbers of 32 bits to bytes
abbrev pub bytes_in : MapIds → Option (Tree × List Value) → Result (List (ℤ × List ℕ)) ℤ
bytes_in ids None = Ok []
bytes_in ids (Some x) =
    pairs_of ids (has_bytes ids (root_form x.0)) (bytes_pair ids) (root_form x.0) x.1

-- the map of numbers with these ids, empty where it isn't there or is null
unfoldable pub longs_at : MapIds → Row → Result (List (ℤ × ℤ)) ℤ
longs_at ids r = list_at ids.id r >>= longs_in ids

-- the map of bytes with these ids, empty where it isn't there or is null
unfoldable pub bytes_at : MapIds → Row → Result (List (ℤ × List ℕ)) ℤ
bytes_at ids r = list_at ids.id r >>= bytes_in ids

-- the counts and bounds of a file's columns
unfoldable pub maps_of : Row → Result Maps ℤ
maps_of r =
    longs_at (map_ids (pos 109) (pos 119) (pos 120)) r >>= (λ values.
    longs_at (map_ids (pos 110) (pos 121) (pos 122)) r >>= (λ nulls.
    bytes_at (map_ids (pos 125) (pos 126) (pos 127)) r >>= (λ lower.
    bytes_at (map_ids (pos 128) (pos 129) (pos 130)) r >>= (λ upper.
    Ok (record { values = values; nulls = nulls; lower = lower; upper = upper })))))
