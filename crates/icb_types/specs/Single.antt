-- Single values (Apache Iceberg Table Spec, "Appendix D: Single-value serialization", binary).
use Rattle.std.specs.Prelude.{ℕ, ℤ, ◌==◌, List, [], ◌∷◌, length, Bool, true, false, not}
use Rattle.std.specs.Prelude.{Option, Some, None, option_map, if◌then◌else◌}
use Rattle.std.specs.Int.{Width, w32, w64, w128, byte_len, cast_unsigned, cast_signed}
use Rattle.std.specs.Int.{to_le_bytes, from_le_bytes, to_be_bytes, from_be_bytes}
use Rattle.std.specs.Str.{is_utf8}
use Rattle.icb_types.specs.declared.columns.ColType.{ColType}
use Rattle.icb_types.specs.declared.columns.ColType.TheVariants as kind
use Rattle.icb_types.specs.declared.datum.Datum.{Datum}
use Rattle.icb_types.specs.declared.datum.Datum.TheVariants as datum

-- a signed number in so many bytes, in two's complement, the low byte first
abbrev pub number_bytes : Width → ℤ → List ℕ
number_bytes w n = to_le_bytes w (cast_unsigned w n)

-- the bytes of a datum that isn't null
abbrev pub single_of : Datum → Option (List ℕ)
single_of datum.Null = None
single_of (datum.Boolean true) = Some (1 ∷ [])
single_of (datum.Boolean false) = Some (0 ∷ [])
single_of (datum.Int n) = Some (number_bytes w32 n)
single_of (datum.Long n) = Some (number_bytes w64 n)
single_of (datum.Date days) = Some (number_bytes w32 days)
single_of (datum.Time time) = Some (number_bytes w64 time)
single_of (datum.Timestamp time) = Some (number_bytes w64 time)
single_of (datum.TimestampTz time) = Some (number_bytes w64 time)
single_of (datum.Text text) = Some text
single_of (datum.Uuid id) = Some (to_be_bytes w128 id)
single_of (datum.Fixed bytes) = Some bytes
single_of (datum.Binary bytes) = Some bytes

-- bytes, where there are so many
abbrev pub sized : ℕ → List ℕ → Option (List ℕ)
sized size bytes = if length bytes == size then Some bytes else None

-- the number that bytes are, where there are as many as it takes
abbrev pub number_in : Width → List ℕ → Option ℤ
number_in w bytes = option_map (λ b. cast_signed w (from_le_bytes w b)) (sized (byte_len w) bytes)

-- one byte is a truth value: 0 is false, and any other is true
abbrev pub boolean_in : List ℕ → Option Bool
boolean_in (b ∷ []) = Some (not (b == 0))
boolean_in bytes = None

-- bytes in UTF-8
abbrev pub text_in : List ℕ → Option (List ℕ)
text_in bytes = if is_utf8 bytes then Some bytes else None

-- the datum of a kind whose single value bytes are
abbrev pub datum_of_single : ColType → List ℕ → Option Datum
datum_of_single kind.Boolean bytes = option_map datum.Boolean (boolean_in bytes)
datum_of_single kind.Int bytes = option_map datum.Int (number_in w32 bytes)
datum_of_single kind.Long bytes = option_map datum.Long (number_in w64 bytes)
datum_of_single kind.Date bytes = option_map datum.Date (number_in w32 bytes)
datum_of_single kind.Time bytes = option_map datum.Time (number_in w64 bytes)
datum_of_single kind.Timestamp bytes = option_map datum.Timestamp (number_in w64 bytes)
datum_of_single kind.TimestampTz bytes = option_map datum.TimestampTz (number_in w64 bytes)
datum_of_single kind.Text bytes = option_map datum.Text (text_in bytes)
datum_of_single kind.Uuid bytes =
    option_map (λ b. datum.Uuid (from_be_bytes w128 b)) (sized 16 bytes)
datum_of_single (kind.Fixed size) bytes = option_map datum.Fixed (sized size bytes)
datum_of_single kind.Binary bytes = Some (datum.Binary bytes)
