-- How data of one column stand to one another: numbers as numbers, false below true, identifiers,
-- texts and other bytes by their bytes, unsigned (Apache Iceberg Table Spec, "Scan Planning", and
-- "Appendix D: Single-value serialization" for the bytes).
use Rattle.std.specs.Prelude.{ℕ, ℤ, pos, List, [], Bool, true, false}
use Rattle.std.specs.declared.cmp.Ordering.{Ordering}
use Rattle.std.specs.Ordering.{ordering_then, nat_cmp, int_cmp, is_lt, is_gt}
use Rattle.std.specs.Cmp.Lexicographic.{slice_cmp}
use Rattle.icb_types.specs.declared.datum.Datum.{Datum}
use Rattle.icb_types.specs.declared.datum.Datum.TheVariants as datum

-- a datum is null
abbrev pub is_null : Datum → Bool
is_null datum.Null = true
is_null d = false

-- the number that a datum is; 0 for other data
abbrev pub number_of : Datum → ℤ
number_of datum.Null = pos 0
number_of (datum.Boolean false) = pos 0
number_of (datum.Boolean true) = pos 1
number_of (datum.Int n) = n
number_of (datum.Long n) = n
number_of (datum.Date days) = days
number_of (datum.Time time) = time
number_of (datum.Timestamp time) = time
number_of (datum.TimestampTz time) = time
number_of (datum.Text text) = pos 0
number_of (datum.Uuid id) = pos 0
number_of (datum.Fixed bytes) = pos 0
number_of (datum.Binary bytes) = pos 0

-- the number that the 16 bytes of an identifier are, high byte first; 0 for other data
abbrev pub id_of : Datum → ℕ
id_of (datum.Uuid id) = id
id_of d = 0

-- the bytes that a datum is; none for other data
abbrev pub bytes_of : Datum → List ℕ
bytes_of (datum.Text text) = text
bytes_of (datum.Fixed bytes) = bytes
bytes_of (datum.Binary bytes) = bytes
bytes_of d = []

-- how a datum stands to another one of its column
abbrev pub datum_cmp : Datum → Datum → Ordering
datum_cmp a b = ordering_then (int_cmp (number_of a) (number_of b))
    (ordering_then (nat_cmp (id_of a) (id_of b)) (slice_cmp nat_cmp (bytes_of a) (bytes_of b)))

-- a datum is below another one of its column
abbrev pub below : Datum → Datum → Bool
below a b = is_lt (datum_cmp a b)

-- a datum is above another one of its column
abbrev pub above : Datum → Datum → Bool
above a b = is_gt (datum_cmp a b)
