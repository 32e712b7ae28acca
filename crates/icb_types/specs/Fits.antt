-- Which data fit a column, and which rows fit the columns of a schema.
use Rattle.std.specs.Prelude.{◌≡◌, ◌<◌, ◌^◌, ℤ, pos, negsuc, List, [], ◌∷◌, length}
use Rattle.std.specs.Prelude.{Bool, true, false, nat_lt, Option, Some, None, MatchOption}
use Rattle.std.specs.Str.{IsUtf8}
use Rattle.hex.specs.Hex.{IsBytes}
use Rattle.icb_schema.specs.Reading.{fits_32}
use Rattle.icb_types.specs.declared.columns.ColType.{ColType}
use Rattle.icb_types.specs.declared.columns.ColType.TheVariants as kind
use Rattle.icb_types.specs.declared.columns.Column.{Column}
use Rattle.icb_types.specs.declared.datum.Datum.{Datum}
use Rattle.icb_types.specs.declared.datum.Datum.TheVariants as datum
use Rattle.icb_types.specs.Lines.{is_time}

-- the kind of a datum that isn't null
abbrev pub kind_of : Datum → Option ColType
kind_of datum.Null = None
kind_of (datum.Boolean b) = Some kind.Boolean
kind_of (datum.Int n) = Some kind.Int
kind_of (datum.Long n) = Some kind.Long
kind_of (datum.Date days) = Some kind.Date
kind_of (datum.Time time) = Some kind.Time
kind_of (datum.Timestamp time) = Some kind.Timestamp
kind_of (datum.TimestampTz time) = Some kind.TimestampTz
kind_of (datum.Text text) = Some kind.Text
kind_of (datum.Uuid id) = Some kind.Uuid
kind_of (datum.Fixed bytes) = Some (kind.Fixed (length bytes))
kind_of (datum.Binary bytes) = Some kind.Binary

-- a datum of the column's kind, or null where the column isn't required
abbrev pub FitsColumn : Column → Datum → Type 0
FitsColumn c d = MatchOption (kind_of d) (c.required ≡ false) (λ k. c.kind ≡ k)

-- one datum for each column, which fits it
abbrev pub FitsColumns : List Column → List Datum → Type 0
FitsColumns [] [] = Unit {0}
FitsColumns [] (d ∷ row) = ⊥
FitsColumns (c ∷ columns) [] = ⊥
FitsColumns (c ∷ columns) (d ∷ row) = FitsColumn c d × FitsColumns columns row

-- a whole number of 64 bits
abbrev pub fits_64 : ℤ → Bool
fits_64 (pos n) = nat_lt n (2 ^ 63)
fits_64 (negsuc n) = nat_lt n (2 ^ 63)

-- The values that a datum of the code has: numbers of its width, bytes, and texts in UTF-8.
abbrev pub IsDatum : Datum → Type 0
IsDatum datum.Null = Unit {0}
IsDatum (datum.Boolean b) = Unit {0}
IsDatum (datum.Int n) = fits_32 n ≡ true
IsDatum (datum.Long n) = fits_64 n ≡ true
IsDatum (datum.Date days) = fits_32 days ≡ true
IsDatum (datum.Time time) = fits_64 time ≡ true
IsDatum (datum.Timestamp time) = fits_64 time ≡ true
IsDatum (datum.TimestampTz time) = fits_64 time ≡ true
IsDatum (datum.Text text) = IsUtf8 text
IsDatum (datum.Uuid id) = id < 2 ^ 128
IsDatum (datum.Fixed bytes) = IsBytes bytes
IsDatum (datum.Binary bytes) = IsBytes bytes

-- a datum that a line may show: a time is one of a day
abbrev pub IsShown : Datum → Type 0
IsShown (datum.Time time) = is_time time ≡ true
IsShown d = IsDatum d

-- data that a line may show
abbrev pub AreShown : List Datum → Type 0
AreShown [] = Unit {0}
AreShown (d ∷ row) = IsShown d × AreShown row
