-- Ranges of a column's data, and what bounds say of them (Apache Iceberg Table Spec, "Scan
-- Planning"; a range's form is ours).
use Rattle.std.specs.Prelude.{◌≡◌, ℕ, List, [], ◌∷◌, Bool, true, false, not, ◌&&◌, ◌||◌, bytes_eq}
use Rattle.std.specs.Prelude.{Option, Some, None, option_map, option_and_then}
use Rattle.std.specs.Prelude.{Result, Ok, Err, if◌then◌else◌}
use Rattle.icb_types.specs.declared.columns.ColType.{ColType}
use Rattle.icb_types.specs.declared.columns.ColType.TheVariants as kind
use Rattle.icb_types.specs.declared.columns.Column.{Column}
use Rattle.icb_types.specs.declared.datum.Datum.{Datum}
use Rattle.icb_types.specs.Lines.{datum_of_text}
use Rattle.icb_types.specs.Single.{datum_of_single}
use Rattle.icb_types.specs.Steps.{◌>>=◌}
use Rattle.icb_rows.specs.declared.range.Range.{Range}
use Rattle.icb_rows.specs.declared.fault.RangeFault.{RangeFault}
use Rattle.icb_rows.specs.declared.fault.RangeFault.TheVariants as fault
use Rattle.icb_rows.specs.Order.{above, below, is_null}

-- ---- a range of words

-- the first column of this name
abbrev pub column_named : List ℕ → List Column → Option Column
column_named name [] = None
column_named name (c ∷ columns) =
    if bytes_eq c.name name then Some c else column_named name columns

-- what is there, or this refusal
abbrev pub or_refuse : {A E : Type 0} → E → Option A → Result A E
or_refuse e None = Err e
or_refuse e (Some a) = Ok a

-- An end of a range of the column of this name: a JSON value as a row line has for that column,
-- other than null; or no end.
abbrev pub end_of : List ℕ → ColType → Option (List ℕ) → Result (Option Datum) RangeFault
end_of name k None = Ok None
end_of name k (Some text) =
    or_refuse (fault.BadRange name) (option_map Some (datum_of_text k text))

-- the range of the column of this name with these ends, or the first refusal
abbrev pub range_of : List Column → List ℕ → Option (List ℕ) → Option (List ℕ)
    → Result Range RangeFault
range_of columns name low high = or_refuse (fault.NoColumn name) (column_named name columns)
    >>= (λ c. end_of name c.kind low
    >>= (λ l. end_of name c.kind high
    >>= (λ h. Ok (record { kind = c.kind; low = l; high = h }))))

-- a call gave this value or this refusal, or memory was wanting
abbrev pub GivesRange : {A : Type 0} → Result A RangeFault → Result A RangeFault → Type 0
GivesRange (Ok a) r = r ≡ Ok a
GivesRange (Err (fault.NoColumn name)) r = r ≡ Err (fault.NoColumn name)
GivesRange (Err (fault.BadRange name)) r = r ≡ Err (fault.BadRange name)
GivesRange (Err fault.NoMemory) r = Unit {0}

-- ---- which data it holds

-- a datum is below the low end
abbrev pub is_below : Option Datum → Datum → Bool
is_below None d = false
is_below (Some low) d = below d low

-- a datum is above the high end
abbrev pub is_above : Option Datum → Datum → Bool
is_above None d = false
is_above (Some high) d = above d high

-- a datum is not null, and from the low end to the high end, both included; an absent end is open
abbrev pub holds : Range → Datum → Bool
holds range d = not (is_null d) && (not (is_below range.low d) && not (is_above range.high d))

-- ---- what bounds say

-- the kind of identifiers
abbrev pub is_uuid : ColType → Bool
is_uuid kind.Uuid = true
is_uuid k = false

-- a datum is there, and stands so
abbrev pub is_there_and : (Datum → Bool) → Option Datum → Bool
is_there_and stands None = false
is_there_and stands (Some d) = stands d

-- bytes are there, and are the single value of a datum of the kind that stands so
abbrev pub is_single : ColType → (Datum → Bool) → Option (List ℕ) → Bool
is_single k stands bytes = is_there_and stands (option_and_then (datum_of_single k) bytes)

-- A file with these bounds may hold a datum of the range: it is not so exactly where the column
-- isn't one of identifiers, and the lower bound is above the high end or the upper one below the
-- low end. Identifiers are passed over, since writers have ordered them in two ways.
abbrev pub may_hold : Range → Option (List ℕ) → Option (List ℕ) → Bool
may_hold range lower upper = is_uuid range.kind
    || not (is_single range.kind (is_above range.high) lower
    || is_single range.kind (is_below range.low) upper)
