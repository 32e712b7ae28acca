-- A row that a line shows fits its columns.
use Rattle.std.proofs.Common.{◌≡◌, ℕ, ◌+◌, ◌==◌, Bool, true, false, List, [], ◌∷◌, length, Option, Some, None, Result, Ok, Err, refl, sym, ap, subst, ◌∙◌, arith, eqb-true}
use Rattle.std.specs.Prelude.{is_some, option_map, option_and_then, if◌then◌else◌}
use Rattle.serde_json.specs.Data.{Data}
use Rattle.serde_json.specs.Find.{as_bool, as_null, as_str}
use Rattle.icb_schema.specs.Reading.{as_list, json_in}
use Rattle.icb_types.specs.Fits.{FitsColumn, FitsColumns, kind_of}
use Rattle.icb_types.specs.Laws.{LinesFitTheirColumns}
use Rattle.icb_types.specs.Lines.{as_u32, bytes_in, column_datum, data_from, datum_at, datum_in, int_in, long_in, or_refuse, row_in, row_of, same_length, time_in, uuid_in}
use Rattle.icb_types.specs.Single.{sized}
use Rattle.icb_types.specs.Steps.{◌>>=◌}
use Rattle.icb_types.specs.declared.columns.ColType.{ColType}
use Rattle.icb_types.specs.declared.columns.ColType.TheVariants as kind
use Rattle.icb_types.specs.declared.columns.Column.{Column}
use Rattle.icb_types.specs.declared.datum.Datum.{Datum}
use Rattle.icb_types.specs.declared.datum.Datum.TheVariants as datum
use Rattle.icb_types.specs.declared.fault.RowFault.{RowFault}
use Rattle.icb_types.specs.declared.fault.RowFault.TheVariants as fault

the_one : {A : Type 0} (x y : A) → Some x ≡ Some y → x ≡ y
the_one x y e = cc

-- a datum that is made of what was found
mapped : {A : Type 0} (f : A → Datum) (o : Option A) (d : Datum) → option_map f o ≡ Some d → (a : A) × (o ≡ Some a) × (d ≡ f a)
mapped f None d e = absurd (let never : ⊥ = cc in never)
mapped f (Some a) d e = (a, refl, sym (the_one (f a) d e))

sized_length : (size : ℕ) (o : Option (List ℕ)) (bytes : List ℕ) → option_and_then (sized size) o ≡ Some bytes → length bytes ≡ size
sized_length size None bytes e = absurd (let never : ⊥ = cc in never)
sized_length size (Some found) bytes e = by_test (length found == size) refl e
  where
    by_test : (b : Bool) → (length found == size) ≡ b → (if b then Some found else None) ≡ Some bytes → length bytes ≡ size
    by_test true f g = sym (ap length (the_one found bytes g)) ∙ eqb-true (length found) size f
    by_test false f g = absurd (let never : ⊥ = cc in never)

-- a datum that a JSON value is has the kind
datum_fits : (k : ColType) (value : Data) (d : Datum) → datum_in k value ≡ Some d → kind_of d ≡ Some k
datum_fits kind.Boolean value d e = ap kind_of (mapped datum.Boolean (as_bool value) d e).2
datum_fits kind.Int value d e = ap kind_of (mapped datum.Int (int_in value) d e).2
datum_fits kind.Long value d e = ap kind_of (mapped datum.Long (long_in value) d e).2
datum_fits kind.Date value d e = ap kind_of (mapped datum.Date (int_in value) d e).2
datum_fits kind.Time value d e = ap kind_of (mapped datum.Time (time_in value) d e).2
datum_fits kind.Timestamp value d e = ap kind_of (mapped datum.Timestamp (long_in value) d e).2
datum_fits kind.TimestampTz value d e = ap kind_of (mapped datum.TimestampTz (long_in value) d e).2
datum_fits kind.Text value d e = ap kind_of (mapped datum.Text (as_str value) d e).2
datum_fits kind.Uuid value d e = ap kind_of (mapped datum.Uuid (uuid_in value) d e).2
datum_fits (kind.Fixed size) value d e =
    let found = mapped datum.Fixed (option_and_then (sized size) (bytes_in value)) d e in
    ap kind_of found.2 ∙ ap (λ (n : ℕ). Some (kind.Fixed n)) (sized_length size (bytes_in value) found.0 found.1)
datum_fits kind.Binary value d e = ap kind_of (mapped datum.Binary (bytes_in value) d e).2

of_kind : (c : Column) (d : Datum) → kind_of d ≡ Some c.kind → FitsColumn c d
of_kind c d e = rw e refl

-- a datum of a column fits it
datum_fits_column : (c : Column) (value : Data) (d : Datum) → column_datum c value ≡ Some d → FitsColumn c d
datum_fits_column c value d e = by_null (is_some (as_null value)) e
  where
    by_required : (b : Bool) → c.required ≡ b → (if b then None else Some datum.Null) ≡ Some d → FitsColumn c d
    by_required true r f = absurd (let never : ⊥ = cc in never)
    by_required false r f = subst (FitsColumn c) (the_one datum.Null d f) r

    by_null : (b : Bool) → (if b then (if c.required then None else Some datum.Null) else datum_in c.kind value) ≡ Some d → FitsColumn c d
    by_null true f = by_required c.required refl f
    by_null false f = of_kind c d (datum_fits c.kind value d f)

the_row : (x y : List Datum) → ◌≡◌ {A = Result (List Datum) RowFault} (Ok x) (Ok y) → x ≡ y
the_row x y e = cc

no_error : (e : RowFault) (y : List Datum) → ◌≡◌ {A = Result (List Datum) RowFault} (Err e) (Ok y) → ⊥
no_error e y h = cc

-- the data of columns fit them
data_fit : (columns : List Column) (at : ℕ) (values : List Data) (row : List Datum) → length values ≡ length columns → data_from at columns values ≡ Ok row → FitsColumns columns row
data_fit [] at values row n e = subst (FitsColumns []) (the_row [] row e) tt
data_fit (c ∷ columns) at [] row n e = absurd (let never : ⊥ = omega (arith, n) in never)
data_fit (c ∷ columns) at (value ∷ values) row n e = by_first (λ rest f. data_fit columns (at + 1) values rest (omega (arith, n)) f) (column_datum c value) refl e
  where
    by_rest : ((rest : List Datum) → data_from (at + 1) columns values ≡ Ok rest → FitsColumns columns rest) → (d : Datum) → FitsColumn c d → (r : Result (List Datum) RowFault) → data_from (at + 1) columns values ≡ r
        → (r >>= (λ rest. Ok (d ∷ rest))) ≡ Ok row → FitsColumns (c ∷ columns) row
    by_rest more d fits (Ok rest) f g = subst (FitsColumns (c ∷ columns)) (the_row (d ∷ rest) row g) (fits, more rest f)
    by_rest more d fits (Err x) f g = absurd (no_error x row g)

    by_first : ((rest : List Datum) → data_from (at + 1) columns values ≡ Ok rest → FitsColumns columns rest) → (o : Option Datum) → column_datum c value ≡ o
        → (datum_at at o >>= (λ first. data_from (at + 1) columns values >>= (λ rest. Ok (first ∷ rest)))) ≡ Ok row → FitsColumns (c ∷ columns) row
    by_first more None f g = absurd (no_error (fault.BadValue (as_u32 at)) row g)
    by_first more (Some d) f g = by_rest more d (datum_fits_column c value d f) (data_from (at + 1) columns values) refl g

same_fit : (columns : List Column) (values : List Data) (row : List Datum) → (same_length columns values >>= data_from 0 columns) ≡ Ok row → FitsColumns columns row
same_fit columns values row e = by_test (length values == length columns) refl e
  where
    by_test : (b : Bool) → (length values == length columns) ≡ b → ((if b then Ok values else Err (fault.RowLength (as_u32 (length values)))) >>= data_from 0 columns) ≡ Ok row → FitsColumns columns row
    by_test true f g = data_fit columns 0 values row (eqb-true (length values) (length columns) f) g
    by_test false f g = absurd (no_error (fault.RowLength (as_u32 (length values))) row g)

value_fits : (columns : List Column) (value : Data) (row : List Datum) → row_in columns value ≡ Ok row → FitsColumns columns row
unfolding row_in
value_fits columns value row e = by_list (as_list value) e
  where
    by_list : (o : Option (List Data)) → (or_refuse fault.NotArray o >>= (λ values. same_length columns values >>= data_from 0 columns)) ≡ Ok row → FitsColumns columns row
    by_list None f = absurd (no_error fault.NotArray row f)
    by_list (Some values) f = same_fit columns values row f

pub lines_fit : LinesFitTheirColumns
unfolding row_of
lines_fit columns line row e = by_json (json_in line) e
  where
    by_json : (o : Option Data) → (or_refuse fault.NotJson o >>= row_in columns) ≡ Ok row → FitsColumns columns row
    by_json None f = absurd (no_error fault.NotJson row f)
    by_json (Some value) f = value_fits columns value row f
