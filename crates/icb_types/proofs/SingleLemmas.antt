-- Single values read back.
use Rattle.std.proofs.Common.{◌≡◌, ◌<◌, ◌^◌, ◌==◌, ℕ, ℤ, pos, negsuc, List, length, true, false, Some, option_map, refl, sym, ap, ◌∙◌, arith, eq-eqb}
use Rattle.std.proofs.lemmas.Bool.{ltb-true}
use Rattle.std.proofs.lemmas.Int.{ints, to_z-of_z}
use Rattle.std.proofs.lemmas.Nat.{from_le_bytes-to_le_bytes_4, from_le_bytes-to_le_bytes_8}
use Rattle.std.proofs.lemmas.Str.{is_utf8-from_IsUtf8}
use Rattle.std.specs.Int.{w32, w64, cast_signed, cast_unsigned}
use mir.Val.{SFits}
use Rattle.uuid.proofs.OrderLemmas.{from_be_bytes-to_be_bytes_16}
use Rattle.icb_schema.specs.Reading.{fits_32}
use Rattle.icb_types.specs.Fits.{IsDatum, fits_64, kind_of}
use Rattle.icb_types.specs.Single.{datum_of_single, number_bytes, number_in, single_of}
use Rattle.icb_types.specs.declared.columns.ColType.{ColType}
use Rattle.icb_types.specs.declared.columns.ColType.TheVariants as kind
use Rattle.icb_types.specs.declared.datum.Datum.{Datum}
use Rattle.icb_types.specs.declared.datum.Datum.TheVariants as datum

-- ---- numbers

signed_32 : (n : ℤ) → fits_32 n ≡ true → SFits w32 n
signed_32 (pos n) h = let small = ltb-true n 2147483648 h in omega (arith, ints)
signed_32 (negsuc n) h = let small = ltb-true n 2147483648 h in omega (arith, ints)

signed_64 : (n : ℤ) → fits_64 n ≡ true → SFits w64 n
signed_64 (pos n) h = let small = ltb-true n 9223372036854775808 h in omega (arith, ints)
signed_64 (negsuc n) h = let small = ltb-true n 9223372036854775808 h in omega (arith, ints)

number_32 : (n : ℤ) → fits_32 n ≡ true → number_in w32 (number_bytes w32 n) ≡ Some n
number_32 n h =
    let fits : SFits w32 n = signed_32 n h in
    let small : cast_unsigned w32 n < 2 ^ 32 = omega (arith, ints) in
    ap (λ m. Some (cast_signed w32 m)) (from_le_bytes-to_le_bytes_4 (cast_unsigned w32 n) small) ∙ rw to_z-of_z refl

number_64 : (n : ℤ) → fits_64 n ≡ true → number_in w64 (number_bytes w64 n) ≡ Some n
number_64 n h =
    let fits : SFits w64 n = signed_64 n h in
    let small : cast_unsigned w64 n < 2 ^ 64 = omega (arith, ints) in
    ap (λ m. Some (cast_signed w64 m)) (from_le_bytes-to_le_bytes_8 (cast_unsigned w64 n) small) ∙ rw to_z-of_z refl

-- ---- data

-- equal values that are there
same_there : {A : Type 0} (x y : A) → Some x ≡ Some y → x ≡ y
same_there x y h = cc

-- the datum of its own kind and bytes
own_back : (d : Datum) (k : ColType) (bytes : List ℕ) → kind_of d ≡ Some k → single_of d ≡ Some bytes → IsDatum d
    → (own : ColType) → kind_of d ≡ Some own → (single : List ℕ) → single_of d ≡ Some single
    → datum_of_single own single ≡ Some d → datum_of_single k bytes ≡ Some d
own_back d k bytes kinds singles is own own_kind single own_single back =
    rw (sym (same_there own k (sym own_kind ∙ kinds)), sym (same_there single bytes (sym own_single ∙ singles))) back

pub single_back : (k : ColType) (d : Datum) (bytes : List ℕ) → kind_of d ≡ Some k → IsDatum d → single_of d ≡ Some bytes → datum_of_single k bytes ≡ Some d
single_back k datum.Null bytes kinds is singles = absurd (let never : ⊥ = cc in never)
single_back k (datum.Boolean true) bytes kinds is singles = own_back _ k bytes kinds singles is kind.Boolean refl _ refl refl
single_back k (datum.Boolean false) bytes kinds is singles = own_back _ k bytes kinds singles is kind.Boolean refl _ refl refl
single_back k (datum.Int n) bytes kinds is singles = own_back _ k bytes kinds singles is kind.Int refl _ refl (ap (option_map datum.Int) (number_32 n is))
single_back k (datum.Long n) bytes kinds is singles = own_back _ k bytes kinds singles is kind.Long refl _ refl (ap (option_map datum.Long) (number_64 n is))
single_back k (datum.Date n) bytes kinds is singles = own_back _ k bytes kinds singles is kind.Date refl _ refl (ap (option_map datum.Date) (number_32 n is))
single_back k (datum.Time n) bytes kinds is singles = own_back _ k bytes kinds singles is kind.Time refl _ refl (ap (option_map datum.Time) (number_64 n is))
single_back k (datum.Timestamp n) bytes kinds is singles = own_back _ k bytes kinds singles is kind.Timestamp refl _ refl (ap (option_map datum.Timestamp) (number_64 n is))
single_back k (datum.TimestampTz n) bytes kinds is singles = own_back _ k bytes kinds singles is kind.TimestampTz refl _ refl (ap (option_map datum.TimestampTz) (number_64 n is))
single_back k (datum.Text text) bytes kinds is singles = own_back _ k bytes kinds singles is kind.Text refl _ refl (rw (is_utf8-from_IsUtf8 text is) refl)
single_back k (datum.Uuid id) bytes kinds is singles = own_back _ k bytes kinds singles is kind.Uuid refl _ refl (ap (λ n. Some (datum.Uuid n)) (from_be_bytes-to_be_bytes_16 id is))
single_back k (datum.Fixed b) bytes kinds is singles =
    own_back _ k bytes kinds singles is (kind.Fixed (length b)) refl _ refl (let size : (length b == length b) ≡ true = eq-eqb (length b) (length b) refl in rw size refl)
single_back k (datum.Binary b) bytes kinds is singles = own_back _ k bytes kinds singles is kind.Binary refl _ refl refl
