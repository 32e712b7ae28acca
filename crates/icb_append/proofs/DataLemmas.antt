-- A data file that was sealed, beside its definition.
use Rattle.std.proofs.Common.{◌≡◌, ℕ, true, false, List, length, Some, Result, Ok, Err, IfOk, subst}
use Rattle.std.specs.Prelude.{◌*◌, ◌^◌, nat_le}
use Rattle.std.specs.List.{AllByRecursion}
use Rattle.icb_base.specs.Paths.{is_object_path}
use Rattle.icb_seal.specs.Keys.{FileKeyValue}
use Rattle.icb_stream.specs.Sealing.{IsStreamOf, stream_bytes}
use Rattle.icb_types.specs.Fits.{FitsColumns}
use Rattle.icb_types.specs.declared.columns.Column.{Column}
use Rattle.icb_types.specs.declared.datum.Datum.{Datum}
use Rattle.icb_rows.specs.Data.{blocks_of, data_file}
use Rattle.icb_rows.specs.Rows.{HoldsRows, IsHeaded, IsRowOf, are_within}
use Rattle.icb_append.specs.Data.{IsDataObject, is_cut}
use Rattle.icb_append.specs.declared.sealing.SealedData.{SealedData}
use Rattle.icb_append.specs.declared.settings.Settings.{Settings}

-- what the sealing of a plaintext gives
pub record IsSealing (block : ℕ) (path plain : List ℕ) (key : FileKeyValue) (sealed : SealedData) : Type 0 where
  pub bytes : stream_bytes key.key path key.seed block plain ≡ Some sealed.object
  pub own : sealed.meta ≡ record {
    key = key.key;
    prefix = Some path;
    length_told = Some (length sealed.object);
  }
  pub stream : IsStreamOf sealed.meta plain block sealed.object
  pub is_path : is_object_path path ≡ true

-- the sealing of a data file of rows is its object
pub is_data_object : (s : Settings) (columns : List Column) (rows : List (List Datum)) (path marker plain : List ℕ) (key : FileKeyValue) (sealed : SealedData) → plain ≡ data_file columns rows s.avro marker
    → (IsHeaded columns rows marker → HoldsRows columns rows plain) → (AllByRecursion (FitsColumns columns) rows → AllByRecursion (IsRowOf columns) rows) → IsSealing s.block path plain key sealed
    → IsDataObject s columns rows path marker key sealed.object sealed.meta
is_data_object s columns rows path marker plain key sealed same holds are is = record {
  bytes = subst (λ (p : List ℕ). stream_bytes key.key path key.seed s.block p ≡ Some sealed.object) same is.bytes;
  own = is.own;
  stream = subst (λ (p : List ℕ). IsStreamOf sealed.meta p s.block sealed.object) same is.stream;
  is_path = is.is_path;
  holds = subst (λ (p : List ℕ). IsHeaded columns rows marker → HoldsRows columns rows p) same holds;
  are_rows = are;
}

-- so it is where a call gave one
pub sealed_objects : {E : Type 0} (result : Result SealedData E) (s : Settings) (columns : List Column) (rows : List (List Datum)) (path marker plain : List ℕ) (key : FileKeyValue)
    → plain ≡ data_file columns rows s.avro marker → (IsHeaded columns rows marker → HoldsRows columns rows plain)
    → (AllByRecursion (FitsColumns columns) rows → AllByRecursion (IsRowOf columns) rows)
    → IfOk result (λ sealed. stream_bytes key.key path key.seed s.block plain ≡ Some sealed.object)
    → IfOk result (λ sealed. sealed.meta ≡ record { key = key.key; prefix = Some path; length_told = Some (length sealed.object) })
    → IfOk result (λ sealed. IsStreamOf sealed.meta plain s.block sealed.object) → IfOk result (λ _. is_object_path path ≡ true)
    → IfOk result (λ sealed. IsDataObject s columns rows path marker key sealed.object sealed.meta)
sealed_objects (Err e) s columns rows path marker plain key same holds are bytes own stream is_path = tt
sealed_objects (Ok sealed) s columns rows path marker plain key same holds are bytes own stream is_path =
    is_data_object s columns rows path marker plain key sealed same holds are (record { bytes = bytes; own = own; stream = stream; is_path = is_path })

-- rows that pass both tests may be one file
pub is_one_file : {E : Type 0} (result : Result SealedData E) (s : Settings) (columns : List Column) (rows : List (List Datum)) (marker plain : List ℕ) → plain ≡ data_file columns rows s.avro marker
    → are_within (blocks_of s.avro columns rows) ≡ true → IfOk result (λ _. nat_le (length plain) (s.block * 2 ^ 31) ≡ true) → IfOk result (λ _. is_cut s columns rows marker ≡ true)
is_one_file (Err e) s columns rows marker plain same within few = tt
is_one_file (Ok sealed) s columns rows marker plain same within few = rw within (subst (λ (p : List ℕ). nat_le (length p) (s.block * 2 ^ 31) ≡ true) same few)

-- rows that fail the second test may not
pub is_no_file : (s : Settings) (columns : List Column) (rows : List (List Datum)) (marker plain : List ℕ) → plain ≡ data_file columns rows s.avro marker → are_within (blocks_of s.avro columns rows) ≡ true
    → nat_le (length plain) (s.block * 2 ^ 31) ≡ false → is_cut s columns rows marker ≡ false
is_no_file s columns rows marker plain same within many = rw within (subst (λ (p : List ℕ). nat_le (length p) (s.block * 2 ^ 31) ≡ false) same many)
