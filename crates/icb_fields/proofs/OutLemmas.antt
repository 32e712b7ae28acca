-- What a value that is made of a level holds.
use Rattle.std.proofs.Common.{◌≡◌, ℕ, ℤ, List, Some, None, Option, option_map, refl, sym, ap, ◌∙◌}
use Rattle.icb_avro.specs.declared.value.Value.{Value, out-Value, out-roll-Value}
use Rattle.icb_avro.specs.declared.value.Value.TheOpen.{Value-F}
use Rattle.icb_avro.specs.declared.value.Value.TheVariants as value
use Rattle.icb_fields.specs.Fields.{bytes_in, in_branch, long_in}
use Rattle.icb_fields.specs.Making.{optional}

pub out_null : out-Value value.Null ≡ Value-F.Null
out_null = ap out-Value (sym value.rolls-Null) ∙ out-roll-Value Value-F.Null

pub out_int : (n : ℤ) → out-Value (value.Int n) ≡ Value-F.Int n
out_int n = ap out-Value (sym (value.rolls-Int n)) ∙ out-roll-Value (Value-F.Int n)

pub out_long : (n : ℤ) → out-Value (value.Long n) ≡ Value-F.Long n
out_long n = ap out-Value (sym (value.rolls-Long n)) ∙ out-roll-Value (Value-F.Long n)

pub out_bytes : (content : List ℕ) → out-Value (value.Bytes content) ≡ Value-F.Bytes content
out_bytes content = ap out-Value (sym (value.rolls-Bytes content)) ∙ out-roll-Value (Value-F.Bytes content)

pub out_text : (content : List ℕ) → out-Value (value.Text content) ≡ Value-F.Text content
out_text content = ap out-Value (sym (value.rolls-Text content)) ∙ out-roll-Value (Value-F.Text content)

pub out_record : (vs : List Value) → out-Value (value.Record vs) ≡ Value-F.Record vs
out_record vs = ap out-Value (sym (value.rolls-Record vs)) ∙ out-roll-Value (Value-F.Record vs)

pub out_array : (vs : List Value) → out-Value (value.Array vs) ≡ Value-F.Array vs
out_array vs = ap out-Value (sym (value.rolls-Array vs)) ∙ out-roll-Value (Value-F.Array vs)

pub out_union : (k : ℕ) (v : Value) → out-Value (value.Union k v) ≡ Value-F.Union k v
out_union k v = ap out-Value (sym (value.rolls-Union k v)) ∙ out-roll-Value (Value-F.Union k v)

-- a number that may be null is read
pub long_or_null : (n : Option ℤ) → long_in (in_branch (out-Value (optional (option_map value.Long n)))) ≡ n
long_or_null None = rw (out_union 0 value.Null, out_null) refl
long_or_null (Some n) = rw (out_union 1 (value.Long n), out_long n) refl

-- bytes that may be null are read
pub bytes_or_null : (b : Option (List ℕ)) → bytes_in (in_branch (out-Value (optional (option_map value.Bytes b)))) ≡ b
bytes_or_null None = rw (out_union 0 value.Null, out_null) refl
bytes_or_null (Some b) = rw (out_union 1 (value.Bytes b), out_bytes b) refl
