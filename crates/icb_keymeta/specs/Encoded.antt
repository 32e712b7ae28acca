-- The bytes that are written of key metadata: the version 1, and the written form of its record.
use Rattle.std.specs.Prelude.{ℕ, pos, List, [], ◌∷◌, ◌++◌, Option, Some, None}
use Rattle.icb_base.specs.KeyMetadata.{KeyRecord}
use Rattle.icb_schema.specs.Tree as tree
use Rattle.icb_schema.specs.Shape.{Shape, primitive, fields, union, no_shapes, shape_then}
use Rattle.icb_avro.specs.declared.value.Value.{Value}
use Rattle.icb_avro.specs.declared.value.Value.TheVariants as value
use Rattle.icb_avro.specs.Writing.{written, written_long}

-- a union of null and another type
abbrev pub optional : Shape → Shape
optional shape = union (shape_then (primitive tree.null) (shape_then shape no_shapes))

-- the fields `encryption_key` (bytes), `aad_prefix` (null or bytes), `file_length` (null or long)
abbrev pub record_shape : Shape
record_shape = fields (shape_then (primitive tree.bytes)
    (shape_then (optional (primitive tree.bytes))
    (shape_then (optional (primitive tree.long)) no_shapes)))

-- null, or a value of the other type
abbrev pub optional_value : {A : Type 0} → (A → Value) → Option A → Value
optional_value make None = value.Union 0 value.Null
optional_value make (Some x) = value.Union 1 (make x)

-- the value of that record
abbrev pub record_value : KeyRecord → Value
record_value meta = value.Record (value.Bytes meta.key ∷ optional_value value.Bytes meta.prefix
    ∷ optional_value (λ n. value.Long (pos n)) meta.length_told ∷ [])

-- the written form
unfoldable pub encoded : KeyRecord → List ℕ
encoded meta = 1 ∷ written (record_value meta)

-- a union of null and another type, whose branch is written before the value
abbrev pub written_optional : {A : Type 0} → (A → List ℕ) → Option A → List ℕ
written_optional write None = written_long (pos 0)
written_optional write (Some x) = written_long (pos 1) ++ write x
