-- The bytes that are written for a value: the shortest numbers, and one block with a count above 0
-- for an array or a map that isn't empty.
use Rattle.std.specs.Prelude.{◌≡◌, ℕ, zero, suc, ◌+◌, ◌/◌, ◌%◌, ◌^◌, ◌<◌, nat_lt, ℤ, pos}
use Rattle.std.specs.Prelude.{List, [], ◌∷◌, ◌++◌, length, map, Bool, if◌then◌else◌}
use Rattle.std.specs.Prelude.{Result, Ok, Err}
use Rattle.std.specs.List.{flat_map, AllByRecursion}
use Rattle.std.specs.Str.{IsUtf8}
use Rattle.icb_schema.specs.Tree as tree
use Rattle.icb_schema.specs.Tree.{Primitive}
use Rattle.icb_schema.specs.Shape.{Shape, Shapes, primitive, fixed, enumeration}
use Rattle.icb_schema.specs.Shape.{fields, array, map_of, union, no_shapes, shape_then}
use Rattle.icb_avro.specs.declared.value.Value.{Value, fold-Value}
use Rattle.icb_avro.specs.declared.value.Value.TheOpen.{Value-F}
use Rattle.icb_avro.specs.declared.value.Value.TheVariants as value
use Rattle.icb_avro.specs.Numbers.{zigzag}

-- seven bits a byte, the lowest first, and no more bytes than it needs, at most `more` and one
unfoldable pub shortest : ℕ → ℕ → List ℕ
shortest zero n = n ∷ []
shortest (suc more) n =
    if nat_lt n 128 then n ∷ [] else (128 + n % 128) ∷ shortest more (n / 128)

-- the shortest bytes of a number of 64 bits
abbrev pub written_long : ℤ → List ℕ
written_long n = shortest 9 (zigzag n)

-- the number of the bytes, and the bytes
abbrev pub written_bytes : List ℕ → List ℕ
written_bytes content = written_long (pos (length content)) ++ content

-- items in one block, and the count 0
abbrev pub one_block : List (List ℕ) → List ℕ
one_block [] = 0 ∷ []
one_block (item ∷ items) =
    written_long (pos (length (item ∷ items))) ++ flat_map (λ x. x) (item ∷ items) ++ 0 ∷ []

-- a text, and a value that is already written
abbrev pub written_entry : List ℕ × List ℕ → List ℕ
written_entry entry = written_bytes entry.0 ++ entry.1

-- one level of a value, whose parts are already written
abbrev pub written_level : Value-F (List ℕ) → List ℕ
written_level Value-F.Null = []
written_level (Value-F.Boolean b) = (if b then 1 else 0) ∷ []
written_level (Value-F.Int n) = written_long n
written_level (Value-F.Long n) = written_long n
written_level (Value-F.Float bytes) = bytes
written_level (Value-F.Double bytes) = bytes
written_level (Value-F.Bytes content) = written_bytes content
written_level (Value-F.Text content) = written_bytes content
written_level (Value-F.Fixed content) = content
written_level (Value-F.Enum k) = written_long (pos k)
written_level (Value-F.Record parts) = flat_map (λ x. x) parts
written_level (Value-F.Array parts) = one_block parts
written_level (Value-F.Map entries) = one_block (map written_entry entries)
written_level (Value-F.Union k part) = written_long (pos k) ++ part

-- the bytes that are written for a value
unfoldable pub written : Value → List ℕ
written = fold-Value (List ℕ) written_level

-- ---- which values a shape has

-- values of a primitive type
abbrev pub FitsPrimitive : Primitive → Value → Type 0
FitsPrimitive tree.null v = v ≡ value.Null
FitsPrimitive tree.boolean v = (b : Bool) × (v ≡ value.Boolean b)
FitsPrimitive tree.int v = (n : ℤ) × (v ≡ value.Int n) × (zigzag n < 2 ^ 32)
FitsPrimitive tree.long v = (n : ℤ) × (v ≡ value.Long n) × (zigzag n < 2 ^ 64)
FitsPrimitive tree.float v = (bytes : List ℕ) × (v ≡ value.Float bytes) × (length bytes ≡ 4)
FitsPrimitive tree.double v = (bytes : List ℕ) × (v ≡ value.Double bytes) × (length bytes ≡ 8)
FitsPrimitive tree.bytes v =
    (content : List ℕ) × (v ≡ value.Bytes content) × (length content < 2 ^ 63)
FitsPrimitive tree.text v = (content : List ℕ) × (v ≡ value.Text content)
    × IsUtf8 content × (length content < 2 ^ 63)

-- a text, and a value that fits
abbrev pub FitsEntry : (Value → Type 0) → List ℕ × Value → Type 0
FitsEntry fits entry = IsUtf8 entry.0 × (length entry.0 < 2 ^ 63) × fits entry.1

abbrev mutual
  -- the value is one of this shape
  pub Fits : Shape → Value → Type 0
  Fits (primitive p) v = FitsPrimitive p v
  Fits (fixed size) v =
      (content : List ℕ) × (v ≡ value.Fixed content) × (length content ≡ size)
  Fits (enumeration n) v = (k : ℕ) × (v ≡ value.Enum k) × (k < n) × (k < 2 ^ 31)
  Fits (fields ss) v = (vs : List Value) × (v ≡ value.Record vs) × FieldsFit ss vs
  Fits (array s) v = (vs : List Value) × (v ≡ value.Array vs) × (length vs < 2 ^ 63)
      × AllByRecursion (Fits s) vs
  Fits (map_of s) v = (entries : List (List ℕ × Value)) × (v ≡ value.Map entries)
      × (length entries < 2 ^ 63) × AllByRecursion (FitsEntry (Fits s)) entries
  Fits (union ss) v = (k : ℕ) × (w : Value) × (v ≡ value.Union k w) × (k < 2 ^ 31)
      × BranchFits ss k w

  -- there is a value for each field
  pub FieldsFit : Shapes → List Value → Type 0
  FieldsFit no_shapes [] = Unit {0}
  FieldsFit no_shapes (v ∷ vs) = ⊥
  FieldsFit (shape_then s ss) [] = ⊥
  FieldsFit (shape_then s ss) (v ∷ vs) = Fits s v × FieldsFit ss vs

  -- the value fits the branch of this number, from 0
  pub BranchFits : Shapes → ℕ → Value → Type 0
  BranchFits no_shapes k v = ⊥
  BranchFits (shape_then s ss) zero v = Fits s v
  BranchFits (shape_then s ss) (suc k) v = BranchFits ss k v

-- ---- what the writer does

-- these bytes stand at the end; after a refusal the list begins as before
abbrev pub Appends : {E : Type 0} → Result (Unit {0}) E → List ℕ → List ℕ → List ℕ → Type 0
Appends (Ok x) old bytes new = new ≡ old ++ bytes
Appends (Err e) old bytes new = (more : List ℕ) × (new ≡ old ++ more)

-- the bytes of values, one after another
abbrev pub all_written : List Value → List ℕ
all_written values = flat_map (λ x. x) (map written values)

-- the bytes of entries, one after another
abbrev pub entries_written : List (List ℕ × Value) → List ℕ
entries_written entries = flat_map (λ x. x) (map (λ e. written_entry (e.0, written e.1)) entries)
