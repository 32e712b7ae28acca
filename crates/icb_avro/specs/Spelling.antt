-- Which bytes spell which value (Apache Avro 1.11, "Binary Encoding").
use Rattle.std.specs.Prelude.{◌≡◌, ℕ, zero, suc, ◌<◌, ℤ, pos, negsuc, ◌⊎◌}
use Rattle.std.specs.Prelude.{List, [], ◌∷◌, ◌++◌, length, Bool, if◌then◌else◌}
use Rattle.std.specs.List.{flat_map}
use Rattle.std.specs.Str.{IsUtf8}
use Rattle.icb_schema.specs.Tree as tree
use Rattle.icb_schema.specs.Tree.{Primitive}
use Rattle.icb_schema.specs.Shape.{Shape, Shapes, primitive, fixed, enumeration}
use Rattle.icb_schema.specs.Shape.{fields, array, map_of, union, no_shapes, shape_then}
use Rattle.icb_avro.specs.declared.value.Value.{Value}
use Rattle.icb_avro.specs.declared.value.Value.TheVariants as value
use Rattle.icb_avro.specs.Numbers.{IsLong, IsInt}

-- items, one after another
abbrev pub SpellAll : {A : Type 0} → (A → List ℕ → Type 0) → List A → List ℕ → Type 0
SpellAll Spell [] all = all ≡ []
SpellAll Spell (x ∷ xs) all =
    (front rest : List ℕ) × (all ≡ front ++ rest) × Spell x front × SpellAll Spell xs rest

-- the number of the bytes, and the bytes
abbrev pub IsCounted : List ℕ → List ℕ → Type 0
IsCounted content all =
    (front : List ℕ) × (all ≡ front ++ content) × IsLong (pos (length content)) front

-- the number of items, which isn't 0; or that number below 0, and how many bytes the items take
abbrev pub IsBlockHead : ℕ → ℕ → List ℕ → Type 0
IsBlockHead zero size head = ⊥
IsBlockHead (suc n) size head = IsLong (pos (suc n)) head
    ⊎ ((count number : List ℕ) × (head ≡ count ++ number) × IsLong (negsuc n) count
    × IsLong (pos size) number)

-- a block's head and its items
abbrev pub SpellBlock : {A : Type 0} → (A → List ℕ → Type 0) → List A → List ℕ → Type 0
SpellBlock Spell xs all = (head items : List ℕ) × (all ≡ head ++ items)
    × IsBlockHead (length xs) (length items) head × SpellAll Spell xs items

-- any number of blocks, and the number 0
abbrev pub SpellBlocks : {A : Type 0} → (A → List ℕ → Type 0) → List A → List ℕ → Type 0
SpellBlocks {A} Spell xs all = (blocks : List (List A)) × (front end : List ℕ)
    × (flat_map (λ block. block) blocks ≡ xs) × (all ≡ front ++ end)
    × SpellAll (SpellBlock Spell) blocks front × IsLong (pos 0) end

-- a text and a value
abbrev pub SpellEntry : {A : Type 0} → (A → List ℕ → Type 0) → List ℕ × A → List ℕ → Type 0
SpellEntry Spell entry all = (key rest : List ℕ) × (all ≡ key ++ rest) × IsUtf8 entry.0
    × IsCounted entry.0 key × Spell entry.1 rest

-- the values of the primitive types
abbrev pub SpellsPrimitive : Primitive → Value → List ℕ → Type 0
SpellsPrimitive tree.null v all = (v ≡ value.Null) × (all ≡ [])
SpellsPrimitive tree.boolean v all =
    (b : Bool) × (v ≡ value.Boolean b) × (all ≡ (if b then 1 else 0) ∷ [])
SpellsPrimitive tree.int v all = (n : ℤ) × (v ≡ value.Int n) × IsInt n all
SpellsPrimitive tree.long v all = (n : ℤ) × (v ≡ value.Long n) × IsLong n all
SpellsPrimitive tree.float v all = (v ≡ value.Float all) × (length all ≡ 4)
SpellsPrimitive tree.double v all = (v ≡ value.Double all) × (length all ≡ 8)
SpellsPrimitive tree.bytes v all =
    (content : List ℕ) × (v ≡ value.Bytes content) × IsCounted content all
SpellsPrimitive tree.text v all =
    (content : List ℕ) × (v ≡ value.Text content) × IsUtf8 content × IsCounted content all

abbrev mutual
  -- the bytes spell this value of this shape
  pub Spells : Shape → Value → List ℕ → Type 0
  Spells (primitive p) v all = SpellsPrimitive p v all
  Spells (fixed size) v all = (v ≡ value.Fixed all) × (length all ≡ size)
  Spells (enumeration n) v all = (k : ℕ) × (v ≡ value.Enum k) × (k < n) × IsInt (pos k) all
  Spells (fields ss) v all =
      (vs : List Value) × (v ≡ value.Record vs) × SpellFields ss vs all
  Spells (array s) v all =
      (vs : List Value) × (v ≡ value.Array vs) × SpellBlocks (Spells s) vs all
  Spells (map_of s) v all = (entries : List (List ℕ × Value)) × (v ≡ value.Map entries)
      × SpellBlocks (SpellEntry (Spells s)) entries all
  Spells (union ss) v all = (k : ℕ) × (w : Value) × (index rest : List ℕ)
      × (v ≡ value.Union k w) × (all ≡ index ++ rest) × IsInt (pos k) index
      × SpellsBranch ss k w rest

  -- a value for each field, in order
  pub SpellFields : Shapes → List Value → List ℕ → Type 0
  SpellFields no_shapes [] all = all ≡ []
  SpellFields no_shapes (v ∷ vs) all = ⊥
  SpellFields (shape_then s ss) [] all = ⊥
  SpellFields (shape_then s ss) (v ∷ vs) all = (front rest : List ℕ) × (all ≡ front ++ rest)
      × Spells s v front × SpellFields ss vs rest

  -- a value of the branch of this number, from 0
  pub SpellsBranch : Shapes → ℕ → Value → List ℕ → Type 0
  SpellsBranch no_shapes k v all = ⊥
  SpellsBranch (shape_then s ss) zero v all = Spells s v all
  SpellsBranch (shape_then s ss) (suc k) v all = SpellsBranch ss k v all
