-- What is written of a value is one of its spellings.
use Rattle.std.proofs.Common.{◌≡◌, ℕ, zero, suc, ◌+◌, ◌*◌, ◌/◌, ◌%◌, ◌^◌, ◌<◌, ◌≤◌, List, [], ◌∷◌, ◌++◌, length, map, refl, sym, ap, subst, ◌∙◌, arith, inl, inr}
use Rattle.std.specs.Prelude.{ℤ, pos}
use Rattle.std.specs.List.{flat_map, AllByRecursion}
use Rattle.std.proofs.lemmas.Bool.{cases_lt}
use Rattle.std.proofs.Math.Nat.{pow-suc}
use Rattle.std.proofs.lemmas.List.{append-nil}
use Rattle.std.proofs.lemmas.List.Concat.{flat_map-cons}
use Rattle.icb_schema.specs.Tree as tree
use Rattle.icb_schema.specs.Tree.{Primitive}
use Rattle.icb_schema.specs.Shape.{Shape, Shapes, primitive, fixed, enumeration, fields, array, map_of, union, no_shapes, shape_then}
use Rattle.icb_avro.specs.declared.value.Value.{Value}
use Rattle.icb_avro.specs.declared.value.Value.TheVariants as value
use Rattle.icb_avro.specs.Numbers.{IsVarint, IsLong, IsInt, zigzag}
use Rattle.icb_avro.specs.Spelling.{SpellAll, IsCounted, SpellBlocks, SpellEntry, SpellsPrimitive, Spells, SpellFields, SpellsBranch}
use Rattle.icb_avro.specs.Writing.{shortest, written, written_long, written_bytes, written_entry, one_block, all_written, FitsPrimitive, FitsEntry, Fits, FieldsFit, BranchFits}
use Rattle.icb_avro.proofs.WriteLemmas as lemmas
use Rattle.icb_avro.proofs.WriteLemmas.{last_byte, one_more}

-- ---- numbers

one_more_byte : (b high n : ℕ) (front : List ℕ) → 128 ≤ b → n + 128 ≡ b + 128 * high → IsVarint front high → IsVarint (b ∷ front) n
one_more_byte b high n [] ge e h = absurd h
one_more_byte b high n (c ∷ front) ge e h = (ge, high, e, h)

high_fits : (more n : ℕ) → n < 128 ^ suc (suc more) → n / 128 < 128 ^ suc more
high_fits more n h = let p : 128 ^ suc (suc more) ≡ 128 ^ suc more * 128 = pow-suc 128 (suc more) in omega (arith, h, p)

pub shortest_spells : (more n : ℕ) → n < 128 ^ suc more → IsVarint (shortest more n) n × (length (shortest more n) ≤ suc more)
shortest_spells zero n h = let lt : n < 128 = omega (arith, h, pow-suc 128 0) in rw (last_byte 0 n lt) ((lt, refl), omega arith)
shortest_spells (suc more) n h = elim (cases_lt n 128) [
  | inl lt ↦ rw (last_byte (suc more) n lt) ((lt, refl), omega arith)
  | inr ge ↦
      let inner = shortest_spells more (n / 128) (high_fits more n h) in
      rw (one_more more n ge) (one_more_byte (128 + n % 128) (n / 128) n (shortest more (n / 128)) (omega arith) (omega arith) inner.0, omega (arith, inner.1))
]

pub long_spells : (n : ℤ) → zigzag n < 2 ^ 64 → IsLong n (written_long n)
long_spells n h =
    let s = shortest_spells 9 (zigzag n) (omega (arith, h)) in
    record { number = s.0; ten_bytes = s.1; fits = h }

pub int_spells : (n : ℤ) → zigzag n < 2 ^ 32 → IsInt n (written_long n)
int_spells n h = record { long = long_spells n (omega (arith, h)); fits = h }

count_spells : (k : ℕ) → k < 2 ^ 63 → IsLong (pos k) (written_long (pos k))
count_spells k h = long_spells (pos k) (omega (arith, h))

index_spells : (k : ℕ) → k < 2 ^ 31 → IsInt (pos k) (written_long (pos k))
index_spells k h = int_spells (pos k) (omega (arith, h))

bytes_spell : (content : List ℕ) → length content < 2 ^ 63 → IsCounted content (written_bytes content)
bytes_spell content h = (written_long (pos (length content)), refl, count_spells (length content) h)

-- ---- items

zero_spells : IsLong (pos 0) (0 ∷ [])
zero_spells = record { number = (omega arith, refl); ten_bytes = omega arith; fits = omega arith }

items_spell : {A : Type 0} (Spell : A → List ℕ → Type 0) (form : A → List ℕ) (xs : List A) → AllByRecursion (λ x. Spell x (form x)) xs → SpellAll Spell xs (flat_map (λ x. x) (map form xs))
items_spell Spell form [] h = refl
items_spell Spell form (x ∷ xs) h = (form x, flat_map (λ y. y) (map form xs), flat_map-cons (λ y. y) (form x) (map form xs), h.0, items_spell Spell form xs h.1)

count_map : {A B : Type 0} (f : A → B) (xs : List A) → length (map f xs) ≡ length xs
count_map f [] = refl
count_map f (x ∷ xs) = ap suc (count_map f xs)

blocks_spell : {A : Type 0} (Spell : A → List ℕ → Type 0) (form : A → List ℕ) (xs : List A) → length xs < 2 ^ 63 → AllByRecursion (λ x. Spell x (form x)) xs → SpellBlocks Spell xs (one_block (map form xs))
blocks_spell Spell form [] fits h = ([], [], 0 ∷ [], refl, refl, refl, zero_spells)
blocks_spell Spell form (x ∷ xs) fits h =
    let parts : List (List ℕ) = map form (x ∷ xs) in
    let n : length parts ≡ length (x ∷ xs) = count_map form (x ∷ xs) in
    let head : List ℕ = written_long (pos (length parts)) in
    let items : List ℕ = flat_map (λ y. y) parts in
    let count : IsLong (pos (suc (length xs))) head = subst (λ (k : ℕ). IsLong (pos k) head) n (count_spells (length parts) (omega (arith, fits, n))) in (
      (x ∷ xs) ∷ [],
      head ++ items,
      0 ∷ [],
      append-nil (x ∷ xs),
      refl,
      (head ++ items, [], sym (append-nil (head ++ items)), (head, items, refl, inl count, items_spell Spell form (x ∷ xs) h), refl),
      zero_spells,
    )

-- ---- values

all_by : {A : Type 0} (P Q : A → Type 0) (xs : List A) → ((x : A) → P x → Q x) → AllByRecursion P xs → AllByRecursion Q xs
all_by P Q [] f h = tt
all_by P Q (x ∷ xs) f h = (f x h.0, all_by P Q xs f h.1)

primitive_spells : (p : Primitive) (v : Value) → FitsPrimitive p v → SpellsPrimitive p v (written v)
primitive_spells tree.null v h = (h, ap written h ∙ lemmas.written_Null)
primitive_spells tree.boolean v h = (h.0, h.1, ap written h.1 ∙ lemmas.written_Boolean h.0)
primitive_spells tree.int v h = (h.0, h.1, subst (λ (t : List ℕ). IsInt h.0 t) (sym (ap written h.1 ∙ lemmas.written_Int h.0)) (int_spells h.0 h.2))
primitive_spells tree.long v h = (h.0, h.1, subst (λ (t : List ℕ). IsLong h.0 t) (sym (ap written h.1 ∙ lemmas.written_Long h.0)) (long_spells h.0 h.2))
primitive_spells tree.float v h = let e : written v ≡ h.0 = ap written h.1 ∙ lemmas.written_Float h.0 in (h.1 ∙ ap value.Float (sym e), ap length e ∙ h.2)
primitive_spells tree.double v h = let e : written v ≡ h.0 = ap written h.1 ∙ lemmas.written_Double h.0 in (h.1 ∙ ap value.Double (sym e), ap length e ∙ h.2)
primitive_spells tree.bytes v h = (h.0, h.1, subst (λ (t : List ℕ). IsCounted h.0 t) (sym (ap written h.1 ∙ lemmas.written_Bytes h.0)) (bytes_spell h.0 h.2))
primitive_spells tree.text v h = (h.0, h.1, h.2, subst (λ (t : List ℕ). IsCounted h.0 t) (sym (ap written h.1 ∙ lemmas.written_Text h.0)) (bytes_spell h.0 h.3))

entry_spells : (s : Shape) → ((v : Value) → Fits s v → Spells s v (written v)) → (entry : List ℕ × Value) → FitsEntry (Fits s) entry → SpellEntry (Spells s) entry (written_entry (entry.0, written entry.1))
entry_spells s spells entry h = (written_bytes entry.0, written entry.1, refl, h.0, bytes_spell entry.0 h.1, spells entry.1 h.2)

mutual
  pub value_spells : (s : Shape) (v : Value) → Fits s v → Spells s v (written v)
  value_spells (primitive p) v h = primitive_spells p v h
  value_spells (fixed n) v h = let e : written v ≡ h.0 = ap written h.1 ∙ lemmas.written_Fixed h.0 in (h.1 ∙ ap value.Fixed (sym e), ap length e ∙ h.2)
  value_spells (enumeration n) v h = (h.0, h.1, h.2, subst (λ (t : List ℕ). IsInt (pos h.0) t) (sym (ap written h.1 ∙ lemmas.written_Enum h.0)) (index_spells h.0 h.3))
  value_spells (fields ss) v h = (h.0, h.1, subst (λ (t : List ℕ). SpellFields ss h.0 t) (sym (ap written h.1 ∙ lemmas.written_Record h.0)) (fields_spell ss h.0 h.2))
  value_spells (array s) v h = (
    h.0,
    h.1,
    subst (λ (t : List ℕ). SpellBlocks (Spells s) h.0 t) (sym (ap written h.1 ∙ lemmas.written_Array h.0))
        (blocks_spell (Spells s) written h.0 h.2 (all_by (Fits s) (λ x. Spells s x (written x)) h.0 (value_spells s) h.3)),
  )
  value_spells (map_of s) v h = (
    h.0,
    h.1,
    subst (λ (t : List ℕ). SpellBlocks (SpellEntry (Spells s)) h.0 t) (sym (ap written h.1 ∙ lemmas.written_Map h.0))
        (blocks_spell (SpellEntry (Spells s)) (λ e. written_entry (e.0, written e.1)) h.0 h.2 (all_by (FitsEntry (Fits s)) (λ e. SpellEntry (Spells s) e (written_entry (e.0, written e.1))) h.0 (entry_spells s (value_spells s)) h.3)),
  )
  value_spells (union ss) v h = (h.0, h.1, written_long (pos h.0), written h.1, h.2, ap written h.2 ∙ lemmas.written_Union h.0 h.1, index_spells h.0 h.3, branch_spells ss h.0 h.1 h.4)

  fields_spell : (ss : Shapes) (vs : List Value) → FieldsFit ss vs → SpellFields ss vs (all_written vs)
  fields_spell no_shapes [] h = refl
  fields_spell no_shapes (v ∷ vs) h = absurd h
  fields_spell (shape_then s ss) [] h = absurd h
  fields_spell (shape_then s ss) (v ∷ vs) h = (written v, all_written vs, flat_map-cons (λ y. y) (written v) (map written vs), value_spells s v h.0, fields_spell ss vs h.1)

  branch_spells : (ss : Shapes) (k : ℕ) (v : Value) → BranchFits ss k v → SpellsBranch ss k v (written v)
  branch_spells no_shapes k v h = absurd h
  branch_spells (shape_then s ss) zero v h = value_spells s v h
  branch_spells (shape_then s ss) (suc k) v h = branch_spells ss k v h
