-- What is spelled is read, whatever follows it.
use Rattle.std.proofs.Common.{◌≡◌, ℕ, zero, suc, ◌+◌, ◌-◌, ◌*◌, ◌/◌, ◌%◌, ◌^◌, ◌<◌, ◌≤◌, ltb, leb, eqb, Bool, true, false, cond, List, [], ◌∷◌, ◌++◌, length, Ok, refl, sym, ap, subst, ◌∙◌, arith, append_assoc, length-append, inl, inr, ◌&&◌, ◌||◌}
use Rattle.std.specs.Prelude.{ℤ, pos, negsuc, ◌⊎◌}
use Rattle.std.specs.List.{flat_map}
use Rattle.std.specs.Str.{IsUtf8}
use Rattle.std.proofs.lemmas.Bool.{ltb-true, lt-ltb, le-ltb, le-leb, eqb-false}
use Rattle.std.proofs.lemmas.Str.{is_utf8-from_IsUtf8}
use Rattle.std.proofs.lemmas.List.{take_at, drop_at}
use Rattle.std.proofs.lemmas.List.Concat.{flat_map-cons}
use Rattle.icb_schema.specs.Tree as tree
use Rattle.icb_schema.specs.Tree.{Primitive}
use Rattle.icb_schema.specs.Shape.{Shape, Shapes, primitive, fixed, enumeration, fields, array, map_of, union, no_shapes, shape_then, takes_bytes, any_takes_bytes, arrays_take_bytes, all_arrays_take_bytes}
use Rattle.icb_avro.specs.declared.value.Value.{Value}
use Rattle.icb_avro.specs.Numbers.{IsVarint, IsLong, IsInt, zigzag}
use Rattle.icb_avro.specs.Spelling.{SpellAll, IsCounted, IsBlockHead, SpellBlock, SpellBlocks, SpellEntry, SpellsPrimitive, Spells, SpellFields, SpellsBranch}
use Rattle.icb_avro.specs.Reading.{◌>>=◌, Read, varint_at, number_at, unzigzag, long_at, int_at, index_at, part_at, boolean_at, bytes_at, text_at, items_at, block_at, is_zero, blocks_at, all_blocks_at, entry_at, primitive_at, value_at, fields_at, branch_at, count_of}
use Rattle.icb_avro.proofs.Steps.{done}

-- what is spelled by a front is read
abbrev pub Again : {A : Type 0} → (A → List ℕ → Type 0) → (List ℕ → Read A) → Type 0
Again {A} Spell item = (x : A) (front more : List ℕ) → Spell x front → item (front ++ more) ≡ Ok (x, more)

-- ---- numbers

varint_again : (most : ℕ) (front more : List ℕ) (n : ℕ) → IsVarint front n → length front ≤ most → varint_at most (front ++ more) ≡ Ok (n, more)
unfolding varint_at
varint_again zero [] more n h fits = absurd h
varint_again zero (b ∷ front) more n h fits = absurd (let f : ⊥ = omega (arith, fits) in f)
varint_again (suc most) [] more n h fits = absurd h
varint_again (suc most) (b ∷ []) more n h fits = rw (lt-ltb b 128 h.0, h.1) refl
varint_again (suc most) (b ∷ c ∷ front) more n h fits =
    let inner : varint_at most ((c ∷ front) ++ more) ≡ Ok (h.1, more) = varint_again most (c ∷ front) more h.1 h.3 (omega (arith, fits)) in
    let v : b - 128 + 128 * h.1 ≡ n = omega (arith, h.0, h.2) in
    rw (le-ltb b 128 h.0, inner, v) refl

pub unzigzag-zigzag : (n : ℤ) → unzigzag (zigzag n) ≡ n
unzigzag-zigzag (pos n) = let h : 2 * n % 2 ≡ 0 = omega arith in let k : 2 * n / 2 ≡ n = omega arith in rw (h, k) refl
unzigzag-zigzag (negsuc n) = let h : (2 * n + 1) % 2 ≡ 1 = omega arith in let k : (2 * n + 1) / 2 ≡ n = omega arith in rw (h, k) refl

pub long_again : Again IsLong long_at
unfolding long_at number_at
long_again n front more h = rw (varint_again 10 front more (zigzag n) h.number h.ten_bytes, lt-ltb (zigzag n) (2 ^ 64) h.fits, unzigzag-zigzag n) refl

pub int_again : Again IsInt int_at
unfolding int_at
int_again n front more h = rw (long_again n front more h.long, lt-ltb (zigzag n) (2 ^ 32) h.fits) refl

pub index_again : (count k : ℕ) (front more : List ℕ) → k < count → IsInt (pos k) front → index_at count (front ++ more) ≡ Ok (k, more)
unfolding index_at
index_again count k front more lt h = rw (int_again (pos k) front more h, lt-ltb k count lt) refl

-- ---- bytes

pub part_again : (n : ℕ) (all content more : List ℕ) → length content ≡ n → part_at n all (content ++ more) ≡ Ok (content, more)
unfolding part_at
part_again n all content more e =
    let fits : leb n (length (content ++ more)) ≡ true = le-leb n (length (content ++ more)) (omega (arith, length-append content more)) in
    rw (fits, take_at content more n e, drop_at content more n e) refl

pub bytes_again : Again IsCounted bytes_at
unfolding bytes_at
bytes_again content all more h =
    let e : all ++ more ≡ h.0 ++ (content ++ more) = ap (λ (t : List ℕ). t ++ more) h.1 ∙ append_assoc h.0 content more in
    let n : long_at (h.0 ++ (content ++ more)) ≡ Ok (pos (length content), content ++ more) = long_again (pos (length content)) h.0 (content ++ more) h.2 in
    ap bytes_at e ∙ rw n (part_again (length content) (h.0 ++ (content ++ more)) content more refl)

pub text_again : (content front more : List ℕ) → IsUtf8 content → IsCounted content front → text_at (front ++ more) ≡ Ok (content, more)
unfolding text_at
text_again content front more u h = rw (bytes_again content front more h, is_utf8-from_IsUtf8 content u) refl

pub boolean_again : (b : Bool) (more : List ℕ) → boolean_at (cond b 1 0 ∷ more) ≡ Ok (b, more)
unfolding boolean_at
boolean_again true more = refl
boolean_again false more = refl

-- ---- items and blocks

items_again : {A : Type 0} (Spell : A → List ℕ → Type 0) (item : List ℕ → Read A) → Again Spell item → (xs : List A) (all more : List ℕ) → SpellAll Spell xs all → items_at item (length xs) (all ++ more) ≡ Ok (xs, more)
unfolding items_at
items_again Spell item again [] all more h = rw h refl
items_again Spell item again (x ∷ xs) all more h =
    let e : all ++ more ≡ h.0 ++ (h.1 ++ more) = ap (λ (t : List ℕ). t ++ more) h.2 ∙ append_assoc h.0 h.1 more in
    rw (e, again x h.0 (h.1 ++ more) h.3, items_again Spell item again xs h.1 more h.4) refl

same_eqb : (n : ℕ) (b : Bool) → eqb n n ≡ b → b ≡ true
same_eqb n true e = refl
same_eqb n false e = absurd (eqb-false n n e refl)

-- each item takes a byte
abbrev TakesBytes : {A : Type 0} → (A → List ℕ → Type 0) → Type 0
TakesBytes {A} Spell = (x : A) (front : List ℕ) → Spell x front → 0 < length front

items_take : {A : Type 0} (Spell : A → List ℕ → Type 0) → TakesBytes Spell → (xs : List A) (all : List ℕ) → SpellAll Spell xs all → length xs ≤ length all
items_take Spell takes [] all h = omega arith
items_take Spell takes (x ∷ xs) all h = omega (arith, takes x h.0 h.3, items_take Spell takes xs h.1 h.4, ap length h.2, length-append h.0 h.1)

-- the steps behind a block's count
abbrev behind_count : {A B : Type 0} → (List ℕ → Read A) → List ℕ → (List ℕ → Read B) → (List A × List ℕ → Read B) → ℤ × List ℕ → Read B
behind_count item all stop go n = cond (is_zero n.0) (stop n.1) (block_at item all n >>= go)

head_again : {A B : Type 0} (Spell : A → List ℕ → Type 0) (item : List ℕ → Read A) → Again Spell item → (n : ℕ) (xs : List A) (head items more : List ℕ) → length xs ≡ suc n → n < length (items ++ more)
    → SpellAll Spell xs items → IsBlockHead (suc n) (length items) head → (stop : List ℕ → Read B) (go : List A × List ℕ → Read B)
    → (long_at (head ++ (items ++ more)) >>= behind_count item (head ++ (items ++ more)) stop go) ≡ go (xs, more)
head_again Spell item again n xs head items more size fits s (inl h) stop go =
    let k : leb (suc n) (length (items ++ more)) ≡ true = le-leb (suc n) (length (items ++ more)) (omega arith) in
    let i : items_at item (suc n) (items ++ more) ≡ Ok (xs, more) = subst (λ (j : ℕ). items_at item j (items ++ more) ≡ Ok (xs, more)) size (items_again Spell item again xs items more s) in
    rw (long_again (pos (suc n)) head (items ++ more) h, k, i) refl
head_again Spell item again n xs head items more size fits s (inr h) stop go =
    let count = h.0 in
    let number = h.1 in
    let e : head ++ (items ++ more) ≡ count ++ (number ++ (items ++ more)) = ap (λ (t : List ℕ). t ++ (items ++ more)) h.2 ∙ append_assoc count number (items ++ more) in
    let first : long_at (head ++ (items ++ more)) ≡ Ok (negsuc n, number ++ (items ++ more)) = ap long_at e ∙ long_again (negsuc n) count (number ++ (items ++ more)) h.3 in
    let k : ltb n (length (number ++ (items ++ more))) ≡ true = lt-ltb n (length (number ++ (items ++ more))) (omega (arith, length-append number (items ++ more))) in
    let i : items_at item (suc n) (items ++ more) ≡ Ok (xs, more) = subst (λ (j : ℕ). items_at item j (items ++ more) ≡ Ok (xs, more)) size (items_again Spell item again xs items more s) in
    let z : eqb (length (items ++ more)) (length items + length more) ≡ true = rw (length-append items more) (same_eqb (length items + length more) _ refl) in
    rw (first, k, long_again (pos (length items)) number (items ++ more) h.4, i, z) refl

block_again : {A B : Type 0} (Spell : A → List ℕ → Type 0) (item : List ℕ → Read A) → Again Spell item → TakesBytes Spell → (xs : List A) (all more : List ℕ) → SpellBlock Spell xs all
    → (stop : List ℕ → Read B) (go : List A × List ℕ → Read B) → (long_at (all ++ more) >>= behind_count item (all ++ more) stop go) ≡ go (xs, more)
block_again Spell item again takes [] all more h stop go = absurd h.3
block_again Spell item again takes (x ∷ xs) all more h stop go =
    let e : all ++ more ≡ h.0 ++ (h.1 ++ more) = ap (λ (t : List ℕ). t ++ more) h.2 ∙ append_assoc h.0 h.1 more in
    let fits : length xs < length (h.1 ++ more) = omega (arith, items_take Spell takes (x ∷ xs) h.1 h.4, length-append h.1 more) in
    rw e (head_again Spell item again (length xs) (x ∷ xs) h.0 h.1 more refl fits h.4 h.3 stop go)

blocks_again : {A : Type 0} (Spell : A → List ℕ → Type 0) (item : List ℕ → Read A) → Again Spell item → TakesBytes Spell → (most : ℕ) (blocks : List (List A)) (front end more : List ℕ)
    → length blocks < most → SpellAll (SpellBlock Spell) blocks front → IsLong (pos 0) end → blocks_at item most (front ++ (end ++ more)) ≡ Ok (flat_map (λ b. b) blocks, more)
unfolding blocks_at
blocks_again Spell item again takes zero blocks front end more h s z = absurd (let f : ⊥ = omega (arith, h) in f)
blocks_again Spell item again takes (suc most) [] front end more h s z = rw (s, long_again (pos 0) end more z) refl
blocks_again {A} Spell item again takes (suc most) (b ∷ blocks) front end more h s z =
    let e : front ++ (end ++ more) ≡ s.0 ++ (s.1 ++ (end ++ more)) = ap (λ (t : List ℕ). t ++ (end ++ more)) s.2 ∙ append_assoc s.0 s.1 (end ++ more) in
    let others : blocks_at item most (s.1 ++ (end ++ more)) ≡ Ok (flat_map (λ c. c) blocks, more) = blocks_again Spell item again takes most blocks s.1 end more (omega (arith, h)) s.4 z in
    ap (λ (t : List ℕ). long_at t >>= behind_count item t (λ r. done {A = List A × List ℕ} ([], r)) (λ xs. blocks_at item most xs.1 >>= (λ ys. Ok (xs.0 ++ ys.0, ys.1)))) e
    ∙ block_again Spell item again takes b s.0 (s.1 ++ (end ++ more)) s.3 (λ r. done {A = List A × List ℕ} ([], r)) (λ xs. blocks_at item most xs.1 >>= (λ ys. Ok (xs.0 ++ ys.0, ys.1)))
    ∙ rw others (ap (λ ys. Ok (ys, more)) (sym (flat_map-cons (λ c. c) b blocks)))

long_takes : (n : ℤ) (front : List ℕ) → IsLong n front → 0 < length front
long_takes n [] h = absurd h.number
long_takes n (b ∷ front) h = omega arith

head_takes : (n size : ℕ) (head : List ℕ) → IsBlockHead n size head → 0 < length head
head_takes zero size head h = absurd h
head_takes (suc n) size head (inl h) = long_takes (pos (suc n)) head h
head_takes (suc n) size head (inr h) = omega (arith, long_takes (negsuc n) h.0 h.3, ap length h.2, length-append h.0 h.1)

blocks_take : {A : Type 0} (Spell : A → List ℕ → Type 0) (blocks : List (List A)) (front : List ℕ) → SpellAll (SpellBlock Spell) blocks front → length blocks ≤ length front
blocks_take Spell [] front s = omega arith
blocks_take Spell (b ∷ blocks) front s =
    let block = s.3 in
    omega (arith, blocks_take Spell blocks s.1 s.4, ap length s.2, length-append s.0 s.1, head_takes (length b) (length block.1) block.0 block.3, ap length block.2, length-append block.0 block.1)

all_again : {A : Type 0} (Spell : A → List ℕ → Type 0) (item : List ℕ → Read A) → Again Spell item → TakesBytes Spell → Again (SpellBlocks Spell) (all_blocks_at item)
all_again {A} Spell item again takes xs all more h =
    let blocks = h.0 in
    let front = h.1 in
    let end = h.2 in
    let e : all ++ more ≡ front ++ (end ++ more) = ap (λ (t : List ℕ). t ++ more) h.4 ∙ append_assoc front end more in
    let fits : length blocks < suc (length (all ++ more)) = omega (arith, blocks_take Spell blocks front h.5, ap length e, length-append front (end ++ more)) in
    ap (blocks_at item (suc (length (all ++ more)))) e ∙ blocks_again Spell item again takes (suc (length (all ++ more))) blocks front end more fits h.5 h.6 ∙ ap (λ (ys : List A). Ok (ys, more)) h.3

-- ---- values

entry_again : (s : Shape) → Again (Spells s) (value_at s) → Again (SpellEntry (Spells s)) (entry_at (value_at s))
entry_again s again entry all more h =
    let e : all ++ more ≡ h.0 ++ (h.1 ++ more) = ap (λ (t : List ℕ). t ++ more) h.2 ∙ append_assoc h.0 h.1 more in
    rw (e, text_again entry.0 h.0 (h.1 ++ more) h.3 h.4, again entry.1 h.1 more h.5) refl

counted_takes : (content front : List ℕ) → IsCounted content front → 0 < length front
counted_takes content front h = omega (arith, long_takes (pos (length content)) h.0 h.2, ap length h.1, length-append h.0 content)

entry_takes : (s : Shape) → TakesBytes (SpellEntry (Spells s))
entry_takes s entry all h = omega (arith, counted_takes entry.0 h.0 h.4, ap length h.2, length-append h.0 h.1)

blocks_have : {A : Type 0} (Spell : A → List ℕ → Type 0) → TakesBytes (SpellBlocks Spell)
blocks_have Spell xs all h = omega (arith, long_takes (pos 0) h.2 h.6, ap length h.4, length-append h.1 h.2)

primitive_takes : (p : Primitive) → takes_bytes (primitive p) ≡ true → TakesBytes (SpellsPrimitive p)
primitive_takes tree.null t v front h = absurd cc
primitive_takes tree.boolean t v front h = omega (arith, ap length h.2)
primitive_takes tree.int t v front h = long_takes h.0 front h.2.long
primitive_takes tree.long t v front h = long_takes h.0 front h.2
primitive_takes tree.float t v front h = omega (arith, h.1)
primitive_takes tree.double t v front h = omega (arith, h.1)
primitive_takes tree.bytes t v front h = counted_takes h.0 front h.2
primitive_takes tree.text t v front h = counted_takes h.0 front h.3

or_cases : (a b : Bool) → (a || b) ≡ true → (a ≡ true) ⊎ (b ≡ true)
or_cases true b e = inl refl
or_cases false b e = inr e

mutual
  shape_takes : (s : Shape) → takes_bytes s ≡ true → TakesBytes (Spells s)
  shape_takes (primitive p) t v front h = primitive_takes p t v front h
  shape_takes (fixed n) t v front h = omega (arith, ltb-true 0 n t, h.1)
  shape_takes (enumeration n) t v front h = long_takes (pos h.0) front h.3.long
  shape_takes (fields ss) t v front h = fields_take ss t h.0 front h.2
  shape_takes (array s) t v front h = blocks_have (Spells s) h.0 front h.2
  shape_takes (map_of s) t v front h = blocks_have (SpellEntry (Spells s)) h.0 front h.2
  shape_takes (union ss) t v front h = omega (arith, long_takes (pos h.0) h.2 h.6.long, ap length h.5, length-append h.2 h.3)

  fields_take : (ss : Shapes) → any_takes_bytes ss ≡ true → (vs : List Value) (front : List ℕ) → SpellFields ss vs front → 0 < length front
  fields_take no_shapes t vs front h = absurd cc
  fields_take (shape_then s ss) t [] front h = absurd h
  fields_take (shape_then s ss) t (v ∷ vs) front h = elim (or_cases (takes_bytes s) (any_takes_bytes ss) t) [
    | inl k ↦ omega (arith, shape_takes s k v h.0 h.3, ap length h.2, length-append h.0 h.1)
    | inr k ↦ omega (arith, fields_take ss k vs h.1 h.4, ap length h.2, length-append h.0 h.1)
  ]

and_first : (a b : Bool) → (a && b) ≡ true → a ≡ true
and_first true b e = refl
and_first false b e = e

and_second : (a b : Bool) → (a && b) ≡ true → b ≡ true
and_second true b e = e
and_second false b e = absurd cc

primitive_again : (p : Primitive) → Again (SpellsPrimitive p) (primitive_at p)
primitive_again tree.null v front more h = rw (h.0, h.1) refl
primitive_again tree.boolean v front more h = rw (h.1, h.2, boolean_again h.0 more) refl
primitive_again tree.int v front more h = rw (h.1, int_again h.0 front more h.2) refl
primitive_again tree.long v front more h = rw (h.1, long_again h.0 front more h.2) refl
primitive_again tree.float v front more h = rw (h.0, part_again 4 (front ++ more) front more h.1) refl
primitive_again tree.double v front more h = rw (h.0, part_again 8 (front ++ more) front more h.1) refl
primitive_again tree.bytes v front more h = rw (h.1, bytes_again h.0 front more h.2) refl
primitive_again tree.text v front more h = rw (h.1, text_again h.0 front more h.2 h.3) refl

branch_number : (ss : Shapes) (k : ℕ) (v : Value) (front : List ℕ) → SpellsBranch ss k v front → k < count_of ss
branch_number no_shapes k v front h = absurd h
branch_number (shape_then s ss) zero v front h = omega arith
branch_number (shape_then s ss) (suc k) v front h = omega (arith, branch_number ss k v front h)

mutual
  pub value_again : (s : Shape) → arrays_take_bytes s ≡ true → Again (Spells s) (value_at s)
  value_again (primitive p) t v front more h = primitive_again p v front more h
  value_again (fixed n) t v front more h = rw (h.0, part_again n (front ++ more) front more h.1) refl
  value_again (enumeration n) t v front more h = rw (h.1, index_again n h.0 front more h.2 h.3) refl
  value_again (fields ss) t v front more h = rw (h.1, fields_again ss t h.0 front more h.2) refl
  value_again (array s) t v front more h =
      rw (h.1, all_again (Spells s) (value_at s) (value_again s (and_second (takes_bytes s) (arrays_take_bytes s) t)) (shape_takes s (and_first (takes_bytes s) (arrays_take_bytes s) t)) h.0 front more h.2) refl
  value_again (map_of s) t v front more h =
      rw (h.1, all_again (SpellEntry (Spells s)) (entry_at (value_at s)) (entry_again s (value_again s t)) (entry_takes s) h.0 front more h.2) refl
  value_again (union ss) t v front more h =
      let e : front ++ more ≡ h.2 ++ (h.3 ++ more) = ap (λ (u : List ℕ). u ++ more) h.5 ∙ append_assoc h.2 h.3 more in
      rw (h.4, e, index_again (count_of ss) h.0 h.2 (h.3 ++ more) (branch_number ss h.0 h.1 h.3 h.7) h.6, branch_again ss t h.0 h.1 h.3 more h.7) refl

  fields_again : (ss : Shapes) → all_arrays_take_bytes ss ≡ true → Again (SpellFields ss) (fields_at ss)
  fields_again no_shapes t [] front more h = rw h refl
  fields_again no_shapes t (v ∷ vs) front more h = absurd h
  fields_again (shape_then s ss) t [] front more h = absurd h
  fields_again (shape_then s ss) t (v ∷ vs) front more h =
      let e : front ++ more ≡ h.0 ++ (h.1 ++ more) = ap (λ (u : List ℕ). u ++ more) h.2 ∙ append_assoc h.0 h.1 more in
      rw (
        e,
        value_again s (and_first (arrays_take_bytes s) (all_arrays_take_bytes ss) t) v h.0 (h.1 ++ more) h.3,
        fields_again ss (and_second (arrays_take_bytes s) (all_arrays_take_bytes ss) t) vs h.1 more h.4,
      ) refl

  branch_again : (ss : Shapes) → all_arrays_take_bytes ss ≡ true → (k : ℕ) (v : Value) (front more : List ℕ) → SpellsBranch ss k v front → branch_at ss k (front ++ more) ≡ Ok (v, more)
  branch_again no_shapes t k v front more h = absurd h
  branch_again (shape_then s ss) t zero v front more h = value_again s (and_first (arrays_take_bytes s) (all_arrays_take_bytes ss) t) v front more h
  branch_again (shape_then s ss) t (suc k) v front more h = branch_again ss (and_second (arrays_take_bytes s) (all_arrays_take_bytes ss) t) k v front more h
