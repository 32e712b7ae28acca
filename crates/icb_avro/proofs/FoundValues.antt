-- Blocks and values that are read are spelled so.
use Rattle.std.proofs.Common.{◌≡◌, ℕ, zero, suc, ◌+◌, ltb, leb, eqb, true, false, cond, List, [], ◌∷◌, ◌++◌, length, Ok, refl, sym, ap, subst, ◌∙◌, arith, append_assoc, inl, inr, length-append}
use Rattle.std.specs.Prelude.{ℤ, pos, negsuc}
use Rattle.std.proofs.lemmas.Bool.{eqb-true}
use Rattle.std.proofs.lemmas.List.Concat.{flat_map-cons}
use Rattle.icb_schema.specs.Tree as tree
use Rattle.icb_schema.specs.Tree.{Primitive}
use Rattle.icb_schema.specs.Shape.{Shape, Shapes, primitive, fixed, enumeration, fields, array, map_of, union, no_shapes, shape_then}
use Rattle.icb_avro.specs.declared.fault.AvroCause.TheVariants as cause
use Rattle.icb_avro.specs.declared.value.Value.{Value}
use Rattle.icb_avro.specs.declared.value.Value.TheVariants as value
use Rattle.icb_avro.specs.Numbers.{IsLong, IsInt}
use Rattle.icb_avro.specs.Spelling.{SpellAll, IsCounted, IsBlockHead, SpellBlock, SpellBlocks, SpellEntry, SpellsPrimitive, Spells, SpellFields, SpellsBranch}
use Rattle.icb_avro.specs.Reading.{◌>>=◌, Read, long_at, int_at, index_at, part_at, boolean_at, bytes_at, text_at, items_at, of_size, sized_at, block_at, is_zero, blocks_at, all_blocks_at, entry_at, primitive_at, value_at, fields_at, branch_at, count_of, read_as}
use Rattle.icb_avro.proofs.Steps.{bind_ok, ok_is, value_is, rest_is, test_ok, chosen, fronts_join}
use Rattle.icb_avro.proofs.Found.{Found, long_found, int_found, index_found, part_found, boolean_found, bytes_found, text_found, IsTruth, IsText, IsIndex}

-- ---- items

pub items_found : {A : Type 0} (Spell : A → List ℕ → Type 0) (item : List ℕ → Read A) → Found Spell item → (n : ℕ) (all : List ℕ) (xs : List A) (more : List ℕ)
    → items_at item n all ≡ Ok (xs, more) → (front : List ℕ) × (all ≡ front ++ more) × SpellAll Spell xs front × (length xs ≡ n)
unfolding items_at
items_found {A} Spell item found zero all xs more e =
    let x : [] ≡ xs = value_is [] xs all more e in
    subst (λ (ys : List A). (front : List ℕ) × (all ≡ front ++ more) × SpellAll Spell ys front × (length ys ≡ zero)) x ([], rest_is [] xs all more e, refl, refl)
items_found {A} Spell item found (suc n) all xs more e =
    let a = bind_ok (item all) (λ x. items_at item n x.1 >>= (λ ys. Ok (x.0 ∷ ys.0, ys.1))) (xs, more) e in
    let b = bind_ok (items_at item n a.0.1) (λ ys. Ok (a.0.0 ∷ ys.0, ys.1)) (xs, more) a.2 in
    let v : a.0.0 ∷ b.0.0 ≡ xs = value_is (a.0.0 ∷ b.0.0) xs b.0.1 more b.2 in
    let m : b.0.1 ≡ more = rest_is (a.0.0 ∷ b.0.0) xs b.0.1 more b.2 in
    let head = found all a.0.0 a.0.1 a.1 in
    let tail = items_found Spell item found n a.0.1 b.0.0 b.0.1 b.1 in
    let parts : all ≡ (head.0 ++ tail.0) ++ more = fronts_join all head.0 a.0.1 tail.0 more head.1 (tail.1 ∙ ap (λ (t : List ℕ). tail.0 ++ t) m) in
    subst (λ (ys : List A). (front : List ℕ) × (all ≡ front ++ more) × SpellAll Spell ys front × (length ys ≡ suc n)) v
    (head.0 ++ tail.0, parts, (head.0, tail.0, refl, head.2, tail.2), ap suc tail.3)

-- ---- blocks

abbrev pub BlockFound : {A : Type 0} → (A → List ℕ → Type 0) → List ℕ → List A → List ℕ → Type 0
BlockFound Spell all xs more = (front : List ℕ) × (all ≡ front ++ more) × SpellBlock Spell xs front

-- a block whose items are as many as it says, behind its head
headed : {A : Type 0} (Spell : A → List ℕ → Type 0) (all head rest items more : List ℕ) (xs : List A) → all ≡ head ++ rest → rest ≡ items ++ more
    → IsBlockHead (length xs) (length items) head → SpellAll Spell xs items → BlockFound Spell all xs more
headed Spell all head rest items more xs e f h s = (head ++ items, fronts_join all head rest items more e f, (head, items, refl, h, s))

size_is : (r items more : List ℕ) (size : ℕ) → r ≡ items ++ more → eqb (length r) (size + length more) ≡ true → length items ≡ size
size_is r items more size e t = omega (arith, eqb-true _ _ t, ap length e, length-append items more)

sized_found : {A : Type 0} (Spell : A → List ℕ → Type 0) (item : List ℕ → Read A) → Found Spell item → (n : ℕ) (all head rest : List ℕ) (size : ℤ) (r : List ℕ) (xs : List A) (more : List ℕ)
    → all ≡ head ++ rest → IsLong (negsuc n) head → long_at rest ≡ Ok (size, r) → sized_at item (suc n) rest (size, r) ≡ Ok (xs, more) → BlockFound Spell all xs more
sized_found {A} Spell item found n all head rest (pos size) r xs more e h s t =
    let a = bind_ok (items_at item (suc n) r) (of_size size r) (xs, more) t in
    let k = test_ok (eqb (length r) (size + length a.0.1)) (Ok a.0) (record { left = length a.0.1; cause = cause.Size }) (xs, more) a.2 in
    let same : a.0 ≡ (xs, more) = ok_is a.0 (xs, more) k.1 in
    let f = items_found Spell item found (suc n) r xs more (a.1 ∙ k.1) in
    let number = long_found rest (pos size) r s in
    let fits : length f.0 ≡ size = size_is r f.0 more size f.1 (subst (λ (y : List A × List ℕ). eqb (length r) (size + length y.1) ≡ true) same k.0) in
    let count : IsBlockHead (suc n) (length f.0) (head ++ number.0) = inr (head, number.0, refl, h, subst (λ (i : ℕ). IsLong (pos i) number.0) (sym fits) number.2) in
    headed Spell all (head ++ number.0) r f.0 more xs (fronts_join all head rest number.0 r e number.1) f.1
    (subst (λ (i : ℕ). IsBlockHead i (length f.0) (head ++ number.0)) (sym f.3) count) f.2
sized_found Spell item found n all head rest (negsuc size) r xs more e h s t = absurd cc

pub block_found : {A : Type 0} (Spell : A → List ℕ → Type 0) (item : List ℕ → Read A) → Found Spell item → (all : List ℕ) (n : ℤ) (rest : List ℕ) (xs : List A) (more : List ℕ)
    → is_zero n ≡ false → long_at all ≡ Ok (n, rest) → block_at item all (n, rest) ≡ Ok (xs, more) → BlockFound Spell all xs more
block_found Spell item found all (pos zero) rest xs more z e t = absurd cc
block_found Spell item found all (pos (suc n)) rest xs more z e t =
    let k = test_ok (leb (suc n) (length rest)) (items_at item (suc n) rest) (record { left = length all; cause = cause.Count }) (xs, more) t in
    let f = items_found Spell item found (suc n) rest xs more k.1 in
    let number = long_found all (pos (suc n)) rest e in
    headed Spell all number.0 rest f.0 more xs number.1 f.1 (subst (λ (i : ℕ). IsBlockHead i (length f.0) number.0) (sym f.3) (inl number.2)) f.2
block_found Spell item found all (negsuc n) rest xs more z e t =
    let k = test_ok (ltb n (length rest)) (long_at rest >>= sized_at item (suc n) rest) (record { left = length all; cause = cause.Count }) (xs, more) t in
    let b = bind_ok (long_at rest) (sized_at item (suc n) rest) (xs, more) k.1 in
    let number = long_found all (negsuc n) rest e in
    sized_found Spell item found n all number.0 rest b.0.0 b.0.1 xs more number.1 number.2 b.1 b.2

zero_is : (n : ℤ) → is_zero n ≡ true → n ≡ pos 0
zero_is (pos zero) e = refl
zero_is (pos (suc n)) e = absurd cc
zero_is (negsuc n) e = absurd cc

abbrev BlocksFound : {A : Type 0} → (A → List ℕ → Type 0) → List ℕ → List A → List ℕ → Type 0
BlocksFound Spell all xs more = (front : List ℕ) × (all ≡ front ++ more) × SpellBlocks Spell xs front

-- one block in front of others
one_more : {A : Type 0} (Spell : A → List ℕ → Type 0) (all mid : List ℕ) (xs ys : List A) (more : List ℕ) → BlockFound Spell all xs mid → BlocksFound Spell mid ys more → BlocksFound Spell all (xs ++ ys) more
one_more Spell all mid xs ys more block blocks =
    let bs = blocks.2 in (
      block.0 ++ blocks.0,
      fronts_join all block.0 mid blocks.0 more block.1 blocks.1,
      (
        xs ∷ bs.0,
        block.0 ++ bs.1,
        bs.2,
        flat_map-cons (λ b. b) xs bs.0 ∙ ap (λ zs. xs ++ zs) bs.3,
        ap (λ (t : List ℕ). block.0 ++ t) bs.4 ∙ sym (append_assoc block.0 bs.1 bs.2),
        (block.0, bs.1, refl, block.2, bs.5),
        bs.6,
      ),
    )

no_more : {A : Type 0} (Spell : A → List ℕ → Type 0) (all : List ℕ) (n : ℤ) (rest more : List ℕ) → is_zero n ≡ true → long_at all ≡ Ok (n, rest) → rest ≡ more → BlocksFound {A = A} Spell all [] more
no_more Spell all n rest more z e m =
    let f = long_found all n rest e in
    (f.0, f.1 ∙ ap (λ (t : List ℕ). f.0 ++ t) m, ([], [], f.0, refl, refl, refl, subst (λ (i : ℤ). IsLong i f.0) (zero_is n z) f.2))

pub blocks_found : {A : Type 0} (Spell : A → List ℕ → Type 0) (item : List ℕ → Read A) → Found Spell item → (most : ℕ) → Found (SpellBlocks Spell) (blocks_at item most)
unfolding blocks_at
blocks_found Spell item found zero all xs more e = absurd cc
blocks_found {A} Spell item found (suc most) all xs more e =
    let a = bind_ok (long_at all) (λ n. cond (is_zero n.0) (Ok ([], n.1)) (block_at item all n >>= (λ ys. blocks_at item most ys.1 >>= (λ zs. Ok (ys.0 ++ zs.0, zs.1))))) (xs, more) e in
    elim (chosen (is_zero a.0.0) (Ok ([], a.0.1)) (block_at item all a.0 >>= (λ ys. blocks_at item most ys.1 >>= (λ zs. Ok (ys.0 ++ zs.0, zs.1)))) (Ok (xs, more)) a.2) [
      | inl z ↦ subst (λ (ys : List A). BlocksFound Spell all ys more) (value_is [] xs a.0.1 more z.1) (no_more Spell all a.0.0 a.0.1 more z.0 a.1 (rest_is [] xs a.0.1 more z.1))
      | inr z ↦
          let b = bind_ok (block_at item all a.0) (λ ys. blocks_at item most ys.1 >>= (λ zs. Ok (ys.0 ++ zs.0, zs.1))) (xs, more) z.1 in
          let d = bind_ok (blocks_at item most b.0.1) (λ zs. Ok (b.0.0 ++ zs.0, zs.1)) (xs, more) b.2 in
          let v : b.0.0 ++ d.0.0 ≡ xs = value_is (b.0.0 ++ d.0.0) xs d.0.1 more d.2 in
          let m : d.0.1 ≡ more = rest_is (b.0.0 ++ d.0.0) xs d.0.1 more d.2 in
          let block = block_found Spell item found all a.0.0 a.0.1 b.0.0 b.0.1 z.0 a.1 b.1 in
          let others = blocks_found Spell item found most b.0.1 d.0.0 d.0.1 d.1 in
          subst (λ (t : List ℕ). BlocksFound Spell all xs t) m (subst (λ (ys : List A). BlocksFound Spell all ys d.0.1) v (one_more Spell all b.0.1 b.0.0 d.0.0 d.0.1 block others))
    ]

pub entry_found : {A : Type 0} (Spell : A → List ℕ → Type 0) (item : List ℕ → Read A) → Found Spell item → Found (SpellEntry Spell) (entry_at item)
entry_found {A} Spell item found all x more e =
    let a = bind_ok (text_at all) (λ key. read_as (λ v. (key.0, v)) (item key.1)) (x, more) e in
    let b = bind_ok (item a.0.1) (λ v. Ok ((a.0.0, v.0), v.1)) (x, more) a.2 in
    let made : List ℕ × A = (a.0.0, b.0.0) in
    let v : made ≡ x = value_is made x b.0.1 more b.2 in
    let m : b.0.1 ≡ more = rest_is made x b.0.1 more b.2 in
    let key = text_found all a.0.0 a.0.1 a.1 in
    let val = found a.0.1 b.0.0 b.0.1 b.1 in (
      key.0 ++ val.0,
      fronts_join all key.0 a.0.1 val.0 more key.1 (val.1 ∙ ap (λ (t : List ℕ). val.0 ++ t) m),
      subst (λ (y : List ℕ × A). SpellEntry Spell y (key.0 ++ val.0)) v (key.0, val.0, refl, key.2.0, key.2.1, val.2),
    )

-- ---- values

-- seen as another value
pub as_found : {A B : Type 0} (Spell : A → List ℕ → Type 0) (Other : B → List ℕ → Type 0) (f : A → B) (item : List ℕ → Read A) → Found Spell item
    → ((x : A) (front : List ℕ) → Spell x front → Other (f x) front) → Found Other (λ all. read_as f (item all))
as_found {A} {B} Spell Other f item found same all y more e =
    let a = bind_ok (item all) (λ x. Ok (f x.0, x.1)) (y, more) e in
    let v : f a.0.0 ≡ y = value_is (f a.0.0) y a.0.1 more a.2 in
    let m : a.0.1 ≡ more = rest_is (f a.0.0) y a.0.1 more a.2 in
    let k = found all a.0.0 a.0.1 a.1 in
    (k.0, k.1 ∙ ap (λ (t : List ℕ). k.0 ++ t) m, subst (λ (z : B). Other z k.0) v (same a.0.0 k.0 k.2))

abbrev pub HasLength : ℕ → List ℕ → List ℕ → Type 0
HasLength n content front = (front ≡ content) × (length content ≡ n)

pub sized_part : (n : ℕ) → Found (HasLength n) (λ all. part_at n all all)
sized_part n all content more e = let p = part_found n all all content more e in (content, p.0, (refl, p.1))

primitive_found : (p : Primitive) → Found (SpellsPrimitive p) (primitive_at p)
primitive_found tree.null all v more e = ([], rest_is value.Null v all more e, (sym (value_is value.Null v all more e), refl))
primitive_found tree.boolean all v more e = as_found IsTruth (SpellsPrimitive tree.boolean) value.Boolean boolean_at boolean_found (λ b front s. (b, refl, s)) all v more e
primitive_found tree.int all v more e = as_found IsInt (SpellsPrimitive tree.int) value.Int int_at int_found (λ n front s. (n, refl, s)) all v more e
primitive_found tree.long all v more e = as_found IsLong (SpellsPrimitive tree.long) value.Long long_at long_found (λ n front s. (n, refl, s)) all v more e
primitive_found tree.float all v more e = as_found (HasLength 4) (SpellsPrimitive tree.float) value.Float (λ all. part_at 4 all all) (sized_part 4) (λ c front s. (ap value.Float (sym s.0), ap length s.0 ∙ s.1)) all v more e
primitive_found tree.double all v more e = as_found (HasLength 8) (SpellsPrimitive tree.double) value.Double (λ all. part_at 8 all all) (sized_part 8) (λ c front s. (ap value.Double (sym s.0), ap length s.0 ∙ s.1)) all v more e
primitive_found tree.bytes all v more e = as_found IsCounted (SpellsPrimitive tree.bytes) value.Bytes bytes_at bytes_found (λ c front s. (c, refl, s)) all v more e
primitive_found tree.text all v more e = as_found IsText (SpellsPrimitive tree.text) value.Text text_at text_found (λ c front s. (c, refl, s.0, s.1)) all v more e

mutual
  pub value_found : (s : Shape) → Found (Spells s) (value_at s)
  value_found (primitive p) all v more e = primitive_found p all v more e
  value_found (fixed n) all v more e = as_found (HasLength n) (Spells (fixed n)) value.Fixed (λ all. part_at n all all) (sized_part n) (λ c front s. (ap value.Fixed (sym s.0), ap length s.0 ∙ s.1)) all v more e
  value_found (enumeration n) all v more e = as_found (IsIndex n) (Spells (enumeration n)) value.Enum (index_at n) (index_found n) (λ k front s. (k, refl, s.0, s.1)) all v more e
  value_found (fields ss) all v more e = as_found (SpellFields ss) (Spells (fields ss)) value.Record (fields_at ss) (fields_found ss) (λ vs front s. (vs, refl, s)) all v more e
  value_found (array s) all v more e = as_found (SpellBlocks (Spells s)) (Spells (array s)) value.Array (all_blocks_at (value_at s)) (λ all. blocks_found (Spells s) (value_at s) (value_found s) (suc (length all)) all) (λ vs front k. (vs, refl, k)) all v more e
  value_found (map_of s) all v more e = as_found (SpellBlocks (SpellEntry (Spells s))) (Spells (map_of s)) value.Map (all_blocks_at (entry_at (value_at s)))
      (λ all. blocks_found (SpellEntry (Spells s)) (entry_at (value_at s)) (entry_found (Spells s) (value_at s) (value_found s)) (suc (length all)) all) (λ vs front k. (vs, refl, k)) all v more e
  value_found (union ss) all v more e =
      let a = bind_ok (index_at (count_of ss) all) (λ k. read_as (value.Union k.0) (branch_at ss k.0 k.1)) (v, more) e in
      let b = bind_ok (branch_at ss a.0.0 a.0.1) (λ x. Ok (value.Union a.0.0 x.0, x.1)) (v, more) a.2 in
      let same : value.Union a.0.0 b.0.0 ≡ v = value_is (value.Union a.0.0 b.0.0) v b.0.1 more b.2 in
      let m : b.0.1 ≡ more = rest_is (value.Union a.0.0 b.0.0) v b.0.1 more b.2 in
      let index = index_found (count_of ss) all a.0.0 a.0.1 a.1 in
      let part = branch_found ss a.0.0 a.0.1 b.0.0 b.0.1 b.1 in (
        index.0 ++ part.0,
        fronts_join all index.0 a.0.1 part.0 more index.1 (part.1 ∙ ap (λ (t : List ℕ). part.0 ++ t) m),
        (a.0.0, b.0.0, index.0, part.0, sym same, refl, index.2.1, part.2),
      )

  fields_found : (ss : Shapes) → Found (SpellFields ss) (fields_at ss)
  fields_found no_shapes all vs more e =
      subst (λ (ws : List Value). (front : List ℕ) × (all ≡ front ++ more) × SpellFields no_shapes ws front) (value_is [] vs all more e) ([], rest_is [] vs all more e, refl)
  fields_found (shape_then s ss) all vs more e =
      let a = bind_ok (value_at s all) (λ v. fields_at ss v.1 >>= (λ ws. Ok (v.0 ∷ ws.0, ws.1))) (vs, more) e in
      let b = bind_ok (fields_at ss a.0.1) (λ ws. Ok (a.0.0 ∷ ws.0, ws.1)) (vs, more) a.2 in
      let v : a.0.0 ∷ b.0.0 ≡ vs = value_is (a.0.0 ∷ b.0.0) vs b.0.1 more b.2 in
      let m : b.0.1 ≡ more = rest_is (a.0.0 ∷ b.0.0) vs b.0.1 more b.2 in
      let head = value_found s all a.0.0 a.0.1 a.1 in
      let tail = fields_found ss a.0.1 b.0.0 b.0.1 b.1 in
      subst (λ (ws : List Value). (front : List ℕ) × (all ≡ front ++ more) × SpellFields (shape_then s ss) ws front) v
      (head.0 ++ tail.0, fronts_join all head.0 a.0.1 tail.0 more head.1 (tail.1 ∙ ap (λ (t : List ℕ). tail.0 ++ t) m), (head.0, tail.0, refl, head.2, tail.2))

  branch_found : (ss : Shapes) (k : ℕ) (all : List ℕ) (v : Value) (more : List ℕ) → branch_at ss k all ≡ Ok (v, more) → (front : List ℕ) × (all ≡ front ++ more) × SpellsBranch ss k v front
  branch_found no_shapes k all v more e = absurd cc
  branch_found (shape_then s ss) zero all v more e = value_found s all v more e
  branch_found (shape_then s ss) (suc k) all v more e = branch_found ss k all v more e
