-- A refused item begins within the bytes.
use Rattle.std.proofs.Common.{◌≡◌, ℕ, zero, suc, ◌+◌, ◌-◌, ◌^◌, ◌≤◌, ltb, leb, eqb, Bool, true, false, cond, List, [], ◌∷◌, ◌++◌, length, take, drop, Result, Ok, Err, Bor, refl, sym, ap, ◌∙◌, arith, append_assoc, length-append, length-drop}
use Rattle.std.specs.Prelude.{ℤ, pos, negsuc}
use Rattle.std.specs.Str.{is_utf8}
use Rattle.std.proofs.lemmas.List.{take-append-drop, drop_at}
use Rattle.icb_schema.specs.Tree as tree
use Rattle.icb_schema.specs.Tree.{Primitive}
use Rattle.icb_schema.specs.Shape.{Shape, Shapes, primitive, fixed, enumeration, fields, array, map_of, union, no_shapes, shape_then}
use Rattle.icb_avro.specs.declared.fault.AvroCause.{AvroCause}
use Rattle.icb_avro.specs.declared.fault.AvroCause.TheVariants as cause
use Rattle.icb_avro.specs.declared.fault.AvroFault.{AvroFault}
use Rattle.icb_avro.specs.declared.fault.Refusal.{Refusal}
use Rattle.icb_avro.specs.declared.value.Value.{Value}
use Rattle.icb_avro.specs.declared.value.Value.TheVariants as value
use Rattle.icb_avro.specs.Answers.{Gives}
use Rattle.icb_avro.specs.Cursor.{Input, unread, MovesBehind, NamesAndStays, Reads, ReadsValue, EndsWith, IsWithin, Follows}
use Rattle.icb_avro.specs.declared.fault.ValueFault.TheVariants as value_fault
use Rattle.icb_avro.specs.Spelling.{Spells, SpellEntry}
use Rattle.icb_avro.specs.Reading.{◌>>=◌, Read, varint_at, number_of, number_at, unzigzag, long_at, int_of, int_at, index_of, index_at, part_at, boolean_at, content_at, bytes_at, text_of, text_at, items_at, of_size, sized_at, block_at, is_zero, blocks_at, all_blocks_at, entry_at, primitive_at, value_at, fields_at, branch_at, count_of, read_as, refuse, behind}
use Rattle.icb_avro.proofs.Steps.{bind_ok, done, ok_is}
use Rattle.icb_avro.proofs.Found.{Found, index_found}
use Rattle.icb_avro.proofs.FoundValues.{block_found, entry_found, value_found}
use Rattle.icb_avro.proofs.BlockLemmas.{long_shorter}
use Rattle.icb_avro.proofs.SkipLemmas.{value_shorter, text_shorter, behind_ok, behind_err}

-- what is refused has at most so many bytes from its first on
abbrev pub Left : {A : Type 0} → ℕ → Result A Refusal → Type 0
Left n read = (r : Refusal) → read ≡ Err r → r.left ≤ n

left_bind : {A B : Type 0} (n : ℕ) (read : Result A Refusal) (f : A → Result B Refusal) → Left n read → ((x : A) → read ≡ Ok x → Left n (f x)) → Left n (read >>= f)
left_bind n (Ok x) f h k r e = k x refl r e
left_bind n (Err d) f h k r e = let s : d ≡ r = cc in rw (← s) (h d refl)

left_ok : {A : Type 0} (n : ℕ) (x : A) → Left n (done x)
left_ok n x r e = absurd cc

left_refuse : {A : Type 0} (n : ℕ) (c : AvroCause) (all : List ℕ) → length all ≤ n → Left {A = A} n (refuse c all)
left_refuse n c all h r e = let s : record { left = length all; cause = c } ≡ r = cc in rw (← s) h

left_test : {A : Type 0} (n : ℕ) (b : Bool) (r s : Result A Refusal) → Left n r → Left n s → Left n (cond b r s)
left_test n true r s h k = h
left_test n false r s h k = k

left_more : {A : Type 0} (m n : ℕ) (read : Result A Refusal) → m ≤ n → Left m read → Left n read
left_more m n read h k r e = omega (arith, h, k r e)

same_length : (all : List ℕ) → length all ≤ length all
same_length all = omega arith

-- ---- numbers and bytes

number_left : (all : List ℕ) → Left (length all) (number_at all)
unfolding number_at
number_left all = by_cases (varint_at 10 all)
  where
    by_cases : (r : Result (ℕ × List ℕ) AvroCause) → Left (length all) (number_of all r)
    by_cases (Ok x) = left_test (length all) (ltb x.0 (2 ^ 64)) (Ok x) (refuse cause.Long all) (left_ok (length all) x) (left_refuse (length all) cause.Long all (same_length all))
    by_cases (Err c) = left_refuse (length all) c all (same_length all)

pub long_left : (all : List ℕ) → Left (length all) (long_at all)
unfolding long_at
long_left all = left_bind (length all) (number_at all) (λ x. Ok (unzigzag x.0, x.1)) (number_left all) (λ x e. left_ok (length all) (unzigzag x.0, x.1))

pub int_left : (all : List ℕ) → Left (length all) (int_at all)
unfolding int_at
int_left all = left_bind (length all) (long_at all) (int_of all) (long_left all)
    (λ x e. left_test (length all) _ (Ok x) (refuse cause.Int all) (left_ok (length all) x) (left_refuse (length all) cause.Int all (same_length all)))

index_cases : (count : ℕ) (all : List ℕ) (x : ℤ × List ℕ) → Left (length all) (index_of count all x)
index_cases count all (pos k, rest) = left_test (length all) (ltb k count) (Ok (k, rest)) (refuse cause.Index all) (left_ok (length all) (k, rest)) (left_refuse (length all) cause.Index all (same_length all))
index_cases count all (negsuc k, rest) = left_refuse (length all) cause.Index all (same_length all)

index_left : (count : ℕ) (all : List ℕ) → Left (length all) (index_at count all)
unfolding index_at
index_left count all = left_bind (length all) (int_at all) (index_of count all) (int_left all) (λ x e. index_cases count all x)

pub part_left : (n : ℕ) (all rest : List ℕ) → Left (length all) (part_at n all rest)
unfolding part_at
part_left n all rest = left_test (length all) (leb n (length rest)) (Ok (take n rest, drop n rest)) (refuse cause.End all) (left_ok (length all) (take n rest, drop n rest)) (left_refuse (length all) cause.End all (same_length all))

pub boolean_left : (all : List ℕ) → Left (length all) (boolean_at all)
unfolding boolean_at
boolean_left [] = left_refuse 0 cause.End [] (same_length [])
boolean_left (b ∷ rest) =
    left_test (length (b ∷ rest)) (eqb b 0) (Ok (false, rest)) (cond (eqb b 1) (Ok (true, rest)) (refuse cause.Bool (b ∷ rest))) (left_ok (length (b ∷ rest)) (false, rest))
    (left_test (length (b ∷ rest)) (eqb b 1) (Ok (true, rest)) (refuse cause.Bool (b ∷ rest)) (left_ok (length (b ∷ rest)) (true, rest)) (left_refuse (length (b ∷ rest)) cause.Bool (b ∷ rest) (same_length (b ∷ rest))))

content_cases : (all : List ℕ) (x : ℤ × List ℕ) → Left (length all) (content_at all x)
content_cases all (pos n, rest) = part_left n all rest
content_cases all (negsuc n, rest) = left_refuse (length all) cause.Negative all (same_length all)

pub bytes_left : (all : List ℕ) → Left (length all) (bytes_at all)
unfolding bytes_at
bytes_left all = left_bind (length all) (long_at all) (content_at all) (long_left all) (λ x e. content_cases all x)

pub text_left : (all : List ℕ) → Left (length all) (text_at all)
unfolding text_at
text_left all = left_bind (length all) (bytes_at all) (text_of all) (bytes_left all)
    (λ x e. left_test (length all) (is_utf8 x.0) (Ok x) (refuse cause.Utf8 all) (left_ok (length all) x) (left_refuse (length all) cause.Utf8 all (same_length all)))

-- ---- items and blocks

abbrev Shorter : {A : Type 0} → (List ℕ → Read A) → Type 0
Shorter {A} item = (all : List ℕ) (x : A × List ℕ) → item all ≡ Ok x → length x.1 ≤ length all

items_left : {A : Type 0} (item : List ℕ → Read A) → Shorter item → ((all : List ℕ) → Left (length all) (item all)) → (n : ℕ) (all : List ℕ) → Left (length all) (items_at item n all)
unfolding items_at
items_left {A} item shorter left zero all = left_ok {A = List A × List ℕ} (length all) ([], all)
items_left {A} item shorter left (suc n) all =
    left_bind (length all) (item all) (λ x. items_at item n x.1 >>= (λ xs. Ok (x.0 ∷ xs.0, xs.1))) (left all)
    (λ x e. left_more (length x.1) (length all) (items_at item n x.1 >>= (λ xs. Ok (x.0 ∷ xs.0, xs.1))) (shorter all x e)
    (left_bind (length x.1) (items_at item n x.1) (λ xs. Ok (x.0 ∷ xs.0, xs.1)) (items_left item shorter left n x.1) (λ xs k. left_ok {A = List A × List ℕ} (length x.1) (x.0 ∷ xs.0, xs.1))))

items_shorter : {A : Type 0} (item : List ℕ → Read A) → Shorter item → (n : ℕ) → Shorter (items_at item n)
unfolding items_at
items_shorter {A} item shorter zero all xs e =
    let made : List A × List ℕ = ([], all) in
    omega (arith, ap (λ (y : List A × List ℕ). length y.1) (ok_is made xs e))
items_shorter {A} item shorter (suc n) all xs e =
    let a = bind_ok (item all) (λ x. items_at item n x.1 >>= (λ ys. Ok (x.0 ∷ ys.0, ys.1))) xs e in
    let b = bind_ok (items_at item n a.0.1) (λ ys. Ok (a.0.0 ∷ ys.0, ys.1)) xs a.2 in
    let made : List A × List ℕ = (a.0.0 ∷ b.0.0, b.0.1) in
    omega (arith, shorter all a.0 a.1, items_shorter item shorter n a.0.1 b.0 b.1, ap (λ (y : List A × List ℕ). length y.1) (ok_is made xs b.2))

of_size_left : {A : Type 0} (n size : ℕ) (r : List ℕ) (xs : List A × List ℕ) → length xs.1 ≤ n → Left n (of_size size r xs)
of_size_left n size r xs h = left_test n (eqb (length r) (size + length xs.1)) (Ok xs) (refuse cause.Size xs.1) (left_ok n xs) (left_refuse n cause.Size xs.1 h)

sized_left : {A : Type 0} (item : List ℕ → Read A) → Shorter item → ((all : List ℕ) → Left (length all) (item all)) → (n : ℕ) (rest : List ℕ) (x : ℤ × List ℕ) → length x.1 ≤ length rest → Left (length rest) (sized_at item n rest x)
sized_left item shorter left n rest (pos size, r) h =
    left_bind (length rest) (items_at item n r) (of_size size r) (left_more (length r) (length rest) (items_at item n r) h (items_left item shorter left n r))
    (λ xs e. of_size_left (length rest) size r xs (omega (arith, h, items_shorter item shorter n r xs e)))
sized_left item shorter left n rest (negsuc size, r) h = left_refuse (length rest) cause.Negative rest (same_length rest)

block_left : {A : Type 0} (item : List ℕ → Read A) → Shorter item → ((all : List ℕ) → Left (length all) (item all)) → (all : List ℕ) (x : ℤ × List ℕ) → length x.1 ≤ length all → Left (length all) (block_at item all x)
block_left item shorter left all (pos n, rest) h =
    left_test (length all) (leb n (length rest)) (items_at item n rest) (refuse cause.Count all) (left_more (length rest) (length all) (items_at item n rest) h (items_left item shorter left n rest)) (left_refuse (length all) cause.Count all (same_length all))
block_left item shorter left all (negsuc n, rest) h =
    left_test (length all) (ltb n (length rest)) (long_at rest >>= sized_at item (suc n) rest) (refuse cause.Count all)
    (left_more (length rest) (length all) (long_at rest >>= sized_at item (suc n) rest) h
    (left_bind (length rest) (long_at rest) (sized_at item (suc n) rest) (long_left rest) (λ x e. sized_left item shorter left (suc n) rest x (omega (arith, long_shorter rest x.0 x.1 e)))))
    (left_refuse (length all) cause.Count all (same_length all))

block_shorter : {A : Type 0} (Spell : A → List ℕ → Type 0) (item : List ℕ → Read A) → Found Spell item → (all : List ℕ) (x : ℤ × List ℕ) (xs : List A × List ℕ) → is_zero x.0 ≡ false → long_at all ≡ Ok x → block_at item all x ≡ Ok xs → length xs.1 ≤ length all
block_shorter Spell item found all x xs z e f = let b = block_found Spell item found all x.0 x.1 xs.0 xs.1 z e f in omega (arith, ap length b.1, length-append b.0 xs.1)

found_shorter : {A : Type 0} (Spell : A → List ℕ → Type 0) (item : List ℕ → Read A) → Found Spell item → Shorter item
found_shorter Spell item found all x e = let f = found all x.0 x.1 e in omega (arith, ap length f.1, length-append f.0 x.1)

blocks_cases : {A : Type 0} (Spell : A → List ℕ → Type 0) (item : List ℕ → Read A) → Found Spell item → ((all : List ℕ) → Left (length all) (item all)) → (blocks : List ℕ → Read (List A)) → ((all : List ℕ) → Left (length all) (blocks all))
    → (all : List ℕ) (n : ℤ × List ℕ) (b : Bool) → is_zero n.0 ≡ b → long_at all ≡ Ok n
    → Left {A = List A × List ℕ} (length all) (cond b (Ok ([], n.1)) (block_at item all n >>= (λ xs. blocks xs.1 >>= (λ ys. Ok (xs.0 ++ ys.0, ys.1)))))
blocks_cases {A} Spell item found left blocks more all n true z e = left_ok {A = List A × List ℕ} (length all) ([], n.1)
blocks_cases {A} Spell item found left blocks more all n false z e =
    left_bind (length all) (block_at item all n) (λ xs. blocks xs.1 >>= (λ ys. Ok (xs.0 ++ ys.0, ys.1)))
    (block_left item (found_shorter Spell item found) left all n (omega (arith, long_shorter all n.0 n.1 e)))
    (λ xs f. left_more (length xs.1) (length all) (blocks xs.1 >>= (λ ys. Ok (xs.0 ++ ys.0, ys.1))) (block_shorter Spell item found all n xs z e f)
    (left_bind (length xs.1) (blocks xs.1) (λ ys. Ok (xs.0 ++ ys.0, ys.1)) (more xs.1) (λ ys k. left_ok {A = List A × List ℕ} (length xs.1) (xs.0 ++ ys.0, ys.1))))

blocks_left : {A : Type 0} (Spell : A → List ℕ → Type 0) (item : List ℕ → Read A) → Found Spell item → ((all : List ℕ) → Left (length all) (item all)) → (most : ℕ) (all : List ℕ) → Left (length all) (blocks_at item most all)
unfolding blocks_at
blocks_left Spell item found left zero all = left_refuse (length all) cause.End all (same_length all)
blocks_left {A} Spell item found left (suc most) all =
    left_bind (length all) (long_at all) (λ n. cond (is_zero n.0) (Ok ([], n.1)) (block_at item all n >>= (λ xs. blocks_at item most xs.1 >>= (λ ys. Ok (xs.0 ++ ys.0, ys.1))))) (long_left all)
    (λ n e. blocks_cases Spell item found left (blocks_at item most) (blocks_left Spell item found left most) all n (is_zero n.0) refl e)

-- ---- values

as_left : {A B : Type 0} (n : ℕ) (f : A → B) (read : Read A) → Left n read → Left n (read_as f read)
as_left {A} {B} n f read h = left_bind n read (λ x. Ok (f x.0, x.1)) h (λ x e. left_ok {A = B × List ℕ} n (f x.0, x.1))

entry_left : (item : List ℕ → Read Value) → ((all : List ℕ) → Left (length all) (item all)) → (all : List ℕ) → Left (length all) (entry_at item all)
entry_left item left all =
    left_bind (length all) (text_at all) (λ key. read_as (λ v. (key.0, v)) (item key.1)) (text_left all)
    (λ key e. left_more (length key.1) (length all) (read_as (λ v. (key.0, v)) (item key.1)) (text_shorter all key.0 key.1 e) (as_left (length key.1) (λ v. (key.0, v)) (item key.1) (left key.1)))

primitive_left : (p : Primitive) (all : List ℕ) → Left (length all) (primitive_at p all)
primitive_left tree.null all = left_ok {A = Value × List ℕ} (length all) (value.Null, all)
primitive_left tree.boolean all = as_left (length all) value.Boolean (boolean_at all) (boolean_left all)
primitive_left tree.int all = as_left (length all) value.Int (int_at all) (int_left all)
primitive_left tree.long all = as_left (length all) value.Long (long_at all) (long_left all)
primitive_left tree.float all = as_left (length all) value.Float (part_at 4 all all) (part_left 4 all all)
primitive_left tree.double all = as_left (length all) value.Double (part_at 8 all all) (part_left 8 all all)
primitive_left tree.bytes all = as_left (length all) value.Bytes (bytes_at all) (bytes_left all)
primitive_left tree.text all = as_left (length all) value.Text (text_at all) (text_left all)

index_shorter : (count : ℕ) (all : List ℕ) (k : ℕ × List ℕ) → index_at count all ≡ Ok k → length k.1 ≤ length all
index_shorter count all k e = let f = index_found count all k.0 k.1 e in omega (arith, ap length f.1, length-append f.0 k.1)

mutual
  pub value_left : (s : Shape) (all : List ℕ) → Left (length all) (value_at s all)
  value_left (primitive p) all = primitive_left p all
  value_left (fixed n) all = as_left (length all) value.Fixed (part_at n all all) (part_left n all all)
  value_left (enumeration n) all = as_left (length all) value.Enum (index_at n all) (index_left n all)
  value_left (fields ss) all = as_left (length all) value.Record (fields_at ss all) (fields_left ss all)
  value_left (array s) all = as_left (length all) value.Array (all_blocks_at (value_at s) all) (blocks_left (Spells s) (value_at s) (value_found s) (value_left s) (suc (length all)) all)
  value_left (map_of s) all = as_left (length all) value.Map (all_blocks_at (entry_at (value_at s)) all)
      (blocks_left (SpellEntry (Spells s)) (entry_at (value_at s)) (entry_found (Spells s) (value_at s) (value_found s)) (entry_left (value_at s) (value_left s)) (suc (length all)) all)
  value_left (union ss) all =
      left_bind (length all) (index_at (count_of ss) all) (λ k. read_as (value.Union k.0) (branch_at ss k.0 k.1)) (index_left (count_of ss) all)
      (λ k e. left_more (length k.1) (length all) (read_as (value.Union k.0) (branch_at ss k.0 k.1)) (index_shorter (count_of ss) all k e)
      (as_left (length k.1) (value.Union k.0) (branch_at ss k.0 k.1) (branch_left ss k.0 k.1)))

  fields_left : (ss : Shapes) (all : List ℕ) → Left (length all) (fields_at ss all)
  fields_left no_shapes all = left_ok {A = List Value × List ℕ} (length all) ([], all)
  fields_left (shape_then s ss) all =
      left_bind (length all) (value_at s all) (λ v. fields_at ss v.1 >>= (λ vs. Ok (v.0 ∷ vs.0, vs.1))) (value_left s all)
      (λ v e. left_more (length v.1) (length all) (fields_at ss v.1 >>= (λ vs. Ok (v.0 ∷ vs.0, vs.1))) (value_shorter s all v.0 v.1 e)
      (left_bind (length v.1) (fields_at ss v.1) (λ vs. Ok (v.0 ∷ vs.0, vs.1)) (fields_left ss v.1) (λ vs k. left_ok {A = List Value × List ℕ} (length v.1) (v.0 ∷ vs.0, vs.1))))

  branch_left : (ss : Shapes) (k : ℕ) (all : List ℕ) → Left (length all) (branch_at ss k all)
  branch_left no_shapes k all = left_refuse (length all) cause.Index all (same_length all)
  branch_left (shape_then s ss) zero all = value_left s all
  branch_left (shape_then s ss) (suc k) all = branch_left ss k all

-- ---- what a cursor's readers answer

-- what is behind a front of the last bytes is the last of the whole
ends_with : (whole : List ℕ) (place : ℕ) (front more : List ℕ) → place ≤ length whole → drop place whole ≡ front ++ more → EndsWith whole more
ends_with whole place front more h e =
    let both : whole ≡ (take place whole ++ front) ++ more = sym (take-append-drop place whole) ∙ ap (λ (t : List ℕ). take place whole ++ t) e ∙ sym (append_assoc (take place whole) front more) in
    let size : length whole ≡ length (take place whole ++ front) + length more = ap length both ∙ length-append (take place whole ++ front) more in
    let n : length (take place whole ++ front) ≡ length whole - length more = omega (arith, size) in
    record {
      within = omega (arith, size);
      same = ap (drop (length whole - length more)) both ∙ drop_at (take place whole ++ front) more (length whole - length more) n;
    }

pub ok_ends : {Y : Type 0} (Spell : Y → List ℕ → Type 0) (item : List ℕ → Read Y) → Found Spell item → (whole : List ℕ) (place : ℕ) (y : Y) (more : List ℕ) → place ≤ length whole → item (drop place whole) ≡ Ok (y, more) → EndsWith whole more
ok_ends Spell item found whole place y more h e = let f = found (drop place whole) y more e in ends_with whole place f.0 more h f.1

pub err_within : {Y : Type 0} (item : List ℕ → Read Y) → ((all : List ℕ) → Left (length all) (item all)) → (whole : List ℕ) (place : ℕ) (r : Refusal) → item (drop place whole) ≡ Err r → r.left ≤ length whole
err_within item left whole place r e = omega (arith, left (drop place whole) r e, length-drop place whole)

-- what a reader answers at a place of the input is within it
pub is_within : {X Y : Type 0} (view : X → Y) (Spell : Y → List ℕ → Type 0) (item : List ℕ → Read Y) → Found Spell item → ((all : List ℕ) → Left (length all) (item all)) → (whole : List ℕ) (place : ℕ) → place ≤ length whole
    → (read : Result (X × Bor (List ℕ)) Refusal) → Gives (λ x. (view x.0, x.1.now)) read (item (drop place whole)) → IsWithin whole read
is_within view Spell item found left whole place h (Ok x) e = ok_ends Spell item found whole place (view x.0) x.1.now h e
is_within view Spell item found left whole place h (Err r) e = err_within item left whole place r e

pub reads_so : {X Y : Type 0} (view : X → Y) (read : Result (X × Bor (List ℕ)) Refusal) (spec : Read Y) (result : Result X AvroFault) (old new : Input)
    → Gives (λ x. (view x.0, x.1.now)) read spec → Follows read result old new → Reads view result old new spec
reads_so view (Ok x) spec (Ok y) old new g f = rw g (ap view f.0, f.1, f.2, f.3)
reads_so view (Ok x) spec (Err e) old new g f = absurd f
reads_so view (Err r) spec (Ok y) old new g f = absurd f
reads_so view (Err r) spec (Err e) old new g f = rw g f

pub moved_behind : {A : Type 0} (x : A) (old new : Input) (rest : List ℕ) → EndsWith old.whole rest → new.whole ≡ old.whole → new.place ≡ length old.whole - length rest → MovesBehind x old new (x, rest)
moved_behind x old new rest e w p = (refl, w, omega (arith, e.within, p), rw (w, p) e.same)

pub skipped_ends : (s : Shape) (whole : List ℕ) (place : ℕ) (rest : List ℕ) → place ≤ length whole → behind (value_at s (drop place whole)) ≡ Ok rest → EndsWith whole rest
skipped_ends s whole place rest h e = let b = behind_ok (value_at s (drop place whole)) rest e in ok_ends (Spells s) (value_at s) (value_found s) whole place b.0 rest h b.1

pub skips_so : (s : Shape) (old new : Input) (rest : List ℕ) → behind (value_at s (unread old)) ≡ Ok rest → MovesBehind (tt {0}) old new (tt {0}, rest) → Reads (λ (done : Unit {0}). done) (Ok (tt {0})) old new (read_as (λ x. tt {0}) (value_at s (unread old)))
skips_so s old new rest e m = let b = behind_ok (value_at s (unread old)) rest e in rw b.1 m

pub skip_stays : (s : Shape) (old new : Input) (f : AvroFault) (r : Refusal) → behind (value_at s (unread old)) ≡ Err r → NamesAndStays f old new r → Reads (λ (done : Unit {0}). done) (Err f) old new (read_as (λ x. tt {0}) (value_at s (unread old)))
skip_stays s old new f r e m = rw (behind_err (value_at s (unread old)) r e) m

pub makes_so : (s : Shape) (old new : Input) (v : Value) (rest : List ℕ) → value_at s (unread old) ≡ Ok (v, rest) → MovesBehind v old new (v, rest) → ReadsValue (Ok v) old new (value_at s (unread old))
makes_so s old new v rest e m = rw e m

pub make_stays : (s : Shape) (old new : Input) (f : AvroFault) (r : Refusal) → value_at s (unread old) ≡ Err r → NamesAndStays f old new r → ReadsValue (Err (value_fault.Avro f)) old new (value_at s (unread old))
make_stays s old new f r e m = rw e m
