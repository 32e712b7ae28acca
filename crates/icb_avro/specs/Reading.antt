-- Reading from the front: the value and the bytes behind it, or the first item that no front of
-- the bytes spells.
use Rattle.std.specs.Prelude.{ℕ, zero, suc, ◌+◌, ◌-◌, ◌*◌, ◌/◌, ◌%◌, ◌^◌, ◌==◌}
use Rattle.std.specs.Prelude.{nat_lt, nat_le, ℤ, pos, negsuc, List, [], ◌∷◌, ◌++◌, length}
use Rattle.std.specs.Prelude.{take, drop, Bool, true, false, if◌then◌else◌, Result, Ok, Err}
use Rattle.std.specs.Str.{is_utf8}
use Rattle.icb_schema.specs.Tree as tree
use Rattle.icb_schema.specs.Tree.{Primitive}
use Rattle.icb_schema.specs.Shape.{Shape, Shapes, primitive, fixed, enumeration}
use Rattle.icb_schema.specs.Shape.{fields, array, map_of, union, no_shapes, shape_then}
use Rattle.icb_avro.specs.declared.fault.AvroCause.{AvroCause}
use Rattle.icb_avro.specs.declared.fault.AvroCause.TheVariants as cause
use Rattle.icb_avro.specs.declared.fault.Refusal.{Refusal}
use Rattle.icb_avro.specs.declared.value.Value.{Value}
use Rattle.icb_avro.specs.declared.value.Value.TheVariants as value
use Rattle.icb_avro.specs.Numbers.{zigzag}

-- what is read and the bytes behind it, or the refused item
abbrev pub Read : Type 0 → Type 0
Read A = Result (A × List ℕ) Refusal

infixl 10 ◌>>=◌
-- what comes next, where nothing is refused
abbrev pub ◌>>=◌ : {A B : Type 0} → Result A Refusal → (A → Result B Refusal) → Result B Refusal
(Ok x) >>= f = f x
(Err e) >>= f = Err e

-- the item that begins here is refused
abbrev pub refuse : {A : Type 0} → AvroCause → List ℕ → Result A Refusal
refuse c all = Err (record { left = length all; cause = c })

-- the same bytes, seen as another value
abbrev pub read_as : {A B : Type 0} → (A → B) → Read A → Read B
read_as f read = read >>= (λ x. Ok (f x.0, x.1))

-- ---- numbers

-- a byte that isn't a number's last, before the rest of it
abbrev pub below : ℕ → Result (ℕ × List ℕ) AvroCause → Result (ℕ × List ℕ) AvroCause
below b (Ok x) = Ok (b - 128 + 128 * x.0, x.1)
below b (Err c) = Err c

-- seven bits a byte, the lowest first, in at most so many bytes
unfoldable pub varint_at : ℕ → List ℕ → Result (ℕ × List ℕ) AvroCause
varint_at zero all = Err cause.Long
varint_at (suc most) [] = Err cause.End
varint_at (suc most) (b ∷ all) =
    if nat_lt b 128 then Ok (b, all) else below b (varint_at most all)

-- 0, 1, 2, 3, 4 and so on are 0, -1, 1, -2, 2
abbrev pub unzigzag : ℕ → ℤ
unzigzag n = if n % 2 == 0 then pos (n / 2) else negsuc (n / 2)

-- a number below 2 ^ 64 that begins here
abbrev pub number_of : List ℕ → Result (ℕ × List ℕ) AvroCause → Read ℕ
number_of all (Ok x) = if nat_lt x.0 (2 ^ 64) then Ok x else refuse cause.Long all
number_of all (Err c) = refuse c all

-- a number below 2 ^ 64, in at most 10 bytes
unfoldable pub number_at : List ℕ → Read ℕ
number_at all = number_of all (varint_at 10 all)

-- a number of 64 bits
unfoldable pub long_at : List ℕ → Read ℤ
long_at all = read_as unzigzag (number_at all)

-- a number of 32 bits that begins here
abbrev pub int_of : List ℕ → ℤ × List ℕ → Read ℤ
int_of all n = if nat_lt (zigzag n.0) (2 ^ 32) then Ok n else refuse cause.Int all

-- a number of 32 bits
unfoldable pub int_at : List ℕ → Read ℤ
int_at all = long_at all >>= int_of all

-- a number that is below the count
abbrev pub index_of : ℕ → List ℕ → ℤ × List ℕ → Read ℕ
index_of count all (pos k, rest) =
    if nat_lt k count then Ok (k, rest) else refuse cause.Index all
index_of count all (negsuc k, rest) = refuse cause.Index all

-- the number of a symbol or a branch, of so many
unfoldable pub index_at : ℕ → List ℕ → Read ℕ
index_at count all = int_at all >>= index_of count all

-- ---- bytes

-- so many bytes of an item that begins at `all`
unfoldable pub part_at : ℕ → List ℕ → List ℕ → Read (List ℕ)
part_at n all rest =
    if nat_le n (length rest) then Ok (take n rest, drop n rest) else refuse cause.End all

-- 00 is false and 01 is true
unfoldable pub boolean_at : List ℕ → Read Bool
boolean_at [] = refuse cause.End []
boolean_at (b ∷ rest) = if b == 0 then Ok (false, rest)
    else (if b == 1 then Ok (true, rest) else refuse cause.Bool (b ∷ rest))

-- as many bytes as the number says
abbrev pub content_at : List ℕ → ℤ × List ℕ → Read (List ℕ)
content_at all (pos n, rest) = part_at n all rest
content_at all (negsuc n, rest) = refuse cause.Negative all

-- a number, and that many bytes
unfoldable pub bytes_at : List ℕ → Read (List ℕ)
bytes_at all = long_at all >>= content_at all

-- bytes that are UTF-8
abbrev pub text_of : List ℕ → List ℕ × List ℕ → Read (List ℕ)
text_of all text = if is_utf8 text.0 then Ok text else refuse cause.Utf8 all

-- a number, and that many bytes of UTF-8
unfoldable pub text_at : List ℕ → Read (List ℕ)
text_at all = bytes_at all >>= text_of all

-- ---- items and blocks

-- so many items
unfoldable pub items_at : {A : Type 0} → (List ℕ → Read A) → ℕ → List ℕ → Read (List A)
items_at item zero all = Ok ([], all)
items_at item (suc n) all =
    item all >>= (λ x. items_at item n x.1 >>= (λ xs. Ok (x.0 ∷ xs.0, xs.1)))

-- items from `all` on that take so many bytes
abbrev pub of_size : {A : Type 0} → ℕ → List ℕ → List A × List ℕ → Read (List A)
of_size size all xs =
    if length all == size + length xs.1 then Ok xs else refuse cause.Size xs.1

-- the items of a block, behind the size in bytes that is said at `all`
abbrev pub sized_at : {A : Type 0} → (List ℕ → Read A) → ℕ → List ℕ → ℤ × List ℕ → Read (List A)
sized_at item n all (pos size, rest) = items_at item n rest >>= of_size size rest
sized_at item n all (negsuc size, rest) = refuse cause.Negative all

-- the items of a block that begins at `all`, behind its count; a count below 0 has a size
abbrev pub block_at : {A : Type 0} → (List ℕ → Read A) → List ℕ → ℤ × List ℕ → Read (List A)
block_at item all (pos n, rest) =
    if nat_le n (length rest) then items_at item n rest else refuse cause.Count all
block_at item all (negsuc n, rest) = if nat_lt n (length rest)
    then long_at rest >>= sized_at item (suc n) rest else refuse cause.Count all

-- a number is 0
abbrev pub is_zero : ℤ → Bool
is_zero (pos zero) = true
is_zero (pos (suc n)) = false
is_zero (negsuc n) = false

-- fewer blocks than `most`, and the count 0
unfoldable pub blocks_at : {A : Type 0} → (List ℕ → Read A) → ℕ → List ℕ → Read (List A)
blocks_at item zero all = refuse cause.End all
blocks_at item (suc most) all = long_at all >>= (λ n. if is_zero n.0 then Ok ([], n.1)
    else (block_at item all n >>= (λ xs. blocks_at item most xs.1 >>= (λ ys.
    Ok (xs.0 ++ ys.0, ys.1)))))

-- blocks, of which each takes a byte
abbrev pub all_blocks_at : {A : Type 0} → (List ℕ → Read A) → List ℕ → Read (List A)
all_blocks_at item all = blocks_at item (suc (length all)) all

-- a text and a value
abbrev pub entry_at : {A : Type 0} → (List ℕ → Read A) → List ℕ → Read (List ℕ × A)
entry_at item all = text_at all >>= (λ key. read_as (λ v. (key.0, v)) (item key.1))

-- ---- values

-- a value of a primitive type
abbrev pub primitive_at : Primitive → List ℕ → Read Value
primitive_at tree.null all = Ok (value.Null, all)
primitive_at tree.boolean all = read_as value.Boolean (boolean_at all)
primitive_at tree.int all = read_as value.Int (int_at all)
primitive_at tree.long all = read_as value.Long (long_at all)
primitive_at tree.float all = read_as value.Float (part_at 4 all all)
primitive_at tree.double all = read_as value.Double (part_at 8 all all)
primitive_at tree.bytes all = read_as value.Bytes (bytes_at all)
primitive_at tree.text all = read_as value.Text (text_at all)

-- how many shapes there are
abbrev pub count_of : Shapes → ℕ
count_of no_shapes = 0
count_of (shape_then s ss) = suc (count_of ss)

abbrev mutual
  -- a value of this shape
  pub value_at : Shape → List ℕ → Read Value
  value_at (primitive p) all = primitive_at p all
  value_at (fixed size) all = read_as value.Fixed (part_at size all all)
  value_at (enumeration n) all = read_as value.Enum (index_at n all)
  value_at (fields ss) all = read_as value.Record (fields_at ss all)
  value_at (array s) all = read_as value.Array (all_blocks_at (value_at s) all)
  value_at (map_of s) all = read_as value.Map (all_blocks_at (entry_at (value_at s)) all)
  value_at (union ss) all = index_at (count_of ss) all >>= (λ k.
      read_as (value.Union k.0) (branch_at ss k.0 k.1))

  -- a value for each field, in order
  pub fields_at : Shapes → List ℕ → Read (List Value)
  fields_at no_shapes all = Ok ([], all)
  fields_at (shape_then s ss) all =
      value_at s all >>= (λ v. fields_at ss v.1 >>= (λ vs. Ok (v.0 ∷ vs.0, vs.1)))

  -- a value of the branch of this number, from 0
  pub branch_at : Shapes → ℕ → List ℕ → Read Value
  branch_at no_shapes k all = refuse cause.Index all
  branch_at (shape_then s ss) zero all = value_at s all
  branch_at (shape_then s ss) (suc k) all = branch_at ss k all

-- the bytes behind what is read
abbrev pub behind : {A : Type 0} → Read A → Result (List ℕ) Refusal
behind read = read >>= (λ x. Ok x.1)
