-- The header: the magic, a map of properties, the marker; the schema and the codec are properties
-- (Apache Avro 1.11, "Object Container Files"). `end` is the number of bytes of the file.
use Rattle.std.specs.Prelude.{ℕ, zero, suc, ◌+◌, ◌-◌, ◌^◌, ◌==◌, nat_lt, nat_le, ℤ, pos, negsuc}
use Rattle.std.specs.Prelude.{List, [], ◌∷◌, ◌++◌, length, take, drop, codes, Bool, false, not}
use Rattle.std.specs.Prelude.{if◌then◌else◌, Option, Some, None, Result, Ok, Err}
use Rattle.std.specs.Option.{option_or}
use Rattle.std.specs.Str.{bytes_eq, is_utf8}
use Rattle.icb_base.specs.declared.limits.Limited.TheVariants as limited
use Rattle.icb_schema.specs.Tree as tree
use Rattle.icb_schema.specs.Tree.{Tree}
use Rattle.icb_schema.specs.Shape.{shape, takes_bytes}
use Rattle.icb_schema.specs.Reading.{schema_of}
use Rattle.icb_schema.specs.declared.fault.SchemaFault.{SchemaFault}
use Rattle.icb_schema.specs.declared.fault.SchemaFault.TheVariants as schema_fault
use Rattle.icb_avro.specs.declared.fault.AvroCause.TheVariants as cause
use Rattle.icb_avro.specs.Reading.{long_at, part_at, is_zero}
use Rattle.icb_container.specs.Wrong as wrong
use Rattle.icb_container.specs.Wrong.{Wrong, ◌>>=◌, refuse, in_file}

-- what is read and the bytes behind it, or what is wrong
abbrev pub Reads : Type 0 → Type 0
Reads A = Result (A × List ℕ) Wrong

-- no item of a header ends behind this place
abbrev pub max_header : ℕ
max_header = 2 ^ 24

-- The item of so many bytes that begins at `all` and ends at the place `stop` is within the limit.
abbrev pub within : {A : Type 0} → ℕ → List ℕ → ℕ → ℕ → Result A Wrong → Result A Wrong
within end all stop size read = if nat_lt max_header stop
    then Err (wrong.large limited.Header (end - length all) size) else read

-- ---- the map of properties

-- a number, whose size is that of its bytes
unfoldable pub number_at : ℕ → List ℕ → Reads ℤ
number_at end all = in_file end (long_at all) >>= (λ n.
    within end all (end - length n.1) (length all - length n.1) (Ok n))

-- as many bytes as the number at `all` says, which is their size
abbrev pub content_at : ℕ → List ℕ → ℤ × List ℕ → Reads (List ℕ)
content_at end all (pos n, rest) =
    within end all (end - length rest + n) n (in_file end (part_at n all rest))
content_at end all (negsuc n, rest) = refuse end all cause.Negative

-- a number, and that many bytes
unfoldable pub bytes_at : ℕ → List ℕ → Reads (List ℕ)
bytes_at end all = number_at end all >>= content_at end all

-- a number, and that many bytes of UTF-8
unfoldable pub text_at : ℕ → List ℕ → Reads (List ℕ)
text_at end all = bytes_at end all >>= (λ text.
    if is_utf8 text.0 then Ok text else refuse end all cause.Utf8)

-- a property, with the place of its value
pub record Property : Type 0 where
  pub key : List ℕ
  pub value : List ℕ
  pub place : ℕ

-- a text and bytes
unfoldable pub property_at : ℕ → List ℕ → Reads Property
property_at end all = text_at end all >>= (λ key. bytes_at end key.1 >>= (λ value.
    Ok (record { key = key.0; value = value.0; place = end - length key.1 }, value.1)))

-- so many properties
unfoldable pub properties_at : ℕ → ℕ → List ℕ → Reads (List Property)
properties_at end zero all = Ok ([], all)
properties_at end (suc n) all = property_at end all >>= (λ p. properties_at end n p.1 >>= (λ ps.
    Ok (p.0 ∷ ps.0, ps.1)))

-- the properties of a block, behind the size in bytes that is said at `all`
abbrev pub sized_at : ℕ → ℕ → List ℕ → ℤ × List ℕ → Reads (List Property)
sized_at end n all (pos size, rest) = properties_at end n rest >>= (λ ps.
    if length rest == size + length ps.1 then Ok ps else refuse end ps.1 cause.Size)
sized_at end n all (negsuc size, rest) = refuse end all cause.Negative

-- the properties of a block, behind its count at `all`; a count below 0 has a size
abbrev pub block_at : ℕ → List ℕ → ℤ × List ℕ → Reads (List Property)
block_at end all (pos n, rest) =
    if nat_le n (length rest) then properties_at end n rest else refuse end all cause.Count
block_at end all (negsuc n, rest) = if nat_lt n (length rest)
    then number_at end rest >>= sized_at end (suc n) rest else refuse end all cause.Count

-- fewer blocks than `most`, and the count 0
unfoldable pub map_at : ℕ → ℕ → List ℕ → Reads (List Property)
map_at end zero all = refuse end all cause.End
map_at end (suc most) all = number_at end all >>= (λ n. if is_zero n.0 then Ok ([], n.1)
    else (block_at end all n >>= (λ ps. map_at end most ps.1 >>= (λ more.
    Ok (ps.0 ++ more.0, more.1)))))

-- 16 bytes
unfoldable pub marker_at : ℕ → List ℕ → Reads (List ℕ)
marker_at end all = within end all (end - length all + 16) 16 (in_file end (part_at 16 all all))

-- ---- the schema and the codec

-- the last property of this key
unfoldable pub property_of : List ℕ → List Property → Option Property
property_of key [] = None
property_of key (p ∷ ps) =
    option_or (property_of key ps) (if bytes_eq key p.key then Some p else None)

-- what is there
abbrev pub needed : Option Property → Result Property Wrong
needed (Some p) = Ok p
needed None = Err wrong.not_avro

-- the codec is `null`, or isn't said
abbrev pub plain : Option Property → Result (Unit {0}) Wrong
plain None = Ok tt
plain (Some p) = if not (is_utf8 p.value) then Err (wrong.avro p.place cause.Utf8)
    else (if bytes_eq p.value (codes "null") then Ok tt else Err (wrong.codec p.value))

-- the type is a record that takes a byte
abbrev pub is_row : Tree → Bool
is_row (tree.node (tree.fields name fs) logical utc) =
    takes_bytes (shape (tree.node (tree.fields name fs) logical utc))
is_row (tree.node form logical utc) = false

-- the schema of a text, which is a record that takes a byte
abbrev pub row_schema : Result Tree SchemaFault → Result Tree Wrong
row_schema (Ok t) =
    if is_row t then Ok t else Err (wrong.schema (schema_fault.Shape 0))
row_schema (Err e) = Err (wrong.schema e)

-- ---- the header

-- "Obj" and the byte 1
abbrev pub magic : List ℕ
magic = 79 ∷ 98 ∷ 106 ∷ 1 ∷ []

-- the schema of the records, all properties in order, the marker, and the bytes behind them
pub record Header : Type 0 where
  pub schema : Tree
  pub properties : List Property
  pub marker : List ℕ
  pub rest : List ℕ

-- the header of these properties and this marker
abbrev pub header_from : List Property → List ℕ × List ℕ → Result Header Wrong
header_from ps marker = needed (property_of (codes "avro.schema") ps) >>= (λ text.
    plain (property_of (codes "avro.codec") ps) >>= (λ done.
    row_schema (schema_of text.value) >>= (λ t.
    Ok (record { schema = t; properties = ps; marker = marker.0; rest = marker.1 }))))

-- The header of a file, or its first fault in this order: the magic, the map, the marker, that the
-- schema is there, the codec, the schema.
unfoldable pub header_of : List ℕ → Result Header Wrong
header_of file = if not (bytes_eq (take 4 file) magic) then Err wrong.not_avro
    else (map_at (length file) (suc (length file)) (drop 4 file) >>= (λ ps.
    marker_at (length file) ps.1 >>= header_from ps.0))
