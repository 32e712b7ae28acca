-- Blocks: a count of records, their size in bytes, the records, and the marker (Apache Avro 1.11,
-- "Object Container Files"). Where a reader stands is a value, and a step is defined on each file.
use Rattle.std.specs.Prelude.{ℕ, suc, ◌+◌, ◌-◌, ◌^◌, ◌==◌, nat_lt, ℤ, pos, negsuc, List, length}
use Rattle.std.specs.Prelude.{take, drop, if◌then◌else◌, Option, Some, None, Result, Ok, Err}
use Rattle.std.specs.Str.{bytes_eq}
use Rattle.icb_base.specs.declared.limits.Limited.TheVariants as limited
use Rattle.icb_schema.specs.Tree.{Tree}
use Rattle.icb_schema.specs.Shape.{Shape, shape}
use Rattle.icb_avro.specs.declared.fault.AvroCause.TheVariants as cause
use Rattle.icb_avro.specs.declared.value.Value.{Value}
use Rattle.icb_avro.specs.Reading.{long_at, items_at, value_at}
use Rattle.icb_container.specs.Wrong as wrong
use Rattle.icb_container.specs.Wrong.{Wrong, ◌>>=◌, refuse, in_file}
use Rattle.icb_container.specs.Header.{Header, Reads}

-- no block has more bytes of records
abbrev pub max_block : ℕ
max_block = 2 ^ 27

-- a number that isn't below 0
abbrev pub natural : ℕ → List ℕ → ℤ × List ℕ → Reads ℕ
natural end all (pos n, rest) = Ok (n, rest)
natural end all (negsuc n, rest) = refuse end all cause.Negative

-- a count or a size
unfoldable pub natural_at : ℕ → List ℕ → Reads ℕ
natural_at end all = in_file end (long_at all) >>= natural end all

-- the count of a block's records, their size in bytes, and the bytes from the first record on
pub record Head : Type 0 where
  pub count : ℕ
  pub size : ℕ
  pub rest : List ℕ

-- A size at `from`, behind a count at `all`: within the limit, no less than the count, and with
-- room for the marker.
abbrev pub head_from : ℕ → List ℕ → List ℕ → ℕ → ℕ × List ℕ → Result Head Wrong
head_from end all from count size =
    if nat_lt max_block size.0
    then Err (wrong.large limited.Block (end - length from) size.0)
    else (if nat_lt size.0 count then refuse end all cause.Count
    else (if nat_lt (length size.1) (size.0 + 16) then refuse end from cause.End
    else Ok (record { count = count; size = size.0; rest = size.1 })))

-- what stands in front of a block's records
unfoldable pub head_at : ℕ → List ℕ → Result Head Wrong
head_at end all = natural_at end all >>= (λ count. natural_at end count.1 >>= (λ size.
    head_from end all count.1 count.0 size))

-- the bytes of the records
abbrev pub data_of : Head → List ℕ
data_of head = take head.size head.rest

-- the place behind the records
abbrev pub data_end : ℕ → Head → ℕ
data_end end head = end - length head.rest + head.size

-- the records, which take all of their bytes
abbrev pub records_at : Shape → ℕ → Head → Result (List Value) Wrong
records_at s end head =
    in_file (data_end end head) (items_at (value_at s) head.count (data_of head)) >>= (λ vs.
    if length vs.1 == 0 then Ok vs.0 else refuse (data_end end head) vs.1 cause.Size)

-- ---- steps

-- Where a reader stands: the schema and the marker of the header, the place of the next block, the
-- number of its first record, and its own number.
pub record State : Type 0 where
  pub schema : Tree
  pub marker : List ℕ
  pub place : ℕ
  pub first : ℕ
  pub block : ℕ

-- before the first block
abbrev pub begins : List ℕ → Header → State
begins file h = record {
  schema = h.schema;
  marker = h.marker;
  place = length file - length h.rest;
  first = 0;
  block = 0;
}

-- behind a block
abbrev pub behind : State → ℕ → Head → State
behind s end head = record {
  schema = s.schema;
  marker = s.marker;
  place = data_end end head + 16;
  first = s.first + head.count;
  block = suc s.block;
}

-- a block: the number of its first record, the count, the place of its bytes, the bytes, and the
-- records
pub record Part : Type 0 where
  pub first : ℕ
  pub count : ℕ
  pub place : ℕ
  pub bytes : List ℕ
  pub records : List Value

-- the block of these records
abbrev pub part_of : State → ℕ → Head → List Value → Part
part_of s end head records = record {
  first = s.first;
  count = head.count;
  place = end - length head.rest;
  bytes = data_of head;
  records = records;
}

-- The answer, where the header's marker stands behind the records.
abbrev pub marked : {A : Type 0} → State → Head → A → Result A Wrong
marked s head answer = if bytes_eq (take 16 (drop head.size head.rest)) s.marker
    then Ok answer else Err (wrong.sync s.block)

-- an answer, and where the reader stands then; none at the end of the file
abbrev pub Step : Type 0 → Type 0
Step A = Result (Option A × State) Wrong

-- a block was there
abbrev pub answered : {A : Type 0} → A × State → Step A
answered x = Ok (Some x.0, x.1)

-- a step that looks at the next block
abbrev pub at_block : {A : Type 0} → State → List ℕ → (Head → Result (A × State) Wrong) → Step A
at_block s file step = if s.place == length file then Ok (None, s)
    else (head_at (length file) (drop s.place file) >>= (λ head. step head >>= answered))

-- the next block
unfoldable pub next_of : State → List ℕ → Step Part
next_of s file = at_block s file (λ head. records_at (shape s.schema) (length file) head >>= (λ vs.
    marked s head (part_of s (length file) head vs, behind s (length file) head)))

-- the count of the next block, which is passed over: no record is looked at
unfoldable pub skipped_of : State → List ℕ → Step ℕ
skipped_of s file = at_block s file (λ head.
    marked s head (head.count, behind s (length file) head))

-- the count of the next block, before which the reader stays
unfoldable pub count_of : State → List ℕ → Step ℕ
count_of s file = at_block s file (λ head. Ok (head.count, s))
