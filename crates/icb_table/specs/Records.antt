-- What a container shows, block by block, up to its first fault: a block's records are all read
-- before one of them is looked at (Apache Avro 1.11, "Object Container Files").
use Rattle.std.specs.Prelude.{ℕ, zero, suc, ◌+◌, ◌-◌, ℤ, List, [], ◌∷◌, length, Some, None}
use Rattle.std.specs.Prelude.{Result, Ok, Err}
use Rattle.icb_schema.specs.Tree.{Tree, root_form}
use Rattle.icb_schema.specs.Shape.{Shape, shape}
use Rattle.icb_avro.specs.declared.fault.AvroCause.TheVariants as cause
use Rattle.icb_avro.specs.declared.value.Value.{Value, out-Value}
use Rattle.icb_avro.specs.Reading.{Read, value_at}
use Rattle.icb_container.specs.Wrong as wrong
use Rattle.icb_container.specs.Wrong.{Wrong}
use Rattle.icb_container.specs.Header.{Header, header_of}
use Rattle.icb_container.specs.Blocks.{Part, State, Step, begins, next_of}
use Rattle.icb_fields.specs.Fields as field
use Rattle.icb_table.specs.Listed.{Listed}
use Rattle.icb_table.specs.Why.{Why}
use Rattle.icb_table.specs.Why as why
use Rattle.icb_table.specs.Trace.{Trace, each_in, one, read_of, stopped, then_read, through, whole}

-- ---- blocks

-- a block and those behind it, or why there is none
abbrev pub then_blocks : Listed → (State → Trace Part) → Step Part → Trace Part
then_blocks file more (Ok (None, s)) = whole []
then_blocks file more (Ok (Some part, s)) = then_read (one part) (more s)
then_blocks file more (Err e) = stopped file (why.no_container e)

-- fewer blocks than `most`, from where a reader stands to the end of the file; each takes bytes
unfoldable pub blocks_from : Listed → ℕ → State → List ℕ → Trace Part
blocks_from file zero s bytes = stopped file (why.no_container (wrong.avro s.place cause.End))
blocks_from file (suc most) s bytes =
    then_blocks file (λ t. blocks_from file most t bytes) (next_of s bytes)

-- all blocks behind a header
abbrev pub blocks_behind : Listed → List ℕ → Header → Trace Part
blocks_behind file bytes h = blocks_from file (suc (length bytes)) (begins bytes h) bytes

-- what is read behind a header
abbrev pub opened : {A : Type 0} → Listed → (Header → Trace A) → Result Header Wrong → Trace A
opened file read (Ok h) = read h
opened file read (Err e) = stopped file (why.no_container e)

-- ---- records

-- a value and those behind it, with the place of each
abbrev pub then_values : (List ℕ → List (ℕ × Value)) → ℕ → Read Value → List (ℕ × Value)
then_values more place (Ok x) = (place, x.0) ∷ more x.1
then_values more place (Err r) = []

-- the values of a block that ends at a place, with the place of each
unfoldable pub values_to : ℕ → Shape → ℕ → List ℕ → List (ℕ × Value)
values_to end s zero bytes = []
values_to end s (suc n) bytes =
    then_values (values_to end s n) (end - length bytes) (value_at s bytes)

-- the values of a block, with the place of each
abbrev pub values_in : Tree → Part → List (ℕ × Value)
values_in t part = values_to (part.place + length part.bytes) (shape t) part.count part.bytes

-- what a record is by the ids of its fields, or the id of the first field that isn't in its form
abbrev pub named_fields : {A : Type 0} → ℕ → Result A ℤ → Result (ℕ × A) Why
named_fields place (Ok x) = Ok (place, x)
named_fields place (Err id) = Err (why.bad_field place id)

-- a record of a file with this schema
abbrev pub record_in : {A : Type 0} → (field.Row → Result A ℤ) → Listed → Tree → ℕ × Value
    → Trace (ℕ × A)
record_in read file t v = read_of file
    (named_fields v.0 (read (field.record_of (root_form t) (out-Value v.1))))

-- the records of a block, with the place of each
abbrev pub records_in : {A : Type 0} → (field.Row → Result A ℤ) → Listed → Tree → Part
    → Trace (ℕ × A)
records_in read file t part = each_in (record_in read file t) (values_in t part)

-- the records of a file, with the place of each
unfoldable pub records_of : {A : Type 0} → (field.Row → Result A ℤ) → Listed → List ℕ
    → Trace (ℕ × A)
records_of read file bytes = opened file
    (λ h. through (records_in read file h.schema) (blocks_behind file bytes h)) (header_of bytes)
