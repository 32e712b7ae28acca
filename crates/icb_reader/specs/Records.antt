-- The records of a container, one after another, and what is made of each. Where a reader stands is
-- a value, and a step is defined on each file.
use Rattle.std.specs.Prelude.{ℕ, zero, suc, ◌+◌, ◌-◌, ◌==◌, ℤ, List, [], length}
use Rattle.std.specs.Prelude.{if◌then◌else◌, Option, Some, None, Result, Ok, Err}
use Rattle.icb_schema.specs.Tree.{Tree, root_form}
use Rattle.icb_schema.specs.Shape.{shape}
use Rattle.icb_avro.specs.declared.value.Value.{out-Value}
use Rattle.icb_avro.specs.Reading.{value_at}
use Rattle.icb_container.specs.Wrong.{Wrong, in_file}
use Rattle.icb_container.specs.Wrong as inner
use Rattle.icb_container.specs.Header.{header_of}
use Rattle.icb_container.specs.Blocks as blocks
use Rattle.icb_container.specs.Blocks.{Part, State, Step, begins}
use Rattle.icb_fields.specs.Fields.{Row, record_of}

-- why a record isn't read
pub data Refusal : Type 0 where
  -- the container is refused
  container : Wrong → Refusal
  -- the record at this place has no field of this id in its form
  field : ℕ → ℤ → Refusal

infixl 10 ◌>>=◌
-- what comes next, where nothing is refused
abbrev pub ◌>>=◌ : {A B : Type 0} → Result A Refusal → (A → Result B Refusal) → Result B Refusal
(Ok x) >>= f = f x
(Err e) >>= f = Err e

-- what a container gives, or its refusal
abbrev pub of_file : {A : Type 0} → Result A Wrong → Result A Refusal
of_file (Ok x) = Ok x
of_file (Err w) = Err (container w)

-- what is made of the record at a place, or the refusal of its first field that isn't in its form
abbrev pub made_at : {A : Type 0} → ℕ → Result A ℤ → Result A Refusal
made_at place (Ok x) = Ok x
made_at place (Err id) = Err (field place id)

-- What is made of the record of this type at the front of bytes that end at a place of the file,
-- and the bytes behind it.
unfoldable pub front_of : {A : Type 0} → (Row → Result A ℤ) → Tree → ℕ → List ℕ
    → Result (A × List ℕ) Refusal
front_of make t end rest = of_file (in_file end (value_at (shape t) rest)) >>= (λ v.
    made_at (end - length rest) (make (record_of (root_form t) (out-Value v.0))) >>= (λ x.
    Ok (x, v.1)))

-- ---- blocks that have records

-- a block that has records; behind one that has none, what comes next
abbrev pub past_empty : (State → Step Part) → Option Part × State → Step Part
past_empty next (None, s) = Ok (None, s)
past_empty next (Some part, s) = if part.count == 0 then next s else Ok (Some part, s)

-- the next block that has records, where it comes behind at most so many that have none
unfoldable pub filled_within : ℕ → State → List ℕ → Step Part
filled_within zero s file = blocks.next_of s file
filled_within (suc more) s file =
    inner.◌>>=◌ (blocks.next_of s file) (past_empty (λ t. filled_within more t file))

-- the next block that has records; each block has a byte
abbrev pub filled_of : State → List ℕ → Step Part
filled_of s file = filled_within (suc (length file) - s.block) s file

-- ---- records

-- Where a reader of records stands: behind a block, with the bytes and the number of its records
-- that weren't read yet, the place behind its bytes, and the place of the record that was read
-- last.
pub record Reading : Type 0 where
  pub state : State
  pub rest : List ℕ
  pub left : ℕ
  pub end : ℕ
  pub last : ℕ

-- before the first block
abbrev pub opened : State → Reading
opened s = record { state = s; rest = []; left = 0; end = 0; last = 0 }

-- the records of a file, before the first
unfoldable pub opening_of : List ℕ → Result Reading Refusal
opening_of file = of_file (header_of file) >>= (λ h. Ok (opened (begins file h)))

-- what is made of the next record, where there is one, and where the reader stands then
abbrev pub Next : Type 0 → Type 0
Next A = Result (Option A × Reading) Refusal

-- behind a record
abbrev pub behind : Reading → List ℕ → Reading
behind r rest = record {
  state = r.state;
  rest = rest;
  left = r.left - 1;
  end = r.end;
  last = r.end - length r.rest;
}

-- the next record of the block
abbrev pub in_block : {A : Type 0} → (Row → Result A ℤ) → Reading → Next A
in_block make r =
    front_of make r.state.schema r.end r.rest >>= (λ x. Ok (Some x.0, behind r x.1))

-- before the first record of a block
abbrev pub enters : ℕ → State → Part → Reading
enters last s part = record {
  state = s;
  rest = part.bytes;
  left = part.count;
  end = part.place + length part.bytes;
  last = last;
}

-- the first record of a block, where there is one
abbrev pub from_block : {A : Type 0} → (Row → Result A ℤ) → Reading → Option Part × State → Next A
from_block make r (None, s) = Ok (
  None,
  record {
    state = s;
    rest = r.rest;
    left = r.left;
    end = r.end;
    last = r.last;
  },
)
from_block make r (Some part, s) = in_block make (enters r.last s part)

-- the first record of the next block that has one
unfoldable pub behind_of : {A : Type 0} → (Row → Result A ℤ) → Reading → List ℕ → Next A
behind_of make r file = of_file (filled_of r.state file) >>= from_block make r

-- the next record
unfoldable pub next_of : {A : Type 0} → (Row → Result A ℤ) → Reading → List ℕ → Next A
next_of make r file = if r.left == 0 then behind_of make r file else in_block make r
