-- What each call of a container answers, over a whole file that fills what is known of the reader.
use Rattle.std.specs.Prelude.{ℕ, ◌+◌, ◌-◌, ◌^◌, ◌≡◌, ◌≤◌, ◌<◌, List, length, drop, Option}
use Rattle.std.specs.Prelude.{Some, None}
use Rattle.std.specs.Prelude.{Result, Ok, Err, IfOk, OnErr, OnOk}
use Rattle.icb_container.specs.declared.block.Block.{Block}
use Rattle.icb_container.specs.declared.container.Spot.{Spot}
use Rattle.icb_container.specs.declared.fault.ContainerFault.{ContainerFault}
use Rattle.icb_container.specs.declared.fault.ContainerFault.TheVariants as fault
use Rattle.icb_container.specs.Wrong as wrong
use Rattle.icb_container.specs.Wrong.{Wrong, ◌>>=◌}
use Rattle.icb_container.specs.Header.{header_of}
use Rattle.icb_container.specs.Blocks.{Part, State, Step, begins, count_of, data_end, head_at}
use Rattle.icb_container.specs.Blocks.{next_of, skipped_of}
use Rattle.icb_container.specs.Known.{KnownFromTo}
use Rattle.icb_container.specs.Opened.{Opened, state_of}

-- a call answered the refusal that the definition gives; or a fault of the reader, or want of
-- memory
abbrev pub Refuses : {B F : Type 0} → ContainerFault F → Result B Wrong → Type 0
Refuses (fault.Reader e) r = Unit {0}
Refuses fault.NotAvro r = r ≡ Err wrong.not_avro
Refuses (fault.Avro f) r = r ≡ Err (wrong.avro f.place f.cause)
Refuses (fault.Large what place size) r = r ≡ Err (wrong.large what place size)
Refuses (fault.Codec name) r = r ≡ Err (wrong.codec name)
Refuses (fault.Schema e) r = r ≡ Err (wrong.schema e)
Refuses (fault.Sync block) r = r ≡ Err (wrong.sync block)
Refuses fault.NoMemory r = Unit {0}

-- a call answered what the definition gives, seen by `view`, or refused
abbrev pub Gives : {A B F : Type 0} → (A → B) → Result A (ContainerFault F) → Result B Wrong
    → Type 0
Gives view (Ok x) r = r ≡ Ok (view x)
Gives view (Err e) r = Refuses e r

-- ---- opening

-- The container stands before the first block, and each byte up to there is known.
pub record Opens {F : Type 0} (result : Result Opened (ContainerFault F)) (known : List (Option ℕ))
    (file : List ℕ) : Type 0 where
  pub gives : Gives state_of result (header_of file >>= (λ h. Ok (begins file h)))
  pub there : IfOk result (λ c. KnownFromTo known 0 c.place)

-- ---- steps

-- each byte of the count and the size of the block at a place is known
abbrev pub HeadIsKnown : List (Option ℕ) → List ℕ → ℕ → Type 0
HeadIsKnown known file at = IfOk (head_at (length file) (drop at file)) (λ head.
    KnownFromTo known at (length file - length head.rest))

-- each byte of the marker behind the block at a place is known
abbrev pub MarkerIsKnown : List (Option ℕ) → List ℕ → ℕ → Type 0
MarkerIsKnown known file at = IfOk (head_at (length file) (drop at file)) (λ head.
    KnownFromTo known (data_end (length file) head) (data_end (length file) head + 16))

-- The count of the next block is told, of which the count and the size are known.
pub record Counts {F : Type 0} (result : Result (Option ℕ) (ContainerFault F)) (c : Opened)
    (known : List (Option ℕ)) (file : List ℕ) : Type 0 where
  pub gives : Gives (λ n. (n, state_of c)) result (count_of (state_of c) file)
  pub head_known : OnOk result (HeadIsKnown known file c.place)

-- The next block is passed over, of which the count, the size and the marker are known.
pub record Skips {F : Type 0} (result : Result (Option ℕ) (ContainerFault F)) (old new : Opened)
    (known : List (Option ℕ)) (file : List ℕ) : Type 0 where
  pub gives : Gives (λ n. (n, state_of new)) result (skipped_of (state_of old) file)
  pub head_known : OnOk result (HeadIsKnown known file old.place)
  pub marker_known : OnOk result (MarkerIsKnown known file old.place)

-- this block is the part of the file
pub record IsPart (block : Block) (part : Part) : Type 0 where
  pub same_first : block.first ≡ part.first
  pub same_count : block.count ≡ part.count
  pub same_place : block.place ≡ part.place
  pub same_bytes : block.bytes ≡ part.bytes

-- a call answered the block that the definition gives, or refused
abbrev pub GivesBlock : {F : Type 0} → Result (Option Block) (ContainerFault F) → State → Step Part
    → Type 0
GivesBlock (Ok None) s r = r ≡ Ok (None, s)
GivesBlock (Ok (Some block)) s r = (part : Part) × (r ≡ Ok (Some part, s)) × IsPart block part
GivesBlock (Err e) s r = Refuses e r

-- The next block is read, of which each byte is known.
pub record ReadsNext {F : Type 0} (result : Result (Option Block) (ContainerFault F))
    (old new : Opened) (known : List (Option ℕ)) (file : List ℕ) : Type 0 where
  pub gives : GivesBlock result (state_of new) (next_of (state_of old) file)
  pub there : OnOk result (KnownFromTo known old.place new.place)

-- A block stands behind where the container stood, and the marker behind it ends where the
-- container stands now, within a file of so many bytes.
pub record EndsAt (old new : Opened) (size : ℕ) (block : Block) : Type 0 where
  pub behind : old.place ≤ block.place
  pub ends : block.place + length block.bytes + 16 ≡ new.place
  pub in_file : new.place ≤ size
  pub fits : new.place < 2 ^ 64
  pub one_more : new.block ≡ old.block + 1

-- where it stands, without its schema and its marker
abbrev pub spot_of : Opened → Spot
spot_of c = record { place = c.place; first = c.first; block = c.block }

-- it stands there, with its own schema and marker
abbrev pub at_spot : Opened → Spot → Opened
at_spot c s = record {
  schema = c.schema;
  marker = c.marker;
  place = s.place;
  first = s.first;
  block = s.block;
}

-- A refused call leaves a container as it was, and none changes its schema and its marker.
pub record Stays {A F : Type 0} (result : Result A (ContainerFault F)) (old new : Opened) : Type 0
  where
    pub same_schema : new.schema ≡ old.schema
    pub same_marker : new.marker ≡ old.marker
    pub refused : OnErr result (new ≡ old)
