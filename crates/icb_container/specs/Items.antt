-- What the container's own readers of parts of a file answer.
use Rattle.std.specs.Prelude.{ℕ, ◌+◌, ◌==◌, ◌≡◌, ◌≤◌, ◌<◌, ◌^◌, List, length, take, drop}
use Rattle.std.specs.Prelude.{if◌then◌else◌, Option, Some, None, option_map, Result, Ok, Err}
use Rattle.std.specs.Prelude.{IfOk, IfSome, OnOk}
use Rattle.std.specs.Str.{bytes_eq}
use Rattle.icb_container.specs.declared.fault.ContainerFault.{ContainerFault}
use Rattle.icb_container.specs.declared.fault.ContainerFault.TheVariants as fault
use Rattle.icb_container.specs.declared.numbers.BlockHead.{BlockHead}
use Rattle.icb_container.specs.Header.{Reads, within}
use Rattle.icb_container.specs.Wrong as wrong
use Rattle.icb_container.specs.Wrong.{Wrong, ◌>>=◌}
use Rattle.icb_container.specs.Blocks.{Head, head_at, max_block}
use Rattle.icb_container.specs.Known.{KnownFromTo}
use Rattle.icb_container.specs.Opened.{Opened}
use Rattle.icb_container.specs.Answers.{Gives, Refuses}

-- a fault of the reader, or want of memory, which say nothing of the file
abbrev pub SaysNothing : {F : Type 0} → ContainerFault F → Type 0
SaysNothing (fault.Reader e) = Unit {0}
SaysNothing fault.NoMemory = Unit {0}
SaysNothing e = ⊥

-- An item that begins at a place, and the place behind it: it is what reading gives there, and each
-- of its bytes is known.
pub record ReadsItem {A B F : Type 0} (view : A → B) (result : Result (A × ℕ) (ContainerFault F))
    (at : ℕ) (read : Reads B) (known : List (Option ℕ)) (file : List ℕ) : Type 0 where
  pub gives : Gives (λ x. (view x.0, drop x.1 file)) result read
  pub there : IfOk result (λ x. KnownFromTo known at x.1)

-- what stands in front of a block's records
abbrev pub head_of : List ℕ → BlockHead → Head
head_of file h = record { count = h.count; size = h.size; rest = drop h.place file }

-- What stands in front of the records of the block at a place, each byte of which is known.
pub record ReadsHead {F : Type 0} (result : Result BlockHead (ContainerFault F)) (at : ℕ)
    (read : Result Head Wrong) (known : List (Option ℕ)) (file : List ℕ) : Type 0 where
  pub gives : Gives (head_of file) result read
  pub there : IfOk result (λ h. KnownFromTo known at h.place)

-- what stands in front of the records of the block at a place, or none at the end of the file
abbrev pub next_head_at : ℕ → List ℕ → Result (Option Head) Wrong
next_head_at at file = if at == length file then Ok None
    else (head_at (length file) (drop at file) >>= (λ head. Ok (Some head)))

-- The same of the next block, where there is one.
pub record ReadsNextHead {F : Type 0} (result : Result (Option BlockHead) (ContainerFault F))
    (at : ℕ) (known : List (Option ℕ)) (file : List ℕ) : Type 0 where
  pub gives : Gives (option_map (head_of file)) result (next_head_at at file)
  pub there : IfOk result (λ next. IfSome next (λ h. KnownFromTo known at h.place))

-- The block at a place is within the limit and within a file of so many bytes.
pub record IsWithin (size at : ℕ) (h : BlockHead) : Type 0 where
  pub behind : at ≤ h.place
  pub enough : h.count ≤ h.size
  pub in_limit : h.size ≤ max_block
  pub in_file : h.place + h.size + 16 ≤ size
  pub fits : h.place + h.size + 16 < 2 ^ 64

-- the marker behind the records of a block, which is this one
abbrev pub marker_checked : List ℕ → ℕ → Head → Result (Unit {0}) Wrong
marker_checked marker block head = if bytes_eq (take 16 (drop head.size head.rest)) marker
    then Ok tt else Err (wrong.sync block)

-- The marker behind the records of a block is this one, and each byte of it is known.
pub record ChecksMarker {F : Type 0} (result : Result (Unit {0}) (ContainerFault F))
    (marker : List ℕ) (block : ℕ) (h : BlockHead) (known : List (Option ℕ)) (file : List ℕ)
    : Type 0 where
  pub gives : Gives (λ done. done) result (marker_checked marker block (head_of file h))
  pub there : OnOk result (KnownFromTo known (h.place + h.size) (h.place + h.size + 16))

-- behind the block at the place where a container stands
abbrev pub passed : Opened → BlockHead → Opened
passed c h = record {
  schema = c.schema;
  marker = c.marker;
  place = h.place + h.size + 16;
  first = c.first + h.count;
  block = c.block + 1;
}

-- a call that passes over something found it, or refused
abbrev pub Passes : {A F : Type 0} → Result (Unit {0}) (ContainerFault F) → Result A Wrong → Type 0
Passes {A} (Ok done) r = (x : A) × (r ≡ Ok x)
Passes (Err e) r = Refuses e r

-- the item that begins at `all` and ends at a place is within the limit of a header
abbrev pub in_limit : ℕ → List ℕ → ℕ → ℕ → Result (Unit {0}) Wrong
in_limit end all stop size = within end all stop size (Ok tt)
