-- When a stream is open, and the first cause in order why it isn't.
use Rattle.std.specs.Prelude.{◌≡◌, ℕ, ◌≤◌, true, not, nat_lt, bytes_eq, if◌then◌else◌, List, []}
use Rattle.std.specs.Prelude.{◌∷◌, length, take, slice_range, Option, Some, None, IsSome, is_none}
use Rattle.std.specs.Prelude.{Result, Ok, Err}
use Rattle.std.specs.Int.{w32, from_le_bytes}
use Rattle.icb_base.specs.KeyMetadata.{KeyRecord, prefix_of}
use Rattle.icb_base.specs.Objects.{Objects, object_at}
use Rattle.icb_stream.specs.Cut.{has_cut, is_block_length}
use Rattle.icb_stream.specs.Layout.{Layout, part_at}
use Rattle.icb_stream.specs.declared.fault.StreamFault.{StreamFault}
use Rattle.icb_stream.specs.declared.fault.StreamFault.TheVariants.{BadLength, Missing, Short}
use Rattle.icb_stream.specs.declared.fault.StreamFault.TheVariants.{Magic, BlockLength, Block}

-- the first four bytes of a stream: AGS1
abbrev pub magic : List ℕ
magic = 0x41 ∷ 0x47 ∷ 0x53 ∷ 0x31 ∷ []

-- the block length that a stream's header says: bytes 4 to 7, low byte first
unfoldable pub block_length_in : List ℕ → ℕ
block_length_in bytes = from_le_bytes w32 (slice_range bytes 4 8)

-- how a file of this block length is read under key metadata and a recorded length
abbrev pub layout_of : KeyRecord → ℕ → ℕ → Layout
layout_of meta recorded block_length = record {
  key = meta.key;
  prefix = prefix_of meta;
  recorded = recorded;
  block_length = block_length;
}

-- a stream is open: the file has at least the recorded length, the magic and a cut, and part 0 is
-- there
pub record IsOpen (bytes : List ℕ) (layout : Layout) : Type 0 where
  pub long : layout.recorded ≤ length bytes
  pub begins : take 4 bytes ≡ magic
  pub block_length : block_length_in bytes ≡ layout.block_length
  pub cut : has_cut layout.block_length layout.recorded ≡ true
  pub first_part : IsSome (part_at bytes layout 0)

-- the block length that a file's header says, or the first cause why a file of the recorded length
-- isn't cut by it
unfoldable pub header_of : List ℕ → ℕ → Result ℕ StreamFault
header_of bytes recorded =
    if not (bytes_eq (take 4 bytes) magic) then Err (Magic (take 4 bytes)) else
    (if not (is_block_length (block_length_in bytes)) then
    Err (BlockLength (block_length_in bytes)) else
    (if not (has_cut (block_length_in bytes) recorded) then Err (BadLength recorded) else
    Ok (block_length_in bytes)))

-- how a file with this header is read, where its part 0 is there
abbrev pub first_part_of : List ℕ → KeyRecord → ℕ → Result ℕ StreamFault → Result Layout StreamFault
first_part_of bytes meta recorded (Err fault) = Err fault
first_part_of bytes meta recorded (Ok block_length) =
    if is_none (part_at bytes (layout_of meta recorded block_length) 0) then Err (Block 0)
    else Ok (layout_of meta recorded block_length)

-- how the object at a path is read, or the first cause why it is no open stream
abbrev pub opening_at : Option (List ℕ) → KeyRecord → ℕ → Result Layout StreamFault
opening_at None meta recorded = Err Missing
opening_at (Some bytes) meta recorded =
    if nat_lt (length bytes) recorded then Err (Short (length bytes))
    else first_part_of bytes meta recorded (header_of bytes recorded)

-- how a stream over the objects of a store is read, or the first cause why it isn't open; no
-- recorded length below 36 is one of a stream
unfoldable pub opening_of : Objects → List ℕ → KeyRecord → ℕ → Result Layout StreamFault
opening_of files path meta recorded =
    if nat_lt recorded 36 then Err (BadLength recorded)
    else opening_at (object_at files path) meta recorded
