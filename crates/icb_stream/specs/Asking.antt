-- Which blocks a read of a stream asks the store for, and how many bytes an opening asks for.
use Rattle.std.specs.Prelude.{ℕ, ◌+◌, Bool, false, ◌&&◌, ◌==◌, not, List, [], ◌∷◌, filter, Option}
use Rattle.std.specs.Prelude.{Some, None, length, option_map}
use Rattle.std.specs.List.{range_with_len, sum_by}
use Rattle.icb_base.specs.Objects.{Objects, object_at}
use Rattle.icb_stream.specs.Belongs.{HeldBlock, StreamValue}
use Rattle.icb_stream.specs.Content.{touches}
use Rattle.icb_stream.specs.Cut.{block_size, header_length}
use Rattle.icb_stream.specs.Layout.{blocks}
use Rattle.icb_stream.specs.Opening.{block_length_in}

-- whether a block that is held, if any, has this number
abbrev pub has_number : Option HeldBlock → ℕ → Bool
has_number None number = false
has_number (Some block) number = block.number == number

-- a read of n bytes from a place on asks for a block where the range touches it and the stream
-- doesn't hold it
abbrev pub asks_for : StreamValue → ℕ → ℕ → ℕ → Bool
asks_for stream at n i = touches stream.layout at n i && not (has_number stream.block i)

-- the blocks that such a read asks for, in order
unfoldable pub asked_blocks : StreamValue → ℕ → ℕ → List ℕ
asked_blocks stream at n =
    filter (asks_for stream at n) (range_with_len 0 (blocks stream.layout))

-- how many calls of the store it makes: one for each of these blocks
abbrev pub asked_calls : StreamValue → ℕ → ℕ → ℕ
asked_calls stream at n = length (asked_blocks stream at n)

-- how many bytes it asks for: all those of these blocks
abbrev pub asked_bytes : StreamValue → ℕ → ℕ → ℕ
asked_bytes stream at n =
    sum_by (block_size stream.layout.block_length stream.layout.recorded) (asked_blocks stream at n)

-- the number of a block that is held, if any
abbrev pub number_held : Option HeldBlock → Option ℕ
number_held held = option_map (λ block. block.number) held

-- the last of these blocks, or the one that was held where there are none
abbrev pub last_or : Option ℕ → List ℕ → Option ℕ
last_or held [] = held
last_or held (i ∷ blocks) = last_or (Some i) blocks

-- the number of the block that a stream holds after such a read that is Ok: the last one that it
-- asks for, or where it asks for none the one that it held
abbrev pub held_after : StreamValue → ℕ → ℕ → Option ℕ
held_after stream at n = last_or (number_held stream.block) (asked_blocks stream at n)

-- how many bytes the opening of a stream of an object asks for: the header, and cipher block 0
abbrev pub first_bytes : Option (List ℕ) → ℕ → ℕ
first_bytes None recorded = 0
first_bytes (Some object) recorded =
    header_length + block_size (block_length_in object) recorded 0

-- the same where the store tells what it holds
abbrev pub opening_bytes : Option Objects → List ℕ → ℕ → ℕ
opening_bytes None path recorded = 0
opening_bytes (Some files) path recorded = first_bytes (object_at files path) recorded
