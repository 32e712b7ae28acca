-- The laws of streams. Their proofs are in `proofs/`, which crates above cite.
use Rattle.std.specs.Prelude.{ℕ, ◌+◌, ◌-◌, ◌*◌, ◌^◌, ◌≤◌, ◌≡◌, ◌↔◌, List, ◌++◌, length, map, true}
use Rattle.std.specs.Prelude.{Some, None}
use Rattle.icb_base.specs.KeyMetadata.{KeyRecord, prefix_of}
use Rattle.icb_base.specs.Objects.{Grows, Objects}
use Rattle.icb_stream.specs.Attached.{read_content}
use Rattle.icb_stream.specs.Belongs.{BelongsTo, StreamValue}
use Rattle.icb_stream.specs.Content.{content, front_at, front_of, plaintext}
use Rattle.icb_stream.specs.Cut.{IsCut, block_count, has_cut}
use Rattle.icb_stream.specs.Layout.{Layout, plain_length}
use Rattle.icb_stream.specs.Opening.{IsOpen}
use Rattle.icb_stream.specs.Sealing.{IsStreamOf, stream_bytes}

-- a stream that belongs to what a store held belongs to what it holds since it only grew
abbrev pub BelongsWhenGrown : Type 0
BelongsWhenGrown = (stream : StreamValue) (before now : Objects) → Grows before now
    → BelongsTo stream before → BelongsTo stream now

-- a file is cut into blocks exactly where so many of them lie in it, one after another from the
-- header to the recorded length, each of the block length but the last, which has room for nonce
-- and tag
abbrev pub CutExactly : Type 0
CutExactly = (block_length recorded : ℕ) → (has_cut block_length recorded ≡ true)
    ↔ IsCut block_length recorded (block_count block_length recorded)

-- what is known of an open stream speaks of each place of its plaintext
abbrev pub ContentHasLength : Type 0
ContentHasLength = (bytes : List ℕ) (layout : Layout) → IsOpen bytes layout
    → length (content bytes layout) ≡ plain_length layout

-- and so does what a reader of it may know
abbrev pub ReadContentHasLength : Type 0
ReadContentHasLength = (bytes : List ℕ) (layout : Layout) → IsOpen bytes layout
    → length (read_content bytes layout) ≡ plain_length layout

-- where a reader of an open stream knows each byte these are the plaintext
abbrev pub KnownIsPlaintext : Type 0
KnownIsPlaintext = (bytes : List ℕ) (layout : Layout) (text : List ℕ) → IsOpen bytes layout
    → read_content bytes layout ≡ map Some text → plaintext bytes layout ≡ Some text

-- where no block is refused the front of the whole plaintext is the plaintext
abbrev pub WholeFrontIsPlaintext : Type 0
WholeFrontIsPlaintext = (bytes : List ℕ) (layout : Layout) → IsOpen bytes layout
    → (front_of bytes layout).refused ≡ None
    → plaintext bytes layout ≡ Some (front_of bytes layout).bytes

-- the front of a range without a refused block, and then the front of the range after it, is the
-- front of both, from any place on
abbrev pub FrontsJoin : Type 0
FrontsJoin = (bytes : List ℕ) (layout : Layout) (at a n : ℕ) → IsOpen bytes layout
    → at + (a + n) ≤ plain_length layout → (front_at bytes layout at a).refused ≡ None
    → front_at bytes layout at (a + n) ≡ record {
      bytes = (front_at bytes layout at a).bytes ++ (front_at bytes layout (at + a) n).bytes;
      refused = (front_at bytes layout (at + a) n).refused;
    }

-- a range in which a block is refused has the front of any longer one from the same place on
abbrev pub RefusedFrontStays : Type 0
RefusedFrontStays = (bytes : List ℕ) (layout : Layout) (at a n number : ℕ) → IsOpen bytes layout
    → at + (a + n) ≤ plain_length layout → (front_at bytes layout at a).refused ≡ Some number
    → front_at bytes layout at (a + n) ≡ front_at bytes layout at a

-- a front ends where the block that is refused begins
abbrev pub FrontEndsAtRefused : Type 0
FrontEndsAtRefused = (bytes : List ℕ) (layout : Layout) (at n number : ℕ) → IsOpen bytes layout
    → at + n ≤ plain_length layout → (front_at bytes layout at n).refused ≡ Some number
    → length (front_at bytes layout at n).bytes ≡ number * layout.block_length - at

-- the written form of a stream is an open stream of the plaintext that was sealed
abbrev pub SealedIsOpen : Type 0
SealedIsOpen = (meta : KeyRecord) (seed plain bytes : List ℕ) (block : ℕ) → length seed ≡ 8
    → 1 ≤ block → block ≤ 2 ^ 24 → length plain ≤ block * 2 ^ 31
    → stream_bytes meta.key (prefix_of meta) seed block plain ≡ Some bytes
    → IsStreamOf meta plain block bytes
