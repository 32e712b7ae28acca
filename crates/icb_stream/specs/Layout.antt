-- The parts of an AGS1 stream: the plaintext of each cipher block under the file's key metadata.
use Rattle.std.specs.Prelude.{ℕ, nat_lt, if◌then◌else◌, List, slice_range, Option, None}
use Rattle.icb_seal.specs.Block.{opened_block}
use Rattle.icb_stream.specs.Cut.{block_start, block_end, block_count, part_size, plain_size}

-- what a stream is read by: the key, the prefix of the additional data (empty where key metadata
-- has none), the recorded length of the file, and the block length that its header says
pub record Layout : Type 0 where
  pub key : List ℕ
  pub prefix : List ℕ
  pub recorded : ℕ
  pub block_length : ℕ

-- how many blocks the stream has
abbrev pub blocks : Layout → ℕ
blocks layout = block_count layout.block_length layout.recorded

-- how many bytes of plaintext all its blocks have
abbrev pub plain_length : Layout → ℕ
plain_length layout = plain_size layout.recorded (blocks layout)

-- the bytes of cipher block i
abbrev pub cipher_block : List ℕ → Layout → ℕ → List ℕ
cipher_block bytes layout i = slice_range bytes (block_start layout.block_length i)
    (block_end layout.block_length layout.recorded i)

-- how many bytes of plaintext block i has
abbrev pub part_length : Layout → ℕ → ℕ
part_length layout i = part_size layout.block_length layout.recorded i

-- part i of a stream: what its cipher block i opens to, if there is one and it opens
unfoldable pub part_at : List ℕ → Layout → ℕ → Option (List ℕ)
part_at bytes layout i =
    if nat_lt i (blocks layout)
    then opened_block layout.key layout.prefix i (cipher_block bytes layout i)
    else None
