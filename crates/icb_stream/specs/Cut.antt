-- Where the cipher blocks of an AGS1 stream lie in its file (Iceberg's "AES GCM Stream" file
-- format). A file is the magic in 4 bytes, the block length in 4 bytes, and then the cipher blocks.
-- A cipher block is a nonce of 12 bytes, the ciphertext, and a tag of 16 bytes. The block length
-- counts bytes of plaintext, and the recorded length counts bytes of the file.
use Rattle.std.specs.Prelude.{ℕ, ◌+◌, ◌-◌, ◌*◌, ◌^◌, ◌≤◌, Bool, ◌&&◌, nat_le, min}
use Rattle.std.specs.Int.{div_ceil}

-- the magic and the block length
abbrev pub header_length : ℕ
header_length = 8

-- the nonce and the tag of a cipher block
abbrev pub overhead : ℕ
overhead = 28

-- the first byte of cipher block i: before it stand the header and i whole cipher blocks
abbrev pub block_start : ℕ → ℕ → ℕ
block_start block_length i = header_length + i * (block_length + overhead)

-- the end of cipher block i: the next one's first byte, and for the last one the recorded length
abbrev pub block_end : ℕ → ℕ → ℕ → ℕ
block_end block_length recorded i = min (block_start block_length (i + 1)) recorded

-- how many cipher blocks there are: whole ones, and what is left over
unfoldable pub block_count : ℕ → ℕ → ℕ
block_count block_length recorded = div_ceil (recorded - header_length) (block_length + overhead)

-- how many bytes cipher block i has
abbrev pub block_size : ℕ → ℕ → ℕ → ℕ
block_size block_length recorded i =
    block_end block_length recorded i - block_start block_length i

-- how many bytes of plaintext block i has
abbrev pub part_size : ℕ → ℕ → ℕ → ℕ
part_size block_length recorded i = block_size block_length recorded i - overhead

-- how many bytes of plaintext n blocks have
abbrev pub plain_size : ℕ → ℕ → ℕ
plain_size recorded n = recorded - header_length - overhead * n

-- a block has 1 to 2^24 bytes of plaintext
abbrev pub is_block_length : ℕ → Bool
is_block_length block_length = nat_le 1 block_length && nat_le block_length 16777216

-- whether a file of this recorded length is cut into blocks of this length: it has room for a
-- header and an empty block, a block may have this length, there are at most 2^31 blocks, and the
-- last one has room for its nonce and tag
unfoldable pub has_cut : ℕ → ℕ → Bool
has_cut block_length recorded =
    nat_le (header_length + overhead) recorded
    && is_block_length block_length
    && nat_le (block_count block_length recorded) 2147483648
    && nat_le (block_start block_length (block_count block_length recorded - 1) + overhead) recorded

-- n blocks of this length lie in a file of this recorded length: it has room for a header and an
-- empty block, a block has 1 to 2^24 bytes, there are 1 to 2^31 blocks, the last one has room for
-- its nonce and tag, and it isn't longer than a whole block
pub record IsCut (block_length recorded n : ℕ) : Type 0 where
  pub long : 36 ≤ recorded
  pub some_length : 1 ≤ block_length
  pub most_length : block_length ≤ 2 ^ 24
  pub some_blocks : 1 ≤ n
  pub few_blocks : n ≤ 2 ^ 31
  pub last_room : block_start block_length (n - 1) + overhead ≤ recorded
  pub last_end : recorded ≤ block_start block_length n
