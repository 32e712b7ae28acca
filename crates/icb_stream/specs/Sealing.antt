-- The written form of a sealed stream (Iceberg's "AES GCM Stream" file format): the header, and
-- then the sealed blocks of the plaintext, cut into pieces of the block length.
use Rattle.std.specs.Prelude.{◌≡◌, ℕ, ◌+◌, ◌*◌, ◌^◌, ◌≤◌, max, List, ◌++◌, length, take, drop, map}
use Rattle.std.specs.Prelude.{Option, Some}
use Rattle.std.specs.Int.{w32, to_le_bytes, div_ceil}
use Rattle.std.specs.List.{range_with_len}
use Rattle.std.specs.Option.{option_map}
use Rattle.icb_base.specs.KeyMetadata.{KeyRecord}
use Rattle.icb_seal.specs.Block.{sealed_block}
use Rattle.icb_seal.specs.Keys.{SealerValue}
use Rattle.icb_stream.specs.Cut.{header_length, overhead}
use Rattle.icb_stream.specs.Content.{joined, plaintext}
use Rattle.icb_stream.specs.Opening.{IsOpen, layout_of, magic}

-- so many bytes of plaintext may be sealed in blocks of this length: a block may have it, and 2^31
-- blocks have room for them
pub record IsSealable (plain block : ℕ) : Type 0 where
  pub some : 1 ≤ block
  pub most : block ≤ 2 ^ 24
  pub fits : plain ≤ block * 2 ^ 31

-- how many blocks a plaintext of so many bytes has: whole ones and what is left over, and one for
-- no plaintext
abbrev pub sealed_count : ℕ → ℕ → ℕ
sealed_count plain block = max 1 (div_ceil plain block)

-- how many bytes the stream of so many bytes of plaintext has: the header, the plaintext, and a
-- nonce and a tag for each block
abbrev pub stream_length : ℕ → ℕ → ℕ
stream_length plain block = header_length + plain + overhead * sealed_count plain block

-- the magic, and then the block length in 4 bytes, low byte first
abbrev pub header : ℕ → List ℕ
header block = magic ++ to_le_bytes w32 block

-- piece i of a plaintext: so many of its bytes as a block has, after i such pieces, or what is left
abbrev pub piece_of : List ℕ → ℕ → ℕ → List ℕ
piece_of plain block i = take block (drop (i * block) plain)

-- the first n sealed blocks of a plaintext one after another, block i from piece i
abbrev pub sealed_blocks : List ℕ → List ℕ → List ℕ → ℕ → List ℕ → ℕ → Option (List ℕ)
sealed_blocks key prefix seed block plain n =
    joined (map (λ i. sealed_block key prefix seed i (piece_of plain block i)) (range_with_len 0 n))

-- the stream of a plaintext under a key, a prefix, the first bytes of the nonces, and a block
-- length: the header, and all sealed blocks
unfoldable pub stream_bytes : List ℕ → List ℕ → List ℕ → ℕ → List ℕ → Option (List ℕ)
stream_bytes key prefix seed block plain =
    option_map (λ blocks. header block ++ blocks)
    (sealed_blocks key prefix seed block plain (sealed_count (length plain) block))

-- bytes are an open stream under key metadata, whose plaintext is this one, and they are as many as
-- it has
pub record IsStreamOf (meta : KeyRecord) (plain : List ℕ) (block : ℕ)
    (bytes : List ℕ) : Type 0 where
  pub size : length bytes ≡ stream_length (length plain) block
  pub opens : IsOpen bytes (layout_of meta (length bytes) block)
  pub reads : plaintext bytes (layout_of meta (length bytes) block) ≡ Some plain

-- the blocks before a sealer's next one stand in front of these bytes, which end where the last of
-- them does, if it isn't a whole one
abbrev pub IsSealedUpTo : SealerValue → ℕ → List ℕ → List ℕ → Type 0
IsSealedUpTo sealer block plain out =
    sealed_blocks sealer.key sealer.prefix sealer.seed block plain sealer.next
    ≡ Some (take (sealer.next * (block + overhead)) out)
