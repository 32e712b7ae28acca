-- Records that are written, gathered into blocks.
use Rattle.std.specs.Prelude.{ℕ, zero, suc, nat_le, List, [], ◌∷◌, ◌++◌, length}
use Rattle.std.specs.Prelude.{if◌then◌else◌}
use Rattle.icb_container.specs.declared.block.Block.{Block}
use Rattle.icb_records.specs.declared.gathering.Gathered.{Gathered}

-- a block of so many records that have these bytes; where it stands isn't looked at
abbrev pub block_of : ℕ → List ℕ → Block
block_of count bytes = record { first = 0; count = count; place = 0; bytes = bytes }

-- the last block, where it has a record
abbrev pub last_block : ℕ → List ℕ → List Block
last_block zero bytes = []
last_block (suc n) bytes = block_of (suc n) bytes ∷ []

-- The blocks of records, behind so many that have these bytes. A block ends at the first record
-- that brings it to `most` bytes or more.
unfoldable pub gather : ℕ → ℕ → List ℕ → List (List ℕ) → List Block
gather most count bytes [] = last_block count bytes
gather most count bytes (r ∷ rs) = if nat_le most (length (bytes ++ r))
    then block_of (suc count) (bytes ++ r) ∷ gather most 0 [] rs
    else gather most (suc count) (bytes ++ r) rs

-- the blocks of records, some of which are already gathered
abbrev pub with_rest : Gathered → List (List ℕ) → List Block
with_rest g rs = g.blocks.items ++ gather 65536 g.count g.bytes rs
