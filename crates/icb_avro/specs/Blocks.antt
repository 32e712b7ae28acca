-- Reading items one by one, as the crate's own loops do.
use Rattle.std.specs.Prelude.{ℕ, zero, suc, ◌+◌, ◌==◌, nat_lt, nat_le, ℤ, pos, negsuc}
use Rattle.std.specs.Prelude.{List, length, Option, Some, None, Bool, true, false}
use Rattle.std.specs.Prelude.{if◌then◌else◌, Result, Ok}
use Rattle.icb_avro.specs.declared.blocks.Blocks.{Blocks}
use Rattle.icb_avro.specs.declared.fault.AvroCause.TheVariants as cause
use Rattle.icb_avro.specs.declared.fault.Refusal.{Refusal}
use Rattle.icb_avro.specs.Reading.{◌>>=◌, refuse, long_at}

-- Where a loop stands: whether an item begins here, how many more items its block has, the block's
-- size in bytes with the number of bytes that were left at its first item, where it says its size,
-- and the bytes from here on.
pub record Standing : Type 0 where
  pub at_item : Bool
  pub left : ℕ
  pub size : Option (ℕ × ℕ)
  pub rest : List ℕ

-- where the code stands
abbrev pub standing : Blocks → Standing
standing b = record { at_item = b.at_item; left = b.left; size = b.size; rest = b.rest.now }

-- a block that says its size has taken as many bytes
abbrev pub sized : Option (ℕ × ℕ) → List ℕ → Result (List ℕ) Refusal
sized None rest = Ok rest
sized (Some s) rest = if s.1 == s.0 + length rest then Ok rest else refuse cause.Size rest

-- at the first item of a block, behind the size that it says at `all`
abbrev pub after_size : ℕ → List ℕ → ℤ × List ℕ → Result Standing Refusal
after_size n all (pos size, rest) =
    Ok (record { at_item = true; left = n; size = Some (size, length rest); rest = rest })
after_size n all (negsuc size, rest) = refuse cause.Negative all

-- at the first item of a block, whose size is said here
unfoldable pub size_begins : ℕ → List ℕ → Result Standing Refusal
size_begins n all = long_at all >>= after_size n all

-- at the first item of a block, behind its count at `all`; or behind the count 0
abbrev pub after_count : List ℕ → ℤ × List ℕ → Result Standing Refusal
after_count all (pos zero, rest) =
    Ok (record { at_item = false; left = 0; size = None; rest = rest })
after_count all (pos (suc n), rest) = if nat_le (suc n) (length rest)
    then Ok (record { at_item = true; left = n; size = None; rest = rest })
    else refuse cause.Count all
after_count all (negsuc n, rest) = if nat_lt n (length rest)
    then size_begins n rest else refuse cause.Count all

-- a block that begins here
unfoldable pub block_begins : List ℕ → Result Standing Refusal
block_begins all = long_at all >>= after_count all

-- behind an item, where the block has so many more
unfoldable pub next_item : ℕ → Option (ℕ × ℕ) → List ℕ → Result Standing Refusal
next_item (suc n) size rest =
    Ok (record { at_item = true; left = n; size = size; rest = rest })
next_item zero size rest = sized size rest >>= block_begins
