-- What one block leaves in the buffer of a read, and how a block is read and opened.
use Rattle.std.specs.Prelude.{◌≡◌, ℕ, ◌+◌, ◌-◌, ◌*◌, min, List, ◌++◌, length, take, drop, Option}
use Rattle.std.specs.Prelude.{Some, None, IsSomeAnd, Result, Ok, Err}
use Rattle.icb_base.specs.Objects.{part_of}
use Rattle.icb_stream.specs.Belongs.{HeldBlock}
use Rattle.icb_stream.specs.Layout.{Layout, part_at}
use Rattle.icb_stream.specs.declared.fault.StreamFault.{StreamFault}
use Rattle.icb_stream.specs.declared.fault.StreamFault.TheVariants.{Store, Block}

-- the buffer of a range from a place on, with those of these bytes in it that lie in the range; the
-- first of them has this place
abbrev pub with_part : List ℕ → ℕ → ℕ → List ℕ → List ℕ
with_part plain first at out =
    let n = min (length plain - (at - first)) (length out - (first - at)) in
    take (first - at) out ++ (take n (drop (at - first) plain) ++ drop (first - at + n) out)

-- the same with those of the block that is held, if any
abbrev pub with_block : Option HeldBlock → ℕ → ℕ → List ℕ → List ℕ
with_block None block_length at out = out
with_block (Some block) block_length at out =
    with_part block.part (block.number * block_length) at out

-- what a read of an object that has so many bytes leaves: those from a place on, or the store
-- failed
abbrev pub FillsFrom : List ℕ → ℕ → List ℕ → Result (Unit {0}) StreamFault → Type 0
FillsFrom object at out (Ok _) = out ≡ part_of at (length out) object
FillsFrom object at out (Err Store) = Unit {0}
FillsFrom object at out (Err fault) = ⊥

-- what the opening of a block of this number answers: these bytes are what it opens to, or it
-- doesn't open, or the store failed
abbrev pub OpensTo : Option (List ℕ) → ℕ → List ℕ → Result (Unit {0}) StreamFault → Type 0
OpensTo found number plain (Ok _) = found ≡ Some plain
OpensTo found number plain (Err (Block other)) = (other ≡ number) × (found ≡ None)
OpensTo found number plain (Err Store) = Unit {0}
OpensTo found number plain (Err fault) = ⊥

-- what a stream holds after a block of it was read: that block with the part of the object
abbrev pub Loads : List ℕ → Layout → ℕ → Option HeldBlock → Result (Unit {0}) StreamFault → Type 0
Loads object layout number now (Ok _) = IsSomeAnd now (λ block.
    (block.number ≡ number) × (part_at object layout number ≡ Some block.part))
Loads object layout number now (Err (Block other)) =
    (other ≡ number) × (part_at object layout number ≡ None)
Loads object layout number now (Err Store) = Unit {0}
Loads object layout number now (Err fault) = ⊥

-- what the buffer of a range has after a block of the object was read: the bytes of its part
-- besides
abbrev pub ReadsPart : List ℕ → Layout → ℕ → ℕ → List ℕ → List ℕ → Result (Unit {0}) StreamFault
    → Type 0
ReadsPart object layout number at before now (Ok _) = IsSomeAnd (part_at object layout number)
    (λ part. now ≡ with_part part (number * layout.block_length) at before)
ReadsPart object layout number at before now (Err (Block other)) =
    (other ≡ number) × (part_at object layout number ≡ None) × (now ≡ before)
ReadsPart object layout number at before now (Err Store) = now ≡ before
ReadsPart object layout number at before now (Err fault) = ⊥
