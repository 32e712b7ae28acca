-- What a stream is, and that it belongs to what a store holds.
use Rattle.std.specs.Prelude.{◌≡◌, ℕ, List, Option, Some, IfSome}
use Rattle.icb_base.specs.Objects.{Objects, object_at}
use Rattle.icb_stream.specs.Layout.{Layout, part_at}
use Rattle.icb_stream.specs.Opening.{IsOpen}

-- a block that a stream holds: its number, and what it opened to
pub record HeldBlock : Type 0 where
  pub number : ℕ
  pub part : List ℕ

-- what contracts see of a stream: its object's path, how it is read, and the block that it holds,
-- if any
pub record StreamValue : Type 0 where
  pub path : List ℕ
  pub layout : Layout
  pub block : Option HeldBlock

-- a stream belongs to what a store holds: its object is held and is an open stream, and a block
-- that it holds is the object's part of that number
pub record BelongsTo (stream : StreamValue) (files : Objects) : Type 0 where
  pub object : List ℕ
  pub held : object_at files stream.path ≡ Some object
  pub is_open : IsOpen object stream.layout
  pub keeps : IfSome stream.block (λ block.
      part_at object stream.layout block.number ≡ Some block.part)
