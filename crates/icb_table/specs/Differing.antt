-- Where a found object differs from the committed one (ours).
use Rattle.std.specs.Prelude.{◌≡◌, ◌≢◌, ◌<◌, ℕ, zero, suc, List, length, slice_range}
use Rattle.std.specs.Prelude.{Some, None, IfSome, IsSomeAnd}
use Rattle.icb_base.specs.Objects.{Objects, object_at}
use Rattle.icb_stream.specs.Cut.{block_end, block_start}
use Rattle.icb_stream.specs.Layout.{Layout, blocks}
use Rattle.icb_stream.specs.declared.fault.StreamFault.{StreamFault}
use Rattle.icb_stream.specs.declared.fault.StreamFault.TheVariants as fault
use Rattle.icb_table.specs.Foreign.{layout_in}
use Rattle.icb_table.specs.Listed.{Listed}

-- the first byte that counts with block i: for block 0 that of the header
abbrev pub begins_at : Layout → ℕ → ℕ
begins_at layout zero = 0
begins_at layout (suc i) = block_start layout.block_length (suc i)

-- the bytes that count with block i; fewer where the object ends before
abbrev pub counted_bytes : List ℕ → Layout → ℕ → List ℕ
counted_bytes bytes layout i = slice_range bytes (begins_at layout i)
    (block_end layout.block_length layout.recorded i)

-- block i of a listed file, by the cut of its committed object, isn't there in the found objects
-- with the same bytes
pub record DiffersAt (committed found : Objects) (f : Listed) (i : ℕ) : Type 0 where
  pub object : List ℕ
  pub held : object_at committed f.path ≡ Some object
  pub within : i < blocks (layout_in object f)
  pub differs : IfSome (object_at found f.path) (λ bytes.
      counted_bytes bytes (layout_in object f) i ≢ counted_bytes object (layout_in object f) i)

-- The refusal of a listed file says where the found objects differ from the committed ones: no
-- object is held at its path; it is shorter than the recorded length; its block 0 differs, with
-- which the header counts; or the block of this number does. No other refusal says so.
abbrev pub Differs : Objects → Objects → Listed → StreamFault → Type 0
Differs committed found f fault.Missing = object_at found f.path ≡ None
Differs committed found f (fault.Short size) = IsSomeAnd (object_at found f.path)
    (λ bytes. (size ≡ length bytes) × (size < f.recorded))
Differs committed found f (fault.Magic front) = DiffersAt committed found f 0
Differs committed found f (fault.BlockLength block_length) = DiffersAt committed found f 0
Differs committed found f (fault.BadLength recorded) = DiffersAt committed found f 0
Differs committed found f (fault.Block number) = DiffersAt committed found f number
Differs committed found f e = ⊥
