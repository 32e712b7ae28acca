-- Laws of the definitions. Each is the contract of a function of `src/laws.rt`.
use Rattle.std.specs.Prelude.{◌≡◌, ℕ, ◌-◌, ◌≤◌, [], List, length, map}
use Rattle.std.specs.List.{AllByRecursion, AllZip, flat_map}
use Rattle.icb_schema.specs.Tree.{Tree}
use Rattle.icb_schema.specs.Shape.{Shape, shape}
use Rattle.icb_avro.specs.declared.value.Value.{Value}
use Rattle.icb_avro.specs.Writing.{Fits, written}
use Rattle.icb_container.specs.declared.block.Block.{Block}
use Rattle.icb_container.specs.Blocks.{max_block}
use Rattle.icb_container.specs.Input.{AreRecords}
use Rattle.icb_records.specs.Gathering.{gather}

-- A record of at most so many bytes keeps its block within the limit of a block, whatever is before
-- it in the block.
abbrev pub max_record : ℕ
max_record = max_block - 65535

-- what is written of each value has at most so many bytes
abbrev pub AreShort : List Value → Type 0
AreShort values = AllByRecursion (λ v. length (written v) ≤ max_record) values

-- the values are of the schema, and short enough for a block
pub record AreWritable (t : Tree) (values : List Value) : Type 0 where
  pub fit : AllByRecursion (Fits (shape t)) values
  pub short : AreShort values

-- the bytes of the blocks are these values of the shape, one after another
pub record AreBlocksOf (s : Shape) (blocks : List Block) (values : List Value) : Type 0 where
  pub records : List (List Value)
  pub held : AllZip (AreRecords s) blocks records
  pub all : flat_map (λ block. block) records ≡ values

-- Values of a shape that are short enough are gathered into blocks that hold them, in order.
abbrev pub BlocksHoldTheirRecords : Type 0
BlocksHoldTheirRecords = (s : Shape) (values : List Value) → AllByRecursion (Fits s) values
    → AreShort values → AreBlocksOf s (gather 65536 0 [] (map written values)) values
