-- What is asked of a container's input so that its bytes are read again, and what they then hold.
use Rattle.std.specs.Prelude.{◌≡◌, ℕ, ◌≤◌, true, List, length}
use Rattle.std.specs.List.{AllZip, flat_map}
use Rattle.icb_schema.specs.Tree.{Tree}
use Rattle.icb_schema.specs.Shape.{Shape, shape}
use Rattle.icb_schema.specs.Rules.{has_distinct_names}
use Rattle.icb_schema.specs.Printing.{text_of}
use Rattle.icb_avro.specs.declared.value.Value.{Value}
use Rattle.icb_avro.specs.Spelling.{SpellAll, Spells}
use Rattle.icb_container.specs.Header.{is_row, max_header}
use Rattle.icb_container.specs.Blocks.{max_block}
use Rattle.icb_container.specs.Content.{Content}
use Rattle.icb_container.specs.Written.{properties_of, written_header}
use Rattle.icb_container.specs.declared.block.Block.{Block}

-- The bytes of a block are these records of the shape, one after another, as many as it says, and
-- within the limit.
pub record AreRecords (s : Shape) (b : Block) (records : List Value) : Type 0 where
  pub count : b.count ≡ length records
  pub spelled : SpellAll (Spells s) records b.bytes
  pub within : length b.bytes ≤ max_block

-- The types of the schema have distinct names, its root is a record that takes a byte, the header
-- is within the limit, and each block has these records.
pub record IsInput (t : Tree) (extra : List (List ℕ × List ℕ)) (marker : List ℕ)
    (blocks : List Block) (records : List (List Value)) : Type 0 where
  pub names : has_distinct_names t ≡ true
  pub row : is_row t ≡ true
  pub header : length (written_header (properties_of (text_of t) extra) marker) ≤ max_header
  pub held : AllZip (AreRecords (shape t)) blocks records

-- the schema, the properties with the schema's text and the codec, and the records of all blocks
abbrev pub content_given : Tree → List (List ℕ × List ℕ) → List (List Value) → Content
content_given t extra records = record {
  schema = t;
  properties = properties_of (text_of t) extra;
  records = flat_map (λ block. block) records;
}
