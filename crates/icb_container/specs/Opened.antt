-- What contracts see of a container: where it stands, with its schema as a node.
use Rattle.std.specs.Prelude.{ℕ, List}
use Rattle.icb_schema.specs.Nodes.{tree_of}
use Rattle.icb_schema.specs.declared.node.Node.{Node}
use Rattle.icb_container.specs.Blocks.{State}

-- the schema's root and the marker of the header, the place of the next block, the number of its
-- first record, and its own number
pub record Opened : Type 0 where
  pub schema : Node
  pub marker : List ℕ
  pub place : ℕ
  pub first : ℕ
  pub block : ℕ

-- where it stands
abbrev pub state_of : Opened → State
state_of c = record {
  schema = tree_of c.schema;
  marker = c.marker;
  place = c.place;
  first = c.first;
  block = c.block;
}
