-- What a whole file holds: the schema, the properties, and all records.
use Rattle.std.specs.Prelude.{ℕ, zero, suc, List, [], ◌∷◌, length, if◌then◌else◌, Option}
use Rattle.std.specs.Prelude.{Some, None, Result, Ok, Err}
use Rattle.std.specs.Ordering.{nat_cmp}
use Rattle.std.specs.List.{flat_map}
use Rattle.std.specs.Cmp.Lexicographic.{slice_cmp}
use Rattle.std.specs.FinMap as finite
use Rattle.icb_schema.specs.Tree.{Tree}
use Rattle.icb_avro.specs.declared.fault.AvroCause.TheVariants as cause
use Rattle.icb_avro.specs.declared.value.Value.{Value}
use Rattle.icb_container.specs.Wrong as wrong
use Rattle.icb_container.specs.Wrong.{Wrong, ◌>>=◌}
use Rattle.icb_container.specs.Header.{Header, Property, header_of}
use Rattle.icb_container.specs.Blocks.{Part, State, begins, next_of}

-- a block and those behind it, where there is one
abbrev pub then_blocks : (State → Result (List Part) Wrong) → Option Part × State
    → Result (List Part) Wrong
then_blocks more (None, s) = Ok []
then_blocks more (Some part, s) = more s >>= (λ parts. Ok (part ∷ parts))

-- fewer blocks than `most`, from where the reader stands to the end of the file
unfoldable pub blocks_of : ℕ → State → List ℕ → Result (List Part) Wrong
blocks_of zero s file = Err (wrong.avro s.place cause.End)
blocks_of (suc most) s file = next_of s file >>= then_blocks (λ t. blocks_of most t file)

-- properties, by their keys
abbrev pub Properties : Type 0
Properties = finite.FinMap (slice_cmp nat_cmp) (List ℕ)

-- what a file holds
pub record Content : Type 0 where
  pub schema : Tree
  pub properties : Properties
  pub records : List Value

-- the value of each key, the last where it stands more than once
unfoldable pub by_key : List Property → Properties
by_key [] = finite.empty
by_key (p ∷ ps) = if finite.contains_key (by_key ps) p.key then by_key ps
    else finite.insert (by_key ps) p.key p.value

-- what the header and the blocks behind it hold; each block takes bytes
abbrev pub content_from : List ℕ → Header → Result Content Wrong
content_from file h = blocks_of (suc (length file)) (begins file h) file >>= (λ parts. Ok (record {
  schema = h.schema;
  properties = by_key h.properties;
  records = flat_map (λ part. part.records) parts;
}))

-- the content of a file, or its first fault
unfoldable pub content_of : List ℕ → Result Content Wrong
content_of file = header_of file >>= content_from file
