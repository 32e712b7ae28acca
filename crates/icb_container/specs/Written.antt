-- The bytes that are written: one block of properties in the order of their keys, and each block
-- with the shortest numbers.
use Rattle.std.specs.Prelude.{ℕ, List, ◌++◌, length, map, codes, pos}
use Rattle.std.specs.List.{fold}
use Rattle.std.specs.List.{flat_map}
use Rattle.std.specs.FinMap as finite
use Rattle.icb_avro.specs.Writing.{one_block, written_bytes, written_long}
use Rattle.icb_container.specs.Header.{magic}
use Rattle.icb_container.specs.Content.{Properties}
use Rattle.icb_container.specs.declared.block.Block.{Block}

-- properties put one after another, so that the last of equal keys counts
abbrev pub put_all : List (List ℕ × List ℕ) → Properties
put_all es = fold (λ m e. finite.insert m e.0 e.1) finite.empty es

-- the writer's properties: these, the codec `null`, and the schema's text
abbrev pub properties_of : List ℕ → List (List ℕ × List ℕ) → Properties
properties_of text extra = finite.insert (finite.insert (put_all extra)
    (codes "avro.codec") (codes "null")) (codes "avro.schema") text

-- a key and its value
abbrev pub written_property : List ℕ × List ℕ → List ℕ
written_property e = written_bytes e.0 ++ written_bytes e.1

-- the magic, the properties in the order of their keys, and the marker
abbrev pub written_header : Properties → List ℕ → List ℕ
written_header m marker = magic ++ one_block (map written_property (finite.entries m)) ++ marker

-- the count, the size, the bytes and the marker
abbrev pub written_block : List ℕ → Block → List ℕ
written_block marker b = written_long (pos b.count) ++ written_long (pos (length b.bytes))
    ++ b.bytes ++ marker

-- the header, and the blocks one after another
abbrev pub written_container : List ℕ → List (List ℕ × List ℕ) → List ℕ → List Block → List ℕ
written_container text extra marker blocks = written_header (properties_of text extra) marker
    ++ flat_map (written_block marker) blocks
