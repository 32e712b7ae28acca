-- The content of what was written is what it was written from.
use Rattle.std.proofs.Common.{◌≡◌, ℕ, suc, ◌+◌, ◌-◌, ◌≤◌, true, List, ◌++◌, length, Ok, refl, ap, ◌∙◌, arith, length-append}
use Rattle.std.specs.List.{AllZip, flat_map}
use Rattle.icb_schema.specs.Tree as tree
use Rattle.icb_schema.specs.Tree.{Tree}
use Rattle.icb_schema.specs.Shape.{arrays_take_bytes, shape, takes_bytes}
use Rattle.icb_schema.specs.Printing.{text_of}
use Rattle.icb_schema.specs.Reading.{schema_of}
use Rattle.icb_schema.specs.Rules.{has_distinct_names}
use Rattle.icb_avro.specs.declared.value.Value.{Value}
use Rattle.icb_container.specs.declared.block.Block.{Block}
use Rattle.icb_container.specs.Header.{Header, is_row}
use Rattle.icb_container.specs.Blocks.{begins}
use Rattle.icb_container.specs.Content.{Properties, content_from, content_of}
use Rattle.icb_container.specs.Written.{properties_of, written_block, written_container, written_header}
use Rattle.icb_container.specs.Input.{AreRecords, IsInput, content_given}
use Rattle.icb_container.proofs.NumbersAgain.{HaveTexts, Pair}
use Rattle.icb_container.proofs.PropertiesAgain.{by_key_again}
use Rattle.icb_container.proofs.HeaderAgain.{header_again, header_given}
use Rattle.icb_container.proofs.BlocksAgain.{blocks_again, blocks_take, records_given}

-- a record that takes a byte
pub row_takes : (t : Tree) → is_row t ≡ true → takes_bytes (shape t) ≡ true
row_takes (tree.node (tree.primitive p) logical utc) h = absurd cc
row_takes (tree.node (tree.fixed name size) logical utc) h = absurd cc
row_takes (tree.node (tree.enumeration name symbols) logical utc) h = absurd cc
row_takes (tree.node (tree.fields name fs) logical utc) h = h
row_takes (tree.node (tree.array items element) logical utc) h = absurd cc
row_takes (tree.node (tree.map values key value) logical utc) h = absurd cc
row_takes (tree.node (tree.union ts) logical utc) h = absurd cc

-- the blocks behind a header that was read
from_header : (t : Tree) (m : Properties) (marker file : List ℕ) (blocks : List Block) (records : List (List Value)) → takes_bytes (shape t) ≡ true → arrays_take_bytes (shape t) ≡ true → length marker ≡ 16
    → file ≡ written_header m marker ++ flat_map (written_block marker) blocks → AllZip (AreRecords (shape t)) blocks records
    → content_from file (header_given t m marker (flat_map (written_block marker) blocks)) ≡ Ok (record { schema = t; properties = m; records = flat_map (λ block. block) records })
from_header t m marker file blocks records takes arrays size whole are =
    let rest : List ℕ = flat_map (written_block marker) blocks in
    let h : Header = header_given t m marker rest in
    let a : length file ≡ length (written_header m marker) + length rest = ap length whole ∙ length-append (written_header m marker) rest in
    let b : length blocks ≤ length rest = blocks_take marker blocks size in
    let place : length (written_header m marker) ≡ length file - length rest = omega arith in
    let read = blocks_again (suc (length file)) (begins file h) file (written_header m marker) blocks records takes arrays size whole place (omega arith) are in
    rw (read, records_given (begins file h) blocks records are, by_key_again (length (written_header m marker ++ rest)) m _) refl

-- what was written is read again
pub content_again : (t : Tree) (extra : List Pair) (marker : List ℕ) (blocks : List Block) (records : List (List Value)) → (has_distinct_names t ≡ true → schema_of (text_of t) ≡ Ok t) → arrays_take_bytes (shape t) ≡ true
    → HaveTexts extra → length marker ≡ 16 → IsInput t extra marker blocks records → content_of (written_container (text_of t) extra marker blocks) ≡ Ok (content_given t extra records)
unfolding content_of
content_again t extra marker blocks records reads arrays texts size is =
    let m : Properties = properties_of (text_of t) extra in
    let rest : List ℕ = flat_map (written_block marker) blocks in
    rw (header_again t (text_of t) extra marker rest (reads is.names) is.row texts size is.header)
    (from_header t m marker (written_header m marker ++ rest) blocks records (row_takes t is.row) arrays size refl is.held)
