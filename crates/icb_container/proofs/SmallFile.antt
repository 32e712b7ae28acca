-- A whole file, computed: a record of one number, and the numbers 1 and -1 in one block. It has 138
-- bytes, of which the header has 118. That the text reads as the schema is a premise here.
use Rattle.std.proofs.Common.{◌≡◌, ℕ, List, [], ◌∷◌, ◌++◌, length, codes, None, Ok, refl, ap, sym, ◌∙◌}
use Rattle.std.specs.Prelude.{pos, negsuc}
use Rattle.std.specs.Ordering.{nat_cmp}
use Rattle.std.specs.FinMap as finite
use Rattle.std.specs.Cmp.Lexicographic.{slice_cmp, nat_list_cmp_total}
use Rattle.icb_schema.specs.Tree as tree
use Rattle.icb_schema.specs.Tree.{Tree}
use Rattle.icb_schema.specs.Reading.{schema_of}
use Rattle.icb_avro.specs.declared.value.Value.{Value}
use Rattle.icb_avro.specs.declared.value.Value.TheVariants as value
use Rattle.icb_avro.specs.Reading as avro
use Rattle.icb_avro.specs.Reading.{items_at, long_at, part_at, varint_at}
use Rattle.icb_avro.specs.Writing.{shortest}
use Rattle.icb_container.specs.declared.block.Block.{Block}
use Rattle.icb_container.specs.Header.{Property, bytes_at, header_of, map_at, marker_at, number_at, properties_at, property_at, property_of, text_at}
use Rattle.icb_container.specs.Blocks.{head_at, natural_at, next_of}
use Rattle.icb_container.specs.Content.{blocks_of, by_key, content_of}
use Rattle.icb_container.specs.Written.{properties_of, written_container}
use Rattle.icb_container.proofs.Appended.{empty_at_first}
use Rattle.icb_container.proofs.NumbersAgain.{ascii_is_text}

abbrev pub marker : List ℕ
marker = 17 ∷ 17 ∷ 17 ∷ 17 ∷ 17 ∷ 17 ∷ 17 ∷ 17 ∷ 17 ∷ 17 ∷ 17 ∷ 17 ∷ 17 ∷ 17 ∷ 17 ∷ 17 ∷ []

abbrev pub text : List ℕ
text = codes "{\"fields\":[{\"name\":\"a\",\"type\":\"long\"}],\"name\":\"r\",\"type\":\"record\"}"

abbrev pub whole : List ℕ
whole = 79 ∷ 98 ∷ 106 ∷ 1 ∷ 4 ∷ 20 ∷ (codes "avro.codec" ++ 8 ∷ (codes "null" ++ 22 ∷ (codes "avro.schema" ++ 132 ∷ 1 ∷ (text ++ 0 ∷ (marker ++ 4 ∷ 4 ∷ 2 ∷ 1 ∷ marker)))))

abbrev pub record_of_a : Tree
record_of_a = tree.node (tree.fields (codes "r") (tree.field (codes "a") None (tree.node (tree.primitive tree.long) None None) tree.no_fields)) None None

size : length whole ≡ 138
size = refl

abbrev pub properties : List Property
properties = record { key = codes "avro.codec"; value = codes "null"; place = 16 } ∷ record { key = codes "avro.schema"; value = text; place = 33 } ∷ []

abbrev pub two : List Value
two = value.Record (value.Long (pos 1) ∷ []) ∷ value.Record (value.Long (negsuc 0) ∷ []) ∷ []

pub content : schema_of text ≡ Ok record_of_a → content_of whole ≡ Ok (record { schema = record_of_a; properties = by_key properties; records = two })
unfolding content_of header_of map_at properties_at property_at text_at bytes_at number_at marker_at property_of blocks_of next_of head_at natural_at long_at avro.number_at varint_at part_at items_at
content is = rw (ascii_is_text (codes "avro.codec") refl, ascii_is_text (codes "avro.schema") refl, ascii_is_text (codes "null") refl, is) refl

abbrev pub block : Block
block = record { first = 0; count = 2; place = 0; bytes = 2 ∷ 1 ∷ [] }

abbrev Pairs : Type 0
Pairs = List (List ℕ × List ℕ)

abbrev put : List ℕ → List ℕ → Pairs → Pairs
put k v es = finite.put (slice_cmp nat_cmp) k v es

entries_are : finite.entries (properties_of text []) ≡ (codes "avro.codec", codes "null") ∷ (codes "avro.schema", text) ∷ []
entries_are = finite.entries-insert nat_list_cmp_total (finite.insert finite.empty (codes "avro.codec") (codes "null")) (codes "avro.schema") text
    ∙ ap (put (codes "avro.schema") text) (finite.entries-insert nat_list_cmp_total finite.empty (codes "avro.codec") (codes "null"))
    ∙ ap (λ (es : Pairs). put (codes "avro.schema") text (put (codes "avro.codec") (codes "null") es)) (sym (empty_at_first [] refl))

pub written : written_container text [] marker (block ∷ []) ≡ whole
unfolding shortest
written = rw entries_are refl
