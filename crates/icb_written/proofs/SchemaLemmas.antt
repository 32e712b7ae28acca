-- The texts of the schemas of manifests and lists read as these schemas.
use Rattle.std.proofs.Common.{◌≡◌, ℤ, true, false, Some, Ok, refl}
use lib.Utf8.{encode}
use Rattle.core.specs.Float.Numeral.{scan_numeral}
use Rattle.core.specs.Fmt.{digits}
use Rattle.core.specs.Str.{chars, is_utf8}
use Rattle.json.specs.Json.{value}
use Rattle.json.specs.Lex.{lex, punctuate}
use Rattle.json.specs.Print.{escape_byte}
use Rattle.json.specs.Text.{content}
use Rattle.json.specs.Word.{after_number, word}
use Rattle.serde_json.specs.Read as serde
use Rattle.serde_json.specs.Read.{number_of}
use Rattle.icb_schema.specs.Printing.{json_of, text_of}
use Rattle.icb_schema.specs.Reading.{json_in, schema_of}
use Rattle.icb_schema.specs.Rules.{has_distinct_names}
use Rattle.icb_schema.specs.Shape.{arrays_take_bytes, shape}
use Rattle.icb_schema.proofs.ArrayLemmas.{schema_has_sized_items}
use Rattle.icb_schema.proofs.RoundTrip.{schema_again}
use Rattle.icb_container.proofs.NumbersAgain.{HaveTexts}
use Rattle.icb_list.specs.Written.{list_properties, row_tree}
use Rattle.icb_list.proofs.WrittenLemmas.{row_is_schema}
use Rattle.icb_manifest.specs.Written.{entry_tree, file_tree, properties}
use Rattle.icb_manifest.proofs.WrittenLemmas.{entry_is_schema}
use Rattle.icb_types.specs.declared.columns.TableSchema.{TableSchema}

-- ---- rows of a list

row_utf8 : is_utf8 (text_of row_tree) ≡ true
unfolding text_of row_tree is_utf8 chars escape_byte digits encode
row_utf8 = refl

row_json : serde.read (text_of row_tree) ≡ Some (json_of false row_tree)
unfolding text_of row_tree lex punctuate number_of value content escape_byte digits word after_number scan_numeral
row_json = refl

row_names : has_distinct_names row_tree ≡ true
unfolding digits has_distinct_names row_tree
row_names = refl

pub row_reads : schema_of (text_of row_tree) ≡ Ok row_tree
unfolding schema_of json_in
row_reads = rw (row_utf8, row_json) (schema_again row_tree row_is_schema row_names)

pub row_arrays : arrays_take_bytes (shape row_tree) ≡ true
row_arrays = schema_has_sized_items row_tree row_is_schema

-- the keys of the properties are texts
pub list_texts : HaveTexts list_properties
unfolding is_utf8 chars encode
list_texts = (refl, tt)

-- ---- entries of a manifest

entry_utf8 : is_utf8 (text_of entry_tree) ≡ true
unfolding text_of entry_tree file_tree is_utf8 chars escape_byte digits encode
entry_utf8 = refl

entry_json : serde.read (text_of entry_tree) ≡ Some (json_of false entry_tree)
unfolding text_of entry_tree file_tree lex punctuate number_of value content escape_byte digits word after_number scan_numeral
entry_json = refl

entry_names : has_distinct_names entry_tree ≡ true
unfolding digits has_distinct_names entry_tree file_tree
entry_names = refl

pub entry_reads : schema_of (text_of entry_tree) ≡ Ok entry_tree
unfolding schema_of json_in
entry_reads = rw (entry_utf8, entry_json) (schema_again entry_tree entry_is_schema entry_names)

pub entry_arrays : arrays_take_bytes (shape entry_tree) ≡ true
entry_arrays = schema_has_sized_items entry_tree entry_is_schema

pub manifest_texts : (schema : TableSchema) (spec : ℤ) → HaveTexts (properties schema spec)
unfolding is_utf8 chars encode
manifest_texts schema spec = (refl, (refl, (refl, (refl, (refl, (refl, tt))))))
