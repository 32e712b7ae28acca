-- The manifest that is written is one that is read again.
use Rattle.std.proofs.Common.{◌≡◌, ℕ, ℤ, true, List, [], map, refl, ap, ◌∙◌}
use Rattle.std.specs.Prelude.{IfOk, Result, Ok, Err}
use Rattle.core.specs.Fmt.{digits}
use Rattle.icb_schema.specs.Shape.{shape}
use Rattle.icb_schema.specs.Printing.{text_of}
use Rattle.icb_schema.specs.Rules.{has_distinct_names}
use Rattle.icb_avro.specs.declared.value.Value.{Value}
use Rattle.icb_avro.specs.Writing.{written}
use Rattle.icb_container.specs.Header.{is_row}
use Rattle.icb_container.specs.declared.block.Block.{Block}
use Rattle.icb_container.specs.Content.{Content, content_of}
use Rattle.icb_container.specs.Input.{IsInput, content_given}
use Rattle.icb_container.specs.Written.{properties_of}
use Rattle.icb_types.specs.declared.columns.TableSchema.{TableSchema}
use Rattle.icb_records.specs.Gathering.{gather}
use Rattle.icb_records.specs.Laws.{AreBlocksOf, AreWritable}
use Rattle.icb_records.proofs.GatherLemmas.{blocks_hold_their_records}
use Rattle.icb_manifest.specs.declared.entry.Entry.{Entry}
use Rattle.icb_manifest.specs.Written.{HasShortHeader, entry_tree, entry_value, file_tree, manifest_content, properties}

names : has_distinct_names entry_tree ≡ true
unfolding digits has_distinct_names entry_tree file_tree
names = refl

row : is_row entry_tree ≡ true
unfolding entry_tree file_tree
row = refl

abbrev blocks : List Entry → List Block
blocks entries = gather 65536 0 [] (map written (map entry_value entries))

-- what is written is the input of a container
pub manifest_is_input : (schema : TableSchema) (spec : ℤ) (entries : List Entry) (marker : List ℕ) → HasShortHeader schema spec marker
    → (h : AreBlocksOf (shape entry_tree) (blocks entries) (map entry_value entries)) → IsInput entry_tree (properties schema spec) marker (blocks entries) h.records
manifest_is_input schema spec entries marker header h = record { names = names; row = row; header = header; held = h.held }

-- its content is that of the entries
pub content_is : (schema : TableSchema) (spec : ℤ) (entries : List Entry) (h : AreBlocksOf (shape entry_tree) (blocks entries) (map entry_value entries))
    → content_given entry_tree (properties schema spec) h.records ≡ manifest_content schema spec entries
content_is schema spec entries h = ap (λ (all : List Value). record { schema = entry_tree; properties = properties_of (text_of entry_tree) (properties schema spec); records = all }) h.all

pub content_is_given : {E : Type 0} (r : Result (List ℕ) E) (schema : TableSchema) (spec : ℤ) (entries : List Entry) (marker : List ℕ)
    → IfOk r (λ file. (records : List (List Value)) → IsInput entry_tree (properties schema spec) marker (blocks entries) records → content_of file ≡ Ok (content_given entry_tree (properties schema spec) records))
    → IfOk r (λ file. HasShortHeader schema spec marker → AreWritable entry_tree (map entry_value entries) → content_of file ≡ Ok (manifest_content schema spec entries))
content_is_given (Ok file) schema spec entries marker given = λ header ok.
    let h = blocks_hold_their_records (shape entry_tree) (map entry_value entries) ok.fit ok.short in
    given h.records (manifest_is_input schema spec entries marker header h) ∙ ap (λ (c : Content). Ok c) (content_is schema spec entries h)
content_is_given (Err e) schema spec entries marker given = tt
