-- The list that is written is one that is read again.
use Rattle.std.proofs.Common.{◌≡◌, ℕ, true, List, [], map, refl, ap, ◌∙◌}
use Rattle.std.specs.Prelude.{IfOk, Result, Ok, Err}
use Rattle.icb_schema.specs.Shape.{shape}
use Rattle.icb_schema.specs.Printing.{text_of}
use Rattle.icb_schema.specs.Rules.{has_distinct_names}
use Rattle.icb_avro.specs.declared.value.Value.{Value}
use Rattle.icb_avro.specs.Writing.{written}
use Rattle.icb_container.specs.Header.{is_row}
use Rattle.icb_container.specs.declared.block.Block.{Block}
use Rattle.icb_container.specs.Content.{Content, content_of}
use Rattle.icb_container.specs.Input.{IsInput, content_given}
use Rattle.icb_container.specs.Written.{properties_of}
use Rattle.icb_records.specs.Gathering.{gather}
use Rattle.icb_records.specs.Laws.{AreBlocksOf, AreWritable}
use Rattle.icb_records.proofs.GatherLemmas.{blocks_hold_their_records}
use Rattle.icb_list.specs.declared.row.ListRow.{ListRow}
use Rattle.icb_list.specs.Written.{HasShortHeader, list_content, list_properties, row_tree, row_value}

names : has_distinct_names row_tree ≡ true
unfolding has_distinct_names row_tree
names = refl

row : is_row row_tree ≡ true
unfolding row_tree
row = refl

-- what is written is the input of a container
pub list_is_input : (rows : List ListRow) (marker : List ℕ) → HasShortHeader marker → (h : AreBlocksOf (shape row_tree) (gather 65536 0 [] (map written (map row_value rows))) (map row_value rows))
    → IsInput row_tree list_properties marker (gather 65536 0 [] (map written (map row_value rows))) h.records
list_is_input rows marker header h = record { names = names; row = row; header = header; held = h.held }

-- its content is that of the rows
pub content_is : (rows : List ListRow) (h : AreBlocksOf (shape row_tree) (gather 65536 0 [] (map written (map row_value rows))) (map row_value rows)) → content_given row_tree list_properties h.records ≡ list_content rows
content_is rows h = ap (λ (all : List Value). record { schema = row_tree; properties = properties_of (text_of row_tree) list_properties; records = all }) h.all

abbrev blocks : List ListRow → List Block
blocks rows = gather 65536 0 [] (map written (map row_value rows))

pub content_is_given : {E : Type 0} (r : Result (List ℕ) E) (rows : List ListRow) (marker : List ℕ)
    → IfOk r (λ file. (records : List (List Value)) → IsInput row_tree list_properties marker (blocks rows) records → content_of file ≡ Ok (content_given row_tree list_properties records))
    → IfOk r (λ file. HasShortHeader marker → AreWritable row_tree (map row_value rows) → content_of file ≡ Ok (list_content rows))
content_is_given (Ok file) rows marker given = λ header ok.
    let h = blocks_hold_their_records (shape row_tree) (map row_value rows) ok.fit ok.short in
    given h.records (list_is_input rows marker header h) ∙ ap (λ (c : Content). Ok c) (content_is rows h)
content_is_given (Err e) rows marker given = tt
