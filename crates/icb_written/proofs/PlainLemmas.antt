-- A sealed stream that is held is the plaintext of its file.
use Rattle.std.proofs.Common.{◌≡◌, ℕ, ◌≤◌, true, List, length, take, Option, Some, None, Result, Ok, Err, refl, ap, ◌∙◌}
use Rattle.std.specs.Prelude.{bytes_eq, if◌then◌else◌, IsSome, is_none}
use Rattle.std.proofs.lemmas.Bool.{le-leb, le-ltb, cond-false}
use Rattle.std.proofs.lemmas.Slice.Eq.{bytes_eq-Decides}
use Rattle.icb_base.specs.KeyMetadata.{KeyRecord}
use Rattle.icb_base.specs.Objects.{Objects, object_at}
use Rattle.icb_stream.specs.Content.{plaintext}
use Rattle.icb_stream.specs.Cut.{has_cut, is_block_length}
use Rattle.icb_stream.specs.Layout.{Layout, part_at}
use Rattle.icb_stream.specs.Opening.{IsOpen, first_part_of, header_of, layout_of, magic, opening_at, opening_of}
use Rattle.icb_stream.proofs.CutLemmas.{cut_facts}
use Rattle.icb_stream.specs.declared.fault.StreamFault.{StreamFault}
use Rattle.icb_stream.specs.declared.fault.StreamFault.TheVariants.{Block}
use Rattle.icb_table.specs.Contents.{of_object, opening_in, opening_key, read_plain}
use Rattle.icb_table.specs.Listed.{Listed, listed}
use Rattle.icb_table.specs.Rows.{rows_of}
use Rattle.icb_table.specs.Snapshots.{columns_of}
use Rattle.icb_written.specs.Laws.{SealedIsPlain, SealedRowsAreRead}
use Rattle.icb_written.proofs.RowLemmas.{held_rows_are_read}

-- ---- an open stream isn't refused

-- the tests of a cut
cut_tests : (B L : ℕ) → has_cut B L ≡ true → (36 ≤ L) × (is_block_length B ≡ true)
cut_tests B L h =
    let is = cut_facts B L h in
    (is.long, rw (le-leb 1 B is.some_length, le-leb B 16777216 is.most_length) refl)

open_header : (bytes : List ℕ) (layout : Layout) → IsOpen bytes layout → header_of bytes layout.recorded ≡ Ok layout.block_length
unfolding header_of
open_header bytes layout open' =
    let begins : bytes_eq (take 4 bytes) magic ≡ true = (bytes_eq-Decides (take 4 bytes) magic).1 open'.begins in
    rw (begins, open'.block_length, (cut_tests layout.block_length layout.recorded open'.cut).1, open'.cut) refl

there_test : (found : Option (List ℕ)) (layout : Layout) → IsSome found → ◌≡◌ {A = Result Layout StreamFault} (if is_none found then Err (Block 0) else Ok layout) (Ok layout)
there_test None layout h = absurd (let never : ⊥ = cc in never)
there_test (Some part) layout h = refl

-- an open stream that is held is opened
pub open_is_opened : (files : Objects) (key : KeyRecord) (path bytes : List ℕ) (recorded block : ℕ) → object_at files path ≡ Some bytes → IsOpen bytes (layout_of key recorded block)
    → opening_of files path key recorded ≡ Ok (layout_of key recorded block)
unfolding opening_of
open_is_opened files key path bytes recorded block held open' =
    let long : 36 ≤ recorded = (cut_tests block recorded open'.cut).0 in
    cond-false _ _ _ (le-ltb recorded 36 long) ∙ ap (λ (o : Option (List ℕ)). opening_at o key recorded) held
    ∙ cond-false _ _ _ (le-ltb (length bytes) recorded open'.long)
    ∙ ap (λ (h : Result ℕ StreamFault). first_part_of bytes key recorded h) (open_header bytes (layout_of key recorded block) open')
    ∙ there_test (part_at bytes (layout_of key recorded block) 0) (layout_of key recorded block) open'.first_part

-- ---- the plaintext of a listed file

pub sealed_is_plain : SealedIsPlain
sealed_is_plain files key path plain bytes block is held =
    let f : Listed = listed path key (length bytes) in
    let opened : opening_in files f ≡ Ok (layout_of key (length bytes) block) = open_is_opened files (opening_key f) path bytes (length bytes) block held is.opens in
    ap (λ (r : Result Layout StreamFault). of_object plaintext (object_at files path) r) opened
    ∙ ap (λ (o : Option (List ℕ)). of_object plaintext o (Ok (layout_of key (length bytes) block))) held
    ∙ is.reads

pub sealed_rows_are_read : SealedRowsAreRead
sealed_rows_are_read meta files key path plain bytes block given are fits holds is held =
    let f : Listed = listed path key (length bytes) in
    ap (λ (o : Option (List ℕ)). read_plain (rows_of (columns_of meta)) f o) (sealed_is_plain files key path plain bytes block is held)
    ∙ held_rows_are_read (columns_of meta).kept given f plain are fits holds
