-- A block that was committed, and is found as one of a listed file, is that file's own.
use Rattle.std.specs.Prelude.{◌≡◌, ◌<◌, ◌^◌, ℕ}
use Rattle.std.proofs.Common.{ap, ◌∙◌, sym, subst, arith}
use Rattle.std.proofs.lemmas.List.Elements.{All-contains, All-from_recursion}
use Rattle.icb_base.specs.Objects.{Objects}
use Rattle.icb_seal.specs.Block.{additional_data}
use Rattle.icb_seal.proofs.BlockLemmas.{number_of_additional_data, prefix_of_additional_data}
use Rattle.icb_stream.specs.Opening.{block_length_in}
use Rattle.icb_stream.proofs.CutLemmas.{cut_facts}
use Rattle.icb_table.specs.Foreign.{IsBlockOf, SealedBlock, layout_in, sealed_at}
use Rattle.icb_table.specs.Laws.{CommittedIsOwn, OwnBlocksAreCommitted}
use Rattle.icb_table.specs.Listed.{Listed}
use Rattle.icb_table.specs.Table.{IsInTable}

-- the number of a block fits 32 bits
number_fits : (files : Objects) (f : Listed) (i : ℕ) (block : SealedBlock) → IsBlockOf files f i block → i < 2 ^ 32
number_fits files f i block is =
    let cut = cut_facts (block_length_in is.object) f.recorded is.cut in
    omega (arith, cut.few_blocks, is.within)

pub committed_is_own : CommittedIsOwn
committed_is_own committed found meta ring table f i block h in_table is was =
    let same : sealed_at is.object (layout_in is.object f) i
    ≡ sealed_at was.is_block.object (layout_in was.is_block.object was.file) was.number =
    sym is.is ∙ was.is_block.is in
    let key : f.key ≡ was.file.key = ap (λ b. b.key) same in
    let added : additional_data f.prefix i ≡ additional_data was.file.prefix was.number = ap (λ b. b.additional) same in
    let fits = number_fits found f i block is in
    let fitted = number_fits committed was.file was.number block was.is_block in
    let number : i ≡ was.number = number_of_additional_data f.prefix was.file.prefix i was.number fits fitted added in
    let prefix : f.prefix ≡ was.file.prefix =
    prefix_of_additional_data f.prefix was.file.prefix i was.number fits fitted added in
    let file : f ≡ was.file = h.one_way f was.file in_table was.in_table
    (h.own_keys f was.file in_table was.in_table key prefix) in
    subst (λ g. IsBlockOf committed g i block) (sym file)
    (subst (λ j. IsBlockOf committed was.file j block) (sym number) was.is_block)

pub own_blocks_are_committed : OwnBlocksAreCommitted
own_blocks_are_committed files meta ring listed all f number block is_in is_block opens = record {
  file = f;
  in_table = All-contains (IsInTable files meta ring) listed f (All-from_recursion (IsInTable files meta ring) listed all) is_in;
  number = number;
  is_block = is_block;
}
