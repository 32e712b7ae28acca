-- The block of a place is the quotient by the block length.
use Rattle.std.proofs.Common.{arith}
use Rattle.icb_stream.proofs.CutLemmas.{cut_facts}
use Rattle.icb_stream.proofs.PartLemmas.{block_of_place}
use Rattle.icb_stream.proofs.cut.Cut.block_of_place.Goals as goal

pub nonzero_div-result : goal.nonzero_div-result
nonzero_div-result c = let cut = cut_facts _ _ c.args.self.now.is_cut in omega (arith, cut.some_length)

pub overflow_cast-result-2 : goal.overflow_cast-result-2
overflow_cast-result-2 c =
    let cut = cut_facts _ _ c.args.self.now.is_cut in
    let place = block_of_place _ _ _ c.args.at cut c.requires in omega (arith, place.0, cut.few_blocks)

pub returns-clause-number : goal.returns-clause-number
returns-clause-number c =
    let cut = cut_facts _ _ c.args.self.now.is_cut in
    let place = block_of_place _ _ _ c.args.at cut c.requires in place.0

pub returns-clause-ends : goal.returns-clause-ends
returns-clause-ends c =
    let cut = cut_facts _ _ c.args.self.now.is_cut in
    let place = block_of_place _ _ _ c.args.at cut c.requires in place.2
