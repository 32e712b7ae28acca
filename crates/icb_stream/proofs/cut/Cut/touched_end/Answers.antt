-- The blocks below the end are touched, and those from it on aren't.
use Rattle.std.proofs.Common.{arith, ◌∙◌}
use Rattle.icb_stream.proofs.CutLemmas.{cut_facts}
use Rattle.icb_stream.proofs.PartLemmas.{plain_fits, touched_to_end}
use Rattle.icb_stream.proofs.cut.Cut.touched_end.Goals as goal

pub overflow_add-result : goal.overflow_add-result
overflow_add-result c =
    let cut = cut_facts _ _ c.args.self.now.is_cut in
    omega (arith, cut.few_blocks, c.block_of_place.ensures.number)

pub returns-then-end-plain_length-clause-reaches : goal.returns-then-end-plain_length-clause-reaches
returns-then-end-plain_length-clause-reaches c =
    rw c.blocks-then-end-plain_length.ensures.count
    (let cut = cut_facts _ _ c.args.self.now.is_cut in
    let fits = plain_fits _ _ _ cut in
    omega (arith, fits, c.requires.range))

pub returns-then-end-plain_length-clause-touched : goal.returns-then-end-plain_length-clause-touched
returns-then-end-plain_length-clause-touched c = λ i lt.
    touched_to_end _ _ _ i c.args.end (cut_facts _ _ c.args.self.now.is_cut)
    (omega (arith, lt, c.blocks-then-end-plain_length.ensures.count)) c.requires.some
    (c.if-end-plain_length.true ∙ c.plain_length.ensures)
