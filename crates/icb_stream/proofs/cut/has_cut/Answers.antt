-- The last block begins in the file.
use Rattle.std.proofs.Common.{arith}
use Rattle.icb_stream.proofs.CutLemmas.{last_start}
use Rattle.icb_stream.proofs.cut.has_cut.Goals as goal

pub overflow_sub-last : goal.overflow_sub-last
overflow_sub-last c =
    let last = last_start _ _ _ c.block_count-blocks.ensures c.if-recorded.false in omega (arith, last.0)

pub overflow_mul-last : goal.overflow_mul-last
overflow_mul-last c =
    let last = last_start _ _ _ c.block_count-blocks.ensures c.if-recorded.false in omega (arith, last.1)

pub overflow_add-last-2 : goal.overflow_add-last-2
overflow_add-last-2 c =
    let last = last_start _ _ _ c.block_count-blocks.ensures c.if-recorded.false in omega (arith, last.1)

pub overflow_sub-result : goal.overflow_sub-result
overflow_sub-result c =
    let last = last_start _ _ _ c.block_count-blocks.ensures c.if-recorded.false in omega (arith, last.1)
