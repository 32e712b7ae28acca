-- A block's first byte has a place of 64 bits.
use Rattle.std.proofs.Common.{arith}
use Rattle.icb_stream.proofs.CutLemmas.{cut_facts, block_fits}
use Rattle.icb_stream.proofs.cut.Cut.start.Goals as goal

pub overflow_mul-result : goal.overflow_mul-result
overflow_mul-result c = omega (arith, block_fits _ _ _ c.args.number (cut_facts _ _ c.args.self.now.is_cut) c.requires)

pub overflow_add-result-2 : goal.overflow_add-result-2
overflow_add-result-2 c = omega (arith, block_fits _ _ _ c.args.number (cut_facts _ _ c.args.self.now.is_cut) c.requires)
