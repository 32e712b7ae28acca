-- The header, the nonces and the tags lie in the file.
use Rattle.std.proofs.Common.{arith}
use Rattle.icb_stream.proofs.CutLemmas.{cut_facts, overheads_fit}
use Rattle.icb_stream.proofs.cut.Cut.plain_length.Goals as goal

pub overflow_sub-result : goal.overflow_sub-result
overflow_sub-result c = omega (arith, overheads_fit _ _ _ (cut_facts _ _ c.args.self.now.is_cut))

pub overflow_sub-result-2 : goal.overflow_sub-result-2
overflow_sub-result-2 c = omega (arith, overheads_fit _ _ _ (cut_facts _ _ c.args.self.now.is_cut))
