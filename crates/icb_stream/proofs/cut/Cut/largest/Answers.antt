-- A file has more bytes than its header.
use Rattle.std.proofs.Common.{arith}
use Rattle.icb_stream.proofs.CutLemmas.{cut_facts}
use Rattle.icb_stream.proofs.cut.Cut.largest.Goals as goal

pub overflow_sub-self : goal.overflow_sub-self
overflow_sub-self c = let cut = cut_facts _ _ c.args.self.now.is_cut in omega (arith, cut.long)
