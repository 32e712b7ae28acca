-- There are 1 to 2^31 blocks.
use Rattle.std.proofs.Common.{arith}
use Rattle.icb_stream.proofs.CutLemmas.{cut_facts}
use Rattle.icb_stream.proofs.cut.Cut.blocks.Goals as goal

pub block_count-requires : goal.block_count-requires
block_count-requires c = let cut = cut_facts _ _ c.args.self.now.is_cut in omega (arith, cut.long)

pub overflow_cast-result : goal.overflow_cast-result
overflow_cast-result c = let cut = cut_facts _ _ c.args.self.now.is_cut in omega (arith, cut.few_blocks)

pub returns-clause-some : goal.returns-clause-some
returns-clause-some c = let cut = cut_facts _ _ c.args.self.now.is_cut in omega (arith, cut.some_blocks)

pub returns-clause-few : goal.returns-clause-few
returns-clause-few c = let cut = cut_facts _ _ c.args.self.now.is_cut in omega (arith, cut.few_blocks)
