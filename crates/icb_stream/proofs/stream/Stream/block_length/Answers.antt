-- The block length of a cut.
use Rattle.icb_stream.proofs.CutLemmas.{cut_facts}
use Rattle.icb_stream.proofs.stream.Stream.block_length.Goals as goal

pub returns-clause-some : goal.returns-clause-some
returns-clause-some c = let cut = cut_facts _ _ c.self.inside.cut.is_cut in cut.some_length

pub returns-clause-most : goal.returns-clause-most
returns-clause-most c = let cut = cut_facts _ _ c.self.inside.cut.is_cut in cut.most_length
