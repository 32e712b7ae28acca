-- Both ways.
use Rattle.icb_stream.proofs.CutLemmas.{cut_facts, cut_from_facts}
use Rattle.icb_stream.proofs.laws.cut_exactly.Goals as goal

pub returns : goal.returns
returns c = λ B L. (cut_facts B L, cut_from_facts B L)
