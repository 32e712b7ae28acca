-- The laws are lemmas of proofs/LawLemmas.antt.
use Rattle.icb_base.proofs.LawLemmas.{fronts_join}
use Rattle.icb_base.proofs.laws.fronts_join.Goals as goal

pub returns : goal.returns
returns c = fronts_join
