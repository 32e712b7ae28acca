-- The laws are lemmas of proofs/LawLemmas.antt.
use Rattle.icb_base.proofs.LawLemmas.{length_filled, less_is_filled, part_is_filled}
use Rattle.icb_base.proofs.laws.known_is_filled.Goals as goal

pub returns-clause-size : goal.returns-clause-size
returns-clause-size c = length_filled

pub returns-clause-part : goal.returns-clause-part
returns-clause-part c = part_is_filled

pub returns-clause-less : goal.returns-clause-less
returns-clause-less c = less_is_filled
