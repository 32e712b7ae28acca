-- Additional data tell their prefix and their number.
use Rattle.icb_seal.proofs.BlockLemmas.{number_of_additional_data, prefix_of_additional_data}
use Rattle.icb_seal.proofs.laws.additional_data_differ.Goals as goal

pub returns : goal.returns
returns c = λ prefix other i j a b e.
    (prefix_of_additional_data prefix other i j a b e, number_of_additional_data prefix other i j a b e)
