-- The lemma of the column product.
use Rattle.icb_aes.proofs.StateLemmas.{unmixed}
use Rattle.icb_aes.proofs.laws.mix_column_is_invertible.Goals as goal

pub returns : goal.returns
returns c = unmixed
