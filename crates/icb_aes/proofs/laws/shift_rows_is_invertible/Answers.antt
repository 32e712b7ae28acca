-- Both turns move each byte back.
use Rattle.icb_aes.proofs.StateLemmas.{unshifted, reshifted}
use Rattle.icb_aes.proofs.laws.shift_rows_is_invertible.Goals as goal

pub returns : goal.returns
returns c = λ s h. (unshifted s h, reshifted s h)
