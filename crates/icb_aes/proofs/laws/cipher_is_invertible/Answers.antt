-- The lemma of the inverse cipher.
use Rattle.icb_aes.proofs.InverseCipherLemmas.{cipher_undone}
use Rattle.icb_aes.proofs.laws.cipher_is_invertible.Goals as goal

pub returns : goal.returns
returns c = cipher_undone
