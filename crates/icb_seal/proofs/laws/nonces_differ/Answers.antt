-- A nonce tells its number.
use Rattle.icb_seal.proofs.BlockLemmas.{number_of_nonce}
use Rattle.icb_seal.proofs.laws.nonces_differ.Goals as goal

pub returns : goal.returns
returns c = λ seed i j a b other e. other (number_of_nonce seed i j a b e)
