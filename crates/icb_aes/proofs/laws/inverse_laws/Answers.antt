-- The lemmas of the inverse.
use Rattle.icb_aes.proofs.InverseLemmas.{inverse_inverts, inverse_unique, inverse-zero}
use Rattle.icb_aes.proofs.laws.inverse_laws.Goals as goal

pub returns-clause-inverts : goal.returns-clause-inverts
returns-clause-inverts c = inverse_inverts

pub returns-clause-is_the_only_one : goal.returns-clause-is_the_only_one
returns-clause-is_the_only_one c = inverse_unique

pub returns-clause-of_zero : goal.returns-clause-of_zero
returns-clause-of_zero c = inverse-zero
