-- The hash is the block of the sum.
use Rattle.std.proofs.Common.{◌∙◌}
use Rattle.icb_ghash.specs.Ghash.{block_of}
use Rattle.icb_ghash.proofs.HashLemmas.{hash_of_sum}
use Rattle.icb_ghash.proofs.hash.Ghash.finish.Goals as goal

pub returns : goal.returns
unfolding block_of
returns c = λ h message holds. c.to_be_bytes.ensures ∙ hash_of_sum h _ message holds.sum
