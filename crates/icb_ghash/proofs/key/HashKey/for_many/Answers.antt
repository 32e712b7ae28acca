-- The eighth multiple is the polynomial of the block.
use Rattle.std.proofs.Common.{◌∙◌}
use Rattle.icb_ghash.specs.Ghash.{polynomial}
use Rattle.icb_ghash.proofs.key.HashKey.for_many.Goals as goal

pub returns : goal.returns
unfolding polynomial
returns c = c.multiples-multiples.ensures.itself ∙ c.from_be_bytes-h.ensures
