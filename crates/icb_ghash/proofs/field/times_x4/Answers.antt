-- The shift and the remainder.
use Rattle.icb_ghash.proofs.NibbleLemmas.{times_x4_split}
use Rattle.icb_ghash.proofs.field.times_x4.Goals as goal

pub returns : goal.returns
returns c = times_x4_split c.args.v
