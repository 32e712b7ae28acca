-- The vector, lane by lane.
use Rattle.icb_aes.proofs.KeyRows.{spread_row}
use Rattle.icb_aes.proofs.sliced.spread.Goals as goal

pub returns : goal.returns
returns c = λ p h. spread_row c.args.bytes c.args.j p c.fits-bytes.0 h
