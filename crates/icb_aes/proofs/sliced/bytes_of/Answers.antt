-- Each lane is a byte.
use Rattle.icb_aes.proofs.BlockPlanes.{vector_is}
use Rattle.icb_aes.proofs.sliced.bytes_of.Goals as goal

pub returns-clause-block : goal.returns-clause-block
returns-clause-block c = vector_is c.args.x c.fits-x.0 c.fits-x.1
