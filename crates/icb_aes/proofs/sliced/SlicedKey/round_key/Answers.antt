-- The rows hold the round keys.
use Rattle.icb_aes.proofs.sliced.SlicedKey.round_key.Goals as goal

pub returns : goal.returns
returns c = rw (← c.self.view_is) (c.self.inside.hold c.args.i)
