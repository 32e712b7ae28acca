-- The fields hold a key of bytes.
use Rattle.icb_aes.proofs.key.AesKey.bytes.Goals as goal

pub returns-clause-are_bytes : goal.returns-clause-are_bytes
returns-clause-are_bytes c = rw (← c.self.view_is) c.self.invariant.are_bytes
