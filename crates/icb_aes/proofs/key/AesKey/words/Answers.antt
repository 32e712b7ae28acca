-- The fields hold the schedule of a key of bytes.
use Rattle.icb_aes.proofs.key.AesKey.words.Goals as goal

pub returns-clause-words : goal.returns-clause-words
returns-clause-words c = rw (← c.self.view_is) c.self.invariant.words

pub returns-clause-are_bytes : goal.returns-clause-are_bytes
returns-clause-are_bytes c = rw (← c.self.view_is) c.self.invariant.are_bytes
