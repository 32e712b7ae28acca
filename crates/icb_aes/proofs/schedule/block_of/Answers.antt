-- The bytes of each word.
use Rattle.std.proofs.Common.{refl}
use Rattle.icb_aes.specs.Columns.{word_of, block_of}
use Rattle.icb_aes.proofs.schedule.block_of.Goals as goal

pub returns : goal.returns
unfolding block_of word_of
returns c = rw (c.to_be_bytes.ensures, c.to_be_bytes-2.ensures, c.to_be_bytes-3.ensures, c.to_be_bytes-4.ensures) refl
