-- The rows of the first i round keys.
use Rattle.std.proofs.Common.{◌*◌, map}
use Rattle.icb_aes.specs.Columns.{word_of}
use Rattle.icb_aes.specs.Planes.{AreKeyRows}
use Rattle.icb_aes.proofs.sliced.key_rows.Given as goal

abbrev pub invariant-loop-i : goal.invariant-loop-i
invariant-loop-i l = AreKeyRows l.rows (map word_of l.words) (8 * l.i)
