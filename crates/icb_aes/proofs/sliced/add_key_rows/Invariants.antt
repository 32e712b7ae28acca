-- The rows of round key i so far, behind those of the round keys before it.
use Rattle.std.proofs.Common.{◌≡◌, ◌+◌, ◌*◌, length, map}
use Rattle.icb_aes.specs.Columns.{word_of}
use Rattle.icb_aes.specs.Planes.{AreKeyRows}
use Rattle.icb_aes.proofs.sliced.add_key_rows.Given as goal

abbrev pub invariant-loop-j : goal.invariant-loop-j
invariant-loop-j l = record {
  size : length l.rows ≡ 120;
  rows : AreKeyRows l.fn.rows (map word_of l.words) (8 * l.i) → AreKeyRows l.rows (map word_of l.words) (8 * l.i + l.j);
}
