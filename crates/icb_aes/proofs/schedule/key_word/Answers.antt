-- The word is read from four bytes.
use Rattle.std.proofs.Common.{◌≡◌, ℕ, ◌+◌, ◌*◌, ◌<◌, get_or, arith}
use Rattle.icb_aes.specs.Fips197.{key_word}
use Rattle.icb_aes.proofs.ColumnLemmas.{word_of_bytes}
use Rattle.icb_aes.proofs.schedule.key_word.Goals as goal

pub returns : goal.returns
unfolding key_word
returns c =
    let i = 4 * c.args.i in
    let first : 4 * c.args.i + 0 ≡ 4 * c.args.i = omega arith in
    let byte : (j : ℕ) → get_or c.args.key.now j 0 < 256 = λ j. omega (arith, c.type_inv.key j) in
    rw first (word_of_bytes _ _ _ _ _ (byte i) (byte (i + 1)) (byte (i + 2)) (byte (i + 3)) c.from_be_bytes.ensures)
