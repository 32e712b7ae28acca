-- One row more.
use Rattle.std.proofs.Common.{◌≡◌, ◌∙◌, refl, ap, ℕ, ◌+◌, ◌*◌, ◌/◌, ◌%◌, ◌<◌, length, map, arith}
use Rattle.std.proofs.lemmas.List.{length-set}
use Rattle.std.specs.Int.{bit_at}
use Rattle.icb_aes.specs.Columns.{word_of}
use Rattle.icb_aes.specs.Fips197.{round_key}
use Rattle.icb_aes.specs.Planes.{IsRow, byte_of}
use Rattle.icb_aes.proofs.KeyRows.{block_byte, row_is, row_same, rows_more}
use Rattle.icb_aes.proofs.sliced.add_key_rows.Goals as goal

pub loop-j-init : goal.loop-j-init
loop-j-init c = record { size = omega arith; rows = λ before m p h. before m p (omega (arith, h)) }

pub loop-j-preserved : goal.loop-j-preserved
loop-j-preserved c =
    let i = c.args.i in
    let j = c.loop-j.j in
    let words = map word_of c.args.words.now in
    let size : length c.loop-j.rows ≡ 120 = c.loop-j.invariant.size in
    let next : 8 * i + (j + 1) ≡ 8 * i + j + 1 = omega arith in
    record {
      size = length-set c.loop-j.rows (8 * i + j) _ ∙ size;
      rows = λ before.
          let more = rows_more (λ m x. (p : ℕ) → p < 16 → IsRow x p (λ _. bit_at (byte_of (round_key words (m / 8)) p) (m % 8)))
          c.loop-j.rows (8 * i + j) _ (omega (arith, size)) (λ m h p. c.loop-j.invariant.rows before m p h)
          (λ p h. row_is words _ i j (8 * i + j) p refl (omega arith)
          (row_same _ p _ _ (c.spread-row.ensures p h)
          (λ _ _. ap (λ (n : ℕ). bit_at n j) (block_byte _ _ (round_key words i) p h c.block_of-bytes.ensures c.round_key.ensures)))) in
          λ m p h. more m (omega (arith, h)) p;
    }

pub returns : goal.returns
returns c = λ before m p h. c.loop-j.invariant.rows before m p (omega (arith, h))
