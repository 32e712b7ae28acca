-- Bit i of row j after the twelve swaps.
use Rattle.std.proofs.Common.{refl, arith}
use Rattle.icb_aes.proofs.RowLemmas.{row_is, eight_rows}
use Rattle.icb_aes.proofs.transposition.transposed.Goals as goal

pub returns : goal.returns
returns c = λ p f k rows.
    let x0 = rows 0 (omega arith) in
    let x1 = rows 1 (omega arith) in
    let x2 = rows 2 (omega arith) in
    let x3 = rows 3 (omega arith) in
    let x4 = rows 4 (omega arith) in
    let x5 = rows 5 (omega arith) in
    let x6 = rows 6 (omega arith) in
    let x7 = rows 7 (omega arith) in
    let a0 = c.swapped_1.ensures.first p _ _ k x0 x1 in
    let a1 = c.swapped_1.ensures.second p _ _ k x0 x1 in
    let a2 = c.swapped_1-2.ensures.first p _ _ k x2 x3 in
    let a3 = c.swapped_1-2.ensures.second p _ _ k x2 x3 in
    let a4 = c.swapped_1-3.ensures.first p _ _ k x4 x5 in
    let a5 = c.swapped_1-3.ensures.second p _ _ k x4 x5 in
    let a6 = c.swapped_1-4.ensures.first p _ _ k x6 x7 in
    let a7 = c.swapped_1-4.ensures.second p _ _ k x6 x7 in
    let b0 = c.swapped_2.ensures.first p _ _ k a0 a2 in
    let b2 = c.swapped_2.ensures.second p _ _ k a0 a2 in
    let b1 = c.swapped_2-2.ensures.first p _ _ k a1 a3 in
    let b3 = c.swapped_2-2.ensures.second p _ _ k a1 a3 in
    let b4 = c.swapped_2-3.ensures.first p _ _ k a4 a6 in
    let b6 = c.swapped_2-3.ensures.second p _ _ k a4 a6 in
    let b5 = c.swapped_2-4.ensures.first p _ _ k a5 a7 in
    let b7 = c.swapped_2-4.ensures.second p _ _ k a5 a7 in
    let c0 = c.swapped_4.ensures.first p _ _ k b0 b4 in
    let c4 = c.swapped_4.ensures.second p _ _ k b0 b4 in
    let c1 = c.swapped_4-2.ensures.first p _ _ k b1 b5 in
    let c5 = c.swapped_4-2.ensures.second p _ _ k b1 b5 in
    let c2 = c.swapped_4-3.ensures.first p _ _ k b2 b6 in
    let c6 = c.swapped_4-3.ensures.second p _ _ k b2 b6 in
    let c3 = c.swapped_4-4.ensures.first p _ _ k b3 b7 in
    let c7 = c.swapped_4-4.ensures.second p _ _ k b3 b7 in
    eight_rows p f _ _ _ _ _ _ _ _
    (row_is _ p _ (λ j. f j 0) c0 refl refl refl refl refl refl refl refl)
    (row_is _ p _ (λ j. f j 1) c1 refl refl refl refl refl refl refl refl)
    (row_is _ p _ (λ j. f j 2) c2 refl refl refl refl refl refl refl refl)
    (row_is _ p _ (λ j. f j 3) c3 refl refl refl refl refl refl refl refl)
    (row_is _ p _ (λ j. f j 4) c4 refl refl refl refl refl refl refl refl)
    (row_is _ p _ (λ j. f j 5) c5 refl refl refl refl refl refl refl refl)
    (row_is _ p _ (λ j. f j 6) c6 refl refl refl refl refl refl refl refl)
    (row_is _ p _ (λ j. f j 7) c7 refl refl refl refl refl refl refl refl)
