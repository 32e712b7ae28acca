-- One block more is one step of Horner's rule.
use Rattle.std.proofs.Common.{◌≡◌, ◌<◌, [], ◌++◌, length, get_or, take, arith, rules}
use Rattle.std.specs.List.{concat}
use Rattle.icb_ghash.specs.Ghash.{polynomial}
use Rattle.icb_ghash.proofs.HashLemmas.{concat_more, sum_push}
use Rattle.icb_ghash.proofs.key.HashKey.sum_after_few.Goals as goal

pub loop-block-preserved : goal.loop-block-preserved
unfolding polynomial
loop-block-preserved c = λ message is.
    let all = c.args.blocks.now in
    let i = c.loop-block.block-index in
    let size : length (get_or all i []) ≡ 16 = search rules in
    let inside : i < length all = omega arith in
    rw (concat_more message all i inside, c.times-product.ensures.product, c.from_be_bytes.ensures)
    (sum_push c.args.self.now c.loop-block.sum (message ++ concat (take i all)) (get_or all i [])
    c.times-product.ensures.degree size (c.loop-block.invariant message is))
