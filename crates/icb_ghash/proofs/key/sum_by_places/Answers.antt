-- One block more is one step of Horner's rule.
use Rattle.std.proofs.Common.{◌≡◌, ◌<◌, [], ◌++◌, length, get_or, take, arith, rules}
use Rattle.std.specs.Prelude.{bit_xor}
use Rattle.std.specs.List.{concat}
use Rattle.icb_ghash.specs.Ghash.{polynomial, product}
use Rattle.icb_ghash.proofs.HashLemmas.{concat_more, sum_push}
use Rattle.icb_ghash.proofs.key.sum_by_places.Goals as goal

pub loop-block-preserved : goal.loop-block-preserved
unfolding polynomial
loop-block-preserved c = λ h message degree are is.
    let all = c.args.blocks.now in
    let i = c.loop-block.block-index in
    let size : length (get_or all i []) ≡ 16 = search rules in
    let inside : i < length all = omega arith in
    let product_is : c.product_by_places-product.result ≡ product (bit_xor c.loop-block.sum c.from_be_bytes.result) h =
    c.product_by_places-product.ensures h degree are in
    rw (concat_more message all i inside, product_is, c.from_be_bytes.ensures)
    (sum_push h c.loop-block.sum (message ++ concat (take i all)) (get_or all i []) degree size
    (c.loop-block.invariant h message degree are is))
