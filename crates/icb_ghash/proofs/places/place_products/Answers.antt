-- One entry after another, from the last one on.
use Rattle.std.proofs.Common.{arith}
use Rattle.std.proofs.Math.ListN.{length-set}
use Rattle.icb_ghash.proofs.PlaceLemmas.{entries_more, entry_is}
use Rattle.icb_ghash.proofs.places.place_products.Goals as goal

pub loop-i-preserved : goal.loop-i-preserved
loop-i-preserved c = record {
  size = (rw length-set c.loop-i.invariant.size);
  entries = λ h bound are.
      entries_more c.loop-i.products h c.loop-i.i c.product_at-product.result c.loop-i.invariant.size (omega arith)
      (c.loop-i.invariant.entries h bound are)
      (entry_is c.args.multiples.now c.loop-i.products h c.loop-i.i c.product_at-product.result bound (omega arith) are
      (c.loop-i.invariant.entries h bound are) c.product_at-product.ensures.multiple c.product_at-product.ensures.moved);
}
