-- One place after another.
use Rattle.std.proofs.Common.{◌%◌, ◌∙◌, sym, arith}
use Rattle.std.proofs.Math.Nat.{div-one}
use Rattle.icb_ghash.proofs.NibbleLemmas.{rest_more4}
use Rattle.icb_ghash.proofs.PlaceLemmas.{place_entry, places_end, places_more, places_start}
use Rattle.icb_ghash.proofs.places.product_by_places.Goals as goal

pub loop-p-init : goal.loop-p-init
loop-p-init c = record {
  sum = λ h bound are. places_start c.args.a h bound;
  rest = sym (div-one c.args.a);
}

pub loop-p-preserved : goal.loop-p-preserved
loop-p-preserved c = record {
  sum = λ h bound are.
      places_more c.args.a h c.loop-p.p c.loop-p.sum c.loop-p.rest _ c.loop-p.invariant.rest
      (c.loop-p.invariant.sum h bound are)
      (place_entry c.args.products.now h c.loop-p.p (c.loop-p.rest % 16) are (omega arith) (omega arith));
  rest = rest_more4 c.args.a c.loop-p.p c.loop-p.rest c.loop-p.invariant.rest;
}

pub returns : goal.returns
returns c = λ h bound are.
    c.loop-p.invariant.sum h bound are ∙ places_end c.args.a h c.loop-p.p c.ranges.a.fits (omega arith)
