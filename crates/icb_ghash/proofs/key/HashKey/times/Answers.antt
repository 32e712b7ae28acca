-- Four coefficients after another, by Horner's rule.
use Rattle.std.proofs.Common.{◌%◌, ◌∙◌, ap, sym, arith, slice_index}
use Rattle.std.proofs.Math.Nat.{div-one}
use Rattle.icb_ghash.specs.Ghash.{product}
use Rattle.icb_ghash.proofs.NibbleLemmas.{horner_end, horner_more, horner_start, rest_more4}
use Rattle.icb_ghash.proofs.key.HashKey.times.Goals as goal

pub loop-i-init : goal.loop-i-init
loop-i-init c = record {
  sum = horner_start c.args.a (slice_index c.self.inside.multiples 8) c.self.inside.degree;
  rest = sym (div-one c.args.a);
}

pub loop-i-preserved : goal.loop-i-preserved
loop-i-preserved c = record {
  sum = horner_more c.args.a (slice_index c.self.inside.multiples 8) c.loop-i.i c.loop-i.sum c.loop-i.rest _ _
      c.self.inside.degree (omega arith) c.loop-i.invariant.rest c.loop-i.invariant.sum c.times_x4-shifted.ensures
      (c.self.inside.are_multiples (c.loop-i.rest % 16) (omega arith));
  rest = rest_more4 c.args.a c.loop-i.i c.loop-i.rest c.loop-i.invariant.rest;
}

pub returns-clause-product : goal.returns-clause-product
returns-clause-product c =
    c.loop-i.invariant.sum
    ∙ horner_end c.args.a (slice_index c.self.inside.multiples 8) c.loop-i.i c.ranges.a.fits (omega arith)
    ∙ ap (product c.args.a) c.self.view_is
