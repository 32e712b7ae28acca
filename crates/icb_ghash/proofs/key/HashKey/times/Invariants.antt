-- After i steps, the sum is the product of the key and the last 4 i coefficients of `a`, moved to the front.
use Rattle.std.proofs.Common.{◌≡◌, ◌-◌, ◌*◌, ◌/◌, ◌%◌, ◌^◌, slice_index}
use Rattle.icb_ghash.specs.Ghash.{product}
use Rattle.icb_ghash.proofs.key.HashKey.times.Given as goal

abbrev pub invariant-loop-i : goal.invariant-loop-i
invariant-loop-i l = record {
  sum : l.sum ≡ product (l.a % 2 ^ (4 * l.i) * 2 ^ (128 - 4 * l.i)) (slice_index l.self-inside.multiples 8);
  rest : l.rest ≡ l.a / 2 ^ (4 * l.i);
}
