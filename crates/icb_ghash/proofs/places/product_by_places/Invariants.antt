-- After p places, the sum is the product of the polynomial and the last 4 p coefficients of `a`.
use Rattle.std.proofs.Common.{◌≡◌, ℕ, ◌*◌, ◌/◌, ◌%◌, ◌^◌, ◌<◌}
use Rattle.icb_ghash.specs.Ghash.{product}
use Rattle.icb_ghash.specs.Tables.{ArePlaceProducts}
use Rattle.icb_ghash.proofs.places.product_by_places.Given as goal

abbrev pub invariant-loop-p : goal.invariant-loop-p
invariant-loop-p l = record {
  sum : (h : ℕ) → h < 2 ^ 128 → ArePlaceProducts l.products h → l.sum ≡ product (l.a % 2 ^ (4 * l.p)) h;
  rest : l.rest ≡ l.a / 2 ^ (4 * l.p);
}
