-- The last i entries are the products by place.
use Rattle.std.proofs.Common.{◌≡◌, ℕ, ◌+◌, ◌*◌, ◌/◌, ◌%◌, ◌^◌, ◌<◌, ◌≤◌, length, slice_index}
use Rattle.icb_ghash.specs.Ghash.{product}
use Rattle.icb_ghash.specs.Tables.{AreMultiples}
use Rattle.icb_ghash.proofs.places.place_products.Given as goal

abbrev pub invariant-loop-i : goal.invariant-loop-i
invariant-loop-i l = record {
  size : length l.products ≡ 512;
  entries : (h : ℕ) → h < 2 ^ 128 → AreMultiples l.multiples h → (j : ℕ) → 512 ≤ j + l.i → j < 512
      → slice_index l.products j ≡ product (j % 16 * 2 ^ (4 * (j / 16))) h;
}
