-- What the tables of a hash key hold.
use Rattle.std.specs.Prelude.{◌≡◌, ℕ, ◌*◌, ◌/◌, ◌%◌, ◌^◌, ◌<◌, List, slice_index}
use Rattle.icb_ghash.specs.Ghash.{product}

-- the entries are the 16 multiples of h: entry n is the product of h and the polynomial whose first
-- four coefficients, those of x^0 to x^3, are the bits of n, high bit first
abbrev pub AreMultiples : List ℕ → ℕ → Type 0
AreMultiples entries h = (n : ℕ) → n < 16 → slice_index entries n ≡ product (n * 2 ^ 124) h

-- the entries are the products of h by place: entry 16 p + n is the product of h and the polynomial
-- whose coefficients of x^(124 - 4 p) to x^(127 - 4 p) are the bits of n, high bit first, and whose
-- others are 0
abbrev pub ArePlaceProducts : List ℕ → ℕ → Type 0
ArePlaceProducts entries h = (j : ℕ) → j < 512
    → slice_index entries j ≡ product (j % 16 * 2 ^ (4 * (j / 16))) h
