-- The laws that determine the definitions of the field GF(2^128). Polynomials are numbers below
-- 2^128.
use Rattle.std.specs.Prelude.{◌≡◌, ℕ, ◌^◌, ◌<◌, bit_xor}
use Rattle.icb_ghash.specs.Ghash.{one, x, times_x, product}

-- a · b = b · a
abbrev pub ProductCommutes : Type 0
ProductCommutes = (a b : ℕ) → a < 2 ^ 128 → b < 2 ^ 128 → product a b ≡ product b a

-- (a · b) · c = a · (b · c)
abbrev pub ProductAssociates : Type 0
ProductAssociates = (a b c : ℕ) → a < 2 ^ 128 → b < 2 ^ 128 → c < 2 ^ 128
    → product (product a b) c ≡ product a (product b c)

-- a · (b + c) = a · b + a · c
abbrev pub ProductDistributes : Type 0
ProductDistributes = (a b c : ℕ) → a < 2 ^ 128 → b < 2 ^ 128 → c < 2 ^ 128
    → product a (bit_xor b c) ≡ bit_xor (product a b) (product a c)

-- 1 · a = a
abbrev pub OneIsUnit : Type 0
OneIsUnit = (a : ℕ) → a < 2 ^ 128 → product one a ≡ a

-- x · a is a shifted to the right, with its reduction
abbrev pub ProductWithXShifts : Type 0
ProductWithXShifts = (a : ℕ) → a < 2 ^ 128 → product x a ≡ times_x a

-- the product of two polynomials is one
abbrev pub ProductIsClosed : Type 0
ProductIsClosed = (a b : ℕ) → a < 2 ^ 128 → b < 2 ^ 128 → product a b < 2 ^ 128

-- each a other than 0 has a b with a · b = 1
abbrev pub InverseExists : Type 0
InverseExists = (a : ℕ) → a < 2 ^ 128 → (a ≡ 0 → ⊥)
    → (b : ℕ) × ((b < 2 ^ 128) × (product a b ≡ one))
