-- The field GF(2^8) of AES (FIPS 197, 4.1 and 4.2). A polynomial over bits is the number whose bit
-- i is the coefficient of x^i, so that a byte is a polynomial of degree below 8, and x itself is 2.
use Rattle.std.specs.Prelude.{ℕ, zero, suc, ◌+◌, ◌*◌, ◌^◌, ◌==◌, bit_xor, unwrap_or}
use Rattle.std.specs.Int.{bit_at}
use Rattle.std.specs.List.{find, range_with_len}

-- the sum of the polynomials f 0, …, f (n - 1): coefficients are added modulo 2 (4.1)
unfoldable pub sum_below : ℕ → (ℕ → ℕ) → ℕ
sum_below zero f = 0
sum_below (suc n) f = bit_xor (sum_below n f) (f n)

-- a times b as polynomials, b of degree below 8: the sum of b's terms, each times a (4.2)
unfoldable pub polynomial_product : ℕ → ℕ → ℕ
polynomial_product a b = sum_below 8 (λ i. bit_at b i * (a * 2 ^ i))

-- m(x) = x^8 + x^4 + x^3 + x + 1 (4.2)
abbrev pub modulus : ℕ
modulus = 2 ^ 8 + 2 ^ 4 + 2 ^ 3 + 2 + 1

-- p, of degree below 8 + n, modulo m(x): from the highest down, each term x^(8 + i) that is there
-- goes by taking away m(x) times x^i (4.2)
unfoldable pub remainder : ℕ → ℕ → ℕ
remainder zero p = p
remainder (suc n) p = remainder n (bit_xor p (bit_at p (8 + n) * (modulus * 2 ^ n)))

-- the product of two bytes: that of the polynomials, of degree at most 14, modulo m(x) (4.2)
unfoldable pub product : ℕ → ℕ → ℕ
product a b = remainder 7 (polynomial_product a b)

-- the inverse of a byte: the byte whose product with it is 1, and 0 where there is none, as for 0
-- (4.2, 5.1.1)
unfoldable pub inverse : ℕ → ℕ
inverse a = unwrap_or (find (λ b. product a b == 1) (range_with_len 0 256)) 0

-- x to the power n
unfoldable pub power_of_x : ℕ → ℕ
power_of_x zero = 1
power_of_x (suc n) = product 2 (power_of_x n)
