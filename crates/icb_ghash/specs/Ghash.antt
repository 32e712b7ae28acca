-- GHASH (NIST SP 800-38D, sections 6.3 and 6.4). A block is a polynomial over bits, of degree below
-- 128, whose leftmost bit is the coefficient of x^0. It is written here as the number that its 16
-- bytes spell, high byte first, so that the sum of two polynomials is the `bit_xor` of two numbers.
use Rattle.std.specs.Prelude.{ℕ, zero, suc, ◌-◌, ◌*◌, ◌/◌, ◌%◌, ◌^◌, ◌==◌, if◌then◌else◌, List, []}
use Rattle.std.specs.Prelude.{◌∷◌, ◌++◌, length, take, drop, replicate, bit_xor}
use Rattle.std.specs.Int.{w128, from_be_bytes, to_be_bytes}

-- ---- the field GF(2^128) (6.3)

-- the polynomial of a block
unfoldable pub polynomial : List ℕ → ℕ
polynomial block = from_be_bytes w128 block

-- the block of a polynomial
unfoldable pub block_of : ℕ → List ℕ
block_of a = to_be_bytes w128 a

-- the coefficient of x^i in a: bit i of the block, counted from the left
abbrev pub coefficient : ℕ → ℕ → ℕ
coefficient a i = a / 2 ^ (127 - i) % 2

-- the polynomial 1: the block 80 00 .. 00
abbrev pub one : ℕ
one = 2 ^ 127

-- the polynomial x: the block 40 00 .. 00
abbrev pub x : ℕ
x = 2 ^ 126

-- x times v, modulo x^128 + x^7 + x^2 + x + 1: each coefficient moves one place to the right, and
-- x^128, where it arises, is x^7 + x^2 + x + 1, which is the block e1 00 .. 00
unfoldable pub times_x : ℕ → ℕ
times_x v = bit_xor (v / 2) (if v % 2 == 1 then 0xe1 * 2 ^ 120 else 0)

-- x^i times v
unfoldable pub times_x_power : ℕ → ℕ → ℕ
times_x_power zero v = v
times_x_power (suc i) v = times_x (times_x_power i v)

-- the sum of x^i times v over those i below n for which a has the coefficient 1 at x^i
unfoldable pub partial_product : ℕ → ℕ → ℕ → ℕ
partial_product zero a v = 0
partial_product (suc n) a v =
    bit_xor (partial_product n a v) (if coefficient a n == 1 then times_x_power n v else 0)

-- the product of a and v: the sum of x^i times v over all i for which a has the coefficient 1 at
-- x^i
unfoldable pub product : ℕ → ℕ → ℕ
product a v = partial_product 128 a v

-- h to the power n
unfoldable pub power : ℕ → ℕ → ℕ
power h zero = one
power h (suc n) = product h (power h n)

-- ---- the hash (6.4)

-- the sum of each polynomial X1 .. Xm times h to its power: Xj times h^(m + 1 - j). The first of a
-- list is times h to the length of the list.
unfoldable pub sum_of_powers : ℕ → List ℕ → ℕ
sum_of_powers h [] = 0
sum_of_powers h (a ∷ rest) =
    bit_xor (product a (power h (length (a ∷ rest)))) (sum_of_powers h rest)

-- the first n blocks of some bytes, each as its polynomial
unfoldable pub blocks : ℕ → List ℕ → List ℕ
blocks zero bytes = []
blocks (suc n) bytes = polynomial (take 16 bytes) ∷ blocks n (drop 16 bytes)

-- GHASH, under the polynomial h, of bytes that are whole blocks
unfoldable pub ghash : ℕ → List ℕ → List ℕ
ghash h bytes = block_of (sum_of_powers h (blocks (length bytes / 16) bytes))

-- the bytes, and then the fewest zeros that make whole blocks (the padding of 7.1, step 4)
unfoldable pub padded : List ℕ → List ℕ
padded bytes = bytes ++ replicate ((16 - length bytes % 16) % 16) 0
