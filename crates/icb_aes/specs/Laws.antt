-- Laws that the definitions obey: the algebra that FIPS 197 speaks of, where they compute.
use Rattle.std.specs.Prelude.{◌≡◌, ℕ, ◌+◌, ◌-◌, ◌*◌, ◌<◌, ◌≤◌, List, length, bit_xor, All}
use Rattle.icb_aes.specs.Field.{polynomial_product, modulus, product, inverse}
use Rattle.icb_aes.specs.InverseCipher.{inverse_shift_rows, unmix_polynomial, inverse_cipher}
use Rattle.icb_aes.specs.Fips197.{Word, State, word_at, add_words, shift_rows, word_product}
use Rattle.icb_aes.specs.Fips197.{mix_polynomial, key_words, rounds, schedule_term, key_word}
use Rattle.icb_aes.specs.Fips197.{expanded_key, IsKeyLength, cipher}

-- ---- the field (4.1, 4.2)

-- two bytes' product as polynomials is a multiple of m(x) and then their product, a byte
abbrev pub ProductIsRemainder : Type 0
ProductIsRemainder = (a b : ℕ) → a < 256 → b < 256 → (product a b < 256)
    × ((q : ℕ) × (polynomial_product a b ≡ bit_xor (polynomial_product modulus q) (product a b)))

-- the product of bytes commutes
abbrev pub ProductCommutes : Type 0
ProductCommutes = (a b : ℕ) → a < 256 → b < 256 → product a b ≡ product b a

-- the product of bytes is associative
abbrev pub ProductAssociates : Type 0
ProductAssociates = (a b c : ℕ) → a < 256 → b < 256 → c < 256
    → product (product a b) c ≡ product a (product b c)

-- the product of bytes distributes over the sum
abbrev pub ProductDistributes : Type 0
ProductDistributes = (a b c : ℕ) → a < 256 → b < 256 → c < 256
    → product a (bit_xor b c) ≡ bit_xor (product a b) (product a c)

-- 1 is the unit of the product
abbrev pub OneIsUnit : Type 0
OneIsUnit = (a : ℕ) → a < 256 → product 1 a ≡ a

-- each byte but 0 times its inverse is 1
abbrev pub InverseInverts : Type 0
InverseInverts = (a : ℕ) → 1 ≤ a → a < 256 → (inverse a < 256) × (product a (inverse a) ≡ 1)

-- and no other byte's product with it is
abbrev pub InverseIsUnique : Type 0
InverseIsUnique = (a b : ℕ) → a < 256 → b < 256 → product a b ≡ 1 → b ≡ inverse a

-- ---- the state

-- four bytes
pub record IsWord (w : Word) : Type 0 where
  pub four : length w ≡ 4
  pub bytes : All (λ b. b < 256) w

-- four columns of four bytes
pub record IsState (s : State) : Type 0 where
  pub four : length s ≡ 4
  pub columns : All IsWord s

-- turning the rows of a state left and right again, in either order, moves nothing (5.3.1)
abbrev pub ShiftRowsIsInvertible : Type 0
ShiftRowsIsInvertible = (s : State) → IsState s
    → (inverse_shift_rows (shift_rows s) ≡ s) × (shift_rows (inverse_shift_rows s) ≡ s)

-- what the product with 3x^3 + x^2 + x + 2 does to a column, that with 11x^3 + 13x^2 + 9x + 14
-- undoes (5.3.3)
abbrev pub MixColumnIsInvertible : Type 0
MixColumnIsInvertible = (w : Word) → IsWord w
    → word_product unmix_polynomial (word_product mix_polynomial w) ≡ w

-- ---- the key schedule (5.2)

-- w is the schedule of the key: it has 4 (Nr + 1) words, first the key's own, and then each is the
-- sum of the word Nk before it and a term of the word before it
pub record IsSchedule (key : List ℕ) (w : List Word) : Type 0 where
  pub words : length w ≡ 4 * (rounds key + 1)
  pub first : (i : ℕ) → i < key_words key → word_at w i ≡ key_word key i
  pub next : (i : ℕ) → key_words key ≤ i → i < 4 * (rounds key + 1)
      → word_at w i ≡ add_words (word_at w (i - key_words key))
      (schedule_term (key_words key) i (word_at w (i - 1)))

-- the expanded key is the schedule of the key
abbrev pub ScheduleRecurs : Type 0
ScheduleRecurs = (key : List ℕ) → IsKeyLength (length key) → IsSchedule key (expanded_key key)

-- ---- the cipher (5.3)

-- under a key of bytes, the inverse cipher gives each block of 16 bytes back
abbrev pub CipherIsInvertible : Type 0
CipherIsInvertible = (key block : List ℕ) → All (λ b. b < 256) key
    → length block ≡ 16 → All (λ b. b < 256) block → inverse_cipher key (cipher key block) ≡ block
