-- Words that are held as numbers: sums, bytes, and the block of four.
use Rattle.std.proofs.Common.{◌≡◌, ◌∙◌, ap, refl, ℕ, zero, suc, ◌/◌, ◌%◌, ◌^◌, ◌<◌, List, [], ◌∷◌, get_or, arith}
use Rattle.std.specs.Prelude.{bit_xor}
use Rattle.std.specs.Int.{w32, from_be_bytes}
use Rattle.std.specs.Int.Bits.{xor_shr, xor_mod}
use Rattle.std.proofs.lemmas.Nat.{be_bytes_4}
use Rattle.icb_aes.specs.Columns.{word_of, state_of_numbers, block_of}
use Rattle.icb_aes.specs.Fips197.{add_words, output}

-- ---- sums

-- a byte of a sum
byte-xor : (a b k : ℕ) → bit_xor a b / 2 ^ k % 2 ^ 8 ≡ bit_xor (a / 2 ^ k % 2 ^ 8) (b / 2 ^ k % 2 ^ 8)
byte-xor a b k = ap (λ (t : ℕ). t % 2 ^ 8) (xor_shr a b k) ∙ xor_mod (a / 2 ^ k) (b / 2 ^ k) 8

pub four_equal : (a b c d x y z w : ℕ) → a ≡ x → b ≡ y → c ≡ z → d ≡ w → a ∷ b ∷ c ∷ d ∷ [] ≡ x ∷ y ∷ z ∷ w ∷ []
four_equal a b c d x y z w e f g h = cc

-- the word of a sum
pub word_of-xor : (a b : ℕ) → word_of (bit_xor a b) ≡ add_words (word_of a) (word_of b)
unfolding word_of add_words
word_of-xor a b = four_equal _ _ _ _ _ _ _ _ (byte-xor a b 24) (byte-xor a b 16) (byte-xor a b 8) (xor_mod a b 8)

-- ---- bytes

-- the word of the number that has these bytes
pub word_of_bytes : (a b c d n : ℕ) → a < 256 → b < 256 → c < 256 → d < 256
    → n ≡ from_be_bytes w32 (a ∷ b ∷ c ∷ d ∷ []) → word_of n ≡ a ∷ b ∷ c ∷ d ∷ []
unfolding word_of
word_of_bytes a b c d n p q r s e = be_bytes_4 (a ∷ b ∷ c ∷ d ∷ []) n refl (at p q r s) e
  where
    at : a < 256 → b < 256 → c < 256 → d < 256 → (i : ℕ) → get_or (a ∷ b ∷ c ∷ d ∷ []) i 0 < 256
    at p q r s zero = p
    at p q r s (suc zero) = q
    at p q r s (suc (suc zero)) = r
    at p q r s (suc (suc (suc zero))) = s
    at p q r s (suc (suc (suc (suc i)))) = omega arith

-- ---- blocks

-- the block that four numbers hold, from its state
pub output_of_numbers : (numbers : List ℕ) → block_of numbers ≡ output (state_of_numbers numbers)
unfolding output block_of word_of
output_of_numbers numbers = refl
