-- The inverse cipher (FIPS 197, 5.3), for the law that it undoes the cipher. No code computes it.
use Rattle.std.specs.Prelude.{ℕ, zero, suc, ◌+◌, ◌-◌, ◌*◌, ◌%◌, ◌^◌, List, [], ◌∷◌}
use Rattle.std.specs.Int.{bit_at}
use Rattle.icb_aes.specs.Field.{sum_below, inverse}
use Rattle.icb_aes.specs.Fips197.{Word, State, four, word_at, cell, state_of, word_product}
use Rattle.icb_aes.specs.Fips197.{add_round_key, rounds, expanded_key, round_key, state_from}
use Rattle.icb_aes.specs.Fips197.{output}

-- row r turned right by r places (5.3.1)
unfoldable pub inverse_shift_rows : State → State
inverse_shift_rows s = state_of (λ r c. cell s r ((c + 4 - r) % 4))

-- bit i of the inverse of the affine map (5.3.2)
abbrev pub inverse_affine_bit : ℕ → ℕ → ℕ
inverse_affine_bit b i = (bit_at b ((i + 2) % 8) + bit_at b ((i + 5) % 8) + bit_at b ((i + 7) % 8)
    + bit_at 0x05 i) % 2

-- the inverse of the affine map (5.3.2)
unfoldable pub inverse_affine : ℕ → ℕ
inverse_affine b = sum_below 8 (λ i. inverse_affine_bit b i * 2 ^ i)

-- the inverse S-box: the inverse of the affine map, then the inverse in the field (5.3.2)
unfoldable pub inverse_sub_byte : ℕ → ℕ
inverse_sub_byte b = inverse (inverse_affine b)

-- each byte through the inverse S-box (5.3.2)
unfoldable pub inverse_sub_bytes : State → State
inverse_sub_bytes s = state_of (λ r c. inverse_sub_byte (cell s r c))

-- 11x^3 + 13x^2 + 9x + 14 (5.3.3)
abbrev pub unmix_polynomial : Word
unmix_polynomial = 14 ∷ 9 ∷ 13 ∷ 11 ∷ []

-- each column times 11x^3 + 13x^2 + 9x + 14 (5.3.3)
unfoldable pub inverse_mix_columns : State → State
inverse_mix_columns s = four (λ c. word_product unmix_polynomial (word_at s c))

-- a round but the last, undone step by step (5.3)
unfoldable pub inverse_round : State → State → State
inverse_round s k = inverse_sub_bytes (inverse_shift_rows (inverse_mix_columns (add_round_key s k)))

-- n rounds from s undone, the last of them first, and then the round key of round 0 (5.3)
unfoldable pub before_rounds : List Word → State → ℕ → State
before_rounds w s zero = add_round_key s (round_key w 0)
before_rounds w s (suc n) = before_rounds w (inverse_round s (round_key w (suc n))) n

-- the inverse cipher of a block of 16 bytes under a key of 16, 24 or 32 bytes (5.3)
unfoldable pub inverse_cipher : List ℕ → List ℕ → List ℕ
inverse_cipher key block = output (before_rounds (expanded_key key)
    (inverse_sub_bytes (inverse_shift_rows
    (add_round_key (state_from block) (round_key (expanded_key key) (rounds key)))))
    (rounds key - 1))
