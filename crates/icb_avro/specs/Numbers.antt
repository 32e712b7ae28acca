-- Whole numbers as bytes (Apache Avro 1.11, "Binary Encoding": int and long).
use Rattle.std.specs.Prelude.{◌≡◌, ℕ, ◌+◌, ◌*◌, ◌^◌, ◌<◌, ◌≤◌, ℤ, pos, negsuc, List, [], ◌∷◌}
use Rattle.std.specs.Prelude.{length}

-- Seven bits a byte, the lowest first, and 128 more on each byte but the last. Zeros may stand
-- above the highest bit.
abbrev pub IsVarint : List ℕ → ℕ → Type 0
IsVarint [] n = ⊥
IsVarint (b ∷ []) n = (b < 128) × (n ≡ b)
IsVarint (b ∷ c ∷ bytes) n =
    (128 ≤ b) × (high : ℕ) × (n + 128 ≡ b + 128 * high) × IsVarint (c ∷ bytes) high

-- 0, -1, 1, -2, 2 and so on are 0, 1, 2, 3, 4
abbrev pub zigzag : ℤ → ℕ
zigzag (pos n) = 2 * n
zigzag (negsuc n) = 2 * n + 1

-- the bytes are this number of 64 bits, in at most 10 bytes
pub record IsLong (n : ℤ) (bytes : List ℕ) : Type 0 where
  pub number : IsVarint bytes (zigzag n)
  pub ten_bytes : length bytes ≤ 10
  pub fits : zigzag n < 2 ^ 64

-- the bytes are this number of 32 bits
pub record IsInt (n : ℤ) (bytes : List ℕ) : Type 0 where
  pub long : IsLong n bytes
  pub fits : zigzag n < 2 ^ 32
