-- AES (FIPS 197) as functions on lists of bytes, with the standard's section numbers. It calls the
-- number of a key's words Nk, the number of rounds Nr and the words of the key schedule w.
-- `cipher`, at the end, is the standard's for a key of 16, 24 or 32 bytes and a block of 16.
use Rattle.std.specs.Prelude.{◌≡◌, ℕ, zero, suc, ◌+◌, ◌-◌, ◌*◌, ◌/◌, ◌%◌, ◌^◌, ◌==◌, ◌&&◌, ◌⊎◌}
use Rattle.std.specs.Prelude.{nat_lt, if◌then◌else◌, List, [], ◌∷◌, ◌++◌, length, map, bit_xor}
use Rattle.std.specs.Prelude.{slice_index}
use Rattle.std.specs.Int.{bit_at}
use Rattle.std.specs.List.{range_with_len, slice_index_or}
use Rattle.icb_aes.specs.Field.{sum_below, product, inverse, power_of_x}

-- a word: four bytes. It is a column of a state too, and a polynomial a0 + a1 x + a2 x^2 + a3 x^3
-- over the field (3.5)
abbrev pub Word : Type 0
Word = List ℕ

-- four columns, each a word (3.4, 3.5)
abbrev pub State : Type 0
State = List Word

-- f 0, f 1, f 2 and f 3
abbrev pub four : {A : Type 0} → (ℕ → A) → List A
four f = f 0 ∷ f 1 ∷ f 2 ∷ f 3 ∷ []

-- word i of a list of words
abbrev pub word_at : List Word → ℕ → Word
word_at words i = slice_index_or words i []

-- the byte in row r and column c (3.4)
abbrev pub cell : State → ℕ → ℕ → ℕ
cell s r c = slice_index (word_at s c) r

-- the state with the byte f r c in row r and column c (3.4)
abbrev pub state_of : (ℕ → ℕ → ℕ) → State
state_of f = four (λ c. four (λ r. f r c))

-- the sum of two words, byte by byte
unfoldable pub add_words : Word → Word → Word
add_words a b = four (λ r. bit_xor (slice_index a r) (slice_index b r))

-- ---- SubBytes (5.1.1)

-- bit i of the affine map of b (5.1.1)
abbrev pub affine_bit : ℕ → ℕ → ℕ
affine_bit b i = (bit_at b i + bit_at b ((i + 4) % 8) + bit_at b ((i + 5) % 8)
    + bit_at b ((i + 6) % 8) + bit_at b ((i + 7) % 8) + bit_at 0x63 i) % 2

-- the affine map of b: the byte with these bits (5.1.1)
unfoldable pub affine : ℕ → ℕ
affine b = sum_below 8 (λ i. affine_bit b i * 2 ^ i)

-- the S-box: the inverse in the field, then the affine map (5.1.1)
unfoldable pub sub_byte : ℕ → ℕ
sub_byte b = affine (inverse b)

-- each byte through the S-box (5.1.1)
unfoldable pub sub_bytes : State → State
sub_bytes s = state_of (λ r c. sub_byte (cell s r c))

-- ---- ShiftRows, MixColumns, AddRoundKey

-- row r turned left by r places (5.1.2)
unfoldable pub shift_rows : State → State
shift_rows s = state_of (λ r c. cell s r ((c + r) % 4))

-- the product of two words as polynomials over the field, modulo x^4 + 1: its coefficient of x^r is
-- the sum of a_i b_j over all i + j equal to r modulo 4 (FIPS 197 of 2001, 4.3)
unfoldable pub word_product : Word → Word → Word
word_product a b = four (λ r.
    sum_below 4 (λ j. product (slice_index a ((r + 4 - j) % 4)) (slice_index b j)))

-- 3x^3 + x^2 + x + 2 (5.1.3)
abbrev pub mix_polynomial : Word
mix_polynomial = 2 ∷ 1 ∷ 1 ∷ 3 ∷ []

-- each column times 3x^3 + x^2 + x + 2 (5.1.3)
unfoldable pub mix_columns : State → State
mix_columns s = four (λ c. word_product mix_polynomial (word_at s c))

-- each column plus that of the round key (5.1.4)
unfoldable pub add_round_key : State → State → State
add_round_key s k = four (λ c. add_words (word_at s c) (word_at k c))

-- ---- KeyExpansion (5.2)

-- a key has 128, 192 or 256 bits (5)
abbrev pub IsKeyLength : ℕ → Type 0
IsKeyLength n = (n ≡ 16) ⊎ ((n ≡ 24) ⊎ (n ≡ 32))

-- Nk of a key of 16, 24 or 32 bytes: 4, 6 or 8 (5)
abbrev pub key_words : List ℕ → ℕ
key_words key = length key / 4

-- Nr: 10, 12 or 14 (5)
abbrev pub rounds : List ℕ → ℕ
rounds key = key_words key + 6

-- RotWord: a word turned by one byte (5.2)
unfoldable pub rot_word : Word → Word
rot_word w = four (λ r. slice_index w ((r + 1) % 4))

-- SubWord: each byte through the S-box (5.2)
unfoldable pub sub_word : Word → Word
sub_word w = four (λ r. sub_byte (slice_index w r))

-- Rcon i: x to the power i - 1, then three zeros (5.2)
unfoldable pub round_constant : ℕ → Word
round_constant i = power_of_x (i - 1) ∷ 0 ∷ 0 ∷ 0 ∷ []

-- what word i of the schedule adds to word i - Nk, from word i - 1: that word itself, but turned,
-- through the S-box and with a round constant where i is a multiple of Nk, and through the S-box
-- where Nk is above 6 and i is 4 modulo Nk (5.2)
unfoldable pub schedule_term : ℕ → ℕ → Word → Word
schedule_term nk i before =
    if i % nk == 0 then add_words (sub_word (rot_word before)) (round_constant (i / nk))
    else (if nat_lt 6 nk && (i % nk == 4) then sub_word before else before)

-- word i of the schedule from the words w before it (5.2)
unfoldable pub next_word : ℕ → ℕ → List Word → Word
next_word nk i w = add_words (word_at w (i - nk)) (schedule_term nk i (word_at w (i - 1)))

-- word i of the key itself (5.2)
unfoldable pub key_word : List ℕ → ℕ → Word
key_word key i = four (λ r. slice_index key (4 * i + r))

-- the key's own words and the next n words of its schedule (5.2)
unfoldable pub schedule : List ℕ → ℕ → List Word
schedule key zero = map (key_word key) (range_with_len 0 (key_words key))
schedule key (suc n) =
    schedule key n ++ next_word (key_words key) (key_words key + n) (schedule key n) ∷ []

-- w: the 4 (Nr + 1) words of a key's schedule (5.2)
unfoldable pub expanded_key : List ℕ → List Word
expanded_key key = schedule key (4 * (rounds key + 1) - key_words key)

-- the round key of round i: words 4 i to 4 i + 3 (5.1.4)
unfoldable pub round_key : List Word → ℕ → State
round_key w i = four (λ c. word_at w (4 * i + c))

-- ---- Cipher (5.1)

-- one round but the last (5.1)
unfoldable pub round : State → State → State
round s k = add_round_key (mix_columns (shift_rows (sub_bytes s))) k

-- the last round, which has no MixColumns (5.1)
unfoldable pub last_round : State → State → State
last_round s k = add_round_key (shift_rows (sub_bytes s)) k

-- the state s with the round key of round 0, and then n rounds (5.1)
unfoldable pub after_rounds : List Word → State → ℕ → State
after_rounds w s zero = add_round_key s (round_key w 0)
after_rounds w s (suc n) = round (after_rounds w s n) (round_key w (suc n))

-- the state of an input: byte r + 4 c is in row r and column c (3.4)
unfoldable pub state_from : List ℕ → State
state_from block = state_of (λ r c. slice_index block (r + 4 * c))

-- the output of a state: byte r + 4 c is that in row r and column c (3.4)
unfoldable pub output : State → List ℕ
output s = map (λ i. cell s (i % 4) (i / 4)) (range_with_len 0 16)

-- the cipher of a block of 16 bytes under a key of 16, 24 or 32 bytes (5.1)
unfoldable pub cipher : List ℕ → List ℕ → List ℕ
cipher key block = output (last_round
    (after_rounds (expanded_key key) (state_from block) (rounds key - 1))
    (round_key (expanded_key key) (rounds key)))
