-- What crates above need of the definition: a block's cipher has 16 bytes (`length-cipher`), and under
-- a key of bytes each is below 256 (`cipher-bytes`, `All-cipher`).
use Rattle.std.specs.Prelude.{◌≡◌, ℕ, zero, suc, ◌+◌, ◌-◌, ◌*◌, ◌/◌, ◌%◌, ◌^◌, ◌<◌, ◌==◌, ◌&&◌, nat_lt, true, List, [], ◌∷◌, ◌++◌, length, map, bit_xor, slice_index, All, refl}
use Rattle.std.specs.List.{range_with_len, slice_index_or}
use Rattle.std.proofs.Common.{arith, inl, inr}
use Rattle.std.proofs.lemmas.Bool.{agree_below_at, cond_both, cases_lt, ltb-true}
use Rattle.std.proofs.lemmas.Nat.{xor_of_8}
use Rattle.std.proofs.lemmas.List.{get_or_past}
use Rattle.std.proofs.lemmas.List.Elements.{All-from_get_or}
use Rattle.icb_aes.specs.Fips197.{Word, State, four, word_at, add_words, affine_bit, affine, sub_byte, sub_bytes, shift_rows, add_round_key, key_words, rounds, rot_word, sub_word, round_constant, schedule_term, next_word, key_word, schedule, expanded_key, round_key, last_round, after_rounds, state_from, output, cipher}
use Rattle.icb_aes.specs.Field.{sum_below, inverse, remainder, product, polynomial_product, power_of_x}

-- each byte of a word is below 256
abbrev pub HasBytes : List ℕ → Type 0
HasBytes w = (i : ℕ) → slice_index w i < 256

-- what holds of each of four values holds at each index
pub at_four : {A : Type 0} (P : A → Type 0) (f : ℕ → A) (d : A) → P d → ((i : ℕ) → P (f i)) → (i : ℕ) → P (slice_index_or (four f) i d)
at_four P f d p h zero = h 0
at_four P f d p h (suc zero) = h 1
at_four P f d p h (suc (suc zero)) = h 2
at_four P f d p h (suc (suc (suc zero))) = h 3
at_four P f d p h (suc (suc (suc (suc i)))) = p

at_map : {A B : Type 0} (P : B → Type 0) (f : A → B) (d : B) → P d → ((x : A) → P (f x)) → (xs : List A) (i : ℕ) → P (slice_index_or (map f xs) i d)
at_map P f d p h [] i = p
at_map P f d p h (x ∷ xs) zero = h x
at_map P f d p h (x ∷ xs) (suc i) = at_map P f d p h xs i

at_append : {A : Type 0} (P : A → Type 0) (d : A) (xs ys : List A)
    → ((i : ℕ) → P (slice_index_or xs i d)) → ((i : ℕ) → P (slice_index_or ys i d)) → (i : ℕ) → P (slice_index_or (xs ++ ys) i d)
at_append P d [] ys p q i = q i
at_append P d (x ∷ xs) ys p q zero = p 0
at_append P d (x ∷ xs) ys p q (suc i) = at_append P d xs ys (λ j. p (suc j)) q i

-- no bytes are bytes
pub no_bytes : HasBytes []
no_bytes i = omega arith

add_words-bytes : (a b : Word) → HasBytes a → HasBytes b → HasBytes (add_words a b)
unfolding add_words
add_words-bytes a b p q =
    at_four (λ (n : ℕ). n < 256) (λ r. bit_xor (slice_index a r) (slice_index b r)) 0 (omega arith)
    (λ r. xor_of_8 (slice_index a r) (slice_index b r) (p r) (q r))

-- a bit at its place
pub bit_in_place : (e : ℕ → ℕ) → ((i : ℕ) → e i < 2) → (i : ℕ) → i < 8 → e i * 2 ^ i < 256
bit_in_place e h zero k = omega (arith, h 0)
bit_in_place e h (suc zero) k = omega (arith, h 1)
bit_in_place e h (suc (suc zero)) k = omega (arith, h 2)
bit_in_place e h (suc (suc (suc zero))) k = omega (arith, h 3)
bit_in_place e h (suc (suc (suc (suc zero)))) k = omega (arith, h 4)
bit_in_place e h (suc (suc (suc (suc (suc zero))))) k = omega (arith, h 5)
bit_in_place e h (suc (suc (suc (suc (suc (suc zero)))))) k = omega (arith, h 6)
bit_in_place e h (suc (suc (suc (suc (suc (suc (suc zero))))))) k = omega (arith, h 7)
bit_in_place e h (suc (suc (suc (suc (suc (suc (suc (suc i)))))))) k = absurd (let f : ⊥ = omega (arith, k) in f)

-- a sum of bytes is a byte
pub sum_below-lt : (n : ℕ) (f : ℕ → ℕ) → ((i : ℕ) → i < n → f i < 256) → sum_below n f < 256
unfolding sum_below
sum_below-lt zero f h = omega arith
sum_below-lt (suc n) f h = xor_of_8 (sum_below n f) (f n) (sum_below-lt n f (λ i k. h i (omega arith))) (h n (omega arith))

-- the S-box gives a byte
pub sub_byte-lt : (b : ℕ) → sub_byte b < 256
unfolding sub_byte affine
sub_byte-lt b =
    sum_below-lt 8 (λ i. affine_bit (inverse b) i * 2 ^ i) (bit_in_place (affine_bit (inverse b)) (λ i. omega arith))

rot_word-bytes : (w : Word) → HasBytes w → HasBytes (rot_word w)
unfolding rot_word
rot_word-bytes w h = at_four (λ (n : ℕ). n < 256) (λ r. slice_index w ((r + 1) % 4)) 0 (omega arith) (λ r. h ((r + 1) % 4))

sub_word-bytes : (w : Word) → HasBytes (sub_word w)
unfolding sub_word
sub_word-bytes w = at_four (λ (n : ℕ). n < 256) (λ r. sub_byte (slice_index w r)) 0 (omega arith) (λ r. sub_byte-lt (slice_index w r))

-- x times a byte is a byte, computed for each
pub x_times-lt : (b : ℕ) → b < 256 → product 2 b < 256
unfolding product polynomial_product remainder sum_below
x_times-lt b h = ltb-true _ _ (agree_below_at (λ b. nat_lt (product 2 b) 256) (λ _. true) 256 b refl h)

-- a power of x is a byte
power_of_x-lt : (n : ℕ) → power_of_x n < 256
unfolding power_of_x
power_of_x-lt zero = omega arith
power_of_x-lt (suc n) = x_times-lt (power_of_x n) (power_of_x-lt n)

round_constant-bytes : (i : ℕ) → HasBytes (round_constant i)
unfolding round_constant
round_constant-bytes i zero = power_of_x-lt (i - 1)
round_constant-bytes i (suc zero) = omega arith
round_constant-bytes i (suc (suc zero)) = omega arith
round_constant-bytes i (suc (suc (suc zero))) = omega arith
round_constant-bytes i (suc (suc (suc (suc r)))) = omega arith

schedule_term-bytes : (nk i : ℕ) (w : Word) → HasBytes w → HasBytes (schedule_term nk i w)
unfolding schedule_term
schedule_term-bytes nk i w h =
    cond_both (i % nk == 0) _ _ HasBytes
    (λ _. add_words-bytes (sub_word (rot_word w)) (round_constant (i / nk)) (sub_word-bytes (rot_word w)) (round_constant-bytes (i / nk)))
    (λ _. cond_both (nat_lt 6 nk && (i % nk == 4)) _ _ HasBytes (λ _. sub_word-bytes w) (λ _. h))

key_word-bytes : (key : List ℕ) (i : ℕ) → HasBytes key → HasBytes (key_word key i)
unfolding key_word
key_word-bytes key i h = at_four (λ (n : ℕ). n < 256) (λ r. slice_index key (4 * i + r)) 0 (omega arith) (λ r. h (4 * i + r))

-- the words of a schedule are bytes where the key's are
pub schedule-bytes : (key : List ℕ) (n : ℕ) → HasBytes key → (i : ℕ) → HasBytes (word_at (schedule key n) i)
unfolding schedule next_word
schedule-bytes key zero h i =
    at_map HasBytes (key_word key) [] no_bytes (λ j. key_word-bytes key j h) (range_with_len 0 (key_words key)) i
schedule-bytes key (suc n) h i =
    let nk = key_words key in
    let w = schedule key n in
    let before = schedule-bytes key n h in
    let next : HasBytes (next_word nk (nk + n) w) =
    add_words-bytes (word_at w (nk + n - nk)) (schedule_term nk (nk + n) (word_at w (nk + n - 1))) (before (nk + n - nk))
    (schedule_term-bytes nk (nk + n) (word_at w (nk + n - 1)) (before (nk + n - 1))) in
    at_append HasBytes [] w (next_word nk (nk + n) w ∷ []) before (one (next_word nk (nk + n) w) next) i
  where
    one : (w : Word) → HasBytes w → (i : ℕ) → HasBytes (word_at (w ∷ []) i)
    one w h zero = h
    one w h (suc i) = no_bytes

last_round-bytes : (w : List Word) (s : State) (i : ℕ) → ((j : ℕ) → HasBytes (word_at w j)) → (c : ℕ) → HasBytes (word_at (last_round s (round_key w i)) c)
unfolding last_round add_round_key shift_rows sub_bytes round_key
last_round-bytes w s i h c =
    at_four HasBytes (λ c. add_words (word_at (shift_rows (sub_bytes s)) c) (word_at (round_key w i) c)) [] no_bytes
    (λ c. add_words-bytes (word_at (shift_rows (sub_bytes s)) c) (word_at (round_key w i) c)
    (at_four HasBytes (λ c. four (λ r. slice_index (word_at (sub_bytes s) ((c + r) % 4)) r)) [] no_bytes
    (λ c. at_four (λ (n : ℕ). n < 256) (λ r. slice_index (word_at (sub_bytes s) ((c + r) % 4)) r) 0 (omega arith)
    (λ r. at_four HasBytes (λ c. four (λ r. sub_byte (slice_index (word_at s c) r))) [] no_bytes
    (λ c. at_four (λ (n : ℕ). n < 256) (λ r. sub_byte (slice_index (word_at s c) r)) 0 (omega arith) (λ r. sub_byte-lt (slice_index (word_at s c) r)))
    ((c + r) % 4) r)) c)
    (at_four HasBytes (λ c. word_at w (4 * i + c)) [] no_bytes (λ c. h (4 * i + c)) c)) c

-- bytes that are all below 256 are so at each place
pub all_bytes : (key : List ℕ) → All (λ b. b < 256) key → HasBytes key
all_bytes key h i = elim (cases_lt i (length key)) [
  | inl below ↦ h i 0 below
  | inr past ↦ rw (get_or_past key i 0 past) (omega arith)
]

-- under a key of bytes, the cipher of a block is bytes
pub cipher-bytes : (key block : List ℕ) → HasBytes key → HasBytes (cipher key block)
unfolding cipher output expanded_key
cipher-bytes key block h =
    let w = expanded_key key in
    let s = last_round (after_rounds w (state_from block) (rounds key - 1)) (round_key w (rounds key)) in
    let key_bytes = schedule-bytes key (4 * (rounds key + 1) - key_words key) h in
    at_map (λ (n : ℕ). n < 256) (λ i. slice_index (word_at s (i / 4)) (i % 4)) 0 (omega arith)
    (λ i. last_round-bytes w (after_rounds w (state_from block) (rounds key - 1)) (rounds key) key_bytes (i / 4) (i % 4)) (range_with_len 0 16)

-- the same, said of each element
pub All-cipher : (key block : List ℕ) → All (λ b. b < 256) key → All (λ b. b < 256) (cipher key block)
All-cipher key block h =
    All-from_get_or (λ b. b < 256) (cipher key block) 0 (λ i _. cipher-bytes key block (all_bytes key h) i)

-- a block's cipher has 16 bytes
pub length-cipher : (key block : List ℕ) → length (cipher key block) ≡ 16
unfolding cipher output
length-cipher key block = refl
