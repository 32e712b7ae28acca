-- The inverse cipher undoes the cipher, step by step.
use Rattle.std.proofs.Common.{◌≡◌, refl, sym, ◌∙◌, ap, ℕ, zero, suc, ◌+◌, ◌-◌, ◌*◌, ◌%◌, ◌<◌, inl, inr, true, List, [], length, map, arith}
use Rattle.std.specs.Prelude.{bit_xor, slice_index, All}
use Rattle.std.specs.Int.Bits.{xor_assoc, xor_self, xor_zero_r}
use Rattle.std.specs.List.{range_with_len}
use Rattle.std.proofs.lemmas.Nat.{xor_of_8}
use Rattle.std.proofs.lemmas.Bool.{agree_below_at, cases_lt, eqb-true}
use Rattle.std.proofs.lemmas.Grind.{same_number_lists}
use Rattle.std.proofs.lemmas.List.FromFn.{get_or-map-range_with_len}
use lib.Dec.{eqb}
use Rattle.icb_aes.specs.Field.{sum_below, product, inverse}
use Rattle.icb_aes.specs.Fips197.{Word, State, four, word_at, cell, state_of, add_words, affine, sub_byte, sub_bytes, shift_rows, word_product, mix_polynomial, mix_columns, add_round_key, key_words, rounds, expanded_key, round_key, round, last_round, after_rounds, state_from, output, cipher}
use Rattle.icb_aes.proofs.Bytes.{HasBytes, at_four, all_bytes, no_bytes, schedule-bytes, sub_byte-lt, sum_below-lt}
use Rattle.icb_aes.specs.InverseCipher.{inverse_affine, inverse_sub_byte, inverse_sub_bytes, inverse_shift_rows, unmix_polynomial, inverse_mix_columns, inverse_round, before_rounds, inverse_cipher}
use Rattle.icb_aes.specs.Laws.{IsWord, IsState}
use Rattle.icb_aes.proofs.FieldLemmas.{product-lt, product_comm}
use Rattle.icb_aes.proofs.InverseLemmas.{inverse_inverts, inverse_unique, inverse-zero}
use Rattle.icb_aes.proofs.StateLemmas.{four_of, state_of_cells, unshifted, unmixed}

-- ---- the S-box

inverse-lt : (b : ℕ) → b < 256 → inverse b < 256
inverse-lt b h = elim (cases_lt 0 b) [
  | inl some ↦ (inverse_inverts b some h).0
  | inr none ↦ let z : b ≡ 0 = omega arith in rw (z, inverse-zero) (omega arith)
]

inverse_twice : (b : ℕ) → b < 256 → inverse (inverse b) ≡ b
inverse_twice b h = elim (cases_lt 0 b) [
  | inl some ↦
      let i = inverse_inverts b some h in
      sym (inverse_unique (inverse b) b i.0 h (product_comm (inverse b) b i.0 h ∙ i.1))
  | inr none ↦ let z : b ≡ 0 = omega arith in rw (z, inverse-zero, inverse-zero) refl
]

affine_undone : (b : ℕ) → b < 256 → inverse_affine (affine b) ≡ b
unfolding inverse_affine affine sum_below
affine_undone b h = eqb-true _ _ (agree_below_at (λ b. eqb (inverse_affine (affine b)) b) (λ _. true) 256 b refl h)

sub_byte_undone : (b : ℕ) → b < 256 → inverse_sub_byte (sub_byte b) ≡ b
unfolding inverse_sub_byte sub_byte
sub_byte_undone b h = ap inverse (affine_undone (inverse b) (inverse-lt b h)) ∙ inverse_twice b h

-- ---- lists of four

four_cong : {A : Type 0} (f g : ℕ → A) → ((i : ℕ) → i < 4 → f i ≡ g i) → four f ≡ four g
four_cong f g h =
    let e0 = h 0 (omega arith) in let e1 = h 1 (omega arith) in let e2 = h 2 (omega arith) in let e3 = h 3 (omega arith) in
    rw (e0, e1, e2, e3) refl

state_cong : (f g : ℕ → ℕ → ℕ) → ((r c : ℕ) → r < 4 → c < 4 → f r c ≡ g r c) → state_of f ≡ state_of g
state_cong f g h = four_cong (λ c. four (λ r. f r c)) (λ c. four (λ r. g r c)) (λ c q. four_cong (λ r. f r c) (λ r. g r c) (λ r p. h r c p q))

All-four : {A : Type 0} (P : A → Type 0) (f : ℕ → A) → ((i : ℕ) → i < 4 → P (f i)) → All P (four f)
All-four P f h zero d k = h 0 (omega arith)
All-four P f h (suc zero) d k = h 1 (omega arith)
All-four P f h (suc (suc zero)) d k = h 2 (omega arith)
All-four P f h (suc (suc (suc zero))) d k = h 3 (omega arith)
All-four P f h (suc (suc (suc (suc i)))) d k = absurd (let f : ⊥ = omega (arith, k) in f)

state_of-is : (f : ℕ → ℕ → ℕ) → ((r c : ℕ) → r < 4 → c < 4 → f r c < 256) → IsState (state_of f)
state_of-is f h = record {
  four = refl;
  columns = All-four IsWord (λ c. four (λ r. f r c)) (λ c q. record {
    four = refl;
    bytes = All-four (λ b. b < 256) (λ r. f r c) (λ r p. h r c p q);
  });
}

column-is : (s : State) (c : ℕ) → IsState s → c < 4 → IsWord (word_at s c)
column-is s c h q = h.columns c [] (let e = h.four in omega (arith, e, q))

cell-lt : (s : State) (r c : ℕ) → IsState s → r < 4 → c < 4 → cell s r c < 256
cell-lt s r c h p q =
    let w = column-is s c h q in w.bytes r 0 (let e = w.four in omega (arith, e, p))

-- ---- each step gives a state

sub_bytes-is : (s : State) → IsState (sub_bytes s)
unfolding sub_bytes
sub_bytes-is s = state_of-is (λ r c. sub_byte (cell s r c)) (λ r c _ _. sub_byte-lt (cell s r c))

shift_rows-is : (s : State) → IsState s → IsState (shift_rows s)
unfolding shift_rows
shift_rows-is s h = state_of-is (λ r c. cell s r ((c + r) % 4)) (λ r c p q. cell-lt s r ((c + r) % 4) h p (omega arith))

-- the round key's bytes are the schedule's
round_key-lt : (w : List Word) (i r c : ℕ) → ((j : ℕ) → HasBytes (word_at w j)) → cell (round_key w i) r c < 256
unfolding round_key
round_key-lt w i r c h = at_four HasBytes (λ c. word_at w (4 * i + c)) [] no_bytes (λ c. h (4 * i + c)) c r

add_round_key-is : (s : State) (w : List Word) (i : ℕ) → IsState s → ((j : ℕ) → HasBytes (word_at w j)) → IsState (add_round_key s (round_key w i))
unfolding add_round_key add_words
add_round_key-is s w i h k =
    state_of-is (λ r c. bit_xor (cell s r c) (cell (round_key w i) r c))
    (λ r c p q. xor_of_8 (cell s r c) (cell (round_key w i) r c) (cell-lt s r c h p q) (round_key-lt w i r c k))

mix_byte : (i : ℕ) → slice_index mix_polynomial i < 256
mix_byte zero = omega arith
mix_byte (suc zero) = omega arith
mix_byte (suc (suc zero)) = omega arith
mix_byte (suc (suc (suc zero))) = omega arith
mix_byte (suc (suc (suc (suc i)))) = omega arith

mix_columns-is : (s : State) → IsState s → IsState (mix_columns s)
unfolding mix_columns word_product
mix_columns-is s h =
    state_of-is (λ r c. sum_below 4 (λ j. product (slice_index mix_polynomial ((r + 4 - j) % 4)) (slice_index (word_at s c) j)))
    (λ r c p q. sum_below-lt 4 (λ j. product (slice_index mix_polynomial ((r + 4 - j) % 4)) (slice_index (word_at s c) j))
    (λ j k. product-lt (slice_index mix_polynomial ((r + 4 - j) % 4)) (cell s j c) (mix_byte ((r + 4 - j) % 4)) (cell-lt s j c h k q)))

round-is : (s : State) (w : List Word) (i : ℕ) → ((j : ℕ) → HasBytes (word_at w j)) → IsState (round s (round_key w i))
unfolding round
round-is s w i k =
    add_round_key-is (mix_columns (shift_rows (sub_bytes s))) w i
    (mix_columns-is (shift_rows (sub_bytes s)) (shift_rows-is (sub_bytes s) (sub_bytes-is s))) k

last_round-is : (s : State) (w : List Word) (i : ℕ) → ((j : ℕ) → HasBytes (word_at w j)) → IsState (last_round s (round_key w i))
unfolding last_round
last_round-is s w i k = add_round_key-is (shift_rows (sub_bytes s)) w i (shift_rows-is (sub_bytes s) (sub_bytes-is s)) k

after_rounds-is : (w : List Word) (s : State) (n : ℕ) → ((j : ℕ) → HasBytes (word_at w j)) → IsState s → IsState (after_rounds w s n)
unfolding after_rounds
after_rounds-is w s zero k h = add_round_key-is s w 0 h k
after_rounds-is w s (suc n) k h = round-is (after_rounds w s n) w (suc n) k

-- ---- each step undone

xor_twice : (a k : ℕ) → bit_xor (bit_xor a k) k ≡ a
xor_twice a k = xor_assoc a k k ∙ ap (λ (t : ℕ). bit_xor a t) (xor_self k) ∙ xor_zero_r a

key_added_twice : (s k : State) → IsState s → add_round_key (add_round_key s k) k ≡ s
unfolding add_round_key add_words
key_added_twice s k h =
    state_cong (λ r c. bit_xor (bit_xor (cell s r c) (cell k r c)) (cell k r c)) (cell s) (λ r c _ _. xor_twice (cell s r c) (cell k r c))
    ∙ sym (state_of_cells s h)

sub_bytes_undone : (s : State) → IsState s → inverse_sub_bytes (sub_bytes s) ≡ s
unfolding inverse_sub_bytes sub_bytes
sub_bytes_undone s h =
    state_cong (λ r c. inverse_sub_byte (sub_byte (cell s r c))) (cell s) (λ r c p q. sub_byte_undone (cell s r c) (cell-lt s r c h p q))
    ∙ sym (state_of_cells s h)

mix_columns_undone : (s : State) → IsState s → inverse_mix_columns (mix_columns s) ≡ s
unfolding inverse_mix_columns mix_columns
mix_columns_undone s h =
    four_cong (λ c. word_product unmix_polynomial (word_product mix_polynomial (word_at s c))) (word_at s) (λ c q. unmixed (word_at s c) (column-is s c h q))
    ∙ sym (four_of s [] h.four)

last_round_undone : (s : State) (k : State) → IsState s → inverse_sub_bytes (inverse_shift_rows (add_round_key (last_round s k) k)) ≡ s
unfolding last_round
last_round_undone s k h =
    ap (λ (t : State). inverse_sub_bytes (inverse_shift_rows t)) (key_added_twice (shift_rows (sub_bytes s)) k (shift_rows-is (sub_bytes s) (sub_bytes-is s)))
    ∙ ap inverse_sub_bytes (unshifted (sub_bytes s) (sub_bytes-is s))
    ∙ sub_bytes_undone s h

round_undone : (s : State) (k : State) → IsState s → inverse_round (round s k) k ≡ s
unfolding inverse_round round
round_undone s k h =
    let shifted = shift_rows-is (sub_bytes s) (sub_bytes-is s) in
    ap (λ (t : State). inverse_sub_bytes (inverse_shift_rows (inverse_mix_columns t)))
    (key_added_twice (mix_columns (shift_rows (sub_bytes s))) k (mix_columns-is (shift_rows (sub_bytes s)) shifted))
    ∙ ap (λ (t : State). inverse_sub_bytes (inverse_shift_rows t)) (mix_columns_undone (shift_rows (sub_bytes s)) shifted)
    ∙ ap inverse_sub_bytes (unshifted (sub_bytes s) (sub_bytes-is s))
    ∙ sub_bytes_undone s h

rounds_undone : (w : List Word) (s : State) (n : ℕ) → ((j : ℕ) → HasBytes (word_at w j)) → IsState s
    → before_rounds w (after_rounds w s n) n ≡ s
unfolding before_rounds after_rounds
rounds_undone w s zero k h = key_added_twice s (round_key w 0) h
rounds_undone w s (suc n) k h =
    ap (λ (t : State). before_rounds w t n) (round_undone (after_rounds w s n) (round_key w (suc n)) (after_rounds-is w s n k h))
    ∙ rounds_undone w s n k h

-- ---- blocks and states

state_from_output : (s : State) → IsState s → state_from (output s) ≡ s
unfolding state_from output
state_from_output s h = sym (state_of_cells s h)

state_from-is : (block : List ℕ) → HasBytes block → IsState (state_from block)
unfolding state_from
state_from-is block h = state_of-is (λ r c. slice_index block (r + 4 * c)) (λ r c _ _. h (r + 4 * c))

output_state_from : (block : List ℕ) → length block ≡ 16 → output (state_from block) ≡ block
unfolding output state_from
output_state_from block e =
    same_number_lists (map (λ i. slice_index block i) (range_with_len 0 16)) block (sym e)
    (λ k h. get_or-map-range_with_len (λ i. slice_index block i) 0 16 k k 0 (omega (arith, h)) (omega arith))

pub cipher_undone : (key block : List ℕ) → All (λ b. b < 256) key → length block ≡ 16 → All (λ b. b < 256) block
    → inverse_cipher key (cipher key block) ≡ block
unfolding inverse_cipher cipher expanded_key
cipher_undone key block kb size bb =
    let w = expanded_key key in
    let words = schedule-bytes key (4 * (rounds key + 1) - key_words key) (all_bytes key kb) in
    let s = state_from block in
    let start = state_from-is block (all_bytes block bb) in
    let n = rounds key - 1 in
    let k = round_key w (rounds key) in
    let whole : IsState (last_round (after_rounds w s n) k) = last_round-is (after_rounds w s n) w (rounds key) words in
    ap (λ (t : State). output (before_rounds w (inverse_sub_bytes (inverse_shift_rows (add_round_key t k))) n)) (state_from_output (last_round (after_rounds w s n) k) whole)
    ∙ ap (λ (t : State). output (before_rounds w t n)) (last_round_undone (after_rounds w s n) k (after_rounds-is w s n words start))
    ∙ ap output (rounds_undone w s n words start)
    ∙ output_state_from block size
