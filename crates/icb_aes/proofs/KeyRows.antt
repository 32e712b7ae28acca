-- Round keys as rows of bits.
use Rattle.std.proofs.Common.{◌≡◌, refl, sym, ◌∙◌, ap, subst, ℕ, ◌+◌, ◌-◌, ◌*◌, ◌/◌, ◌%◌, ◌^◌, ◌<◌, ◌≤◌, inl, inr, List, [], length, arith}
use Rattle.std.specs.Prelude.{bit_and, replicate, slice_index, All}
use Rattle.std.specs.Int.{bit_at}
use Rattle.std.specs.List.{slice_index_or}
use Rattle.std.specs.Simd.Lanes.{zip2}
use Rattle.std.proofs.Math.ListN.{set}
use Rattle.std.proofs.lemmas.Bool.{cases_lt}
use Rattle.std.proofs.lemmas.List.{get_or-set_same, get_or-set_other}
use Rattle.std.proofs.lemmas.List.FromFn.{get_or-map-range_with_len}
use Rattle.std.proofs.lemmas.Nat.Bits.{bit_at-lt, bit_at-zero, shr_and_one}
use Rattle.icb_aes.specs.Columns.{state_of_numbers, block_of}
use Rattle.icb_aes.specs.Fips197.{Word, State, word_at, cell, output, key_words, rounds, expanded_key, round_key}
use Rattle.icb_aes.specs.Stored.{zero_word, stored_words}
use Rattle.icb_aes.specs.Planes.{AreKeyRows, HoldKeys, IsRow, byte_of, planes_of}
use Rattle.icb_aes.proofs.Bytes.{HasBytes, all_bytes, at_four, no_bytes, schedule-bytes}
use Rattle.icb_aes.proofs.CipherLemmas.{length-expanded_key, round_key-front}
use Rattle.icb_aes.proofs.StateLemmas.{eight}
use Rattle.icb_aes.proofs.ColumnLemmas.{output_of_numbers}
use Rattle.icb_aes.proofs.FieldLemmas.{bit_cases}
use Rattle.icb_aes.proofs.PlaneLemmas.{ones_at}
use Rattle.icb_aes.proofs.RowLemmas.{of_lanes, splat, right, lane_of, row_of}

-- ---- one bit on all eight

abbrev pub less : ℕ → ℕ → ℕ
less a b = (a + (2 ^ 8 - b)) % 2 ^ 8

spread_bit : (u i : ℕ) → u < 2 → i < 8 → bit_at (less 0 u) i ≡ u
spread_bit u i h k = elim (bit_cases u h) [
  | inl e ↦ rw e (bit_at-zero i)
  | inr e ↦ rw e (ones_at i k)
]

pub spread_row : (x : List ℕ) (j p : ℕ) → length x ≡ 16 → p < 16
    → IsRow (zip2 less (replicate 16 0) (zip2 bit_and (zip2 right x (replicate 16 j)) (replicate 16 1))) p (λ _. bit_at (slice_index x p) j)
unfolding of_lanes splat lane_of
spread_row x j p size h =
    row_of (of_lanes less h (splat p 0 h) (of_lanes bit_and h (of_lanes right h (lane_of x p size) (splat p j h)) (splat p 1 h)))
    (λ _. bit_at (slice_index x p) j)
    (λ i k. ap (λ (u : ℕ). bit_at (less 0 u) i) (shr_and_one (slice_index x p) j)
    ∙ spread_bit (bit_at (slice_index x p) j) i (bit_at-lt (slice_index x p) j) k)

-- ---- the bytes of a round key

pub output_byte : (s : State) (p : ℕ) → p < 16 → slice_index (output s) p ≡ byte_of s p
unfolding output
output_byte s p h = get_or-map-range_with_len (λ i. cell s (i % 4) (i / 4)) 0 16 p p 0 h (omega arith)

pub block_byte : (numbers bytes : List ℕ) (k : State) (p : ℕ) → p < 16 → bytes ≡ block_of numbers → state_of_numbers numbers ≡ k
    → slice_index bytes p ≡ byte_of k p
block_byte numbers bytes k p h e f =
    ap (λ (v : List ℕ). slice_index v p) (e ∙ output_of_numbers numbers)
    ∙ output_byte (state_of_numbers numbers) p h
    ∙ ap (λ (s : State). byte_of s p) f

pub row_same : (x : List ℕ) (p : ℕ) (f g : ℕ → ℕ) → IsRow x p f → ((i : ℕ) → i < 8 → f i ≡ g i) → IsRow x p g
row_same x p f g h e = record { size = h.size; bit = λ i k. h.bit i k ∙ e i k }

-- one row more
pub rows_more : (P : ℕ → List ℕ → Type 0) (rows : List (List ℕ)) (n : ℕ) (row : List ℕ) → n < length rows
    → ((m : ℕ) → m < n → P m (slice_index_or rows m [])) → P n row
    → (m : ℕ) → m < n + 1 → P m (slice_index_or (set rows n row) m [])
rows_more P rows n row inside before new m h = elim (cases_lt m n) [
  | inl below ↦ subst (P m) (sym (get_or-set_other rows n m row [] (omega (arith, below)))) (before m below)
  | inr past ↦
      let here : n ≡ m = omega (arith, past, h) in
      subst (λ (k : ℕ). P k (slice_index_or (set rows n row) k [])) here
      (subst (P n) (sym (get_or-set_same rows n row [] inside)) new)
]

-- ---- the rows of a key

key_byte : (w : List Word) (i p : ℕ) → ((j : ℕ) → HasBytes (word_at w j)) → byte_of (round_key w i) p < 256
unfolding round_key
key_byte w i p h = at_four HasBytes (λ c. word_at w (4 * i + c)) [] no_bytes (λ c. h (4 * i + c)) (p / 4) (p % 4)

expanded-bytes : (key : List ℕ) → All (λ b. b < 256) key → (j : ℕ) → HasBytes (word_at (expanded_key key) j)
unfolding expanded_key
expanded-bytes key h j = schedule-bytes key (4 * (rounds key + 1) - key_words key) (all_bytes key h) j

stored_round_key : (key : List ℕ) (words : List Word) (i : ℕ) → words ≡ stored_words key → i ≤ rounds key
    → round_key words i ≡ round_key (expanded_key key) i
unfolding stored_words
stored_round_key key words i e h =
    let long = length-expanded_key key in
    ap (λ (w : List Word). round_key w i) e
    ∙ round_key-front (expanded_key key) (replicate (60 - 4 * (rounds key + 1)) zero_word) i (omega (arith, long, h))

plane_is : (rows : List (List ℕ)) (i j : ℕ) → j < 8 → slice_index_or (planes_of rows i) j [] ≡ slice_index_or rows (8 * i + j) []
plane_is rows i = eight (λ j. slice_index_or (planes_of rows i) j [] ≡ slice_index_or rows (8 * i + j) [])
    (ap (λ (n : ℕ). slice_index_or rows n []) (omega arith)) refl refl refl refl refl refl refl

-- the row at its number
row_at : (rows : List (List ℕ)) (words : List Word) (i j n p : ℕ) → n ≡ 8 * i + j → j < 8
    → IsRow (slice_index_or rows n []) p (λ _. bit_at (byte_of (round_key words (n / 8)) p) (n % 8))
    → IsRow (slice_index_or rows (8 * i + j) []) p (λ _. bit_at (byte_of (round_key words i) p) j)
row_at rows words i j n p e h r =
    let a : n / 8 ≡ i = omega (arith, e, h) in
    let b : n % 8 ≡ j = omega (arith, e, h) in
    subst (λ (m : ℕ). IsRow (slice_index_or rows m []) p (λ _. bit_at (byte_of (round_key words i) p) j)) e
    (subst (λ (m : ℕ). IsRow (slice_index_or rows n []) p (λ _. bit_at (byte_of (round_key words i) p) m)) b
    (subst (λ (m : ℕ). IsRow (slice_index_or rows n []) p (λ _. bit_at (byte_of (round_key words m) p) (n % 8))) a r))

-- bit j of the byte on the row of its number
pub row_is : (words : List Word) (row : List ℕ) (i j n p : ℕ) → n ≡ 8 * i + j → j < 8
    → IsRow row p (λ _. bit_at (byte_of (round_key words i) p) j)
    → IsRow row p (λ _. bit_at (byte_of (round_key words (n / 8)) p) (n % 8))
row_is words row i j n p e h r =
    let a : i ≡ n / 8 = omega (arith, e, h) in
    let b : j ≡ n % 8 = omega (arith, e, h) in
    subst (λ (m : ℕ). IsRow row p (λ _. bit_at (byte_of (round_key words (n / 8)) p) m)) b
    (subst (λ (m : ℕ). IsRow row p (λ _. bit_at (byte_of (round_key words m) p) j)) a r)

pub keys_hold : (rows : List (List ℕ)) (key : List ℕ) (words : List Word) (count : ℕ) → All (λ b. b < 256) key
    → words ≡ stored_words key → rounds key < count → AreKeyRows rows words (8 * count)
    → HoldKeys rows key
keys_hold rows key words count bytes e enough h = λ i k.
    let row : (j p : ℕ) → j < 8 → p < 16 → IsRow (slice_index_or rows (8 * i + j) []) p (λ _. bit_at (byte_of (round_key words i) p) j) =
    λ j p l m. row_at rows words i j (8 * i + j) p refl l (h (8 * i + j) p (omega (arith, k, enough, l)) m) in
    record {
      size = λ j l. ap length (plane_is rows i j l) ∙ (row j 0 l (omega arith)).size;
      byte = λ b p _ _. key_byte (expanded_key key) i p (expanded-bytes key bytes);
      bit = λ j b p l m n.
          ap (λ (x : List ℕ). bit_at (slice_index x p) b) (plane_is rows i j l)
          ∙ (row j p l n).bit b m
          ∙ ap (λ (s : State). bit_at (byte_of s p) j) (stored_round_key key words i e k);
    }
