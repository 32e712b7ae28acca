-- Blocks in planes, and the cipher of each.
use Rattle.std.proofs.Common.{◌≡◌, refl, sym, ◌∙◌, ap, subst, ℕ, zero, suc, ◌+◌, ◌-◌, ◌<◌, inl, inr, List, [], ◌∷◌, length, arith}
use Rattle.std.specs.Prelude.{bit_xor, slice_index}
use Rattle.std.specs.Int.{bit_at}
use Rattle.std.specs.List.{slice_index_or}
use Rattle.std.proofs.Common.{Fits, w8}
use Rattle.std.specs.Simd.Lanes.{Each1}
use Rattle.std.proofs.lemmas.Simd.{Each1-get_or}
use Rattle.std.proofs.lemmas.Grind.{same_number_lists}
use Rattle.std.proofs.lemmas.Nat.Bits.{same_from_bits_below}
use Rattle.icb_aes.specs.Fips197.{Word, State, IsKeyLength, add_words, add_round_key, expanded_key, rounds, round_key, round, last_round, after_rounds, state_from, output, cipher}
use Rattle.icb_aes.specs.Planes.{Holds, IsBlock, IsRow, byte_of}
use Rattle.icb_aes.proofs.Bytes.{length-cipher}
use Rattle.icb_aes.proofs.KeyRows.{output_byte}
use Rattle.icb_aes.proofs.StateLemmas.{eight}

-- rows that became columns are planes
pub blocks_held : (x : List (List ℕ)) (f : ℕ → ℕ → ℕ) → ((b p : ℕ) → b < 8 → p < 16 → f b p < 256)
    → ((p : ℕ) → p < 16 → (j : ℕ) → j < 8 → IsRow (slice_index_or x j []) p (λ b. bit_at (f b p) j))
    → Holds x f
blocks_held x f bytes rows = record {
  size = λ j h. (rows 0 (omega arith) j h).size;
  byte = bytes;
  bit = λ j b p h k l. (rows p l j h).bit b k;
}

-- and planes that became rows are blocks
pub held_byte : (x : List ℕ) (p n : ℕ) → IsRow x p (λ j. bit_at n j) → slice_index x p < 256 → n < 256 → slice_index x p ≡ n
held_byte x p n row h k = same_from_bits_below 8 (slice_index x p) n h k (λ i l. row.bit i l)

-- a plane's bits, as a row
pub plane_row : (x : List (List ℕ)) (f : ℕ → ℕ → ℕ) (p j : ℕ) → Holds x f → p < 16 → j < 8
    → IsRow (slice_index_or x j []) p (λ b. bit_at (f b p) j)
plane_row x f p j h k l = record { size = h.size j l; bit = λ b m. h.bit j b p l m k }

-- the first round key
pub first_byte : (s k : State) (p : ℕ) → p < 16 → bit_xor (byte_of s p) (byte_of k p) ≡ byte_of (add_round_key s k) p
unfolding add_round_key add_words
first_byte s k zero h = refl
first_byte s k (suc zero) h = refl
first_byte s k (suc (suc zero)) h = refl
first_byte s k (suc (suc (suc zero))) h = refl
first_byte s k (suc (suc (suc (suc zero)))) h = refl
first_byte s k (suc (suc (suc (suc (suc zero))))) h = refl
first_byte s k (suc (suc (suc (suc (suc (suc zero)))))) h = refl
first_byte s k (suc (suc (suc (suc (suc (suc (suc zero))))))) h = refl
first_byte s k (suc (suc (suc (suc (suc (suc (suc (suc zero)))))))) h = refl
first_byte s k (suc (suc (suc (suc (suc (suc (suc (suc (suc zero))))))))) h = refl
first_byte s k (suc (suc (suc (suc (suc (suc (suc (suc (suc (suc zero)))))))))) h = refl
first_byte s k (suc (suc (suc (suc (suc (suc (suc (suc (suc (suc (suc zero))))))))))) h = refl
first_byte s k (suc (suc (suc (suc (suc (suc (suc (suc (suc (suc (suc (suc zero)))))))))))) h = refl
first_byte s k (suc (suc (suc (suc (suc (suc (suc (suc (suc (suc (suc (suc (suc zero))))))))))))) h = refl
first_byte s k (suc (suc (suc (suc (suc (suc (suc (suc (suc (suc (suc (suc (suc (suc zero)))))))))))))) h = refl
first_byte s k (suc (suc (suc (suc (suc (suc (suc (suc (suc (suc (suc (suc (suc (suc (suc zero))))))))))))))) h = refl
first_byte s k (suc (suc (suc (suc (suc (suc (suc (suc (suc (suc (suc (suc (suc (suc (suc (suc p)))))))))))))))) h = absurd (let f : ⊥ = omega (arith, h) in f)

pub input_byte : (block : List ℕ) (p : ℕ) → p < 16 → slice_index block p ≡ byte_of (state_from block) p
unfolding state_from
input_byte block zero h = refl
input_byte block (suc zero) h = refl
input_byte block (suc (suc zero)) h = refl
input_byte block (suc (suc (suc zero))) h = refl
input_byte block (suc (suc (suc (suc zero)))) h = refl
input_byte block (suc (suc (suc (suc (suc zero))))) h = refl
input_byte block (suc (suc (suc (suc (suc (suc zero)))))) h = refl
input_byte block (suc (suc (suc (suc (suc (suc (suc zero))))))) h = refl
input_byte block (suc (suc (suc (suc (suc (suc (suc (suc zero)))))))) h = refl
input_byte block (suc (suc (suc (suc (suc (suc (suc (suc (suc zero))))))))) h = refl
input_byte block (suc (suc (suc (suc (suc (suc (suc (suc (suc (suc zero)))))))))) h = refl
input_byte block (suc (suc (suc (suc (suc (suc (suc (suc (suc (suc (suc zero))))))))))) h = refl
input_byte block (suc (suc (suc (suc (suc (suc (suc (suc (suc (suc (suc (suc zero)))))))))))) h = refl
input_byte block (suc (suc (suc (suc (suc (suc (suc (suc (suc (suc (suc (suc (suc zero))))))))))))) h = refl
input_byte block (suc (suc (suc (suc (suc (suc (suc (suc (suc (suc (suc (suc (suc (suc zero)))))))))))))) h = refl
input_byte block (suc (suc (suc (suc (suc (suc (suc (suc (suc (suc (suc (suc (suc (suc (suc zero))))))))))))))) h = refl
input_byte block (suc (suc (suc (suc (suc (suc (suc (suc (suc (suc (suc (suc (suc (suc (suc (suc p)))))))))))))))) h = absurd (let f : ⊥ = omega (arith, h) in f)

-- a block whose bytes are those of the state behind the last round is the cipher
pub cipher_block : (key block out : List ℕ) (n r : ℕ) → n ≡ rounds key - 1 → r ≡ rounds key → length out ≡ 16
    → ((p : ℕ) → p < 16 → slice_index out p
    ≡ byte_of (last_round (after_rounds (expanded_key key) (state_from block) n) (round_key (expanded_key key) r)) p)
    → out ≡ cipher key block
unfolding cipher
cipher_block key block out n r e f size h =
    let s = last_round (after_rounds (expanded_key key) (state_from block) (rounds key - 1)) (round_key (expanded_key key) (rounds key)) in
    same_number_lists out (output s) (size ∙ sym (length-cipher key block))
    (λ p k. let l : p < 16 = subst (λ (n : ℕ). p < n) size k in
    h p l
    ∙ ap (λ (i : ℕ). byte_of (last_round (after_rounds (expanded_key key) (state_from block) i) (round_key (expanded_key key) r)) p) e
    ∙ ap (λ (i : ℕ). byte_of (last_round (after_rounds (expanded_key key) (state_from block) (rounds key - 1)) (round_key (expanded_key key) i)) p) f
    ∙ sym (output_byte s p l))

-- ---- blocks in vectors

-- the lanes of a vector are bytes
pub vector_is : (x : List ℕ) → length x ≡ 16 → Each1 (Fits w8) x → IsBlock x
vector_is x size fits = record {
  size = size;
  bytes = λ p h. (Each1-get_or (Fits w8) x p 0 (subst (λ (n : ℕ). p < n) (sym size) h) fits).fits;
}

-- eight blocks that were loaded
pub blocks_are : (blocks : List (List ℕ)) (x0 x1 x2 x3 x4 x5 x6 x7 : List ℕ)
    → x0 ≡ slice_index_or blocks 0 [] → x1 ≡ slice_index_or blocks 1 [] → x2 ≡ slice_index_or blocks 2 [] → x3 ≡ slice_index_or blocks 3 [] → x4 ≡ slice_index_or blocks 4 [] → x5 ≡ slice_index_or blocks 5 [] → x6 ≡ slice_index_or blocks 6 [] → x7 ≡ slice_index_or blocks 7 []
    → IsBlock x0 → IsBlock x1 → IsBlock x2 → IsBlock x3 → IsBlock x4 → IsBlock x5 → IsBlock x6 → IsBlock x7
    → (b : ℕ) → b < 8 → IsBlock (slice_index_or blocks b [])
blocks_are blocks x0 x1 x2 x3 x4 x5 x6 x7 e0 e1 e2 e3 e4 e5 e6 e7 i0 i1 i2 i3 i4 i5 i6 i7 =
    eight (λ b. IsBlock (slice_index_or blocks b []))
    (subst IsBlock e0 i0) (subst IsBlock e1 i1) (subst IsBlock e2 i2) (subst IsBlock e3 i3) (subst IsBlock e4 i4) (subst IsBlock e5 i5) (subst IsBlock e6 i6) (subst IsBlock e7 i7)

-- at each place, a row of bits of each
pub rows_loaded : (blocks : List (List ℕ)) (x0 x1 x2 x3 x4 x5 x6 x7 : List ℕ)
    → x0 ≡ slice_index_or blocks 0 [] → x1 ≡ slice_index_or blocks 1 [] → x2 ≡ slice_index_or blocks 2 [] → x3 ≡ slice_index_or blocks 3 [] → x4 ≡ slice_index_or blocks 4 [] → x5 ≡ slice_index_or blocks 5 [] → x6 ≡ slice_index_or blocks 6 [] → x7 ≡ slice_index_or blocks 7 []
    → IsBlock x0 → IsBlock x1 → IsBlock x2 → IsBlock x3 → IsBlock x4 → IsBlock x5 → IsBlock x6 → IsBlock x7
    → (p j : ℕ) → j < 8
    → IsRow (slice_index_or (x0 ∷ x1 ∷ x2 ∷ x3 ∷ x4 ∷ x5 ∷ x6 ∷ x7 ∷ []) j []) p (λ i. bit_at (slice_index (slice_index_or blocks j []) p) i)
rows_loaded blocks x0 x1 x2 x3 x4 x5 x6 x7 e0 e1 e2 e3 e4 e5 e6 e7 i0 i1 i2 i3 i4 i5 i6 i7 p =
    eight (λ j. IsRow (slice_index_or (x0 ∷ x1 ∷ x2 ∷ x3 ∷ x4 ∷ x5 ∷ x6 ∷ x7 ∷ []) j []) p (λ i. bit_at (slice_index (slice_index_or blocks j []) p) i))
    (loaded x0 (slice_index_or blocks 0 []) p e0 i0) (loaded x1 (slice_index_or blocks 1 []) p e1 i1) (loaded x2 (slice_index_or blocks 2 []) p e2 i2) (loaded x3 (slice_index_or blocks 3 []) p e3 i3) (loaded x4 (slice_index_or blocks 4 []) p e4 i4) (loaded x5 (slice_index_or blocks 5 []) p e5 i5) (loaded x6 (slice_index_or blocks 6 []) p e6 i6) (loaded x7 (slice_index_or blocks 7 []) p e7 i7)
  where
    loaded : (x block : List ℕ) (p : ℕ) → x ≡ block → IsBlock x → IsRow x p (λ i. bit_at (slice_index block p) i)
    loaded x block p e h = record { size = h.size; bit = λ i _. ap (λ (v : List ℕ). bit_at (slice_index v p) i) e }

-- the bytes of eight blocks that were rows of bits
pub blocks_bytes : (y : List (List ℕ)) (f : ℕ → ℕ → ℕ) (p : ℕ) (x0 x1 x2 x3 x4 x5 x6 x7 : List ℕ)
    → x0 ≡ slice_index_or y 0 [] → x1 ≡ slice_index_or y 1 [] → x2 ≡ slice_index_or y 2 [] → x3 ≡ slice_index_or y 3 [] → x4 ≡ slice_index_or y 4 [] → x5 ≡ slice_index_or y 5 [] → x6 ≡ slice_index_or y 6 [] → x7 ≡ slice_index_or y 7 []
    → IsBlock x0 → IsBlock x1 → IsBlock x2 → IsBlock x3 → IsBlock x4 → IsBlock x5 → IsBlock x6 → IsBlock x7
    → p < 16 → ((b : ℕ) → b < 8 → IsRow (slice_index_or y b []) p (λ j. bit_at (f b p) j)) → ((b : ℕ) → b < 8 → f b p < 256)
    → (b : ℕ) → b < 8 → slice_index (slice_index_or (x0 ∷ x1 ∷ x2 ∷ x3 ∷ x4 ∷ x5 ∷ x6 ∷ x7 ∷ []) b []) p ≡ f b p
blocks_bytes y f p x0 x1 x2 x3 x4 x5 x6 x7 e0 e1 e2 e3 e4 e5 e6 e7 i0 i1 i2 i3 i4 i5 i6 i7 h rows bytes =
    let stored : (x : List ℕ) (b : ℕ) → b < 8 → x ≡ slice_index_or y b [] → IsBlock x → slice_index x p ≡ f b p =
    λ x b k e i. held_byte x p (f b p) (subst (λ (v : List ℕ). IsRow v p (λ j. bit_at (f b p) j)) (sym e) (rows b k)) (i.bytes p h) (bytes b k) in
    eight (λ b. slice_index (slice_index_or (x0 ∷ x1 ∷ x2 ∷ x3 ∷ x4 ∷ x5 ∷ x6 ∷ x7 ∷ []) b []) p ≡ f b p)
    (stored x0 0 (omega arith) e0 i0) (stored x1 1 (omega arith) e1 i1) (stored x2 2 (omega arith) e2 i2) (stored x3 3 (omega arith) e3 i3) (stored x4 4 (omega arith) e4 i4) (stored x5 5 (omega arith) e5 i5) (stored x6 6 (omega arith) e6 i6) (stored x7 7 (omega arith) e7 i7)

-- ---- rounds

-- one round more
pub more_rounds : (q : List (List ℕ)) (w : List Word) (s : ℕ → State) (n : ℕ)
    → Holds q (λ b. byte_of (round (after_rounds w (s b) n) (round_key w (n + 1))))
    → Holds q (λ b. byte_of (after_rounds w (s b) (n + 1)))
unfolding after_rounds
more_rounds q w s n h =
    let e : suc n ≡ n + 1 = omega arith in
    subst (λ (m : ℕ). Holds q (λ b. byte_of (after_rounds w (s b) m))) e
    (subst (λ (m : ℕ). Holds q (λ b. byte_of (round (after_rounds w (s b) n) (round_key w m)))) (sym e) h)

-- the block with the first round key
pub start_byte : (w : List Word) (block : List ℕ) (p : ℕ) → p < 16
    → bit_xor (slice_index block p) (byte_of (round_key w 0) p) ≡ byte_of (after_rounds w (state_from block) 0) p
unfolding after_rounds
start_byte w block p h =
    ap (λ (t : ℕ). bit_xor t (byte_of (round_key w 0) p)) (input_byte block p h)
    ∙ first_byte (state_from block) (round_key w 0) p h

-- a key has at most 14 rounds
pub rounds-lt : (key : List ℕ) → IsKeyLength (length key) → rounds key < 15
rounds-lt key h = elim h [
  | inl e ↦ omega (arith, e)
  | inr m ↦ elim m [ inl e ↦ omega (arith, e) | inr e ↦ omega (arith, e) ]
]
