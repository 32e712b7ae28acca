-- ShiftRows and the column product, undone.
use Rattle.std.proofs.Common.{◌≡◌, refl, sym, ◌∙◌, ap, subst, ℕ, zero, suc, ◌+◌, ◌-◌, ◌%◌, ◌^◌, ◌<◌, List, [], ◌∷◌, length, get_or, arith}
use Rattle.std.specs.Prelude.{bit_xor, slice_index}
use Rattle.std.specs.Int.Bits.{xor_zero_l, xor_zero_r}
use Rattle.icb_aes.specs.Field.{sum_below, polynomial_product, remainder, product}
use Rattle.icb_aes.specs.Fips197.{Word, State, four, word_at, cell, state_of, add_words, shift_rows, word_product, mix_polynomial}
use Rattle.icb_aes.specs.InverseCipher.{inverse_shift_rows, unmix_polynomial}
use Rattle.icb_aes.specs.Laws.{IsWord, IsState}
use Rattle.icb_aes.proofs.FieldLemmas.{sum_below-xor, product-xor_r, from_bits}

-- ---- lists of four

pub four_of : {A : Type 0} (xs : List A) (d : A) → length xs ≡ 4 → xs ≡ four (λ i. get_or xs i d)
four_of [] d e = absurd (let f : ⊥ = omega (arith, e) in f)
four_of (a ∷ []) d e = absurd (let f : ⊥ = omega (arith, e) in f)
four_of (a ∷ b ∷ []) d e = absurd (let f : ⊥ = omega (arith, e) in f)
four_of (a ∷ b ∷ c ∷ []) d e = absurd (let f : ⊥ = omega (arith, e) in f)
four_of (a ∷ b ∷ c ∷ x ∷ []) d e = refl
four_of (a ∷ b ∷ c ∷ x ∷ y ∷ ys) d e = absurd (let f : ⊥ = omega (arith, e) in f)

pub column_of : (s : State) (c : ℕ) → IsState s → c < 4 → word_at s c ≡ four (λ r. cell s r c)
column_of s c h k =
    let w = h.columns c [] (let e = h.four in omega (arith, e, k)) in
    four_of (word_at s c) 0 w.four

pub state_of_cells : (s : State) → IsState s → s ≡ state_of (cell s)
state_of_cells s h =
    four_of s [] h.four
    ∙ (let e0 = column_of s 0 h (omega arith) in let e1 = column_of s 1 h (omega arith) in
    let e2 = column_of s 2 h (omega arith) in let e3 = column_of s 3 h (omega arith) in
    ap (λ (w : Word). w ∷ word_at s 1 ∷ word_at s 2 ∷ word_at s 3 ∷ []) e0
    ∙ ap (λ (w : Word). four (λ r. cell s r 0) ∷ w ∷ word_at s 2 ∷ word_at s 3 ∷ []) e1
    ∙ ap (λ (w : Word). four (λ r. cell s r 0) ∷ four (λ r. cell s r 1) ∷ w ∷ word_at s 3 ∷ []) e2
    ∙ ap (λ (w : Word). four (λ r. cell s r 0) ∷ four (λ r. cell s r 1) ∷ four (λ r. cell s r 2) ∷ w ∷ []) e3)

-- ---- ShiftRows

pub unshifted : (s : State) → IsState s → inverse_shift_rows (shift_rows s) ≡ s
unfolding inverse_shift_rows shift_rows
unshifted s h = sym (state_of_cells s h)

pub reshifted : (s : State) → IsState s → shift_rows (inverse_shift_rows s) ≡ s
unfolding inverse_shift_rows shift_rows
reshifted s h = sym (state_of_cells s h)

-- ---- the column product

-- an entry of a sum of words
slice_index-add_words : (u v : Word) (j : ℕ) → j < 4 → slice_index (add_words u v) j ≡ bit_xor (slice_index u j) (slice_index v j)
unfolding add_words
slice_index-add_words u v zero h = refl
slice_index-add_words u v (suc zero) h = refl
slice_index-add_words u v (suc (suc zero)) h = refl
slice_index-add_words u v (suc (suc (suc zero))) h = refl
slice_index-add_words u v (suc (suc (suc (suc j)))) h = absurd (let f : ⊥ = omega (arith, h) in f)

-- a coefficient of the product with a sum of words
coefficient-add_words : (p u v : Word) (r : ℕ)
    → sum_below 4 (λ j. product (slice_index p ((r + 4 - j) % 4)) (slice_index (add_words u v) j))
    ≡ bit_xor (sum_below 4 (λ j. product (slice_index p ((r + 4 - j) % 4)) (slice_index u j)))
    (sum_below 4 (λ j. product (slice_index p ((r + 4 - j) % 4)) (slice_index v j)))
coefficient-add_words p u v r = sum_below-xor 4 _ _ _ (λ j h.
    ap (λ (t : ℕ). product (slice_index p ((r + 4 - j) % 4)) t) (slice_index-add_words u v j h)
    ∙ product-xor_r (slice_index p ((r + 4 - j) % 4)) (slice_index u j) (slice_index v j))

four_equal : (a b c d x y z w : ℕ) → a ≡ x → b ≡ y → c ≡ z → d ≡ w → a ∷ b ∷ c ∷ d ∷ [] ≡ x ∷ y ∷ z ∷ w ∷ []
four_equal a b c d x y z w e f g h = cc

word_product-add_words : (p u v : Word) → word_product p (add_words u v) ≡ add_words (word_product p u) (word_product p v)
unfolding word_product add_words
word_product-add_words p u v =
    four_equal _ _ _ _ _ _ _ _ (coefficient-add_words p u v 0) (coefficient-add_words p u v 1)
    (coefficient-add_words p u v 2) (coefficient-add_words p u v 3)

-- the two products give the column back
abbrev IsUnmixed : Word → Type 0
IsUnmixed w = word_product unmix_polynomial (word_product mix_polynomial w) ≡ w

unmixed_sum : (u v w : Word) → w ≡ add_words u v → IsUnmixed u → IsUnmixed v → IsUnmixed w
unmixed_sum u v w e f g =
    let P : Word → Type 0 = IsUnmixed in
    subst P (sym e)
    (ap (word_product unmix_polynomial) (word_product-add_words mix_polynomial u v)
    ∙ word_product-add_words unmix_polynomial (word_product mix_polynomial u) (word_product mix_polynomial v)
    ∙ ap (λ (t : Word). add_words t (word_product unmix_polynomial (word_product mix_polynomial v))) f
    ∙ ap (add_words u) g)

-- what holds at each number below 8
pub eight : (P : ℕ → Type 0) → P 0 → P 1 → P 2 → P 3 → P 4 → P 5 → P 6 → P 7 → (i : ℕ) → i < 8 → P i
eight P a b c d e f g h zero k = a
eight P a b c d e f g h (suc zero) k = b
eight P a b c d e f g h (suc (suc zero)) k = c
eight P a b c d e f g h (suc (suc (suc zero))) k = d
eight P a b c d e f g h (suc (suc (suc (suc zero)))) k = e
eight P a b c d e f g h (suc (suc (suc (suc (suc zero))))) k = f
eight P a b c d e f g h (suc (suc (suc (suc (suc (suc zero)))))) k = g
eight P a b c d e f g h (suc (suc (suc (suc (suc (suc (suc zero))))))) k = h
eight P a b c d e f g h (suc (suc (suc (suc (suc (suc (suc (suc i)))))))) k = absurd (let f : ⊥ = omega (arith, k) in f)

unmixed_power0 : (i : ℕ) → i < 8 → IsUnmixed ((2 ^ i) ∷ 0 ∷ 0 ∷ 0 ∷ [])
unfolding word_product product polynomial_product remainder sum_below
unmixed_power0 i h = eight (λ i. IsUnmixed ((2 ^ i) ∷ 0 ∷ 0 ∷ 0 ∷ [])) refl refl refl refl refl refl refl refl i h

unmixed_place0 : (b : ℕ) → b < 256 → IsUnmixed (b ∷ 0 ∷ 0 ∷ 0 ∷ [])
unfolding add_words
unmixed_place0 b h = from_bits (λ b. IsUnmixed (b ∷ 0 ∷ 0 ∷ 0 ∷ []))
    (λ x y. unmixed_sum (x ∷ 0 ∷ 0 ∷ 0 ∷ []) (y ∷ 0 ∷ 0 ∷ 0 ∷ []) ((bit_xor x y) ∷ 0 ∷ 0 ∷ 0 ∷ []) refl) unmixed_power0 b h

unmixed_power1 : (i : ℕ) → i < 8 → IsUnmixed (0 ∷ (2 ^ i) ∷ 0 ∷ 0 ∷ [])
unfolding word_product product polynomial_product remainder sum_below
unmixed_power1 i h = eight (λ i. IsUnmixed (0 ∷ (2 ^ i) ∷ 0 ∷ 0 ∷ [])) refl refl refl refl refl refl refl refl i h

unmixed_place1 : (b : ℕ) → b < 256 → IsUnmixed (0 ∷ b ∷ 0 ∷ 0 ∷ [])
unfolding add_words
unmixed_place1 b h = from_bits (λ b. IsUnmixed (0 ∷ b ∷ 0 ∷ 0 ∷ []))
    (λ x y. unmixed_sum (0 ∷ x ∷ 0 ∷ 0 ∷ []) (0 ∷ y ∷ 0 ∷ 0 ∷ []) (0 ∷ (bit_xor x y) ∷ 0 ∷ 0 ∷ []) refl) unmixed_power1 b h

unmixed_power2 : (i : ℕ) → i < 8 → IsUnmixed (0 ∷ 0 ∷ (2 ^ i) ∷ 0 ∷ [])
unfolding word_product product polynomial_product remainder sum_below
unmixed_power2 i h = eight (λ i. IsUnmixed (0 ∷ 0 ∷ (2 ^ i) ∷ 0 ∷ [])) refl refl refl refl refl refl refl refl i h

unmixed_place2 : (b : ℕ) → b < 256 → IsUnmixed (0 ∷ 0 ∷ b ∷ 0 ∷ [])
unfolding add_words
unmixed_place2 b h = from_bits (λ b. IsUnmixed (0 ∷ 0 ∷ b ∷ 0 ∷ []))
    (λ x y. unmixed_sum (0 ∷ 0 ∷ x ∷ 0 ∷ []) (0 ∷ 0 ∷ y ∷ 0 ∷ []) (0 ∷ 0 ∷ (bit_xor x y) ∷ 0 ∷ []) refl) unmixed_power2 b h

unmixed_power3 : (i : ℕ) → i < 8 → IsUnmixed (0 ∷ 0 ∷ 0 ∷ (2 ^ i) ∷ [])
unfolding word_product product polynomial_product remainder sum_below
unmixed_power3 i h = eight (λ i. IsUnmixed (0 ∷ 0 ∷ 0 ∷ (2 ^ i) ∷ [])) refl refl refl refl refl refl refl refl i h

unmixed_place3 : (b : ℕ) → b < 256 → IsUnmixed (0 ∷ 0 ∷ 0 ∷ b ∷ [])
unfolding add_words
unmixed_place3 b h = from_bits (λ b. IsUnmixed (0 ∷ 0 ∷ 0 ∷ b ∷ []))
    (λ x y. unmixed_sum (0 ∷ 0 ∷ 0 ∷ x ∷ []) (0 ∷ 0 ∷ 0 ∷ y ∷ []) (0 ∷ 0 ∷ 0 ∷ (bit_xor x y) ∷ []) refl) unmixed_power3 b h

unmixed_bytes : (a b c d : ℕ) → a < 256 → b < 256 → c < 256 → d < 256 → IsUnmixed (a ∷ b ∷ c ∷ d ∷ [])
unfolding add_words
unmixed_bytes a b c d p q r s =
    unmixed_sum (a ∷ b ∷ 0 ∷ 0 ∷ []) (0 ∷ 0 ∷ c ∷ d ∷ []) (a ∷ b ∷ c ∷ d ∷ []) (simp (xor_zero_l, xor_zero_r))
    (unmixed_sum (a ∷ 0 ∷ 0 ∷ 0 ∷ []) (0 ∷ b ∷ 0 ∷ 0 ∷ []) (a ∷ b ∷ 0 ∷ 0 ∷ []) (simp (xor_zero_l, xor_zero_r)) (unmixed_place0 a p) (unmixed_place1 b q))
    (unmixed_sum (0 ∷ 0 ∷ c ∷ 0 ∷ []) (0 ∷ 0 ∷ 0 ∷ d ∷ []) (0 ∷ 0 ∷ c ∷ d ∷ []) (simp (xor_zero_l, xor_zero_r)) (unmixed_place2 c r) (unmixed_place3 d s))

pub unmixed : (w : Word) → IsWord w → IsUnmixed w
unmixed w h =
    let P : Word → Type 0 = IsUnmixed in
    let size = h.four in
    subst P (sym (four_of w 0 h.four))
    (unmixed_bytes _ _ _ _ (h.bytes 0 0 (omega (arith, size))) (h.bytes 1 0 (omega (arith, size))) (h.bytes 2 0 (omega (arith, size))) (h.bytes 3 0 (omega (arith, size))))
