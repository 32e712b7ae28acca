-- Horner's rule for the sum of powers, and how a message falls into blocks.
use Rattle.std.proofs.Common.{◌≡◌, ℕ, zero, suc, ◌+◌, ◌-◌, ◌*◌, ◌/◌, ◌%◌, ◌^◌, ◌<◌, ◌≤◌, List, [], ◌∷◌, ◌++◌, length, get_or, take, drop, refl, ap, sym, ◌∙◌, arith, lit<, add-one, length-append}
use Rattle.std.specs.Prelude.{bit_xor, replicate}
use Rattle.std.proofs.Math.Seq.{take-add}
use Rattle.std.specs.Int.Bits.{xor_assoc, xor_zero_l, xor_zero_r}
use Rattle.std.proofs.lemmas.List.{append-nil, length_push, take_all, nil_from_length, length-drop, take-append-le, drop-append-le, take-append-drop, append_assoc}
use Rattle.std.specs.List.{concat}
use Rattle.std.specs.Simd.{first_chunks}
use Rattle.icb_ghash.specs.Ghash.{block_of, blocks, ghash, padded, polynomial, power, product, sum_of_powers}
use Rattle.icb_ghash.specs.Sums.{IsSumOf}
use Rattle.icb_ghash.proofs.FieldLemmas.{product_lt, product_sum_left, product_one, product_comm, product_assoc}

-- a power of a polynomial is a polynomial
pub power_lt : (h n : ℕ) → power h n < 2 ^ 128
unfolding power
power_lt h zero = lit< tt
power_lt h (suc n) = product_lt h (power h n) (power_lt h n)

-- the power after the next one
power_more : (h n : ℕ) → h < 2 ^ 128 → product (power h n) h ≡ power h (suc n)
unfolding power
power_more h n bound = product_comm (power h n) h (power_lt h n) bound

-- the first power
power_one : (h : ℕ) → h < 2 ^ 128 → power h 1 ≡ h
unfolding power
power_one h bound = product_one h bound

-- one more block: the sum so far and the block, times h
pub sum_of_powers_push : (h a : ℕ) (before : List ℕ) → h < 2 ^ 128
    → sum_of_powers h (before ++ a ∷ []) ≡ product (bit_xor (sum_of_powers h before) a) h
unfolding sum_of_powers
sum_of_powers_push h a [] bound =
    xor_zero_r (product a (power h 1)) ∙ ap (product a) (power_one h bound)
    ∙ ap (λ (n : ℕ). product n h) (sym (xor_zero_l a))
sum_of_powers_push h a (first ∷ rest) bound =
    let count : length (rest ++ a ∷ []) ≡ suc (length rest) = length_push rest a ∙ add-one (length rest) in
    let term : product first (power h (suc (suc (length rest))))
    ≡ product (product first (power h (suc (length rest)))) h =
    ap (product first) (sym (power_more h (suc (length rest)) bound))
    ∙ sym (product_assoc first (power h (suc (length rest))) h (power_lt h (suc (length rest))) bound) in
    rw (count, term, sum_of_powers_push h a rest bound)
    (sym (ap (λ (n : ℕ). product n h)
    (xor_assoc (product first (power h (suc (length rest)))) (sum_of_powers h rest) a)
    ∙ product_sum_left (product first (power h (suc (length rest)))) (bit_xor (sum_of_powers h rest) a) h))

-- ---- a message and its blocks

-- the blocks of a message of n blocks and one more
pub blocks_push : (n : ℕ) (message block : List ℕ) → length message ≡ 16 * n → length block ≡ 16
    → blocks (suc n) (message ++ block) ≡ blocks n message ++ polynomial block ∷ []
unfolding blocks
blocks_push zero message block whole size =
    let none : message ≡ [] = nil_from_length message (omega arith) in
    rw none (ap (λ (bs : List ℕ). polynomial bs ∷ []) (take_all 16 block (omega arith)))
blocks_push (suc n) message block whole size =
    let long : 16 ≤ length message = omega arith in
    let left : length (drop 16 message) ≡ 16 * n = rw (length-drop) (omega arith) in
    rw (take-append-le 16 message block long, drop-append-le 16 message block long)
    (ap (λ (bs : List ℕ). polynomial (take 16 message) ∷ bs) (blocks_push n (drop 16 message) block left size))

-- a whole message and a block
pub whole_push : (message block : List ℕ) → length message ≡ 16 * (length message / 16)
    → length block ≡ 16 → length (message ++ block) ≡ 16 * (length (message ++ block) / 16)
whole_push message block whole size = rw (length-append, size) (omega arith)

-- the sum after one block more
pub sum_push : (h total : ℕ) (message block : List ℕ) → h < 2 ^ 128 → length block ≡ 16
    → IsSumOf h total message → IsSumOf h (product (bit_xor total (polynomial block)) h) (message ++ block)
sum_push h total message block bound size is =
    let count : length (message ++ block) / 16 ≡ suc (length message / 16) =
    (rw (length-append, size) (omega (arith, is.whole))) in
    record {
      whole = whole_push message block is.whole size;
      sum = (rw (count, blocks_push (length message / 16) message block is.whole size, is.sum)
          (sym (sum_of_powers_push h (polynomial block) (blocks (length message / 16) message) bound)));
    }

-- the sum of nothing
pub sum_start : (h : ℕ) → IsSumOf h 0 []
unfolding sum_of_powers blocks
sum_start h = record { whole = refl; sum = refl }

-- ---- a list of blocks

-- one block more of a list, behind a message
pub concat_more : (message : List ℕ) (all : List (List ℕ)) (i : ℕ) → i < length all
    → message ++ concat (take (i + 1) all) ≡ (message ++ concat (take i all)) ++ get_or all i []
concat_more message [] i h = absurd (let f : ⊥ = omega (arith, h) in f)
concat_more message (first ∷ rest) zero h = ap (λ (bs : List ℕ). message ++ bs) (append-nil first)
    ∙ ap (λ (bs : List ℕ). bs ++ first) (sym (append-nil message))
concat_more message (first ∷ rest) (suc i) h =
    let inside : i < length rest = omega (arith, h) in
    let next : suc i + 1 ≡ suc (i + 1) = omega arith in
    rw next (sym (append_assoc message first (concat (take (i + 1) rest)))
    ∙ concat_more (message ++ first) rest i inside
    ∙ ap (λ (bs : List ℕ). bs ++ get_or rest i []) (append_assoc message first (concat (take i rest))))

-- the whole blocks of some bytes, joined
pub concat_chunks : (n : ℕ) (bytes : List ℕ) → concat (first_chunks 16 n bytes) ≡ take (16 * n) bytes
concat_chunks zero bytes = refl
concat_chunks (suc n) bytes =
    let more : 16 * suc n ≡ 16 + 16 * n = omega arith in
    rw (more, take-add 16 (16 * n) bytes) (ap (λ (bs : List ℕ). take 16 bytes ++ bs) (concat_chunks n (drop 16 bytes)))

-- bytes that are whole blocks need no zeros
pub padded_none : (message bytes : List ℕ) (all : List (List ℕ)) → length bytes % 16 ≡ 0
    → all ≡ first_chunks 16 (length bytes / 16) bytes → message ++ concat all ≡ message ++ padded bytes
unfolding padded
padded_none message bytes all none is =
    rw (is, concat_chunks (length bytes / 16) bytes, none)
    (ap (λ (bs : List ℕ). message ++ bs)
    (take_all (16 * (length bytes / 16)) bytes (omega arith) ∙ sym (append-nil bytes)))

-- else the last block is the rest and its zeros
pub padded_rest : (message bytes rest block : List ℕ) (all : List (List ℕ)) → 0 < length bytes % 16
    → all ≡ first_chunks 16 (length bytes / 16) bytes → rest ≡ drop (length bytes / 16 * 16) bytes
    → length rest ≡ length bytes % 16 → block ≡ rest ++ replicate (16 - length rest) 0
    → (message ++ concat all) ++ concat (block ∷ []) ≡ message ++ padded bytes
unfolding padded
padded_rest message bytes rest block all some is left size made =
    let zeros : (16 - length bytes % 16) % 16 ≡ 16 - length rest = omega arith in
    let place : length bytes / 16 * 16 ≡ 16 * (length bytes / 16) = omega arith in
    let parts : take (16 * (length bytes / 16)) bytes ++ rest ≡ bytes =
    (rw (left, place) (take-append-drop (16 * (length bytes / 16)) bytes)) in
    rw (is, concat_chunks (length bytes / 16) bytes, append-nil block, made, zeros)
    (append_assoc message (take (16 * (length bytes / 16)) bytes) (rest ++ replicate (16 - length rest) 0)
    ∙ ap (λ (bs : List ℕ). message ++ bs)
    (sym (append_assoc (take (16 * (length bytes / 16)) bytes) rest (replicate (16 - length rest) 0))
    ∙ ap (λ (bs : List ℕ). bs ++ replicate (16 - length rest) 0) parts))

-- ---- the hash

-- the hash of a message is the block of its sum
pub hash_of_sum : (h total : ℕ) (message : List ℕ) → IsSumOf h total message → block_of total ≡ ghash h message
unfolding ghash
hash_of_sum h total message is = ap block_of is.sum
