-- The steps of a round on planes.
use Rattle.std.proofs.Common.{◌≡◌, refl, sym, ◌∙◌, ap, subst, ℕ, zero, suc, ◌<◌, true, List, [], ◌∷◌, ◌++◌, length, map, get_or, arith}
use Rattle.std.specs.Prelude.{bit_xor, bytes_eq, nat_lt, slice_index}
use Rattle.std.specs.Int.{bit_at}
use Rattle.std.specs.List.{slice_index_or}
use Rattle.std.specs.Simd.Lanes.{zip2, pick_l}
use Rattle.std.proofs.Math.ListN.{get_or-append}
use Rattle.std.proofs.lemmas.Bool.{agree_below_at, ltb-true}
use Rattle.std.proofs.lemmas.Nat.{xor_of_8}
use Rattle.std.proofs.lemmas.Nat.Bits.{bit_at_xor, same_from_bits}
use Rattle.std.proofs.lemmas.Slice.Eq.{bytes_eq-Decides}
use Rattle.icb_aes.specs.Field.{sum_below, polynomial_product, remainder, product}
use Rattle.icb_aes.specs.Fips197.{State, sub_byte, sub_bytes, shift_rows, word_product, mix_columns, add_words, add_round_key, round, last_round}
use Rattle.icb_aes.specs.Planes.{Holds, byte_of}
use Rattle.icb_aes.specs.declared.planes.TheConstants.{SHIFTED, NEXT_ROW, SECOND_ROW}
use Rattle.icb_aes.proofs.Bytes.{x_times-lt, sub_byte-lt}
use Rattle.icb_aes.proofs.FieldLemmas.{bit_at-xor, product-xor_r, product-one_l, times_x_plus_1-is}
use Rattle.icb_aes.proofs.StateLemmas.{eight}
use Rattle.icb_aes.proofs.PlaneLemmas.{Plane, both, xored, bits_of, Section, plane_at}

-- ---- the sum

xored_bits : (m n : ℕ) → bit_xor (bit_at m 0) (bit_at n 0) ∷ bit_xor (bit_at m 1) (bit_at n 1) ∷ bit_xor (bit_at m 2) (bit_at n 2)
    ∷ bit_xor (bit_at m 3) (bit_at n 3) ∷ bit_xor (bit_at m 4) (bit_at n 4) ∷ bit_xor (bit_at m 5) (bit_at n 5)
    ∷ bit_xor (bit_at m 6) (bit_at n 6) ∷ bit_xor (bit_at m 7) (bit_at n 7) ∷ [] ≡ bits_of (bit_xor m n)
xored_bits m n =
    rw (bit_at-xor m n 0, bit_at-xor m n 1, bit_at-xor m n 2, bit_at-xor m n 3, bit_at-xor m n 4, bit_at-xor m n 5, bit_at-xor m n 6, bit_at-xor m n 7) refl

pub sum_section : (x y : List (List ℕ)) (f g : ℕ → ℕ → ℕ) → Holds x f → Holds y g → (b p : ℕ) → b < 8 → p < 16
    → Section p b (zip2 bit_xor (slice_index_or x 0 []) (slice_index_or y 0 []) ∷ zip2 bit_xor (slice_index_or x 1 []) (slice_index_or y 1 [])
    ∷ zip2 bit_xor (slice_index_or x 2 []) (slice_index_or y 2 []) ∷ zip2 bit_xor (slice_index_or x 3 []) (slice_index_or y 3 [])
    ∷ zip2 bit_xor (slice_index_or x 4 []) (slice_index_or y 4 []) ∷ zip2 bit_xor (slice_index_or x 5 []) (slice_index_or y 5 [])
    ∷ zip2 bit_xor (slice_index_or x 6 []) (slice_index_or y 6 []) ∷ zip2 bit_xor (slice_index_or x 7 []) (slice_index_or y 7 []) ∷ [])
    (bit_xor (f b p) (g b p))
unfolding both xored plane_at
sum_section x y f g h i b p k l =
    let at : (j : ℕ) → j < 8 → Plane p b = λ j m. xored l (plane_at h b p j k l m) (plane_at i b p j k l m) in
    record {
      ps = at 0 (omega arith) ∷ at 1 (omega arith) ∷ at 2 (omega arith) ∷ at 3 (omega arith)
          ∷ at 4 (omega arith) ∷ at 5 (omega arith) ∷ at 6 (omega arith) ∷ at 7 (omega arith) ∷ [];
      count = refl;
      lanes = refl;
      bits = xored_bits (f b p) (g b p);
    }

pub sum_bytes : (x y : List (List ℕ)) (f g : ℕ → ℕ → ℕ) → Holds x f → Holds y g → (b p : ℕ) → b < 8 → p < 16
    → bit_xor (f b p) (g b p) < 256
sum_bytes x y f g h i b p k l = xor_of_8 (f b p) (g b p) (h.byte b p k l) (i.byte b p k l)

-- ---- times x

doubled_bits : (n : ℕ) → n < 256
    → bit_at n 7 ∷ bit_xor (bit_at n 0) (bit_at n 7) ∷ bit_at n 1 ∷ bit_xor (bit_at n 2) (bit_at n 7)
    ∷ bit_xor (bit_at n 3) (bit_at n 7) ∷ bit_at n 4 ∷ bit_at n 5 ∷ bit_at n 6 ∷ [] ≡ bits_of (product 2 n)
unfolding product polynomial_product remainder sum_below
doubled_bits n h =
    (bytes_eq-Decides (bit_at n 7 ∷ bit_xor (bit_at n 0) (bit_at n 7) ∷ bit_at n 1 ∷ bit_xor (bit_at n 2) (bit_at n 7)
    ∷ bit_xor (bit_at n 3) (bit_at n 7) ∷ bit_at n 4 ∷ bit_at n 5 ∷ bit_at n 6 ∷ []) (bits_of (product 2 n))).0
    (agree_below_at (λ n. bytes_eq (bit_at n 7 ∷ bit_xor (bit_at n 0) (bit_at n 7) ∷ bit_at n 1 ∷ bit_xor (bit_at n 2) (bit_at n 7)
    ∷ bit_xor (bit_at n 3) (bit_at n 7) ∷ bit_at n 4 ∷ bit_at n 5 ∷ bit_at n 6 ∷ []) (bits_of (product 2 n))) (λ _. true) 256 n refl h)

pub doubled_section : (x : List (List ℕ)) (f : ℕ → ℕ → ℕ) → Holds x f → (b p : ℕ) → b < 8 → p < 16
    → Section p b (slice_index_or x 7 [] ∷ zip2 bit_xor (slice_index_or x 0 []) (slice_index_or x 7 []) ∷ slice_index_or x 1 []
    ∷ zip2 bit_xor (slice_index_or x 2 []) (slice_index_or x 7 []) ∷ zip2 bit_xor (slice_index_or x 3 []) (slice_index_or x 7 [])
    ∷ slice_index_or x 4 [] ∷ slice_index_or x 5 [] ∷ slice_index_or x 6 [] ∷ []) (product 2 (f b p))
unfolding both xored plane_at
doubled_section x f h b p k l =
    let at : (j : ℕ) → j < 8 → Plane p b = λ j m. plane_at h b p j k l m in
    let a0 = at 0 (omega arith) in let a1 = at 1 (omega arith) in let a2 = at 2 (omega arith) in let a3 = at 3 (omega arith) in
    let a4 = at 4 (omega arith) in let a5 = at 5 (omega arith) in let a6 = at 6 (omega arith) in let a7 = at 7 (omega arith) in
    record {
      ps = a7 ∷ xored l a0 a7 ∷ a1 ∷ xored l a2 a7 ∷ xored l a3 a7 ∷ a4 ∷ a5 ∷ a6 ∷ [];
      count = refl;
      lanes = refl;
      bits = doubled_bits (f b p) (h.byte b p k l);
    }

pub doubled_bytes : (x : List (List ℕ)) (f : ℕ → ℕ → ℕ) → Holds x f → (b p : ℕ) → b < 8 → p < 16 → product 2 (f b p) < 256
doubled_bytes x f h b p k l = x_times-lt (f b p) (h.byte b p k l)

-- ---- moved bytes

get_or-map_at : (g : ℕ → ℕ) (ks : List ℕ) (p : ℕ) → p < length ks → get_or (map g ks) p 0 ≡ g (get_or ks p 0)
get_or-map_at g [] p h = absurd (let f : ⊥ = omega (arith, h) in f)
get_or-map_at g (k ∷ ks) zero h = refl
get_or-map_at g (k ∷ ks) (suc p) h = get_or-map_at g ks p (omega (arith, h))

length-map_at : (g : ℕ → ℕ) (ks : List ℕ) → length (map g ks) ≡ length ks
length-map_at g [] = refl
length-map_at g (k ∷ ks) = ap suc (length-map_at g ks)

moved_at : (x ks : List ℕ) (p : ℕ) → length x ≡ 16 → p < length ks → slice_index ks p < 16
    → slice_index (pick_l 0 (x ++ x) ks) p ≡ slice_index x (slice_index ks p)
moved_at x ks p e h k =
    get_or-map_at (λ n. get_or (x ++ x) n 0) ks p h
    ∙ get_or-append x x 0 (slice_index ks p) (subst (λ (n : ℕ). slice_index ks p < n) (sym e) k)

pub moved_holds : (x r : List (List ℕ)) (ks : List ℕ) (f : ℕ → ℕ → ℕ) → length ks ≡ 16
    → ((p : ℕ) → p < 16 → slice_index ks p < 16)
    → ((j : ℕ) → j < 8 → slice_index_or r j [] ≡ pick_l 0 (slice_index_or x j [] ++ slice_index_or x j []) ks)
    → Holds x f → Holds r (λ b p. f b (slice_index ks p))
moved_holds x r ks f size below is h = record {
  size = λ j k. ap length (is j k) ∙ length-map_at (λ n. get_or (slice_index_or x j [] ++ slice_index_or x j []) n 0) ks ∙ size;
  byte = λ b p k l. h.byte b (slice_index ks p) k (below p l);
  bit = λ j b p k l m.
      ap (λ (v : List ℕ). bit_at (slice_index v p) b) (is j k)
      ∙ ap (λ (n : ℕ). bit_at n b) (moved_at (slice_index_or x j []) ks p (h.size j k) (subst (λ (n : ℕ). p < n) (sym size) m) (below p m))
      ∙ h.bit j b (slice_index ks p) k l (below p m);
}

abbrev moved_plane : List (List ℕ) → List ℕ → ℕ → List ℕ
moved_plane x ks j = pick_l 0 (slice_index_or x j [] ++ slice_index_or x j []) ks

pub moved_eight : (x : List (List ℕ)) (ks : List ℕ) (f : ℕ → ℕ → ℕ) → length ks ≡ 16
    → ((p : ℕ) → p < 16 → slice_index ks p < 16) → Holds x f
    → Holds (moved_plane x ks 0 ∷ moved_plane x ks 1 ∷ moved_plane x ks 2 ∷ moved_plane x ks 3
    ∷ moved_plane x ks 4 ∷ moved_plane x ks 5 ∷ moved_plane x ks 6 ∷ moved_plane x ks 7 ∷ []) (λ b p. f b (slice_index ks p))
moved_eight x ks f size below h =
    let r = moved_plane x ks 0 ∷ moved_plane x ks 1 ∷ moved_plane x ks 2 ∷ moved_plane x ks 3
    ∷ moved_plane x ks 4 ∷ moved_plane x ks 5 ∷ moved_plane x ks 6 ∷ moved_plane x ks 7 ∷ [] in
    moved_holds x r ks f size below (eight (λ j. slice_index_or r j [] ≡ moved_plane x ks j) refl refl refl refl refl refl refl refl) h

pub shifted-below : (p : ℕ) → p < 16 → slice_index SHIFTED p < 16
shifted-below p h = ltb-true _ _ (agree_below_at (λ p. nat_lt (slice_index SHIFTED p) 16) (λ _. true) 16 p refl h)

pub next_row-below : (p : ℕ) → p < 16 → slice_index NEXT_ROW p < 16
next_row-below p h = ltb-true _ _ (agree_below_at (λ p. nat_lt (slice_index NEXT_ROW p) 16) (λ _. true) 16 p refl h)

pub second_row-below : (p : ℕ) → p < 16 → slice_index SECOND_ROW p < 16
second_row-below p h = ltb-true _ _ (agree_below_at (λ p. nat_lt (slice_index SECOND_ROW p) 16) (λ _. true) 16 p refl h)

-- ---- a column's product

-- 2 (a + b) + b + (c + d), as the code adds it
abbrev pub mixed : ℕ → ℕ → ℕ → ℕ → ℕ
mixed a b c d = bit_xor (bit_xor (product 2 (bit_xor a b)) b) (bit_xor c d)

-- the same with its products apart
apart : (a b c d : ℕ) → mixed a b c d ≡ bit_xor (bit_xor (bit_xor (product 2 a) (product 2 b)) b) (bit_xor c d)
apart a b c d = ap (λ (t : ℕ). bit_xor (bit_xor t b) (bit_xor c d)) (product-xor_r 2 a b)

order_0 : (a b e c d : ℕ) → bit_xor (bit_xor (bit_xor a b) e) (bit_xor c d) ≡ bit_xor (bit_xor (bit_xor (bit_xor 0 a) (bit_xor b e)) c) d
order_0 a b e c d = same_from_bits _ _ (λ i. simp (bit_at_xor) (omega arith))

order_1 : (a b e c d : ℕ) → bit_xor (bit_xor (bit_xor a b) e) (bit_xor c d) ≡ bit_xor (bit_xor (bit_xor (bit_xor 0 d) a) (bit_xor b e)) c
order_1 a b e c d = same_from_bits _ _ (λ i. simp (bit_at_xor) (omega arith))

order_2 : (a b e c d : ℕ) → bit_xor (bit_xor (bit_xor a b) e) (bit_xor c d) ≡ bit_xor (bit_xor (bit_xor (bit_xor 0 c) d) a) (bit_xor b e)
order_2 a b e c d = same_from_bits _ _ (λ i. simp (bit_at_xor) (omega arith))

order_3 : (a b e c d : ℕ) → bit_xor (bit_xor (bit_xor a b) e) (bit_xor c d) ≡ bit_xor (bit_xor (bit_xor (bit_xor 0 (bit_xor b e)) c) d) a
order_3 a b e c d = same_from_bits _ _ (λ i. simp (bit_at_xor) (omega arith))

-- a byte of the product, in each of the four rows
row_0 : (a b c d : ℕ) → b < 256 → c < 256 → d < 256
    → mixed a b c d ≡ bit_xor (bit_xor (bit_xor (bit_xor 0 (product 2 a)) (product 3 b)) (product 1 c)) (product 1 d)
row_0 a b c d p q r =
    apart a b c d ∙ order_0 (product 2 a) (product 2 b) b c d ∙ rw (times_x_plus_1-is b p, product-one_l c q, product-one_l d r) refl

row_1 : (a b c d : ℕ) → b < 256 → c < 256 → d < 256
    → mixed a b c d ≡ bit_xor (bit_xor (bit_xor (bit_xor 0 (product 1 d)) (product 2 a)) (product 3 b)) (product 1 c)
row_1 a b c d p q r =
    apart a b c d ∙ order_1 (product 2 a) (product 2 b) b c d ∙ rw (times_x_plus_1-is b p, product-one_l c q, product-one_l d r) refl

row_2 : (a b c d : ℕ) → b < 256 → c < 256 → d < 256
    → mixed a b c d ≡ bit_xor (bit_xor (bit_xor (bit_xor 0 (product 1 c)) (product 1 d)) (product 2 a)) (product 3 b)
row_2 a b c d p q r =
    apart a b c d ∙ order_2 (product 2 a) (product 2 b) b c d ∙ rw (times_x_plus_1-is b p, product-one_l c q, product-one_l d r) refl

row_3 : (a b c d : ℕ) → b < 256 → c < 256 → d < 256
    → mixed a b c d ≡ bit_xor (bit_xor (bit_xor (bit_xor 0 (product 3 b)) (product 1 c)) (product 1 d)) (product 2 a)
row_3 a b c d p q r =
    apart a b c d ∙ order_3 (product 2 a) (product 2 b) b c d ∙ rw (times_x_plus_1-is b p, product-one_l c q, product-one_l d r) refl

-- ---- rounds

-- byte p of the state whose rows were turned, through the S-box
abbrev pub turned : State → ℕ → ℕ
turned s p = sub_byte (byte_of s (slice_index SHIFTED p))

pub round_byte : (s k : State) (p : ℕ) → p < 16
    → bit_xor (mixed (turned s p) (turned s (slice_index NEXT_ROW p)) (turned s (slice_index SECOND_ROW p))
    (turned s (slice_index NEXT_ROW (slice_index SECOND_ROW p)))) (byte_of k p) ≡ byte_of (round s k) p
unfolding round add_round_key add_words mix_columns word_product shift_rows sub_bytes sum_below
round_byte s k zero h = ap (λ (t : ℕ). bit_xor t (byte_of k 0)) (row_0 (sub_byte (byte_of s 0)) (sub_byte (byte_of s 5)) (sub_byte (byte_of s 10)) (sub_byte (byte_of s 15)) (sub_byte-lt (byte_of s 5)) (sub_byte-lt (byte_of s 10)) (sub_byte-lt (byte_of s 15)))
round_byte s k (suc zero) h = ap (λ (t : ℕ). bit_xor t (byte_of k 1)) (row_1 (sub_byte (byte_of s 5)) (sub_byte (byte_of s 10)) (sub_byte (byte_of s 15)) (sub_byte (byte_of s 0)) (sub_byte-lt (byte_of s 10)) (sub_byte-lt (byte_of s 15)) (sub_byte-lt (byte_of s 0)))
round_byte s k (suc (suc zero)) h = ap (λ (t : ℕ). bit_xor t (byte_of k 2)) (row_2 (sub_byte (byte_of s 10)) (sub_byte (byte_of s 15)) (sub_byte (byte_of s 0)) (sub_byte (byte_of s 5)) (sub_byte-lt (byte_of s 15)) (sub_byte-lt (byte_of s 0)) (sub_byte-lt (byte_of s 5)))
round_byte s k (suc (suc (suc zero))) h = ap (λ (t : ℕ). bit_xor t (byte_of k 3)) (row_3 (sub_byte (byte_of s 15)) (sub_byte (byte_of s 0)) (sub_byte (byte_of s 5)) (sub_byte (byte_of s 10)) (sub_byte-lt (byte_of s 0)) (sub_byte-lt (byte_of s 5)) (sub_byte-lt (byte_of s 10)))
round_byte s k (suc (suc (suc (suc zero)))) h = ap (λ (t : ℕ). bit_xor t (byte_of k 4)) (row_0 (sub_byte (byte_of s 4)) (sub_byte (byte_of s 9)) (sub_byte (byte_of s 14)) (sub_byte (byte_of s 3)) (sub_byte-lt (byte_of s 9)) (sub_byte-lt (byte_of s 14)) (sub_byte-lt (byte_of s 3)))
round_byte s k (suc (suc (suc (suc (suc zero))))) h = ap (λ (t : ℕ). bit_xor t (byte_of k 5)) (row_1 (sub_byte (byte_of s 9)) (sub_byte (byte_of s 14)) (sub_byte (byte_of s 3)) (sub_byte (byte_of s 4)) (sub_byte-lt (byte_of s 14)) (sub_byte-lt (byte_of s 3)) (sub_byte-lt (byte_of s 4)))
round_byte s k (suc (suc (suc (suc (suc (suc zero)))))) h = ap (λ (t : ℕ). bit_xor t (byte_of k 6)) (row_2 (sub_byte (byte_of s 14)) (sub_byte (byte_of s 3)) (sub_byte (byte_of s 4)) (sub_byte (byte_of s 9)) (sub_byte-lt (byte_of s 3)) (sub_byte-lt (byte_of s 4)) (sub_byte-lt (byte_of s 9)))
round_byte s k (suc (suc (suc (suc (suc (suc (suc zero))))))) h = ap (λ (t : ℕ). bit_xor t (byte_of k 7)) (row_3 (sub_byte (byte_of s 3)) (sub_byte (byte_of s 4)) (sub_byte (byte_of s 9)) (sub_byte (byte_of s 14)) (sub_byte-lt (byte_of s 4)) (sub_byte-lt (byte_of s 9)) (sub_byte-lt (byte_of s 14)))
round_byte s k (suc (suc (suc (suc (suc (suc (suc (suc zero)))))))) h = ap (λ (t : ℕ). bit_xor t (byte_of k 8)) (row_0 (sub_byte (byte_of s 8)) (sub_byte (byte_of s 13)) (sub_byte (byte_of s 2)) (sub_byte (byte_of s 7)) (sub_byte-lt (byte_of s 13)) (sub_byte-lt (byte_of s 2)) (sub_byte-lt (byte_of s 7)))
round_byte s k (suc (suc (suc (suc (suc (suc (suc (suc (suc zero))))))))) h = ap (λ (t : ℕ). bit_xor t (byte_of k 9)) (row_1 (sub_byte (byte_of s 13)) (sub_byte (byte_of s 2)) (sub_byte (byte_of s 7)) (sub_byte (byte_of s 8)) (sub_byte-lt (byte_of s 2)) (sub_byte-lt (byte_of s 7)) (sub_byte-lt (byte_of s 8)))
round_byte s k (suc (suc (suc (suc (suc (suc (suc (suc (suc (suc zero)))))))))) h = ap (λ (t : ℕ). bit_xor t (byte_of k 10)) (row_2 (sub_byte (byte_of s 2)) (sub_byte (byte_of s 7)) (sub_byte (byte_of s 8)) (sub_byte (byte_of s 13)) (sub_byte-lt (byte_of s 7)) (sub_byte-lt (byte_of s 8)) (sub_byte-lt (byte_of s 13)))
round_byte s k (suc (suc (suc (suc (suc (suc (suc (suc (suc (suc (suc zero))))))))))) h = ap (λ (t : ℕ). bit_xor t (byte_of k 11)) (row_3 (sub_byte (byte_of s 7)) (sub_byte (byte_of s 8)) (sub_byte (byte_of s 13)) (sub_byte (byte_of s 2)) (sub_byte-lt (byte_of s 8)) (sub_byte-lt (byte_of s 13)) (sub_byte-lt (byte_of s 2)))
round_byte s k (suc (suc (suc (suc (suc (suc (suc (suc (suc (suc (suc (suc zero)))))))))))) h = ap (λ (t : ℕ). bit_xor t (byte_of k 12)) (row_0 (sub_byte (byte_of s 12)) (sub_byte (byte_of s 1)) (sub_byte (byte_of s 6)) (sub_byte (byte_of s 11)) (sub_byte-lt (byte_of s 1)) (sub_byte-lt (byte_of s 6)) (sub_byte-lt (byte_of s 11)))
round_byte s k (suc (suc (suc (suc (suc (suc (suc (suc (suc (suc (suc (suc (suc zero))))))))))))) h = ap (λ (t : ℕ). bit_xor t (byte_of k 13)) (row_1 (sub_byte (byte_of s 1)) (sub_byte (byte_of s 6)) (sub_byte (byte_of s 11)) (sub_byte (byte_of s 12)) (sub_byte-lt (byte_of s 6)) (sub_byte-lt (byte_of s 11)) (sub_byte-lt (byte_of s 12)))
round_byte s k (suc (suc (suc (suc (suc (suc (suc (suc (suc (suc (suc (suc (suc (suc zero)))))))))))))) h = ap (λ (t : ℕ). bit_xor t (byte_of k 14)) (row_2 (sub_byte (byte_of s 6)) (sub_byte (byte_of s 11)) (sub_byte (byte_of s 12)) (sub_byte (byte_of s 1)) (sub_byte-lt (byte_of s 11)) (sub_byte-lt (byte_of s 12)) (sub_byte-lt (byte_of s 1)))
round_byte s k (suc (suc (suc (suc (suc (suc (suc (suc (suc (suc (suc (suc (suc (suc (suc zero))))))))))))))) h = ap (λ (t : ℕ). bit_xor t (byte_of k 15)) (row_3 (sub_byte (byte_of s 11)) (sub_byte (byte_of s 12)) (sub_byte (byte_of s 1)) (sub_byte (byte_of s 6)) (sub_byte-lt (byte_of s 12)) (sub_byte-lt (byte_of s 1)) (sub_byte-lt (byte_of s 6)))
round_byte s k (suc (suc (suc (suc (suc (suc (suc (suc (suc (suc (suc (suc (suc (suc (suc (suc p)))))))))))))))) h = absurd (let f : ⊥ = omega (arith, h) in f)

pub last_round_byte : (s k : State) (p : ℕ) → p < 16
    → bit_xor (turned s p) (byte_of k p) ≡ byte_of (last_round s k) p
unfolding last_round add_round_key add_words shift_rows sub_bytes
last_round_byte s k zero h = refl
last_round_byte s k (suc zero) h = refl
last_round_byte s k (suc (suc zero)) h = refl
last_round_byte s k (suc (suc (suc zero))) h = refl
last_round_byte s k (suc (suc (suc (suc zero)))) h = refl
last_round_byte s k (suc (suc (suc (suc (suc zero))))) h = refl
last_round_byte s k (suc (suc (suc (suc (suc (suc zero)))))) h = refl
last_round_byte s k (suc (suc (suc (suc (suc (suc (suc zero))))))) h = refl
last_round_byte s k (suc (suc (suc (suc (suc (suc (suc (suc zero)))))))) h = refl
last_round_byte s k (suc (suc (suc (suc (suc (suc (suc (suc (suc zero))))))))) h = refl
last_round_byte s k (suc (suc (suc (suc (suc (suc (suc (suc (suc (suc zero)))))))))) h = refl
last_round_byte s k (suc (suc (suc (suc (suc (suc (suc (suc (suc (suc (suc zero))))))))))) h = refl
last_round_byte s k (suc (suc (suc (suc (suc (suc (suc (suc (suc (suc (suc (suc zero)))))))))))) h = refl
last_round_byte s k (suc (suc (suc (suc (suc (suc (suc (suc (suc (suc (suc (suc (suc zero))))))))))))) h = refl
last_round_byte s k (suc (suc (suc (suc (suc (suc (suc (suc (suc (suc (suc (suc (suc (suc zero)))))))))))))) h = refl
last_round_byte s k (suc (suc (suc (suc (suc (suc (suc (suc (suc (suc (suc (suc (suc (suc (suc zero))))))))))))))) h = refl
last_round_byte s k (suc (suc (suc (suc (suc (suc (suc (suc (suc (suc (suc (suc (suc (suc (suc (suc p)))))))))))))))) h = absurd (let f : ⊥ = omega (arith, h) in f)
