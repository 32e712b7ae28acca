-- Rows of eight bits that become columns.
use Rattle.std.proofs.Common.{◌≡◌, refl, sym, ◌∙◌, ap, subst, ℕ, ◌+◌, ◌-◌, ◌*◌, ◌/◌, ◌%◌, ◌^◌, ◌<◌, List, [], ◌∷◌, length, arith}
use Rattle.std.specs.Prelude.{bit_and, bit_xor, min, replicate, slice_index, ◌==◌, if◌then◌else◌}
use Rattle.std.specs.Int.{bit_at}
use Rattle.std.specs.List.{slice_index_or}
use Rattle.std.specs.Simd.Lanes.{zip2}
use Rattle.std.proofs.lemmas.Simd.{length-zip2, get_or-zip2, get_or-replicate}
use Rattle.std.proofs.lemmas.Nat.{shr-shr}
use Rattle.std.proofs.lemmas.Nat.Bits.{bit_at_and, bit_at_xor, bit_at-lt}
use Rattle.icb_aes.specs.Planes.{IsRow}
use Rattle.icb_aes.proofs.StateLemmas.{eight}

-- ---- lanes

-- a vector of 16 bytes, and its byte p
pub record Lane (p : ℕ) : Type 0 where
  pub lanes : List ℕ
  pub value : ℕ
  pub size : length lanes ≡ 16
  pub is : slice_index lanes p ≡ value

unfoldable pub of_lanes : {p : ℕ} (f : ℕ → ℕ → ℕ) → p < 16 → Lane p → Lane p → Lane p
of_lanes {p} f h x y = record {
  lanes = zip2 f x.lanes y.lanes;
  value = f x.value y.value;
  size = length-zip2 f x.lanes y.lanes (x.size ∙ sym y.size) ∙ x.size;
  is = get_or-zip2 f x.lanes y.lanes p 0 0 0
      (subst (λ (n : ℕ). p < n) (sym x.size) h) (subst (λ (n : ℕ). p < n) (sym y.size) h)
      ∙ ap (λ (t : ℕ). f t (slice_index y.lanes p)) x.is
      ∙ ap (λ (t : ℕ). f x.value t) y.is;
}

unfoldable pub splat : (p n : ℕ) → p < 16 → Lane p
splat p n h = record {
  lanes = replicate 16 n;
  value = n;
  size = refl;
  is = get_or-replicate 16 p n 0 h;
}

abbrev pub right : ℕ → ℕ → ℕ
right a s = a / 2 ^ s

abbrev pub left : ℕ → ℕ → ℕ
left a s = a * 2 ^ s % 2 ^ 8

-- what changes places
unfoldable pub moved : {p : ℕ} → p < 16 → ℕ → ℕ → Lane p → Lane p → Lane p
moved {p} h s m x y = of_lanes bit_and h (of_lanes bit_xor h (of_lanes right h x (splat p s h)) y) (splat p m h)

unfoldable pub first : {p : ℕ} → p < 16 → ℕ → ℕ → Lane p → Lane p → Lane p
first {p} h s m x y = of_lanes bit_xor h x (of_lanes left h (moved h s m x y) (splat p s h))

unfoldable pub second : {p : ℕ} → p < 16 → ℕ → ℕ → Lane p → Lane p → Lane p
second h s m x y = of_lanes bit_xor h y (moved h s m x y)

-- ---- bits of a byte

abbrev pub moved_byte : ℕ → ℕ → ℕ → ℕ → ℕ
moved_byte s m a b = bit_and (bit_xor (a / 2 ^ s) b) m

bit_at-right : (a s k : ℕ) → bit_at (a / 2 ^ s) k ≡ bit_at a (s + k)
bit_at-right a s k = ap (λ (t : ℕ). t % 2) (shr-shr a s k)

moved_there : (s m a b k : ℕ) → bit_at m k ≡ 1 → bit_at (moved_byte s m a b) k ≡ (bit_at a (s + k) + bit_at b k) % 2
moved_there s m a b k e =
    bit_at_and (bit_xor (a / 2 ^ s) b) m k
    ∙ (rw e (one (bit_at (bit_xor (a / 2 ^ s) b) k) (bit_at-lt (bit_xor (a / 2 ^ s) b) k)
    ∙ bit_at_xor (a / 2 ^ s) b k ∙ ap (λ (t : ℕ). (t + bit_at b k) % 2) (bit_at-right a s k)))
  where
    one : (u : ℕ) → u < 2 → min u 1 ≡ u
    one u h = omega (arith, h)

moved_not : (s m a b k : ℕ) → bit_at m k ≡ 0 → bit_at (moved_byte s m a b) k ≡ 0
moved_not s m a b k e = bit_at_and (bit_xor (a / 2 ^ s) b) m k ∙ (rw e (omega arith))

twice : (u v : ℕ) → u < 2 → v < 2 → (u + (u + v) % 2) % 2 ≡ v
twice u v h k = omega (arith, h, k)

twice' : (u v : ℕ) → u < 2 → v < 2 → (v + (u + v) % 2) % 2 ≡ u
twice' u v h k = omega (arith, h, k)

nothing : (u : ℕ) → u < 2 → (u + 0) % 2 ≡ u
nothing u h = omega (arith, h)

-- bit i of the first row: bit k of the second, where i is s + k and the mask has k
first_moved : (s m a b k i : ℕ) → bit_at m k ≡ 1 → i ≡ s + k
    → ((t : ℕ) → bit_at (t * 2 ^ s % 2 ^ 8) i ≡ bit_at t k)
    → bit_at (bit_xor a (moved_byte s m a b * 2 ^ s % 2 ^ 8)) i ≡ bit_at b k
first_moved s m a b k i e f g =
    bit_at_xor a (moved_byte s m a b * 2 ^ s % 2 ^ 8) i
    ∙ ap (λ (t : ℕ). (bit_at a i + t) % 2) (g (moved_byte s m a b) ∙ moved_there s m a b k e)
    ∙ ap (λ (n : ℕ). (bit_at a i + (bit_at a n + bit_at b k) % 2) % 2) (sym f)
    ∙ twice (bit_at a i) (bit_at b k) (bit_at-lt a i) (bit_at-lt b k)

-- and else its own
first_own : (s m a b i : ℕ) → bit_at (moved_byte s m a b * 2 ^ s % 2 ^ 8) i ≡ 0
    → bit_at (bit_xor a (moved_byte s m a b * 2 ^ s % 2 ^ 8)) i ≡ bit_at a i
first_own s m a b i e =
    bit_at_xor a (moved_byte s m a b * 2 ^ s % 2 ^ 8) i
    ∙ ap (λ (t : ℕ). (bit_at a i + t) % 2) e
    ∙ nothing (bit_at a i) (bit_at-lt a i)

second_moved : (s m a b k i : ℕ) → bit_at m k ≡ 1 → i ≡ s + k → bit_at (bit_xor b (moved_byte s m a b)) k ≡ bit_at a i
second_moved s m a b k i e f =
    bit_at_xor b (moved_byte s m a b) k
    ∙ ap (λ (t : ℕ). (bit_at b k + t) % 2) (moved_there s m a b k e)
    ∙ twice' (bit_at a (s + k)) (bit_at b k) (bit_at-lt a (s + k)) (bit_at-lt b k)
    ∙ ap (λ (n : ℕ). bit_at a n) (sym f)

second_own : (s m a b k : ℕ) → bit_at m k ≡ 0 → bit_at (bit_xor b (moved_byte s m a b)) k ≡ bit_at b k
second_own s m a b k e =
    bit_at_xor b (moved_byte s m a b) k
    ∙ ap (λ (t : ℕ). (bit_at b k + t) % 2) (moved_not s m a b k e)
    ∙ nothing (bit_at b k) (bit_at-lt b k)

-- ---- the rows

unfoldable pub lane_of : (x : List ℕ) (p : ℕ) → length x ≡ 16 → Lane p
lane_of x p h = record { lanes = x; value = slice_index x p; size = h; is = refl }

pub row_of : {p : ℕ} (x : Lane p) (f : ℕ → ℕ) → ((i : ℕ) → i < 8 → bit_at x.value i ≡ f i) → IsRow x.lanes p f
row_of x f h = record { size = x.size; bit = λ i k. ap (λ (n : ℕ). bit_at n i) x.is ∙ h i k }

-- ---- by 1

bytes_first_1 : (a b : ℕ) (f g : ℕ → ℕ) → ((i : ℕ) → i < 8 → bit_at a i ≡ f i) → ((i : ℕ) → i < 8 → bit_at b i ≡ g i)
    → (i : ℕ) → i < 8 → bit_at (bit_xor a (moved_byte 1 85 a b * 2 ^ 1 % 2 ^ 8)) i ≡ (if i % 2 == 1 then g (i - 1) else f i)
bytes_first_1 a b f g h k =
    let t = moved_byte 1 85 a b in
    eight (λ i. bit_at (bit_xor a (t * 2 ^ 1 % 2 ^ 8)) i ≡ (if i % 2 == 1 then g (i - 1) else f i))
    (first_own 1 85 a b 0 (omega arith) ∙ h 0 (omega arith))
    (first_moved 1 85 a b 0 1 refl refl (λ t. omega arith) ∙ k 0 (omega arith))
    (first_own 1 85 a b 2 (let z : bit_at (t * 2 ^ 1 % 2 ^ 8) 2 ≡ bit_at t 1 = omega arith in z ∙ moved_not 1 85 a b 1 refl) ∙ h 2 (omega arith))
    (first_moved 1 85 a b 2 3 refl refl (λ t. omega arith) ∙ k 2 (omega arith))
    (first_own 1 85 a b 4 (let z : bit_at (t * 2 ^ 1 % 2 ^ 8) 4 ≡ bit_at t 3 = omega arith in z ∙ moved_not 1 85 a b 3 refl) ∙ h 4 (omega arith))
    (first_moved 1 85 a b 4 5 refl refl (λ t. omega arith) ∙ k 4 (omega arith))
    (first_own 1 85 a b 6 (let z : bit_at (t * 2 ^ 1 % 2 ^ 8) 6 ≡ bit_at t 5 = omega arith in z ∙ moved_not 1 85 a b 5 refl) ∙ h 6 (omega arith))
    (first_moved 1 85 a b 6 7 refl refl (λ t. omega arith) ∙ k 6 (omega arith))

bytes_second_1 : (a b : ℕ) (f g : ℕ → ℕ) → ((i : ℕ) → i < 8 → bit_at a i ≡ f i) → ((i : ℕ) → i < 8 → bit_at b i ≡ g i)
    → (i : ℕ) → i < 8 → bit_at (bit_xor b (moved_byte 1 85 a b)) i ≡ (if i % 2 == 1 then g i else f (i + 1))
bytes_second_1 a b f g h k =
    eight (λ i. bit_at (bit_xor b (moved_byte 1 85 a b)) i ≡ (if i % 2 == 1 then g i else f (i + 1)))
    (second_moved 1 85 a b 0 1 refl refl ∙ h 1 (omega arith))
    (second_own 1 85 a b 1 refl ∙ k 1 (omega arith))
    (second_moved 1 85 a b 2 3 refl refl ∙ h 3 (omega arith))
    (second_own 1 85 a b 3 refl ∙ k 3 (omega arith))
    (second_moved 1 85 a b 4 5 refl refl ∙ h 5 (omega arith))
    (second_own 1 85 a b 5 refl ∙ k 5 (omega arith))
    (second_moved 1 85 a b 6 7 refl refl ∙ h 7 (omega arith))
    (second_own 1 85 a b 7 refl ∙ k 7 (omega arith))

pub rows_first_1 : (x y : List ℕ) (p : ℕ) (f g : ℕ → ℕ) → p < 16 → IsRow x p f → IsRow y p g
    → IsRow (zip2 bit_xor x (zip2 left (zip2 bit_and (zip2 bit_xor (zip2 right x (replicate 16 1)) y) (replicate 16 85)) (replicate 16 1))) p
    (λ i. if i % 2 == 1 then g (i - 1) else f i)
unfolding of_lanes splat moved first lane_of
rows_first_1 x y p f g h i j =
    row_of (first h 1 85 (lane_of x p i.size) (lane_of y p j.size)) (λ i. if i % 2 == 1 then g (i - 1) else f i)
    (bytes_first_1 (slice_index x p) (slice_index y p) f g i.bit j.bit)

pub rows_second_1 : (x y : List ℕ) (p : ℕ) (f g : ℕ → ℕ) → p < 16 → IsRow x p f → IsRow y p g
    → IsRow (zip2 bit_xor y (zip2 bit_and (zip2 bit_xor (zip2 right x (replicate 16 1)) y) (replicate 16 85))) p
    (λ i. if i % 2 == 1 then g i else f (i + 1))
unfolding of_lanes splat moved second lane_of
rows_second_1 x y p f g h i j =
    row_of (second h 1 85 (lane_of x p i.size) (lane_of y p j.size)) (λ i. if i % 2 == 1 then g i else f (i + 1))
    (bytes_second_1 (slice_index x p) (slice_index y p) f g i.bit j.bit)

-- ---- by 2

bytes_first_2 : (a b : ℕ) (f g : ℕ → ℕ) → ((i : ℕ) → i < 8 → bit_at a i ≡ f i) → ((i : ℕ) → i < 8 → bit_at b i ≡ g i)
    → (i : ℕ) → i < 8 → bit_at (bit_xor a (moved_byte 2 51 a b * 2 ^ 2 % 2 ^ 8)) i ≡ (if i / 2 % 2 == 1 then g (i - 2) else f i)
bytes_first_2 a b f g h k =
    let t = moved_byte 2 51 a b in
    eight (λ i. bit_at (bit_xor a (t * 2 ^ 2 % 2 ^ 8)) i ≡ (if i / 2 % 2 == 1 then g (i - 2) else f i))
    (first_own 2 51 a b 0 (omega arith) ∙ h 0 (omega arith))
    (first_own 2 51 a b 1 (omega arith) ∙ h 1 (omega arith))
    (first_moved 2 51 a b 0 2 refl refl (λ t. omega arith) ∙ k 0 (omega arith))
    (first_moved 2 51 a b 1 3 refl refl (λ t. omega arith) ∙ k 1 (omega arith))
    (first_own 2 51 a b 4 (let z : bit_at (t * 2 ^ 2 % 2 ^ 8) 4 ≡ bit_at t 2 = omega arith in z ∙ moved_not 2 51 a b 2 refl) ∙ h 4 (omega arith))
    (first_own 2 51 a b 5 (let z : bit_at (t * 2 ^ 2 % 2 ^ 8) 5 ≡ bit_at t 3 = omega arith in z ∙ moved_not 2 51 a b 3 refl) ∙ h 5 (omega arith))
    (first_moved 2 51 a b 4 6 refl refl (λ t. omega arith) ∙ k 4 (omega arith))
    (first_moved 2 51 a b 5 7 refl refl (λ t. omega arith) ∙ k 5 (omega arith))

bytes_second_2 : (a b : ℕ) (f g : ℕ → ℕ) → ((i : ℕ) → i < 8 → bit_at a i ≡ f i) → ((i : ℕ) → i < 8 → bit_at b i ≡ g i)
    → (i : ℕ) → i < 8 → bit_at (bit_xor b (moved_byte 2 51 a b)) i ≡ (if i / 2 % 2 == 1 then g i else f (i + 2))
bytes_second_2 a b f g h k =
    eight (λ i. bit_at (bit_xor b (moved_byte 2 51 a b)) i ≡ (if i / 2 % 2 == 1 then g i else f (i + 2)))
    (second_moved 2 51 a b 0 2 refl refl ∙ h 2 (omega arith))
    (second_moved 2 51 a b 1 3 refl refl ∙ h 3 (omega arith))
    (second_own 2 51 a b 2 refl ∙ k 2 (omega arith))
    (second_own 2 51 a b 3 refl ∙ k 3 (omega arith))
    (second_moved 2 51 a b 4 6 refl refl ∙ h 6 (omega arith))
    (second_moved 2 51 a b 5 7 refl refl ∙ h 7 (omega arith))
    (second_own 2 51 a b 6 refl ∙ k 6 (omega arith))
    (second_own 2 51 a b 7 refl ∙ k 7 (omega arith))

pub rows_first_2 : (x y : List ℕ) (p : ℕ) (f g : ℕ → ℕ) → p < 16 → IsRow x p f → IsRow y p g
    → IsRow (zip2 bit_xor x (zip2 left (zip2 bit_and (zip2 bit_xor (zip2 right x (replicate 16 2)) y) (replicate 16 51)) (replicate 16 2))) p
    (λ i. if i / 2 % 2 == 1 then g (i - 2) else f i)
unfolding of_lanes splat moved first lane_of
rows_first_2 x y p f g h i j =
    row_of (first h 2 51 (lane_of x p i.size) (lane_of y p j.size)) (λ i. if i / 2 % 2 == 1 then g (i - 2) else f i)
    (bytes_first_2 (slice_index x p) (slice_index y p) f g i.bit j.bit)

pub rows_second_2 : (x y : List ℕ) (p : ℕ) (f g : ℕ → ℕ) → p < 16 → IsRow x p f → IsRow y p g
    → IsRow (zip2 bit_xor y (zip2 bit_and (zip2 bit_xor (zip2 right x (replicate 16 2)) y) (replicate 16 51))) p
    (λ i. if i / 2 % 2 == 1 then g i else f (i + 2))
unfolding of_lanes splat moved second lane_of
rows_second_2 x y p f g h i j =
    row_of (second h 2 51 (lane_of x p i.size) (lane_of y p j.size)) (λ i. if i / 2 % 2 == 1 then g i else f (i + 2))
    (bytes_second_2 (slice_index x p) (slice_index y p) f g i.bit j.bit)

-- ---- by 4

bytes_first_4 : (a b : ℕ) (f g : ℕ → ℕ) → ((i : ℕ) → i < 8 → bit_at a i ≡ f i) → ((i : ℕ) → i < 8 → bit_at b i ≡ g i)
    → (i : ℕ) → i < 8 → bit_at (bit_xor a (moved_byte 4 15 a b * 2 ^ 4 % 2 ^ 8)) i ≡ (if i / 4 == 1 then g (i - 4) else f i)
bytes_first_4 a b f g h k =
    let t = moved_byte 4 15 a b in
    eight (λ i. bit_at (bit_xor a (t * 2 ^ 4 % 2 ^ 8)) i ≡ (if i / 4 == 1 then g (i - 4) else f i))
    (first_own 4 15 a b 0 (omega arith) ∙ h 0 (omega arith))
    (first_own 4 15 a b 1 (omega arith) ∙ h 1 (omega arith))
    (first_own 4 15 a b 2 (omega arith) ∙ h 2 (omega arith))
    (first_own 4 15 a b 3 (omega arith) ∙ h 3 (omega arith))
    (first_moved 4 15 a b 0 4 refl refl (λ t. omega arith) ∙ k 0 (omega arith))
    (first_moved 4 15 a b 1 5 refl refl (λ t. omega arith) ∙ k 1 (omega arith))
    (first_moved 4 15 a b 2 6 refl refl (λ t. omega arith) ∙ k 2 (omega arith))
    (first_moved 4 15 a b 3 7 refl refl (λ t. omega arith) ∙ k 3 (omega arith))

bytes_second_4 : (a b : ℕ) (f g : ℕ → ℕ) → ((i : ℕ) → i < 8 → bit_at a i ≡ f i) → ((i : ℕ) → i < 8 → bit_at b i ≡ g i)
    → (i : ℕ) → i < 8 → bit_at (bit_xor b (moved_byte 4 15 a b)) i ≡ (if i / 4 == 1 then g i else f (i + 4))
bytes_second_4 a b f g h k =
    eight (λ i. bit_at (bit_xor b (moved_byte 4 15 a b)) i ≡ (if i / 4 == 1 then g i else f (i + 4)))
    (second_moved 4 15 a b 0 4 refl refl ∙ h 4 (omega arith))
    (second_moved 4 15 a b 1 5 refl refl ∙ h 5 (omega arith))
    (second_moved 4 15 a b 2 6 refl refl ∙ h 6 (omega arith))
    (second_moved 4 15 a b 3 7 refl refl ∙ h 7 (omega arith))
    (second_own 4 15 a b 4 refl ∙ k 4 (omega arith))
    (second_own 4 15 a b 5 refl ∙ k 5 (omega arith))
    (second_own 4 15 a b 6 refl ∙ k 6 (omega arith))
    (second_own 4 15 a b 7 refl ∙ k 7 (omega arith))

pub rows_first_4 : (x y : List ℕ) (p : ℕ) (f g : ℕ → ℕ) → p < 16 → IsRow x p f → IsRow y p g
    → IsRow (zip2 bit_xor x (zip2 left (zip2 bit_and (zip2 bit_xor (zip2 right x (replicate 16 4)) y) (replicate 16 15)) (replicate 16 4))) p
    (λ i. if i / 4 == 1 then g (i - 4) else f i)
unfolding of_lanes splat moved first lane_of
rows_first_4 x y p f g h i j =
    row_of (first h 4 15 (lane_of x p i.size) (lane_of y p j.size)) (λ i. if i / 4 == 1 then g (i - 4) else f i)
    (bytes_first_4 (slice_index x p) (slice_index y p) f g i.bit j.bit)

pub rows_second_4 : (x y : List ℕ) (p : ℕ) (f g : ℕ → ℕ) → p < 16 → IsRow x p f → IsRow y p g
    → IsRow (zip2 bit_xor y (zip2 bit_and (zip2 bit_xor (zip2 right x (replicate 16 4)) y) (replicate 16 15))) p
    (λ i. if i / 4 == 1 then g i else f (i + 4))
unfolding of_lanes splat moved second lane_of
rows_second_4 x y p f g h i j =
    row_of (second h 4 15 (lane_of x p i.size) (lane_of y p j.size)) (λ i. if i / 4 == 1 then g i else f (i + 4))
    (bytes_second_4 (slice_index x p) (slice_index y p) f g i.bit j.bit)

-- ---- eight rows

-- a row by its eight bits
pub row_is : (x : List ℕ) (p : ℕ) (f g : ℕ → ℕ) → IsRow x p f
    → f 0 ≡ g 0 → f 1 ≡ g 1 → f 2 ≡ g 2 → f 3 ≡ g 3 → f 4 ≡ g 4 → f 5 ≡ g 5 → f 6 ≡ g 6 → f 7 ≡ g 7 → IsRow x p g
row_is x p f g h e0 e1 e2 e3 e4 e5 e6 e7 = record {
  size = h.size;
  bit = λ i k. h.bit i k ∙ eight (λ i. f i ≡ g i) e0 e1 e2 e3 e4 e5 e6 e7 i k;
}

pub eight_rows : (p : ℕ) (f : ℕ → ℕ → ℕ) (r0 r1 r2 r3 r4 r5 r6 r7 : List ℕ)
    → IsRow r0 p (λ j. f j 0) → IsRow r1 p (λ j. f j 1) → IsRow r2 p (λ j. f j 2) → IsRow r3 p (λ j. f j 3)
    → IsRow r4 p (λ j. f j 4) → IsRow r5 p (λ j. f j 5) → IsRow r6 p (λ j. f j 6) → IsRow r7 p (λ j. f j 7)
    → (i : ℕ) → i < 8 → IsRow (slice_index_or (r0 ∷ r1 ∷ r2 ∷ r3 ∷ r4 ∷ r5 ∷ r6 ∷ r7 ∷ []) i []) p (λ j. f j i)
eight_rows p f r0 r1 r2 r3 r4 r5 r6 r7 h0 h1 h2 h3 h4 h5 h6 h7 =
    eight (λ i. IsRow (slice_index_or (r0 ∷ r1 ∷ r2 ∷ r3 ∷ r4 ∷ r5 ∷ r6 ∷ r7 ∷ []) i []) p (λ j. f j i)) h0 h1 h2 h3 h4 h5 h6 h7
