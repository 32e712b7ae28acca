-- One bit of eight planes: what is done to planes is done to the bits of each byte of each block.
use Rattle.std.proofs.Common.{◌≡◌, refl, sym, ◌∙◌, ap, subst, ℕ, zero, suc, ◌<◌, inl, inr, List, [], ◌∷◌, length, map, arith}
use Rattle.std.specs.Prelude.{bit_and, bit_xor, min, replicate, slice_index}
use Rattle.std.specs.Int.{bit_at}
use Rattle.std.specs.List.{slice_index_or}
use Rattle.std.specs.Simd.Lanes.{zip2}
use Rattle.std.proofs.lemmas.Simd.{length-zip2, get_or-zip2, get_or-replicate}
use Rattle.std.proofs.lemmas.Nat.Bits.{bit_at_and, bit_at-lt}
use Rattle.icb_aes.specs.Planes.{Holds}
use Rattle.icb_aes.proofs.FieldLemmas.{bit_at-xor, bit_cases}

-- a vector of 16 bytes, and bit b of its byte p
pub record Plane (p b : ℕ) : Type 0 where
  pub lanes : List ℕ
  pub bit : ℕ
  pub size : length lanes ≡ 16
  pub is : bit_at (slice_index lanes p) b ≡ bit

-- an operation on the bytes that is one on their bits
unfoldable pub both : {p b : ℕ} (f : ℕ → ℕ → ℕ) → p < 16
    → ((x y i : ℕ) → bit_at (f x y) i ≡ f (bit_at x i) (bit_at y i)) → Plane p b → Plane p b → Plane p b
both {p} {b} f h g x y = record {
  lanes = zip2 f x.lanes y.lanes;
  bit = f x.bit y.bit;
  size = length-zip2 f x.lanes y.lanes (x.size ∙ sym y.size) ∙ x.size;
  is = ap (λ (n : ℕ). bit_at n b) (get_or-zip2 f x.lanes y.lanes p 0 0 0
      (subst (λ (n : ℕ). p < n) (sym x.size) h) (subst (λ (n : ℕ). p < n) (sym y.size) h))
      ∙ g (slice_index x.lanes p) (slice_index y.lanes p) b
      ∙ ap (λ (t : ℕ). f t (bit_at (slice_index y.lanes p) b)) x.is
      ∙ ap (λ (t : ℕ). f x.bit t) y.is;
}

and_of_bits : (u v : ℕ) → u < 2 → v < 2 → min u v ≡ bit_and u v
and_of_bits u v p q = elim (bit_cases u p) [
  | inl e ↦ elim (bit_cases v q) [ inl f ↦ rw (e, f) refl | inr f ↦ rw (e, f) refl ]
  | inr e ↦ elim (bit_cases v q) [ inl f ↦ rw (e, f) refl | inr f ↦ rw (e, f) refl ]
]

-- a bit of a product
pub bit_at-and : (a b i : ℕ) → bit_at (bit_and a b) i ≡ bit_and (bit_at a i) (bit_at b i)
bit_at-and a b i = bit_at_and a b i ∙ and_of_bits (bit_at a i) (bit_at b i) (bit_at-lt a i) (bit_at-lt b i)

-- the sum and the product of planes
unfoldable pub xored : {p b : ℕ} → p < 16 → Plane p b → Plane p b → Plane p b
unfolding both
xored h x y = both bit_xor h bit_at-xor x y

unfoldable pub anded : {p b : ℕ} → p < 16 → Plane p b → Plane p b → Plane p b
unfolding both
anded h x y = both bit_and h bit_at-and x y

-- a byte of ones has each bit
pub ones_at : (b : ℕ) → b < 8 → bit_at 255 b ≡ 1
ones_at zero h = refl
ones_at (suc zero) h = refl
ones_at (suc (suc zero)) h = refl
ones_at (suc (suc (suc zero))) h = refl
ones_at (suc (suc (suc (suc zero)))) h = refl
ones_at (suc (suc (suc (suc (suc zero))))) h = refl
ones_at (suc (suc (suc (suc (suc (suc zero)))))) h = refl
ones_at (suc (suc (suc (suc (suc (suc (suc zero))))))) h = refl
ones_at (suc (suc (suc (suc (suc (suc (suc (suc b)))))))) h = absurd (let f : ⊥ = omega (arith, h) in f)

unfoldable pub ones : (p b : ℕ) → p < 16 → b < 8 → Plane p b
ones p b h k = record {
  lanes = replicate 16 255;
  bit = 1;
  size = refl;
  is = ap (λ (n : ℕ). bit_at n b) (get_or-replicate 16 p 255 0 h) ∙ ones_at b k;
}

zero_at : (p b : ℕ) → bit_at (slice_index [] p) b ≡ 0
zero_at p b = omega arith

-- bits of a number, from the lowest on
abbrev pub bits_of : ℕ → List ℕ
bits_of n = bit_at n 0 ∷ bit_at n 1 ∷ bit_at n 2 ∷ bit_at n 3 ∷ bit_at n 4 ∷ bit_at n 5 ∷ bit_at n 6 ∷ bit_at n 7 ∷ []

at_bits_of : (n j : ℕ) → j < 8 → slice_index (bits_of n) j ≡ bit_at n j
at_bits_of n zero h = refl
at_bits_of n (suc zero) h = refl
at_bits_of n (suc (suc zero)) h = refl
at_bits_of n (suc (suc (suc zero))) h = refl
at_bits_of n (suc (suc (suc (suc zero)))) h = refl
at_bits_of n (suc (suc (suc (suc (suc zero))))) h = refl
at_bits_of n (suc (suc (suc (suc (suc (suc zero)))))) h = refl
at_bits_of n (suc (suc (suc (suc (suc (suc (suc zero))))))) h = refl
at_bits_of n (suc (suc (suc (suc (suc (suc (suc (suc j)))))))) h = absurd (let f : ⊥ = omega (arith, h) in f)

-- planes of which the bits of byte p of block b are those of n
pub record Section (p b : ℕ) (planes : List (List ℕ)) (n : ℕ) : Type 0 where
  pub ps : List (Plane p b)
  pub count : length ps ≡ 8
  pub lanes : map (λ x. x.lanes) ps ≡ planes
  pub bits : map (λ x. x.bit) ps ≡ bits_of n

size_at : {p b : ℕ} (ps : List (Plane p b)) (j : ℕ) → j < length ps
    → length (slice_index_or (map (λ x. x.lanes) ps) j []) ≡ 16
size_at [] j h = absurd (let f : ⊥ = omega (arith, h) in f)
size_at (x ∷ ps) zero h = x.size
size_at (x ∷ ps) (suc j) h = size_at ps j (omega (arith, h))

bit_read : {p b : ℕ} (ps : List (Plane p b)) (j : ℕ) → j < length ps
    → bit_at (slice_index (slice_index_or (map (λ x. x.lanes) ps) j []) p) b ≡ slice_index (map (λ x. x.bit) ps) j
bit_read [] j h = absurd (let f : ⊥ = omega (arith, h) in f)
bit_read (x ∷ ps) zero h = x.is
bit_read (x ∷ ps) (suc j) h = bit_read ps j (omega (arith, h))

section_size : (p b n j : ℕ) (planes : List (List ℕ)) → Section p b planes n → j < 8
    → length (slice_index_or planes j []) ≡ 16
section_size p b n j planes s h =
    ap (λ (v : List (List ℕ)). length (slice_index_or v j [])) (sym s.lanes)
    ∙ size_at s.ps j (subst (λ (m : ℕ). j < m) (sym s.count) h)

section_bit : (p b n j : ℕ) (planes : List (List ℕ)) → Section p b planes n → j < 8
    → bit_at (slice_index (slice_index_or planes j []) p) b ≡ bit_at n j
section_bit p b n j planes s h =
    ap (λ (v : List (List ℕ)). bit_at (slice_index (slice_index_or v j []) p) b) (sym s.lanes)
    ∙ bit_read s.ps j (subst (λ (m : ℕ). j < m) (sym s.count) h)
    ∙ ap (λ (v : List ℕ). slice_index v j) s.bits
    ∙ at_bits_of n j h

-- planes hold what their sections are
pub holds_of : (planes : List (List ℕ)) (f : ℕ → ℕ → ℕ)
    → ((b p : ℕ) → b < 8 → p < 16 → f b p < 256)
    → ((b p : ℕ) → b < 8 → p < 16 → Section p b planes (f b p))
    → Holds planes f
holds_of planes f bytes sections = record {
  size = λ j h. section_size 0 0 (f 0 0) j planes (sections 0 0 (omega arith) (omega arith)) h;
  byte = bytes;
  bit = λ j b p h k l. section_bit p b (f b p) j planes (sections b p k l) h;
}

-- plane j of what is held, at bit b of byte p
unfoldable pub plane_at : {q : List (List ℕ)} {f : ℕ → ℕ → ℕ} → Holds q f → (b p j : ℕ) → b < 8 → p < 16 → j < 8 → Plane p b
plane_at {q} {f} h b p j k l m = record {
  lanes = slice_index_or q j [];
  bit = bit_at (f b p) j;
  size = h.size j m;
  is = h.bit j b p m k l;
}

-- the eight of them
unfoldable pub planes_at : {q : List (List ℕ)} {f : ℕ → ℕ → ℕ} → Holds q f → (b p : ℕ) → b < 8 → p < 16 → List (Plane p b)
planes_at h b p k l =
    plane_at h b p 0 k l (omega arith) ∷ plane_at h b p 1 k l (omega arith) ∷ plane_at h b p 2 k l (omega arith)
    ∷ plane_at h b p 3 k l (omega arith) ∷ plane_at h b p 4 k l (omega arith) ∷ plane_at h b p 5 k l (omega arith)
    ∷ plane_at h b p 6 k l (omega arith) ∷ plane_at h b p 7 k l (omega arith) ∷ []

-- what is the same at each byte is held too
pub holds_same : (q : List (List ℕ)) (f g : ℕ → ℕ → ℕ) → Holds q f → ((b p : ℕ) → b < 8 → p < 16 → f b p ≡ g b p) → Holds q g
holds_same q f g h e = record {
  size = h.size;
  byte = λ b p k l. subst (λ (n : ℕ). n < 256) (e b p k l) (h.byte b p k l);
  bit = λ j b p m k l. h.bit j b p m k l ∙ ap (λ (n : ℕ). bit_at n j) (e b p k l);
}
