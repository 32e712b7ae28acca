-- The circuit is the S-box: computed for the bits of each byte, and the same of planes as of their bits.
use Rattle.std.proofs.Common.{◌≡◌, refl, sym, ◌∙◌, ap, subst, ℕ, ◌<◌, true, List, []}
use Rattle.std.specs.Prelude.{bit_and, bit_xor, bytes_eq, replicate}
use Rattle.std.specs.List.{slice_index_or}
use Rattle.std.specs.Simd.Lanes.{zip2}
use Rattle.std.proofs.lemmas.Bool.{agree_below_at}
use Rattle.std.proofs.lemmas.Slice.Eq.{bytes_eq-Decides}
use Rattle.icb_aes.specs.Circuit.{inputs, middle, inverted, products, outputs, circuit}
use Rattle.icb_aes.specs.Fips197.{sub_byte}
use Rattle.icb_aes.specs.Planes.{Holds}
use Rattle.icb_aes.specs.declared.tables.TheConstants.{SBOX}
use Rattle.icb_aes.proofs.Bytes.{sub_byte-lt}
use Rattle.icb_aes.proofs.SboxLemmas.{sbox_at}
use Rattle.icb_aes.proofs.PlaneLemmas.{Plane, both, xored, anded, ones, bits_of, Section, holds_of, plane_at, planes_at}

-- the circuit on the bits of a byte, computed for each
circuit_bits : (n : ℕ) → n < 256 → circuit bit_xor bit_and 1 0 (bits_of n) ≡ bits_of (slice_index_or SBOX n 0)
unfolding circuit inputs middle inverted products outputs
circuit_bits n h =
    (bytes_eq-Decides (circuit bit_xor bit_and 1 0 (bits_of n)) (bits_of (slice_index_or SBOX n 0))).0
    (agree_below_at (λ n. bytes_eq (circuit bit_xor bit_and 1 0 (bits_of n)) (bits_of (slice_index_or SBOX n 0))) (λ _. true) 256 n refl h)

-- the circuit on planes and their bits together
abbrev together : {p b : ℕ} → p < 16 → b < 8 → List (Plane p b) → List (Plane p b)
together {p} {b} h k xs = circuit (xored h) (anded h) (ones p b h k) (ones p b h k) xs

pub circuit_section : (q : List (List ℕ)) (f : ℕ → ℕ → ℕ) → Holds q f → (b p : ℕ) → b < 8 → p < 16
    → Section p b (circuit (zip2 bit_xor) (zip2 bit_and) (replicate 16 255) [] q) (sub_byte (f b p))
unfolding circuit inputs middle inverted products outputs both xored anded ones plane_at planes_at
circuit_section q f h b p k l = record {
  ps = together l k (planes_at h b p k l);
  count = refl;
  lanes = refl;
  bits = circuit_bits (f b p) (h.byte b p k l) ∙ ap bits_of (sbox_at (f b p) (h.byte b p k l));
}

-- planes behind the circuit hold the S-box's bytes
pub circuit_holds : (q r : List (List ℕ)) (f : ℕ → ℕ → ℕ)
    → r ≡ circuit (zip2 bit_xor) (zip2 bit_and) (replicate 16 255) [] q
    → Holds q f → Holds r (λ b p. sub_byte (f b p))
circuit_holds q r f e h =
    subst (λ (v : List (List ℕ)). Holds v (λ b p. sub_byte (f b p))) (sym e)
    (holds_of (circuit (zip2 bit_xor) (zip2 bit_and) (replicate 16 255) [] q) (λ b p. sub_byte (f b p))
    (λ b p _ _. sub_byte-lt (f b p)) (λ b p k l. circuit_section q f h b p k l))
