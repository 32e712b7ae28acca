-- Numbers above and below 0.
use Rattle.std.proofs.Common.{◌≡◌, ℕ, List, ℤ, pos, negsuc, true, false, Ok, refl, ap, arith, zero, suc}
use Rattle.std.proofs.lemmas.Bool.{ltb-true}
use lib.Signed.{lt_z}
use lib.IntN.{nat_abs}
use Rattle.icb_avro.specs.declared.fault.AvroCause.TheVariants as cause
use Rattle.icb_avro.specs.Reading.{is_zero}
use Rattle.icb_container.specs.Wrong.{refuse}
use Rattle.icb_container.specs.Blocks.{natural}

-- a number that isn't below 0 is the one of its size
pub not_below : (n : ℤ) → lt_z n (pos 0) ≡ false → n ≡ pos (nat_abs n)
not_below (pos k) h = refl
not_below (negsuc k) h = absurd cc

-- a number below 0
pub is_below : (n : ℤ) → lt_z n (pos 0) ≡ true → (k : ℕ) × (n ≡ negsuc k)
is_below (pos k) h = absurd (let f : ⊥ = omega (arith, ltb-true k 0 h) in f)
is_below (negsuc k) h = (k, refl)

-- a count or a size below 0 is refused
pub natural_below : (end : ℕ) (all rest : List ℕ) (n : ℤ) → lt_z n (pos 0) ≡ true → natural end all (n, rest) ≡ refuse end all cause.Negative
natural_below end all rest n h = let k = is_below n h in rw k.1 refl

-- and is the number that it is, where it isn't below 0
pub natural_is : (end : ℕ) (all rest : List ℕ) (n : ℤ) → lt_z n (pos 0) ≡ false → natural end all (n, rest) ≡ Ok (nat_abs n, rest)
natural_is end all rest n h = ap (λ (m : ℤ). natural end all (m, rest)) (not_below n h)

-- a number that isn't 0
pub not_zero : (n : ℤ) → (n ≡ pos 0 → ⊥) → is_zero n ≡ false
not_zero (pos zero) h = absurd (h refl)
not_zero (pos (suc n)) h = refl
not_zero (negsuc n) h = refl
