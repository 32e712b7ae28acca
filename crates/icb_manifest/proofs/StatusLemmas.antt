-- Which numbers are a status.
use Rattle.std.proofs.Common.{◌≡◌, zero, suc, ℤ, pos, negsuc, Err, refl}
use Rattle.icb_manifest.specs.Entries.{is_status}

-- another number is none
pub no_status : (z : ℤ) → (z ≡ pos 0 → ⊥) → (z ≡ pos 1 → ⊥) → (z ≡ pos 2 → ⊥) → is_status z ≡ Err (pos 0)
no_status (pos zero) a b c = absurd (a refl)
no_status (pos (suc zero)) a b c = absurd (b refl)
no_status (pos (suc (suc zero))) a b c = absurd (c refl)
no_status (pos (suc (suc (suc n)))) a b c = refl
no_status (negsuc n) a b c = refl
