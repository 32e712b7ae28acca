-- Which numbers are contents.
use Rattle.std.proofs.Common.{◌≡◌, zero, suc, ℤ, pos, negsuc, Err, refl}
use Rattle.icb_list.specs.Rows.{is_content}

-- another number is no content
pub no_content : (z : ℤ) → (z ≡ pos 0 → ⊥) → (z ≡ pos 1 → ⊥) → is_content z ≡ Err (pos 517)
no_content (pos zero) a b = absurd (a refl)
no_content (pos (suc zero)) a b = absurd (b refl)
no_content (pos (suc (suc n))) a b = refl
no_content (negsuc n) a b = refl
