-- The table of the S-box, computed for all 256 bytes. It takes some 20 seconds, so it has a file of its own.
use Rattle.std.proofs.Common.{◌≡◌, refl, ℕ, ◌<◌, true, get_or}
use Rattle.std.proofs.lemmas.Bool.{agree_below_at, eqb-true}
use lib.Dec.{eqb}
use Rattle.icb_aes.specs.Field.{sum_below, polynomial_product, remainder, product, inverse}
use Rattle.icb_aes.specs.Fips197.{affine, sub_byte}
use Rattle.icb_aes.specs.declared.tables.TheConstants.{SBOX}

pub sbox_at : (b : ℕ) → b < 256 → get_or SBOX b 0 ≡ sub_byte b
unfolding sub_byte affine inverse product polynomial_product remainder sum_below
sbox_at b h = eqb-true _ _ (agree_below_at (λ b. eqb (get_or SBOX b 0) (sub_byte b)) (λ _. true) 256 b refl h)
