-- The ten entries, computed.
use Rattle.std.proofs.Common.{◌≡◌, refl, ℕ, zero, suc, ◌-◌, ◌≤◌, get_or, arith}
use Rattle.icb_aes.specs.Columns.{word_of}
use Rattle.icb_aes.specs.Field.{sum_below, polynomial_product, remainder, product, power_of_x}
use Rattle.icb_aes.specs.Fips197.{round_constant}
use Rattle.icb_aes.specs.declared.tables.TheConstants.{ROUND_CONSTANTS}
use Rattle.icb_aes.proofs.tables.round_constant.Goals as goal

constant_at : (i : ℕ) → 1 ≤ i → i ≤ 10 → word_of (get_or ROUND_CONSTANTS (i - 1) 0) ≡ round_constant i
unfolding word_of round_constant power_of_x product polynomial_product remainder sum_below
constant_at zero p q = absurd (let f : ⊥ = omega (arith, p) in f)
constant_at (suc zero) p q = refl
constant_at (suc (suc zero)) p q = refl
constant_at (suc (suc (suc zero))) p q = refl
constant_at (suc (suc (suc (suc zero)))) p q = refl
constant_at (suc (suc (suc (suc (suc zero))))) p q = refl
constant_at (suc (suc (suc (suc (suc (suc zero)))))) p q = refl
constant_at (suc (suc (suc (suc (suc (suc (suc zero))))))) p q = refl
constant_at (suc (suc (suc (suc (suc (suc (suc (suc zero)))))))) p q = refl
constant_at (suc (suc (suc (suc (suc (suc (suc (suc (suc zero))))))))) p q = refl
constant_at (suc (suc (suc (suc (suc (suc (suc (suc (suc (suc zero)))))))))) p q = refl
constant_at (suc (suc (suc (suc (suc (suc (suc (suc (suc (suc (suc i))))))))))) p q = absurd (let f : ⊥ = omega (arith, q) in f)

pub returns : goal.returns
returns c = constant_at c.args.i c.requires.from_1 c.requires.to_10
