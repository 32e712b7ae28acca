-- What a hash under way stands for.
use Rattle.std.specs.Prelude.{◌≡◌, ℕ, List}
use Rattle.icb_ghash.specs.Sums.{IsSumOf}
use Rattle.icb_ghash.specs.declared.hash.Ghash.{Ghash}

-- the hash under way, under the polynomial h, has taken in this message, which is whole blocks
pub record Holds (h : ℕ) (hash : Ghash) (message : List ℕ) : Type 0 where
  pub key : hash.key.now ≡ h
  pub sum : IsSumOf h hash.sum message
