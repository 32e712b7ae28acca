-- The sum that a hash under way keeps.
use Rattle.std.specs.Prelude.{◌≡◌, ℕ, ◌*◌, ◌/◌, List, length}
use Rattle.icb_ghash.specs.Ghash.{sum_of_powers, blocks}

-- under the polynomial h, this is the sum of the message's blocks times powers of h; the message is
-- whole blocks
pub record IsSumOf (h total : ℕ) (message : List ℕ) : Type 0 where
  pub whole : length message ≡ 16 * (length message / 16)
  pub sum : total ≡ sum_of_powers h (blocks (length message / 16) message)
