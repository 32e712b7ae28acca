-- What a store that counts the objects put into another one has counted.
use Rattle.std.specs.Prelude.{ℕ, ◌≡◌, ◌≢◌, ◌≤◌, ◌-◌, Option, IfSome, IsSomeAnd}
use Rattle.std.specs.FinMap.{len}
use Rattle.icb_base.specs.Causes.{Rose}
use Rattle.icb_base.specs.Counts.{raised}
use Rattle.icb_base.specs.Objects.{Objects}

-- what the other store holds, where it tells it, and how often it failed; how many objects were
-- counted, and how many calls that failed
pub record Counted : Type 0 where
  pub held : Option Objects
  pub faults : ℕ
  pub puts : ℕ
  pub failures : ℕ

-- the number of objects rose by those that are held now and weren't before, up to 2^64 - 1
pub record CountsObjects (puts puts_now : ℕ) (files files_now : Objects) : Type 0 where
  pub later : len files ≤ len files_now
  pub count : puts_now ≡ raised puts (len files_now - len files)

-- While no call fails the objects are counted and the other store's faults stay; where the first
-- one fails they rise.
pub record Counts (before now : Counted) : Type 0 where
  pub later : before.failures ≤ now.failures
  pub faults_later : before.faults ≤ now.faults
  pub objects : now.failures ≡ 0 → IfSome before.held (λ files.
      IsSomeAnd now.held (CountsObjects before.puts now.puts files))
  pub stays : now.failures ≡ 0 → now.faults ≡ before.faults
  pub rose : before.failures ≡ 0 → now.failures ≢ 0 → Rose before.faults now.faults
