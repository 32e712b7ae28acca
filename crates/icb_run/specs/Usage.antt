-- Words that are no command.
use Rattle.std.specs.Prelude.{ℕ, ◌≡◌, ◌⊎◌}
use Rattle.icb_run.specs.Outside.{Outside}
use Rattle.icb_run.specs.declared.status.Status.{Status}
use Rattle.icb_run.specs.declared.status.Status.TheVariants as status

-- the position of the first word that has no place is answered, and the outside is as it was
pub record IsUsage (word : ℕ) (before now : Outside) (answer : Status) : Type 0 where
  pub position : (answer ≡ status.Usage word) ⊎ (answer ≡ status.NoMemory)
  pub same : now ≡ before
