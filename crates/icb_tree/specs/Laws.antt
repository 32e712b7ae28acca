-- The laws of versions. Their proofs are in `proofs/VersionLemmas.antt`.
use Rattle.std.specs.Prelude.{ℕ, ◌≡◌, ◌≤◌, ◌+◌, ◌↔◌, true, false, Ok, Err}
use Rattle.icb_base.specs.Objects.{Objects}
use Rattle.icb_base.specs.declared.limits.Limited.TheVariants as limit
use Rattle.icb_tree.specs.Versions.{holds_version, last_version, most_versions}
use Rattle.icb_tree.specs.declared.fault.CurrentFault.TheVariants as fault

-- versions 1 to n are held
abbrev pub AreHeld : Objects → ℕ → Type 0
AreHeld files n = (v : ℕ) → 1 ≤ v → v ≤ n → holds_version files v ≡ true

-- the current version is the greatest n such that versions 1 to n are held, and there is one
abbrev pub CurrentIsLast : Type 0
CurrentIsLast = (files : Objects) (n : ℕ) → last_version files ≡ Ok n
    → (1 ≤ n) × AreHeld files n × (holds_version files (n + 1) ≡ false)

-- there is no table exactly where version 1 isn't held
abbrev pub NoTableIsFree : Type 0
NoTableIsFree = (files : Objects) →
    (last_version files ≡ Err fault.NoTable) ↔ (holds_version files 1 ≡ false)

-- there are too many versions exactly where 1,000,001 are held
abbrev pub FullIsHeld : Type 0
FullIsHeld = (files : Objects) →
    (last_version files ≡ Err (fault.Limit limit.Versions most_versions)) ↔ AreHeld files 1000001
