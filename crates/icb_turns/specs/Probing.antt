-- The search for the current version, one version a turn (ours: docs/FORMATS.md, "Versions").
use Rattle.std.specs.Prelude.{ℕ, ◌+◌, ◌-◌, ◌<◌, ◌≤◌, ◌≡◌, nat_le, nat_lt, Result, Ok, Err}
use Rattle.std.specs.Prelude.{if◌then◌else◌}
use Rattle.icb_base.specs.Objects.{Objects}
use Rattle.icb_base.specs.declared.limits.Limited.TheVariants as limit
use Rattle.icb_tree.specs.Versions.{holds_version, most_versions}
use Rattle.icb_turns.specs.declared.fault.JobFault.{JobFault}
use Rattle.icb_turns.specs.declared.fault.JobFault.TheVariants as fault
use Rattle.icb_turns.specs.declared.probing.Probed.{Probed}
use Rattle.icb_turns.specs.declared.probing.Probed.TheVariants as probed

-- where version n is held: the next one is looked for, unless there are too many
abbrev pub behind_held : ℕ → Result Probed JobFault
behind_held n = if nat_lt most_versions n then Err (fault.Limit limit.Versions most_versions)
    else Ok (probed.Next (n + 1))

-- where version n isn't held: the one before it is current, and there is none before version 1
abbrev pub behind_free : ℕ → Result Probed JobFault
behind_free n = if nat_le n 1 then Err fault.NoTable else Ok (probed.Found (n - 1))

-- what a probe of version n finds
abbrev pub probe_of : Objects → ℕ → Result Probed JobFault
probe_of files n = if holds_version files n then behind_held n else behind_free n

-- what a probe of version n may find, also where the store doesn't tell what it holds
abbrev pub MayFind : ℕ → Result Probed JobFault → Type 0
MayFind n (Ok (probed.Next next)) = (next ≡ n + 1) × (n ≤ most_versions)
MayFind n (Ok (probed.Found current)) = (current + 1 ≡ n) × (1 ≤ current)
MayFind n (Err fault.NoTable) = n ≤ 1
MayFind n (Err (fault.Limit what number)) =
    (most_versions < n) × (what ≡ limit.Versions) × (number ≡ most_versions)
MayFind n (Err fault.Store) = Unit {0}
MayFind n (Err fault.NoMemory) = Unit {0}
MayFind n (Err other) = ⊥
