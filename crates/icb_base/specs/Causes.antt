-- Why a call of the outside may fail: only where that object's own count of faults rose in the
-- call.
use Rattle.std.specs.Prelude.{ℕ, ◌+◌, ◌-◌, ◌^◌, ◌≤◌, ◌≡◌, min, Result, IsErr}

-- a count rose, or it stands at the greatest number of 64 bits, past which it can't rise
abbrev pub Rose : ℕ → ℕ → Type 0
Rose before now = min (before + 1) (2 ^ 64 - 1) ≤ now

-- a count never falls; it rose where calls ended with this fault, and else it stayed
pub record Blames (fault : Type 0) (before now : ℕ) : Type 0 where
  pub later : before ≤ now
  pub rose : fault → Rose before now
  pub stays : (fault → ⊥) → now ≡ before

-- a call fails exactly where it raised the count
abbrev pub HasCause : {T E : Type 0} → ℕ → ℕ → Result T E → Type 0
HasCause before now result = Blames (IsErr result) before now
