-- How often a store was asked for a path, and how many bytes it moved there.
use Rattle.std.specs.Prelude.{ℕ, ◌+◌, ◌-◌, ◌^◌, ◌≤◌, ◌≡◌, ◌≢◌, max, min, List, Option, Some, None}
use Rattle.std.specs.Prelude.{Result, MatchResult, IsSome}
use Rattle.icb_base.specs.Objects.{Objects, object_at}

-- a number raised by some more, up to the greatest of 64 bits; it never falls
abbrev pub raised : ℕ → ℕ → ℕ
raised before more = max before (min (before + more) (2 ^ 64 - 1))

-- a path's number rises by so much where the path is held, and every other number stays
pub record IsRaised (files : Objects) (path : List ℕ) (more : ℕ)
    (before now : List ℕ → ℕ) : Type 0 where
  pub others : (other : List ℕ) → other ≢ path → now other ≡ before other
  pub absent : object_at files path ≡ None → now path ≡ before path
  pub held : IsSome (object_at files path) → now path ≡ raised (before path) more

-- a path's number may rise by at most so much where the path is held, and every other number stays
pub record MayBeRaised (files : Objects) (path : List ℕ) (most : ℕ)
    (before now : List ℕ → ℕ) : Type 0 where
  pub others : (other : List ℕ) → other ≢ path → now other ≡ before other
  pub absent : object_at files path ≡ None → now path ≡ before path
  pub later : before path ≤ now path
  pub at_most : now path ≤ before path + most

-- one call asked for a path: its number rises by so much, and by at most that where the call fails
abbrev pub IsCounted : {T E : Type 0} → Objects → List ℕ → ℕ → Result T E → (List ℕ → ℕ)
    → (List ℕ → ℕ) → Type 0
IsCounted files path more result before now =
    MatchResult result (λ _. IsRaised files path more before now)
    (λ _. MayBeRaised files path more before now)

-- calls were counted on one path only, at most so many, and no number fell
pub record CountsOnly (path : List ℕ) (most : ℕ) (before now : List ℕ → ℕ) : Type 0 where
  pub others : (other : List ℕ) → other ≢ path → now other ≡ before other
  pub later : before path ≤ now path
  pub at_most : now path ≤ before path + most

-- a removal changes one path's number only: the number of an object that stays may rise by at most
-- so much, and the law that nothing is counted where nothing is held says the rest
pub record Uncounts (files : Objects) (path : List ℕ) (most : ℕ) (held : Option Objects)
    (before now : List ℕ → ℕ) : Type 0 where
  pub others : (other : List ℕ) → other ≢ path → now other ≡ before other
  pub stayed : held ≡ Some files → MayBeRaised files path most before now

-- a path that isn't held has no number yet
abbrev pub IsUncounted : Objects → (List ℕ → ℕ) → Type 0
IsUncounted files counts = (path : List ℕ) → object_at files path ≡ None → counts path ≡ 0
