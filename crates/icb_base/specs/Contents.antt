-- What is known of the bytes behind a reader: for each place a byte, or none where it isn't there.
use Rattle.std.specs.Prelude.{ℕ, ◌≡◌, List, [], ◌∷◌, length, take, drop, map, Option, Some, None}

-- the file has as many places as are spoken of, and at each place the byte that is known there
abbrev pub FillsKnown : List (Option ℕ) → List ℕ → Type 0
FillsKnown [] [] = Unit {0}
FillsKnown (None ∷ known) (b ∷ file) = FillsKnown known file
FillsKnown (Some a ∷ known) (b ∷ file) = (a ≡ b) × FillsKnown known file
FillsKnown [] (b ∷ file) = ⊥
FillsKnown (k ∷ known) [] = ⊥

-- these bytes are the part from a place on, and each of them is known
abbrev pub HasPart : List (Option ℕ) → ℕ → List ℕ → Type 0
HasPart known at part = map Some part ≡ take (length part) (drop at known)

-- what is known is known of the other too: they have as many places, and each byte known here is
-- the byte known there
abbrev pub KnowsNoMore : List (Option ℕ) → List (Option ℕ) → Type 0
KnowsNoMore [] [] = Unit {0}
KnowsNoMore (None ∷ known) (k ∷ all) = KnowsNoMore known all
KnowsNoMore (Some a ∷ known) (k ∷ all) = (k ≡ Some a) × KnowsNoMore known all
KnowsNoMore [] (k ∷ all) = ⊥
KnowsNoMore (k ∷ known) [] = ⊥
