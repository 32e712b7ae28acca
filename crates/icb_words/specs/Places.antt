-- The words that name what lies outside a command's table (ours; README.md of this crate).
use Rattle.std.specs.Prelude.{ℕ, List, [], ◌∷◌, bytes_eq, if◌then◌else◌, slice_get, Option, None}

-- the word behind the first one of this name
abbrev pub word_after : List ℕ → List (List ℕ) → Option (List ℕ)
word_after name [] = None
word_after name (word ∷ rest) =
    if bytes_eq word name then slice_get rest 0 else word_after name rest
