-- Names of types (Apache Avro 1.11, "Names").
use Rattle.std.specs.Prelude.{ℕ, zero, suc, ◌==◌, List, [], ◌∷◌, ◌++◌, take, length, slice_index}
use Rattle.std.specs.Prelude.{Bool, true, false, not, ◌&&◌, ◌||◌, if◌then◌else◌}
use Rattle.std.specs.List.{list_any}
use Rattle.std.specs.Str.{bytes_eq}

-- the names of a list contain this one
abbrev pub is_among : List ℕ → List (List ℕ) → Bool
is_among name names = list_any (λ n. bytes_eq n name) names

-- no name stands twice
abbrev pub are_distinct : List (List ℕ) → Bool
are_distinct [] = true
are_distinct (n ∷ names) = not (is_among n names) && are_distinct names

-- a name with a dot is a full name
abbrev pub has_dot : List ℕ → Bool
has_dot name = list_any (λ c. c == 46) name

-- the part of the first n bytes before the last dot, which is empty where there is no dot
abbrev pub before_dot : ℕ → List ℕ → List ℕ
before_dot zero name = []
before_dot (suc n) name = if slice_index name n == 46 then take n name else before_dot n name

-- a full name's namespace
unfoldable pub namespace_of : List ℕ → List ℕ
namespace_of name = before_dot (length name) name

-- no text
abbrev pub is_empty : {A : Type 0} → List A → Bool
is_empty [] = true
is_empty (x ∷ xs) = false

-- the full name of a name that stands in a namespace
unfoldable pub full_name : List ℕ → List ℕ → List ℕ
full_name namespace name =
    if has_dot name || is_empty namespace then name else namespace ++ 46 ∷ name
