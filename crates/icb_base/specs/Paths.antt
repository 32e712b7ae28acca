-- Which texts name an object of a table (ours: docs/FORMATS.md, "Object paths").
use Rattle.std.specs.Prelude.{ℕ, Bool, not, ◌&&◌, ◌||◌, ◌==◌, nat_le, nat_lt, nat_eq, List, [], ◌∷◌}
use Rattle.std.specs.Prelude.{length, codes}
use Rattle.std.specs.List.{list_all, list_any, slice_split}
use Rattle.std.specs.Cmp.Lexicographic.{pointwise}

-- a letter, a digit or one of . _ - / = % +
abbrev pub is_path_byte : ℕ → Bool
is_path_byte b =
    (nat_le 65 b && nat_le b 90) || (nat_le 97 b && nat_le b 122) || (nat_le 48 b && nat_le b 57)
    || list_any (λ sign. b == sign) (codes "._-/=%+")

-- the part between two slashes is neither empty nor the folder itself nor the one above
abbrev pub is_path_part : List ℕ → Bool
is_path_part part =
    not (list_any (λ name. pointwise nat_eq part name) ([] ∷ codes "." ∷ codes ".." ∷ []))

-- an object path: 1 to 1,000 path bytes, each part between slashes a name
abbrev pub is_object_path : List ℕ → Bool
is_object_path text =
    (nat_lt 0 (length text) && nat_le (length text) 1000)
    && list_all is_path_byte text && list_all is_path_part (slice_split (λ b. b == 47) text)
