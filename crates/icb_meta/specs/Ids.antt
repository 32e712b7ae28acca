-- Object paths and key ids of a table (ours: docs/FORMATS.md).
use Rattle.std.specs.Prelude.{◌≡◌, ℕ, ◌<◌, ◌≤◌, List, ◌++◌, codes, decimal, bytes_eq}
use Rattle.std.specs.Prelude.{Bool, true, false, ◌||◌, Option, Some, None, option_and_then}
use Rattle.std.specs.List.{list_any}
use Rattle.icb_base.specs.Paths.{is_object_path}
use Rattle.icb_schema.specs.Reading.{only_if}
use Rattle.icb_types.specs.Words.{after_prefix}
use Rattle.icb_meta.specs.declared.records.KeyEntry.{KeyEntry}

-- what stands behind a location and `/`
abbrev pub behind : List ℕ → List ℕ → Option (List ℕ)
behind location full =
    option_and_then (after_prefix (codes "/")) (after_prefix location full)

-- the object path behind a location and `/`
unfoldable pub resolved : List ℕ → List ℕ → Option (List ℕ)
resolved location full = option_and_then (only_if is_object_path) (behind location full)

-- the text is this one
abbrev pub is_text : List ℕ → Option (List ℕ) → Bool
is_text id None = false
is_text id (Some name) = bytes_eq name id

-- an entry has the id, or was sealed by the key of that id
abbrev pub names_key : List ℕ → KeyEntry → Bool
names_key id e = bytes_eq e.id id || is_text id e.by

-- an id is an entry's, or that of a key that sealed one, or the master key's
abbrev pub is_taken : List KeyEntry → Option (List ℕ) → List ℕ → Bool
is_taken entries master id = is_text id master || list_any (names_key id) entries

-- `key-N`
abbrev pub key_name : ℕ → List ℕ
key_name n = codes "key-" ++ decimal n

-- `key-N` with the least N from 1 up that isn't taken
abbrev pub IsNextOf : List KeyEntry → Option (List ℕ) → List ℕ → Type 0
IsNextOf entries master id = (n : ℕ) × (1 ≤ n) × (id ≡ key_name n)
    × (is_taken entries master (key_name n) ≡ false)
    × ((m : ℕ) → 1 ≤ m → m < n → is_taken entries master (key_name m) ≡ true)
