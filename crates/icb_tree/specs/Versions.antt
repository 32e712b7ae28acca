-- The versions of a table and which of them is current (Apache Iceberg Table Spec, "File System
-- Tables"; the limits are ours, docs/FORMATS.md).
use Rattle.std.specs.Prelude.{ℕ, suc, zero, ◌+◌, ◌-◌, ◌==◌, nat_lt, Bool, if◌then◌else◌, List, ◌++◌}
use Rattle.std.specs.Prelude.{length, codes, decimal, Option, Some, None, is_some, Result, Ok, Err}
use Rattle.serde_json.specs.Data.{Data}
use Rattle.icb_base.specs.Objects.{Objects, object_at}
use Rattle.icb_base.specs.declared.limits.Limited.TheVariants as limit
use Rattle.icb_meta.specs.Shown.{meta_of}
use Rattle.icb_meta.specs.declared.fields.Fields.{Fields}
use Rattle.icb_tree.specs.declared.fault.CurrentFault.{CurrentFault}
use Rattle.icb_tree.specs.declared.fault.CurrentFault.TheVariants as fault

-- where the metadata of version n is
abbrev pub version_path : ℕ → List ℕ
version_path n = codes "metadata/v" ++ decimal n ++ codes ".metadata.json"

-- version n is held
abbrev pub holds_version : Objects → ℕ → Bool
holds_version files n = is_some (object_at files (version_path n))

-- the first version from n on that isn't held, among so many
unfoldable pub first_free : Objects → ℕ → ℕ → Option ℕ
first_free files zero n = None
first_free files (suc more) n =
    if holds_version files n then first_free files more (n + 1) else Some n

-- the most versions that a table may have
abbrev pub most_versions : ℕ
most_versions = 1000000

-- the version before the first that isn't held; none where that is version 1, and a refusal where
-- there are too many
abbrev pub last_of : Option ℕ → Result ℕ CurrentFault
last_of None = Err (fault.Limit limit.Versions most_versions)
last_of (Some free) = if free == 1 then Err fault.NoTable else Ok (free - 1)

-- the current version
unfoldable pub last_version : Objects → Result ℕ CurrentFault
last_version files = last_of (first_free files 1000001 1)

-- the most bytes that metadata may have
abbrev pub most_bytes : ℕ
most_bytes = 67108864

-- a text that isn't too long
abbrev pub short_text : Option (List ℕ) → Result (List ℕ) CurrentFault
short_text None = Err fault.NoTable
short_text (Some text) =
    if nat_lt most_bytes (length text) then Err (fault.Limit limit.Metadata most_bytes)
    else Ok text

-- the text of version n
abbrev pub text_of : Objects → ℕ → Result (List ℕ) CurrentFault
text_of files n = short_text (object_at files (version_path n))

infixl 10 ◌>>=◌
-- what comes next, where nothing is refused
abbrev pub ◌>>=◌ : {A B : Type 0} → Result A CurrentFault → (A → Result B CurrentFault)
    → Result B CurrentFault
(Ok x) >>= f = f x
(Err refused) >>= f = Err refused

-- the metadata that a text shows, or its first refused field
abbrev pub meta_in : List ℕ → Result (Data × Fields) CurrentFault
meta_in text = read (meta_of text)
  where
    read : Result (Data × Fields) (List ℕ) → Result (Data × Fields) CurrentFault
    read (Ok shown) = Ok shown
    read (Err field) = Err (fault.BadMeta field)

-- the metadata of version n
abbrev pub version_of : Objects → ℕ → Result (Data × Fields) CurrentFault
version_of files n = text_of files n >>= meta_in

-- the current version and its metadata, or the first refusal
abbrev pub current_of : Objects → Result (ℕ × (Data × Fields)) CurrentFault
current_of files = do
  n ← last_version files
  shown ← version_of files n
  Ok (n, shown)
