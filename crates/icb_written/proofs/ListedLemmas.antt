-- A written data file is listed as its own record says.
use Rattle.std.proofs.Common.{◌≡◌, ℕ, true, List, [], ◌∷◌, ◌++◌, length, take, drop, Option, Some, None, Ok, refl, ap, ◌∙◌, append_assoc}
use Rattle.std.specs.Prelude.{ℤ, codes, bytes_eq, if◌then◌else◌, option_and_then}
use Rattle.std.proofs.lemmas.Slice.Eq.{bytes_eq-Decides}
use Rattle.icb_base.specs.KeyMetadata.{KeyRecord}
use Rattle.icb_base.specs.Paths.{is_object_path}
use Rattle.icb_keymeta.specs.Decoded.{key_metadata_of}
use Rattle.icb_schema.specs.Reading.{only_if}
use Rattle.icb_types.specs.Words.{after_prefix}
use Rattle.icb_meta.specs.Ids.{resolved}
use Rattle.icb_table.specs.Listed.{length_of, listed, listed_by, said_length}
use Rattle.icb_written.specs.Laws.{WrittenFileIsListed, WrittenManifestIsListed}

-- ---- a path behind a location

take_front : (front rest : List ℕ) → take (length front) (front ++ rest) ≡ front
take_front [] rest = refl
take_front (x ∷ front) rest = ap (λ (b : List ℕ). x ∷ b) (take_front front rest)

drop_front : (front rest : List ℕ) → drop (length front) (front ++ rest) ≡ rest
drop_front [] rest = refl
drop_front (x ∷ front) rest = drop_front front rest

-- what stands behind a prefix
behind_front : (front rest : List ℕ) → after_prefix front (front ++ rest) ≡ Some rest
behind_front front rest =
    let same : bytes_eq (take (length front) (front ++ rest)) front ≡ true = (bytes_eq-Decides (take (length front) (front ++ rest)) front).1 (take_front front rest) in
    rw (same, drop_front front rest) refl

path_found : (location path : List ℕ) → is_object_path path ≡ true → resolved location (location ++ (codes "/" ++ path)) ≡ Some path
unfolding resolved
path_found location path h =
    ap (λ (o : Option (List ℕ)). option_and_then (only_if is_object_path) (option_and_then (after_prefix (codes "/")) o)) (behind_front location (codes "/" ++ path))
    ∙ ap (λ (o : Option (List ℕ)). option_and_then (only_if is_object_path) o) (behind_front (codes "/") path)
    ∙ (let passes : (if is_object_path path then Some path else None) ≡ Some path = rw h refl in passes)

-- ---- the file

length_told : (key : KeyRecord) (size : ℤ) (n : ℕ) → key.length_told ≡ Some n → length_of key (said_length size) ≡ Some n
length_told key size n e = rw e refl

by_parts : (location path full bytes : List ℕ) (place n : ℕ) (key : KeyRecord) (size : ℤ) (own : Option (List ℕ)) → own ≡ Some bytes → full ≡ location ++ (codes "/" ++ path)
    → is_object_path path ≡ true → key_metadata_of bytes ≡ Ok key → key.length_told ≡ Some n → listed_by location place full own size ≡ Ok (listed path key n)
unfolding listed_by
by_parts location path full bytes place n key size own is at h opens told = rw (is, at, path_found location path h, opens, length_told key size n told) refl

pub written_file_is_listed : WrittenFileIsListed
written_file_is_listed location path place n file key bytes h content format full own opens told =
    rw (content, format) (by_parts location path file.path bytes place n key file.size file.key own (full ∙ append_assoc location (codes "/") path) h opens told)

pub written_manifest_is_listed : WrittenManifestIsListed
written_manifest_is_listed location path place n row key bytes h content full own opens told =
    rw content (by_parts location path row.path bytes place n key row.length row.key own (full ∙ append_assoc location (codes "/") path) h opens told)
