-- Which bytes are key metadata (Iceberg, "Standard Key Metadata"; Apache Avro 1.11, "Binary
-- Encoding"): the version 1, the record of a key, a prefix and a length, and nothing behind it.
use Rattle.std.specs.Prelude.{ℕ, ◌-◌, ◌==◌, ℤ, pos, negsuc, List, [], ◌∷◌, length, if◌then◌else◌}
use Rattle.std.specs.Prelude.{Option, Some, None, Result, Ok, Err}
use Rattle.icb_base.specs.KeyMetadata.{KeyRecord, is_key_length}
use Rattle.icb_avro.specs.Reading.{Read, bytes_at, index_at, long_at}

-- what is read and the bytes behind it, or how many bytes are left from the refused item on
abbrev pub Item : Type 0 → Type 0
Item A = Result (A × List ℕ) ℕ

infixl 10 ◌>>=◌
-- what comes next, where nothing is refused
abbrev pub ◌>>=◌ : {A B : Type 0} → Result A ℕ → (A → Result B ℕ) → Result B ℕ
(Ok x) >>= f = f x
(Err left) >>= f = Err left

-- the item that begins here is refused
abbrev pub refuse : {A : Type 0} → List ℕ → Result A ℕ
refuse all = Err (length all)

-- an item of Avro
abbrev pub avro : {A : Type 0} → Read A → Item A
avro (Ok x) = Ok x
avro (Err refusal) = Err refusal.left

-- bytes that are an AES key
abbrev pub key_of : List ℕ → List ℕ × List ℕ → Item (List ℕ)
key_of all key = if is_key_length (length key.0) then Ok key else refuse all

-- the field `encryption_key`: bytes
unfoldable pub key_at : List ℕ → Item (List ℕ)
key_at all = avro (bytes_at all) >>= key_of all

-- a number that isn't below 0
abbrev pub length_of : List ℕ → ℤ × List ℕ → Item ℕ
length_of all (pos n, rest) = Ok (n, rest)
length_of all (negsuc n, rest) = refuse all

-- a length: a long
unfoldable pub length_at : List ℕ → Item ℕ
length_at all = avro (long_at all) >>= length_of all

-- what is read is there
abbrev pub there : {A : Type 0} → Item A → Item (Option A)
there item = item >>= (λ x. Ok (Some x.0, x.1))

-- a union of null and another type: branch 0 is null, and branch 1 the other
unfoldable pub optional_at : {A : Type 0} → (List ℕ → Item A) → List ℕ → Item (Option A)
optional_at item all = avro (index_at 2 all) >>= (λ branch.
    if branch.0 == 0 then Ok (None, branch.1) else there (item branch.1))

-- the fields in order: `encryption_key`, `aad_prefix` (null or bytes), `file_length` (null or long)
unfoldable pub record_at : List ℕ → Item KeyRecord
record_at all = key_at all >>= (λ key.
    optional_at (λ rest. avro (bytes_at rest)) key.1 >>= (λ prefix.
    optional_at length_at prefix.1 >>= (λ told.
    Ok (record { key = key.0; prefix = prefix.0; length_told = told.0 }, told.1))))

-- nothing stands behind it
abbrev pub alone : {A : Type 0} → A × List ℕ → Result A ℕ
alone (x, []) = Ok x
alone (x, b ∷ rest) = refuse (b ∷ rest)

-- the version 1, and the record
unfoldable pub versioned_at : List ℕ → Result KeyRecord ℕ
versioned_at [] = refuse []
versioned_at (b ∷ rest) = if b == 1 then record_at rest >>= alone else refuse (b ∷ rest)

-- the place of an item, in bytes from the first, where so many of all are left from it on
abbrev pub placed : {A : Type 0} → List ℕ → Result A ℕ → Result A ℕ
placed all (Ok x) = Ok x
placed all (Err left) = Err (length all - left)

-- the key metadata that the bytes are, or the place where the first refused item begins
unfoldable pub key_metadata_of : List ℕ → Result KeyRecord ℕ
key_metadata_of all = placed all (versioned_at all)
