-- Laws of the definitions: what is read was spelled, and what is spelled is read.
use Rattle.std.specs.Prelude.{◌≡◌, ℕ, ◌∷◌, List, length, Ok, IsTrue}
use Rattle.icb_base.specs.KeyMetadata.{KeyRecord, is_key_length}
use Rattle.icb_avro.specs.Spelling.{Spells}
use Rattle.icb_keymeta.specs.Decoded.{key_metadata_of}
use Rattle.icb_keymeta.specs.Encoded.{record_shape, record_value}

-- the bytes are the version 1 and a spelling of the record, whose key is an AES key
pub record SpellsMetadata (meta : KeyRecord) (all : List ℕ) : Type 0 where
  pub spelling : List ℕ
  pub versioned : all ≡ 1 ∷ spelling
  pub spelled : Spells record_shape (record_value meta) spelling
  pub key_length : IsTrue (is_key_length (length meta.key))

-- What is read was spelled by all of the bytes.
abbrev pub WhatIsReadWasSpelled : Type 0
WhatIsReadWasSpelled =
    (meta : KeyRecord) (all : List ℕ) → key_metadata_of all ≡ Ok meta → SpellsMetadata meta all

-- What is spelled is read, whatever its numbers' length.
abbrev pub WhatIsSpelledIsRead : Type 0
WhatIsSpelledIsRead =
    (meta : KeyRecord) (all : List ℕ) → SpellsMetadata meta all → key_metadata_of all ≡ Ok meta
