-- What a turn draws, seals and puts: a data file, a manifest or a list.
use Rattle.std.specs.Prelude.{◌≡◌, ℕ, List, [], ◌++◌, length, Bool, true, false, Result, Ok, Err}
use Rattle.std.specs.Prelude.{IsOk}
use Rattle.icb_base.specs.Calls.{DrawsText, PutsPath}
use Rattle.icb_base.specs.KeyMetadata.{KeyRecord}
use Rattle.icb_base.specs.declared.limits.Limited.TheVariants as limit
use Rattle.icb_base.specs.declared.storage.Failed.{Failed}
use Rattle.icb_base.specs.declared.storage.Store as store
use Rattle.icb_base.specs.declared.transfer.Draws as draws
use Rattle.icb_container.specs.Blocks.{max_block}
use Rattle.icb_seal.specs.Keys.{FileKeyValue, key_bytes}
use Rattle.icb_seal.specs.declared.file_key.KeySize.{KeySize}
use Rattle.icb_append.specs.declared.fresh.Fresh.{Fresh}
use Rattle.icb_turns.specs.declared.fault.JobFault.{JobFault}
use Rattle.icb_turns.specs.declared.fault.JobFault.TheVariants as fault

-- ---- what is drawn

-- a file's key has this size, and its marker 16 bytes
pub record IsFresh (size : KeySize) (key : FileKeyValue) (marker : List ℕ) : Type 0 where
  pub key_length : length key.key ≡ key_bytes size
  pub seed_length : length key.seed ≡ 8
  pub marker_length : length marker ≡ 16

-- the bytes that were drawn for a file: its key's, those for nonces, and the marker
abbrev pub drawn_of : Result Fresh Failed → List ℕ
drawn_of (Ok fresh) = (fresh.key.key ++ fresh.key.seed) ++ fresh.marker
drawn_of (Err failed) = []

-- ---- what is put

-- a put is done, its path is taken, or the store failed
abbrev pub AnswersPut : List ℕ → Result (Unit {0}) JobFault → Type 0
AnswersPut path (Ok done) = Unit {0}
AnswersPut path (Err fault.Store) = Unit {0}
AnswersPut path (Err (fault.NameTaken taken)) = taken ≡ path
AnswersPut path (Err other) = ⊥

-- What is answered of a file that may be put with a marker, or may not, and of which something is
-- said where it is put: it is made wherever a put was tried.
abbrev pub AnswersFile : {A : Type 0} → List ℕ
    → (FileKeyValue → List ℕ → List ℕ → KeyRecord → Type 0) → (List ℕ → Bool)
    → (KeyRecord → ℕ → A → Type 0) → FileKeyValue → List ℕ → List ℕ → KeyRecord
    → Result A JobFault → Type 0
AnswersFile path makes may says key marker object meta (Ok said) = (may marker ≡ true)
    × makes key marker object meta × says meta (length object) said
AnswersFile path makes may says key marker object meta (Err fault.Store) =
    (may marker ≡ true) × makes key marker object meta
AnswersFile path makes may says key marker object meta (Err (fault.NameTaken taken)) =
    (taken ≡ path) × (may marker ≡ true) × makes key marker object meta
AnswersFile path makes may says key marker object meta (Err (fault.Limit what number)) =
    (may marker ≡ false) × (what ≡ limit.Block) × (number ≡ max_block)
AnswersFile path makes may says key marker object meta (Err fault.Random) = Unit {0}
AnswersFile path makes may says key marker object meta (Err fault.NoMemory) = Unit {0}
AnswersFile path makes may says key marker object meta (Err other) = ⊥

-- a key and a marker were drawn, and more came of it
abbrev pub WentOn : {A : Type 0} → Result A JobFault → Type 0
WentOn (Err fault.Random) = ⊥
WentOn (Err fault.NoMemory) = ⊥
WentOn answer = Unit {0}

-- A turn that puts a file: a key and a marker are drawn, the object is made of them, and it is put
-- where none is held; each refusal has its cause, and what failed to be put may have been put.
pub record PutsFile {S D A : Type 0} (of : store.Ghosts S) (from : draws.Ghosts D)
    (size : KeySize) (path : List ℕ)
    (makes : FileKeyValue → List ℕ → List ℕ → KeyRecord → Type 0) (may : List ℕ → Bool)
    (says : KeyRecord → ℕ → A → Type 0) (result : Result A JobFault) (before now : S)
    (unused used : D) : Type 0 where
  pub key : FileKeyValue
  pub marker : List ℕ
  pub object : List ℕ
  pub meta : KeyRecord
  pub draws : DrawsText from ((key.key ++ key.seed) ++ marker) (result ≡ Err fault.Random)
      unused used
  pub fresh : WentOn result → IsFresh size key marker
  pub puts : PutsPath of path object (IsOk result) (result ≡ Err (fault.NameTaken path))
      (result ≡ Err fault.Store) before now
  pub answers : AnswersFile path makes may says key marker object meta result
