-- A manifest or a list that is sealed (the limit is ours: docs/FORMATS.md, "Limits").
use Rattle.std.specs.Prelude.{◌≡◌, ℕ, Bool, true, false, ◌&&◌, nat_le, List, [], length, Some}
use Rattle.std.specs.Prelude.{Result, Ok, Err}
use Rattle.icb_base.specs.KeyMetadata.{KeyRecord}
use Rattle.icb_base.specs.Paths.{is_object_path}
use Rattle.icb_base.specs.declared.storage.Store as store
use Rattle.icb_base.specs.declared.transfer.Draws as draws
use Rattle.icb_seal.specs.Keys.{FileKeyValue}
use Rattle.icb_stream.specs.Sealing.{IsStreamOf, stream_bytes}
use Rattle.icb_container.specs.Header.{max_header}
use Rattle.icb_records.specs.Laws.{max_record}
use Rattle.icb_append.specs.Puts.{PutsFile}
use Rattle.icb_append.specs.declared.fault.SealFault.{SealFault}
use Rattle.icb_append.specs.declared.fault.SealFault.TheVariants as seal
use Rattle.icb_append.specs.declared.fresh.Fresh.{Fresh}
use Rattle.icb_append.specs.declared.sealing.SealedData.{SealedData}
use Rattle.icb_append.specs.declared.settings.Settings.{Settings}
use Rattle.icb_turns.specs.declared.fault.JobFault.{JobFault}

-- The object of a file, with its key metadata: the stream of a plaintext, sealed under a key that
-- was drawn, with its path, which is one of an object, in each block's additional data.
pub record IsSealed (block : ℕ) (path plain : List ℕ) (key : FileKeyValue) (object : List ℕ)
    (meta : KeyRecord) : Type 0 where
  pub bytes : stream_bytes key.key path key.seed block plain ≡ Some object
  pub own : meta ≡ record {
    key = key.key;
    prefix = Some path;
    length_told = Some (length object);
  }
  pub stream : IsStreamOf meta plain block object
  pub is_path : is_object_path path ≡ true

-- a manifest or a list has at most as many bytes as a record of it may have, and its header, which
-- is the file without records, at most as many as a reader takes
abbrev pub is_short : List ℕ → List ℕ → Bool
is_short header plain = nat_le (length header) max_header && nat_le (length plain) max_record

-- a plaintext with this header is sealed, or it is too long
abbrev pub Seals : ℕ → List ℕ → List ℕ → List ℕ → FileKeyValue → Result SealedData SealFault
    → Type 0
Seals block path header plain key (Ok sealed) =
    (is_short header plain ≡ true) × IsSealed block path plain key sealed.object sealed.meta
Seals block path header plain key (Err seal.Limit) = is_short header plain ≡ false
Seals block path header plain key (Err seal.NoMemory) = Unit {0}

-- the records of a file with this marker may be put: the file with them is short
abbrev pub may_be_put : {R : Type 0} → (List R → List ℕ → List ℕ) → List R → List ℕ → Bool
may_be_put file records marker = is_short (file [] marker) (file records marker)

-- so it is of the file of records that has the marker that was drawn, and something is said of it
abbrev pub SealsRecords : {R A : Type 0} → ℕ → List ℕ → (List R → List ℕ → List ℕ) → List R
    → (KeyRecord → ℕ → A → Type 0) → Fresh → Result (SealedData × A) SealFault → Type 0
SealsRecords block path file records says fresh (Ok made) =
    (may_be_put file records fresh.marker ≡ true)
    × IsSealed block path (file records fresh.marker) fresh.key made.0.object made.0.meta
    × says made.0.meta (length made.0.object) made.1
SealsRecords block path file records says fresh (Err seal.Limit) =
    may_be_put file records fresh.marker ≡ false
SealsRecords block path file records says fresh (Err seal.NoMemory) = Unit {0}

-- A turn that puts a manifest or a list: its bytes follow from its records and its marker.
abbrev pub PutsRecords : {S D R A : Type 0} → store.Ghosts S → draws.Ghosts D → Settings → List ℕ
    → (List R → List ℕ → List ℕ) → List R → (KeyRecord → ℕ → A → Type 0) → Result A JobFault → S
    → S → D → D → Type 0
PutsRecords of from s path file records says result before now unused used =
    PutsFile of from s.key path
    (λ key marker object meta. IsSealed s.block path (file records marker) key object meta)
    (may_be_put file records) says result before now unused used
