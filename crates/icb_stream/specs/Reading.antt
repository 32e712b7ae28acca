-- What the calls of a stream answer.
use Rattle.std.specs.Prelude.{◌≡◌, ◌+◌, ◌<◌, ◌⊎◌, ℕ, IsSomeAnd, List, length, take, get_or, Option}
use Rattle.std.specs.Prelude.{Some, None, Result, Ok, Err, IfErr, OnErr, OnOk}
use Rattle.icb_base.specs.KeyMetadata.{KeyRecord}
use Rattle.icb_base.specs.Objects.{Objects}
use Rattle.icb_stream.specs.Layout.{Layout}
use Rattle.icb_stream.specs.Content.{Front, content, front_at}
use Rattle.icb_stream.specs.Opening.{header_of, opening_of}
use Rattle.icb_stream.specs.Asking.{number_held}
use Rattle.icb_stream.specs.Belongs.{StreamValue, BelongsTo}
use Rattle.icb_stream.specs.declared.fault.StreamFault.{StreamFault}
use Rattle.icb_stream.specs.declared.fault.StreamFault.TheVariants.{Store, NoMemory, Missing, Short}
use Rattle.icb_stream.specs.declared.fault.StreamFault.TheVariants.{Block}

-- a stream was opened: it is read as the definition says, and belongs to what the store holds
pub record IsOpened (files : Objects) (path : List ℕ) (meta : KeyRecord) (recorded : ℕ)
    (stream : StreamValue) : Type 0 where
  pub opening : opening_of files path meta recorded ≡ Ok stream.layout
  pub same_path : stream.path ≡ path
  pub belongs : BelongsTo stream files

-- want of memory is free, a fault of the store is said by its count, and every other refusal is the
-- first cause in order
abbrev pub IsRefusal : Result Layout StreamFault → StreamFault → Type 0
IsRefusal opening NoMemory = Unit {0}
IsRefusal opening Store = Unit {0}
IsRefusal opening fault = opening ≡ Err fault

-- what `open` answers over the objects of a store
abbrev pub Opens : Objects → List ℕ → KeyRecord → ℕ → Result StreamValue StreamFault → Type 0
Opens files path meta recorded (Ok stream) = IsOpened files path meta recorded stream
Opens files path meta recorded (Err fault) = IsRefusal (opening_of files path meta recorded) fault

-- why an object doesn't have the recorded length; want of memory and a fault of the store say
-- nothing of it
abbrev pub IsUnfetched : Option (List ℕ) → ℕ → StreamFault → Type 0
IsUnfetched object recorded Missing = object ≡ None
IsUnfetched object recorded (Short size) =
    IsSomeAnd object (λ bytes. (size ≡ length bytes) × (length bytes < recorded))
IsUnfetched object recorded NoMemory = Unit {0}
IsUnfetched object recorded Store = Unit {0}
IsUnfetched object recorded fault = ⊥

-- why the header of an object isn't taken: the first cause in order, or the store failed
abbrev pub IsHeaderRefusal : List ℕ → ℕ → StreamFault → Type 0
IsHeaderRefusal object recorded Store = Unit {0}
IsHeaderRefusal object recorded fault = header_of object recorded ≡ Err fault

-- what a read of a range leaves in the buffer: all its bytes, or those before the first touched
-- block that has no part; a fault of the store is said by its count, and no other fault comes
abbrev pub ReadsFront : Front → List ℕ → Result (Unit {0}) StreamFault → Type 0
ReadsFront front out (Ok _) = (front.refused ≡ None) × (front.bytes ≡ out)
ReadsFront front out (Err (Block number)) =
    (front.refused ≡ Some number) × (front.bytes ≡ take (length front.bytes) out)
ReadsFront front out (Err Store) = Unit {0}
ReadsFront front out (Err fault) = ⊥

-- what `read_at` leaves in the buffer and answers, over the bytes of the object
abbrev pub ReadsSlice : List ℕ → Layout → ℕ → List ℕ → Result (Unit {0}) StreamFault → Type 0
ReadsSlice bytes layout at out result =
    ReadsFront (front_at bytes layout at (length out)) out result

-- the faults that a read may give over any store
abbrev pub IsReadFault : StreamFault → Type 0
IsReadFault Store = Unit {0}
IsReadFault Missing = Unit {0}
IsReadFault (Short size) = Unit {0}
IsReadFault (Block number) = Unit {0}
IsReadFault fault = ⊥

-- each byte of a buffer, which is filled from a place on, is a zero or the byte of the plaintext
-- that is known at its place
abbrev pub IsZeroOrKnown : List ℕ → Layout → ℕ → List ℕ → Type 0
IsZeroOrKnown bytes layout at out = (i : ℕ) → i < length out
    → (get_or out i 0 ≡ 0) ⊎ (get_or (content bytes layout) (at + i) None ≡ Some (get_or out i 0))

-- what a read leaves of a stream, and answers over any store: how the object is read stays, after
-- Ok the stream holds the block of this number, if one is given, and after a refusal none
pub record AfterRead (before now : StreamValue) (number : Option ℕ)
    (result : Result (Unit {0}) StreamFault) : Type 0 where
  pub same_path : now.path ≡ before.path
  pub same_layout : now.layout ≡ before.layout
  pub fault : IfErr result IsReadFault
  pub holds : OnOk result (number_held now.block ≡ number)
  pub holds_none : OnErr result (now.block ≡ None)
