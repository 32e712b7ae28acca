-- What calls say over what is known of a reader, and what they do to it.
use Rattle.std.specs.Prelude.{ℕ, ◌+◌, ◌≡◌, List, length, Option, Some, None, Result, Ok, Err}
use Rattle.icb_base.specs.Contents.{FillsKnown, HasPart}
use Rattle.icb_base.specs.declared.reading.ReadAt as reading
use Rattle.icb_container.specs.declared.fault.ContainerFault.{ContainerFault}
use Rattle.icb_container.specs.declared.fault.ContainerFault.TheVariants as fault

-- it holds of each whole file that fills what is known of the reader
abbrev pub ForEachFile : (List (Option ℕ) → Type 0) → (List (Option ℕ) → List ℕ → Type 0) → Type 0
ForEachFile content Holds = (known : List (Option ℕ)) → content known → (file : List ℕ)
    → FillsKnown known file → Holds known file

-- each byte from a place on up to another one is known
pub record KnownFromTo (known : List (Option ℕ)) (from to : ℕ) : Type 0 where
  pub part : List ℕ
  pub ends : from + length part ≡ to
  pub is : HasPart known from part

-- the fault of the reader that a fault is
abbrev pub fault_of : {F : Type 0} → ContainerFault F → Option F
fault_of (fault.Reader e) = Some e
fault_of e = None

-- the fault of the reader that a call answered
abbrev pub reader_fault : {A F : Type 0} → Result A (ContainerFault F) → Option F
reader_fault (Ok x) = None
reader_fault (Err e) = fault_of e

-- a fault that isn't want of memory
abbrev pub IsNotMemory : {F : Type 0} → ContainerFault F → Type 0
IsNotMemory fault.NoMemory = ⊥
IsNotMemory e = Unit {0}

-- A fault of the reader is one that a read of the call gave; without one no call of the outside
-- failed.
abbrev pub IsBlamed : {Self F : Type 0} → (Self → Self → Type 0) → (Self → Self → F → Type 0)
    → Option F → Self → Self → Type 0
IsBlamed calm blames None x y = calm x y
IsBlamed calm blames (Some e) x y = blames x y e

-- What a call does to a reader: what may be its content stays that, and it keeps what it keeps. It
-- answered this fault of the reader, or none.
pub record ReadsOnly {Self F : Type 0} (of : reading.Ghosts Self F) (e : Option F) (x y : Self)
    : Type 0 where
  pub same : (known : List (Option ℕ)) → of.content x known → of.content y known
  pub same_size : of.size y ≡ of.size x
  pub kept : of.keeps x y
  pub blamed : IsBlamed of.calm of.blames e x y
