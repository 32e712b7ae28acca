-- What a cursor's calls do.
use Rattle.std.specs.Prelude.{◌≡◌, ℕ, ◌+◌, ◌-◌, ◌≤◌, List, length, drop, Result, Ok, Err}
use Rattle.std.specs.Borrow.{Bor}
use Rattle.icb_avro.specs.declared.fault.AvroFault.{AvroFault}
use Rattle.icb_avro.specs.declared.fault.Refusal.{Refusal}
use Rattle.icb_avro.specs.declared.fault.ValueFault.{ValueFault}
use Rattle.icb_avro.specs.declared.fault.ValueFault.TheVariants as value_fault

-- the bytes of an input, and how many of them were read
pub record Input : Type 0 where
  pub whole : List ℕ
  pub place : ℕ

-- the bytes that weren't read yet
abbrev pub unread : Input → List ℕ
unread input = drop input.place input.whole

-- A call answers what is read and moves behind it.
abbrev pub MovesBehind : {A : Type 0} → A → Input → Input → A × List ℕ → Type 0
MovesBehind answer old new y = (answer ≡ y.0) × (new.whole ≡ old.whole)
    × (new.place + length y.1 ≡ length old.whole) × (unread new ≡ y.1)

-- A call names the refused item by its place and its cause, and stays.
abbrev pub NamesAndStays : AvroFault → Input → Input → Refusal → Type 0
NamesAndStays f old new r =
    (f.cause ≡ r.cause) × (f.place + r.left ≡ length old.whole) × (new ≡ old)

-- what a call does where reading gives this
abbrev pub Reads : {X Y : Type 0} → (X → Y) → Result X AvroFault → Input → Input
    → Result (Y × List ℕ) Refusal → Type 0
Reads view (Ok x) old new (Ok y) = MovesBehind (view x) old new y
Reads view (Err f) old new (Err r) = NamesAndStays f old new r
Reads view (Ok x) old new (Err r) = ⊥
Reads view (Err f) old new (Ok y) = ⊥

-- the same of a call that may want memory, and then stays
abbrev pub ReadsValue : {X : Type 0} → Result X ValueFault → Input → Input
    → Result (X × List ℕ) Refusal → Type 0
ReadsValue (Ok x) old new (Ok y) = MovesBehind x old new y
ReadsValue (Err (value_fault.Avro f)) old new (Err r) = NamesAndStays f old new r
ReadsValue (Err value_fault.NoMemory) old new read = new ≡ old
ReadsValue (Ok x) old new (Err r) = ⊥
ReadsValue (Err (value_fault.Avro f)) old new (Ok y) = ⊥

-- these bytes are the last of the whole
pub record EndsWith (whole rest : List ℕ) : Type 0 where
  pub within : length rest ≤ length whole
  pub same : drop (length whole - length rest) whole ≡ rest

-- what is read from an input ends where the input does
abbrev pub IsWithin : {X : Type 0} → List ℕ → Result (X × Bor (List ℕ)) Refusal → Type 0
IsWithin whole (Ok x) = EndsWith whole x.1.now
IsWithin whole (Err r) = r.left ≤ length whole

-- a call that moves behind what was read, or names what was refused
abbrev pub Follows : {X : Type 0} → Result (X × Bor (List ℕ)) Refusal → Result X AvroFault
    → Input → Input → Type 0
Follows (Ok x) (Ok y) old new = MovesBehind y old new (x.0, x.1.now)
Follows (Err r) (Err f) old new = NamesAndStays f old new r
Follows (Ok x) (Err f) old new = ⊥
Follows (Err r) (Ok y) old new = ⊥
