-- The record at the front of bytes, by what was read of it.
use Rattle.std.proofs.Common.{◌≡◌, ℕ, ℤ, ◌-◌, List, length, drop, Result, Ok, Err, refl, sym, ap, ◌∙◌, arith}
use Rattle.icb_schema.specs.Tree.{Tree, root_form}
use Rattle.icb_schema.specs.Shape.{shape}
use Rattle.icb_avro.specs.declared.value.Value.{Value, out-Value}
use Rattle.icb_avro.specs.declared.fault.AvroFault.{AvroFault}
use Rattle.icb_avro.specs.declared.fault.Refusal.{Refusal}
use Rattle.icb_avro.specs.declared.fault.ValueFault.TheVariants as value_fault
use Rattle.icb_avro.specs.Cursor.{Input, ReadsValue}
use Rattle.icb_avro.specs.Reading.{value_at}
use Rattle.icb_container.specs.Wrong as wrong
use Rattle.icb_fields.specs.Fields.{Row, record_of}
use Rattle.icb_reader.specs.Records.{container, field, front_of}

-- the record is made to something
pub front_made : {A : Type 0} (make : Row → Result A ℤ) (t : Tree) (end : ℕ) (rest more : List ℕ) (v : Value) (x : A) → value_at (shape t) rest ≡ Ok (v, more)
    → make (record_of (root_form t) (out-Value v)) ≡ Ok x → front_of make t end rest ≡ Ok (x, more)
unfolding front_of
front_made make t end rest more v x e m = rw (e, m) refl

-- one of its fields isn't in its form
pub front_field : {A : Type 0} (make : Row → Result A ℤ) (t : Tree) (end : ℕ) (rest more : List ℕ) (v : Value) (id : ℤ) → value_at (shape t) rest ≡ Ok (v, more)
    → make (record_of (root_form t) (out-Value v)) ≡ Err id → front_of make t end rest ≡ Err (field (end - length rest) id)
unfolding front_of
front_field make t end rest more v id e m = rw (e, m) refl

-- it is no value
pub front_refused : {A : Type 0} (make : Row → Result A ℤ) (t : Tree) (end : ℕ) (rest : List ℕ) (r : Refusal) → value_at (shape t) rest ≡ Err r
    → front_of make t end rest ≡ Err (container (wrong.avro (end - r.left) r.cause))
unfolding front_of
front_refused make t end rest r e = rw e refl

-- ---- by what the call of the cursor answered

-- before the first of these bytes
abbrev pub at_front : List ℕ → Input
at_front rest = record { whole = rest; place = 0 }

pub front_gives : {A : Type 0} (make : Row → Result A ℤ) (t : Tree) (end : ℕ) (rest : List ℕ) (v : Value) (new : Input) (x : A) → ReadsValue {X = Value} (Ok v) (at_front rest) new (value_at (shape t) rest)
    → make (record_of (root_form t) (out-Value v)) ≡ Ok x → front_of make t end rest ≡ Ok (x, drop new.place rest)
front_gives {A} make t end rest v new x h m = by_read (value_at (shape t) rest) refl h
  where
    by_read : (read : Result (Value × List ℕ) Refusal) → value_at (shape t) rest ≡ read → ReadsValue {X = Value} (Ok v) (at_front rest) new read → front_of make t end rest ≡ Ok (x, drop new.place rest)
    by_read (Ok y) e h =
        let made = ap (λ (w : Value). make (record_of (root_form t) (out-Value w))) (sym h.0) ∙ m in
        let more : y.1 ≡ drop new.place rest = sym h.3 ∙ ap (drop new.place) h.1 in
        front_made make t end rest y.1 y.0 x e made ∙ ap (λ (z : List ℕ). Ok (x, z)) more
    by_read (Err r) e h = absurd h

pub front_fails : {A : Type 0} (make : Row → Result A ℤ) (t : Tree) (end : ℕ) (rest : List ℕ) (v : Value) (new : Input) (id : ℤ) → ReadsValue {X = Value} (Ok v) (at_front rest) new (value_at (shape t) rest)
    → make (record_of (root_form t) (out-Value v)) ≡ Err id → front_of make t end rest ≡ Err (field (end - length rest) id)
front_fails {A} make t end rest v new id h m = by_read (value_at (shape t) rest) refl h
  where
    by_read : (read : Result (Value × List ℕ) Refusal) → value_at (shape t) rest ≡ read → ReadsValue {X = Value} (Ok v) (at_front rest) new read → front_of make t end rest ≡ Err (field (end - length rest) id)
    by_read (Ok y) e h = front_field make t end rest y.1 y.0 id e (ap (λ (w : Value). make (record_of (root_form t) (out-Value w))) (sym h.0) ∙ m)
    by_read (Err r) e h = absurd h

pub front_refuses : {A : Type 0} (make : Row → Result A ℤ) (t : Tree) (end : ℕ) (rest : List ℕ) (f : AvroFault) (new : Input) → ReadsValue {X = Value} (Err (value_fault.Avro f)) (at_front rest) new (value_at (shape t) rest)
    → front_of make t end rest ≡ Err (container (wrong.avro (end - (length rest - f.place)) f.cause))
front_refuses {A} make t end rest f new h = by_read (value_at (shape t) rest) refl h
  where
    by_read : (read : Result (Value × List ℕ) Refusal) → value_at (shape t) rest ≡ read → ReadsValue {X = Value} (Err (value_fault.Avro f)) (at_front rest) new read
        → front_of make t end rest ≡ Err (container (wrong.avro (end - (length rest - f.place)) f.cause))
    by_read (Ok y) e h = absurd h
    by_read (Err r) e h =
        let left : r.left ≡ length rest - f.place = omega (arith, h.1) in
        front_refused make t end rest r e ∙ rw (left, ← h.0) refl
