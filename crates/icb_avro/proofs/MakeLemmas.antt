-- Making a value, step by step.
use Rattle.std.proofs.Common.{◌≡◌, ℕ, suc, ◌+◌, ◌<◌, ◌≤◌, List, [], ◌∷◌, ◌++◌, length, drop, get_or, Result, Ok, Err, refl, sym, ap, arith, add-one, drop-cons, append_assoc}
use Rattle.std.proofs.lemmas.List.{append-nil}
use Rattle.icb_schema.specs.Shape.{Shape, shape_of}
use Rattle.icb_schema.specs.declared.node.Field.{Field}
use Rattle.icb_avro.specs.declared.fault.Refusal.{Refusal}
use Rattle.icb_avro.specs.declared.fault.Stop.{Stop}
use Rattle.icb_avro.specs.declared.fault.Stop.TheVariants as stop
use Rattle.icb_avro.specs.declared.value.Value.{Value}
use Rattle.icb_avro.specs.Answers.{Stops}
use Rattle.icb_avro.specs.Reading.{◌>>=◌, Read, read_as, text_at, value_at, fields_at}
use Rattle.icb_avro.proofs.BlockLemmas.{with_front}
use Rattle.icb_avro.proofs.SkipLemmas.{shapes, field_refused, no_more_fields, text_shorter, value_shorter}

-- a call that hands a refusal on
pub handed_on : {Y W : Type 0} (e : Stop) (read : Result Y Refusal) (whole : Result W Refusal) → ((r : Refusal) → read ≡ Err r → whole ≡ Err r) → Stops e read → Stops e whole
handed_on (stop.Refused r) read whole f h = f r h
handed_on stop.NoMemory read whole f h = tt

pub as_refused : {A B : Type 0} (f : A → B) (read : Read A) (r : Refusal) → read ≡ Err r → read_as f read ≡ Err r
as_refused f read r e = rw e refl

pub field_made : (fs : List Field) (i : ℕ) (f : Field) (values : List Value) (all : List ℕ) (v : Value) (rest : List ℕ) → i < length fs → f ≡ get_or fs i f → value_at (shape_of f.node) all ≡ Ok (v, rest)
    → with_front values (fields_at (shapes (drop i fs)) all) ≡ with_front (values ++ v ∷ []) (fields_at (shapes (drop (i + 1) fs)) rest)
field_made fs i f values all v rest within is e = rw (add-one, drop-cons fs i f, ← is, e) (tail (fields_at (shapes (drop (suc i) fs)) rest))
  where
    tail : (r : Read (List Value)) → with_front values (r >>= (λ vs. Ok (v ∷ vs.0, vs.1))) ≡ with_front (values ++ v ∷ []) r
    tail (Ok x) = ap (λ vs. Ok (vs, x.1)) (sym (append_assoc values (v ∷ []) x.0))
    tail (Err d) = refl

pub fields_made : (fs : List Field) (i : ℕ) (values : List Value) (all : List ℕ) → length fs ≤ i → with_front values (fields_at (shapes (drop i fs)) all) ≡ Ok (values, all)
fields_made fs i values all h = rw (no_more_fields fs i all h) (ap (λ vs. Ok (vs, all)) (append-nil values))

pub field_stops : (fs : List Field) (i : ℕ) (f : Field) (values : List Value) (all : List ℕ) (r : Refusal) → i < length fs → f ≡ get_or fs i f → value_at (shape_of f.node) all ≡ Err r
    → with_front values (fields_at (shapes (drop i fs)) all) ≡ Err r
field_stops fs i f values all r within is e = rw (field_refused fs i f all r within is e) refl

pub entry_value_shorter : (s : Shape) (all text mid : List ℕ) (v : Value) (rest : List ℕ) → text_at all ≡ Ok (text, mid) → value_at s mid ≡ Ok (v, rest) → length rest ≤ length all
entry_value_shorter s all text mid v rest e f = omega (arith, text_shorter all text mid e, value_shorter s mid v rest f)
