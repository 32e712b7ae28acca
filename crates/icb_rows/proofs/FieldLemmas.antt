-- The fields of a record, one after another.
use Rattle.std.proofs.Common.{◌≡◌, ℕ, zero, suc, ◌+◌, ◌<◌, ◌≤◌, List, [], ◌∷◌, ◌++◌, length, take, drop, map, get_or, Ok, Err, Some, refl, sym, ap, subst, ◌∙◌, arith, add-one, drop-cons, take-append-drop, length-take-le}
use Rattle.std.specs.Prelude.{slice_get}
use Rattle.std.proofs.lemmas.List.{length-map, map-append}
use Rattle.icb_schema.specs.Shape.{shape_of}
use Rattle.icb_avro.specs.declared.fault.AvroFault.{AvroFault}
use Rattle.icb_avro.specs.declared.value.Value.{Value}
use Rattle.icb_avro.specs.Cursor.{Input, Reads, unread}
use Rattle.icb_avro.specs.Reading.{Read, read_as, value_at}
use Rattle.icb_types.specs.declared.columns.ColType.{ColType}
use Rattle.icb_types.specs.declared.datum.Datum.{Datum}
use Rattle.icb_types.specs.declared.datum.Datum.TheVariants as datum
use Rattle.icb_rows.specs.declared.projection.Passed as code
use Rattle.icb_rows.specs.Records.{datum_of, datum_there}
use Rattle.icb_rows.specs.Views.{Passed, passed, record_at}
use Rattle.icb_rows.proofs.RecordLemmas.{drop_tail, field_value, none_there, record_length, record_parts, value_there}

-- the field that stands next is read, and then those behind it
pub field_next : (fs : List code.Passed) (i : ℕ) (f : code.Passed) (more : List Passed) (all : List ℕ) (vs : List Value) (rest : List ℕ) → i < length fs → f ≡ get_or fs i f
    → record_at (map passed (drop i fs) ++ more) all ≡ Ok (drop i vs, rest)
    → (v : Value) × (mid : List ℕ) × (value_at (shape_of f.node) all ≡ Ok (v, mid)) × (record_at (map passed (drop (i + 1) fs) ++ more) mid ≡ Ok (drop (i + 1) vs, rest)) × (slice_get vs i ≡ Some v)
field_next fs i f more all vs rest within is e =
    let read : record_at (passed f ∷ (map passed (drop (suc i) fs) ++ more)) all ≡ Ok (drop i vs, rest) =
    ap (λ (gs : List code.Passed). record_at (map passed gs ++ more) all) (sym (next fs i f within is)) ∙ e in
    let parts = record_parts (passed f) (map passed (drop (suc i) fs) ++ more) all (drop i vs) rest read in
    let behind : record_at (map passed (drop (suc i) fs) ++ more) parts.1 ≡ Ok (drop (suc i) vs, rest) =
    parts.4 ∙ ap (λ (ws : List Value). Ok (ws, rest)) (sym (drop_tail i vs parts.0 parts.2 parts.5)) in (
      parts.0,
      parts.1,
      (field_value (passed f) all parts.0 parts.1 parts.3).0,
      ap (λ (n : ℕ). record_at (map passed (drop n fs) ++ more) parts.1) (add-one i) ∙ behind ∙ ap (λ (n : ℕ). Ok (drop n vs, rest)) (sym (add-one i)),
      value_there i vs parts.0 parts.2 parts.5,
    )
  where
    next : (gs : List code.Passed) (j : ℕ) (g : code.Passed) → j < length gs → g ≡ get_or gs j g → drop j gs ≡ g ∷ drop (suc j) gs
    next gs j g h same = rw (drop-cons gs j g, ← same) refl

-- a value that is there is passed over
pub skip_read : (r : Read Value) (v : Value) (mid : List ℕ) (x : Unit {0}) (old new : Input) → Reads (λ done. done) (Ok x) old new (read_as (λ _. tt {0}) r) → r ≡ Ok (v, mid) → unread new ≡ mid
skip_read r v mid x old new h e = (subst (λ q. Reads (λ (done : Unit {0}). done) (Ok x) old new (read_as (λ _. tt {0}) q)) e h).3

-- a value that is there isn't refused
pub not_refused : (r : Read Value) (v : Value) (mid : List ℕ) (f : AvroFault) (old new : Input) → Reads (λ done. done) (Err f) old new (read_as (λ _. tt {0}) r) → r ≡ Ok (v, mid) → ⊥
not_refused r v mid f old new h e = subst (λ q. Reads (λ (done : Unit {0}). done) (Err f) old new (read_as (λ _. tt {0}) q)) e h

-- fields in two parts
in_parts : (fs : List code.Passed) (place : ℕ) → map passed (take place fs) ++ map passed (drop place fs) ≡ map passed fs
in_parts fs place = sym (map-append passed (take place fs) (drop place fs)) ∙ ap (map passed) (take-append-drop place fs)

-- the fields behind those before a place
pub read_behind : (fs : List code.Passed) (place : ℕ) (all : List ℕ) (vs : List Value) (rest : List ℕ) → record_at (map passed fs) all ≡ Ok (vs, rest)
    → record_at (map passed (take place fs) ++ map passed (drop place fs)) all ≡ Ok (vs, rest)
read_behind fs place all vs rest e = ap (λ (ps : List Passed). record_at ps all) (in_parts fs place) ∙ e

-- the datum of the field at a place
pub field_read : (fs : List code.Passed) (place : ℕ) (f : code.Passed) (kind : ColType) (d : Datum) (all bytes : List ℕ) → place < length fs → f ≡ get_or fs place f
    → ((more : List Passed) (vs : List Value) (rest : List ℕ) → record_at (map passed (take place fs) ++ more) all ≡ Ok (vs, rest) → record_at more bytes ≡ Ok (drop (length (take place fs)) vs, rest))
    → ((v : Value) (rest : List ℕ) → value_at (shape_of f.node) bytes ≡ Ok (v, rest) → d ≡ datum_of v kind)
    → (vs : List Value) (rest : List ℕ) → record_at (map passed fs) all ≡ Ok (vs, rest) → d ≡ datum_there kind (slice_get vs place)
field_read fs place f kind d all bytes within is skip inside vs rest e =
    let n : length (take place fs) ≡ place = length-take-le place fs (omega (arith, within)) in
    let left : record_at (map passed (drop place fs) ++ []) bytes ≡ Ok (drop place vs, rest) =
    ap (λ (ps : List Passed). record_at ps bytes) (ends (map passed (drop place fs))) ∙ skip (map passed (drop place fs)) vs rest (read_behind fs place all vs rest e) ∙ ap (λ (m : ℕ). Ok (drop m vs, rest)) n in
    let found = field_next fs place f [] bytes vs rest within is left in
    inside found.0 found.1 found.2 ∙ ap (datum_there kind) (sym found.4)
  where
    ends : (ps : List Passed) → ps ++ [] ≡ ps
    ends [] = refl
    ends (p ∷ ps) = ap (λ (qs : List Passed). p ∷ qs) (ends ps)

-- no field stands at a place behind the last
pub no_field : (fs : List code.Passed) (place : ℕ) (kind : ColType) (all : List ℕ) → length fs ≤ place → (vs : List Value) (rest : List ℕ) → record_at (map passed fs) all ≡ Ok (vs, rest)
    → datum.Null ≡ datum_there kind (slice_get vs place)
no_field fs place kind all h vs rest e =
    let n : length vs ≡ length fs = record_length (map passed fs) all vs rest e ∙ length-map fs passed in
    ap (datum_there kind) (sym (none_there place vs (omega (arith, n, h))))

-- the first field behind those before a place
pub first_behind : (fs : List code.Passed) (place : ℕ) (f : code.Passed) → f ≡ get_or (drop place fs) 0 f → f ≡ get_or fs place f
first_behind [] zero f e = e
first_behind [] (suc place) f e = e
first_behind (g ∷ fs) zero f e = e
first_behind (g ∷ fs) (suc place) f e = first_behind fs place f e

none_left : (fs : List code.Passed) → drop (length fs) fs ≡ []
none_left [] = refl
none_left (f ∷ fs) = none_left fs

-- all fields were passed over
pub skipped_all : (fs : List code.Passed) (i : ℕ) (more : List Passed) (all bytes : List ℕ) (vs : List Value) (rest : List ℕ) → i ≡ length fs → bytes ≡ all
    → record_at (map passed (drop i fs) ++ more) all ≡ Ok (drop i vs, rest) → record_at more bytes ≡ Ok (drop (length fs) vs, rest)
skipped_all fs i more all bytes vs rest n is e =
    let end : drop i fs ≡ [] = ap (λ (m : ℕ). drop m fs) n ∙ none_left fs in
    ap (record_at more) is ∙ ap (λ (gs : List code.Passed). record_at (map passed gs ++ more) all) (sym end) ∙ e ∙ ap (λ (m : ℕ). Ok (drop m vs, rest)) n
