-- Reading a record field by field.
use Rattle.std.proofs.Common.{◌≡◌, ℕ, zero, suc, ◌-◌, ◌≤◌, Bool, true, false, true≢false, List, [], ◌∷◌, ◌++◌, length, take, drop, Ok, Err, Some, None, refl, sym, ap, ◌∙◌, arith, append_assoc, length-append}
use Rattle.std.specs.Prelude.{◌&&◌, if◌then◌else◌, slice_get}
use Rattle.std.specs.List.{AllByRecursion}
use Rattle.icb_schema.specs.Tree as tree
use Rattle.icb_schema.specs.Tree.{Fields}
use Rattle.icb_schema.specs.Shape.{shape, fields_shapes, arrays_take_bytes, all_arrays_take_bytes}
use Rattle.icb_avro.specs.declared.fault.Refusal.{Refusal}
use Rattle.icb_avro.specs.declared.fault.AvroCause.TheVariants as cause
use Rattle.icb_avro.specs.declared.value.Value.{Value}
use Rattle.icb_avro.specs.Reading.{◌>>=◌, Read, behind, refuse, value_at}
use Rattle.icb_avro.proofs.Steps.{bind_ok, done, ok_is, rest_is, value_is}
use Rattle.icb_avro.proofs.FoundValues.{value_found}
use Rattle.icb_avro.proofs.Complete.{value_again}
use Rattle.icb_rows.specs.declared.projection.Placed.{Placed}
use Rattle.icb_rows.specs.Views.{Passed, begins_null, field_at, is_null_of, passed_from, record_at}
use Rattle.icb_rows.proofs.ValueLemmas.{none_begins, null_begins}

-- ---- one field more

tail : (v : Value) (r : Read (List Value)) → behind (r >>= (λ vs. Ok (v ∷ vs.0, vs.1))) ≡ behind r
tail v (Ok x) = refl
tail v (Err d) = refl

-- what is behind a record is behind the fields that are left
pub record_step : (p : Passed) (ps : List Passed) (all : List ℕ) (v : Value) (mid : List ℕ) → field_at p all ≡ Ok (v, mid) → behind (record_at (p ∷ ps) all) ≡ behind (record_at ps mid)
record_step p ps all v mid e = rw e (tail v (record_at ps mid))

-- a field that is refused refuses the record
pub record_refused : (p : Passed) (ps : List Passed) (all : List ℕ) (r : Refusal) → field_at p all ≡ Err r → record_at (p ∷ ps) all ≡ Err r
record_refused p ps all r e = rw e refl

-- the value and the rest of a record that was read
pub record_parts : (p : Passed) (ps : List Passed) (all : List ℕ) (vs : List Value) (rest : List ℕ) → record_at (p ∷ ps) all ≡ Ok (vs, rest)
    → (v : Value) × (mid : List ℕ) × (more : List Value) × (field_at p all ≡ Ok (v, mid)) × (record_at ps mid ≡ Ok (more, rest)) × (vs ≡ v ∷ more)
record_parts p ps all vs rest e =
    let first = bind_ok (field_at p all) (λ v. record_at ps v.1 >>= (λ ws. Ok (v.0 ∷ ws.0, ws.1))) (vs, rest) e in
    let next = bind_ok (record_at ps first.0.1) (λ ws. Ok (first.0.0 ∷ ws.0, ws.1)) (vs, rest) first.2 in (
      first.0.0,
      first.0.1,
      next.0.0,
      first.1,
      next.1 ∙ ap (λ (t : List ℕ). Ok (next.0.0, t)) (rest_is (first.0.0 ∷ next.0.0) vs next.0.1 rest next.2),
      sym (value_is (first.0.0 ∷ next.0.0) vs next.0.1 rest next.2),
    )

-- a field that was read is the value of its shape
pub field_value : (p : Passed) (all : List ℕ) (v : Value) (mid : List ℕ) → field_at p all ≡ Ok (v, mid) → (value_at p.shape all ≡ Ok (v, mid)) × ((p.needs && is_null_of p.shape v) ≡ false)
field_value p all v mid e =
    let step = bind_ok (value_at p.shape all) (λ w. if p.needs && is_null_of p.shape w.0 then refuse cause.Index all else Ok w) (v, mid) e in
    tested (p.needs && is_null_of p.shape step.0.0) step.0 refl step.1 step.2
  where
    tested : (b : Bool) (x : Value × List ℕ) → (p.needs && is_null_of p.shape x.0) ≡ b → value_at p.shape all ≡ Ok x
        → (if b then refuse cause.Index all else done x) ≡ Ok (v, mid) → (value_at p.shape all ≡ Ok (v, mid)) × ((p.needs && is_null_of p.shape v) ≡ false)
    tested true x f g h = absurd (let never : ⊥ = cc in never)
    tested false x f g h = (g ∙ h, ap (λ (y : Value × List ℕ). p.needs && is_null_of p.shape y.0) (sym (ok_is x (v, mid) h)) ∙ f)

-- a value of the shape that isn't refused is the field's
pub field_of_value : (p : Passed) (all : List ℕ) (v : Value) (mid : List ℕ) → value_at p.shape all ≡ Ok (v, mid) → (p.needs && is_null_of p.shape v) ≡ false → field_at p all ≡ Ok (v, mid)
field_of_value p all v mid e f = rw (e, f) refl

-- ---- reading again, whatever follows

abbrev pub ArraysTakeBytes : List Passed → Type 0
ArraysTakeBytes ps = AllByRecursion (λ p. arrays_take_bytes p.shape ≡ true) ps

both : (a b : Bool) → (a && b) ≡ true → (a ≡ true) × (b ≡ true)
both true true e = (refl, refl)
both true false e = absurd (true≢false (sym e))
both false b e = absurd (true≢false (sym e))

-- the fields of a file whose arrays take bytes
pub arrays_of : (at : ℕ) (columns : List Placed) (fs : Fields) → all_arrays_take_bytes (fields_shapes fs) ≡ true → ArraysTakeBytes (passed_from at columns fs)
arrays_of at columns tree.no_fields e = tt
arrays_of at columns (tree.field name id t fs) e =
    let parts = both (arrays_take_bytes (shape t)) (all_arrays_take_bytes (fields_shapes fs)) e in
    (parts.0, arrays_of (suc at) columns fs parts.1)

field_again : (p : Passed) → arrays_take_bytes p.shape ≡ true → (all : List ℕ) (v : Value) (mid : List ℕ) → field_at p all ≡ Ok (v, mid)
    → (front : List ℕ) × (all ≡ front ++ mid) × ((more : List ℕ) → field_at p (front ++ more) ≡ Ok (v, more))
field_again p t all v mid e =
    let read = field_value p all v mid e in
    let found = value_found p.shape all v mid read.0 in
    (found.0, found.1, λ more. field_of_value p (found.0 ++ more) v more (value_again p.shape t v found.0 more found.2) read.1)

joined : (p : Passed) (ps : List Passed) (a b more : List ℕ) (v : Value) (ws vs : List Value) → field_at p (a ++ (b ++ more)) ≡ Ok (v, b ++ more) → record_at ps (b ++ more) ≡ Ok (ws, more)
    → vs ≡ v ∷ ws → record_at (p ∷ ps) ((a ++ b) ++ more) ≡ Ok (vs, more)
joined p ps a b more v ws vs e f is = rw (append_assoc a b more, e, f, is) refl

-- the bytes of a record are read as it, whatever follows them
pub record_again : (ps : List Passed) → ArraysTakeBytes ps → (all : List ℕ) (vs : List Value) (rest : List ℕ) → record_at ps all ≡ Ok (vs, rest)
    → (front : List ℕ) × (all ≡ front ++ rest) × ((more : List ℕ) → record_at ps (front ++ more) ≡ Ok (vs, more))
record_again [] t all vs rest e =
    let same = value_is [] vs all rest e in
    ([], rest_is [] vs all rest e, λ more. ap (λ (ws : List Value). Ok (ws, more)) same)
record_again (p ∷ ps) t all vs rest e =
    let parts = record_parts p ps all vs rest e in
    let v = parts.0 in
    let mid = parts.1 in
    let first = field_again p t.0 all v mid parts.3 in
    let next = record_again ps t.1 mid parts.2 rest parts.4 in (
      first.0 ++ next.0,
      first.1 ∙ ap (λ (b : List ℕ). first.0 ++ b) next.1 ∙ sym (append_assoc first.0 next.0 rest),
      λ more. joined p ps first.0 next.0 more v parts.2 vs (first.2 (next.0 ++ more)) (next.2 more) parts.5,
    )

-- ---- nulls that are refused

-- a null of a needed field is refused
pub pass_refused : (p : Passed) (all : List ℕ) → p.needs ≡ true → begins_null p.shape all ≡ true → field_at p all ≡ refuse cause.Index all
pass_refused p all needs h = let null = null_begins p.shape all h in rw (null.2, needs, null.3) refl

not_both : (b c d : Bool) → (b && c) ≡ false → (c ≡ false → d ≡ false) → (b && d) ≡ false
not_both true c d e f = f e
not_both false c d e f = refl

-- any other field is the value of its shape
pub pass_on : (p : Passed) (all : List ℕ) → (p.needs && begins_null p.shape all) ≡ false → field_at p all ≡ value_at p.shape all
pass_on p all h = read (value_at p.shape all) refl
  where
    read : (r : Read Value) → value_at p.shape all ≡ r → (r >>= (λ v. if p.needs && is_null_of p.shape v.0 then refuse cause.Index all else Ok v)) ≡ r
    read (Err d) e = refl
    read (Ok x) e = rw (not_both p.needs (begins_null p.shape all) (is_null_of p.shape x.0) h (λ f. none_begins p.shape all f x.0 x.1 e)) refl

-- ---- places in a record

-- a record that was read ends its bytes
pub record_found : (ps : List Passed) (all : List ℕ) (vs : List Value) (rest : List ℕ) → record_at ps all ≡ Ok (vs, rest) → (front : List ℕ) × (all ≡ front ++ rest) × Unit {0}
record_found [] all vs rest e = ([], rest_is [] vs all rest e, tt)
record_found (p ∷ ps) all vs rest e =
    let parts = record_parts p ps all vs rest e in
    let first = value_found p.shape all parts.0 parts.1 (field_value p all parts.0 parts.1 parts.3).0 in
    let next = record_found ps parts.1 parts.2 rest parts.4 in
    (first.0 ++ next.0, first.1 ∙ ap (λ (b : List ℕ). first.0 ++ b) next.1 ∙ sym (append_assoc first.0 next.0 rest), tt)

-- a record has a value for each field
pub record_length : (ps : List Passed) (all : List ℕ) (vs : List Value) (rest : List ℕ) → record_at ps all ≡ Ok (vs, rest) → length vs ≡ length ps
record_length [] all vs rest e = ap length (sym (value_is [] vs all rest e))
record_length (p ∷ ps) all vs rest e =
    let parts = record_parts p ps all vs rest e in
    ap length parts.5 ∙ ap suc (record_length ps parts.1 parts.2 rest parts.4)

take_front : (front rest : List ℕ) → take (length front) (front ++ rest) ≡ front
take_front [] rest = refl
take_front (x ∷ front) rest = ap (λ (b : List ℕ). x ∷ b) (take_front front rest)

-- the front of bytes that end so
pub front_of : (front rest : List ℕ) → take (length (front ++ rest) - length rest) (front ++ rest) ≡ front
front_of front rest =
    let n : length (front ++ rest) - length rest ≡ length front = omega (arith, length-append front rest) in
    ap (λ (m : ℕ). take m (front ++ rest)) n ∙ take_front front rest

-- one value less
pub drop_tail : (i : ℕ) (vs : List Value) (v : Value) (ws : List Value) → drop i vs ≡ v ∷ ws → drop (suc i) vs ≡ ws
drop_tail zero (x ∷ vs) v ws e = ap (drop 1) e
drop_tail zero [] v ws e = absurd (let never : ⊥ = cc in never)
drop_tail (suc i) [] v ws e = absurd (let never : ⊥ = cc in never)
drop_tail (suc i) (x ∷ vs) v ws e = drop_tail i vs v ws e

-- the value that stands at a place
pub value_there : (i : ℕ) (vs : List Value) (v : Value) (ws : List Value) → drop i vs ≡ v ∷ ws → slice_get vs i ≡ Some v
value_there zero (x ∷ vs) v ws e = ap (λ (ys : List Value). slice_get ys 0) e
value_there zero [] v ws e = absurd (let never : ⊥ = cc in never)
value_there (suc i) [] v ws e = absurd (let never : ⊥ = cc in never)
value_there (suc i) (x ∷ vs) v ws e = value_there i vs v ws e

-- no value stands behind the last
pub none_there : (i : ℕ) (vs : List Value) → length vs ≤ i → slice_get vs i ≡ None
none_there zero [] h = refl
none_there (suc i) [] h = refl
none_there zero (x ∷ vs) h = absurd (let never : ⊥ = omega (arith, h) in never)
none_there (suc i) (x ∷ vs) h = none_there i vs (omega (arith, h))
