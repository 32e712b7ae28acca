-- A record without nulls of required columns is the one that Avro reads.
use Rattle.std.proofs.Common.{◌≡◌, ℕ, zero, suc, ◌+◌, ◌==◌, Bool, true, false, true≢false, List, [], ◌∷◌, length, map, Ok, Option, Some, None, refl, sym, ap, subst, ◌∙◌, arith, eqb-true, eq-eqb}
use Rattle.std.specs.Prelude.{◌&&◌, ◌||◌, not, ℤ, pos, slice_get, option_map, option_and_then, if◌then◌else◌}
use Rattle.std.proofs.lemmas.Bool.{and_parts}
use Rattle.icb_schema.specs.Tree as tree
use Rattle.icb_schema.specs.Tree.{Fields}
use Rattle.icb_schema.specs.Shape.{Shape, Shapes, primitive, fixed, union, no_shapes, shape_then, shape, fields_shapes}
use Rattle.icb_avro.specs.declared.value.Value.{Value}
use Rattle.icb_avro.specs.declared.value.Value.TheVariants as value
use Rattle.icb_avro.specs.Reading.{◌>>=◌, fields_at, value_at}
use Rattle.icb_avro.specs.Spelling.{Spells, SpellsBranch}
use Rattle.icb_avro.proofs.Steps.{bind_ok, rest_is, value_is}
use Rattle.icb_avro.proofs.FoundValues.{value_found}
use Rattle.icb_types.specs.declared.columns.ColType.{ColType}
use Rattle.icb_types.specs.declared.columns.ColType.TheVariants as kind
use Rattle.icb_types.specs.declared.columns.Column.{Column}
use Rattle.icb_rows.specs.declared.projection.Placed.{Placed}
use Rattle.icb_rows.specs.Laws.{ViewsReadFields, has_required}
use Rattle.icb_rows.specs.Order.{is_null}
use Rattle.icb_rows.specs.Records.{datum_by_id, datum_of, datum_there, field_from, field_of, first_unfit, fits_field, has_id, is_column_shape, is_kind_shape, is_null_shape}
use Rattle.icb_rows.specs.Views.{Passed, branch_of, field_at, is_at, is_needed, is_null_branch, is_null_of, passed_from, passed_of, placed_of, record_at}
use Rattle.icb_rows.proofs.RecordLemmas.{field_of_value, field_value, record_parts}
use Rattle.icb_rows.proofs.ValueLemmas as read

-- ---- which value is null

-- some bytes spell the value
abbrev pub IsSpelled : Shape → Value → Type 0
IsSpelled s v = (all : List ℕ) × Spells s v all

sized_uuid : (bytes : List ℕ) → (length bytes == 16) ≡ true → is_null (datum_of (value.Fixed bytes) kind.Uuid) ≡ false
sized_uuid bytes n = ap is_null (read.datum_of_Fixed bytes kind.Uuid) ∙ rw n refl

sized_fixed : (bytes : List ℕ) (size : ℕ) → (length bytes == size) ≡ true → is_null (datum_of (value.Fixed bytes) (kind.Fixed size)) ≡ false
sized_fixed bytes size n = ap is_null (read.datum_of_Fixed bytes (kind.Fixed size)) ∙ rw n refl

-- a value of a kind's type is a datum
kind_value : (s : Shape) (k : ColType) (v : Value) → is_kind_shape s k ≡ true → IsSpelled s v → is_null (datum_of v k) ≡ false
kind_value (primitive tree.boolean) kind.Boolean v h r = ap (λ (w : Value). is_null (datum_of w kind.Boolean)) r.1.1 ∙ ap is_null (read.datum_of_Boolean r.1.0 kind.Boolean)
kind_value (primitive tree.int) kind.Int v h r = ap (λ (w : Value). is_null (datum_of w kind.Int)) r.1.1 ∙ ap is_null (read.datum_of_Int r.1.0 kind.Int)
kind_value (primitive tree.int) kind.Date v h r = ap (λ (w : Value). is_null (datum_of w kind.Date)) r.1.1 ∙ ap is_null (read.datum_of_Int r.1.0 kind.Date)
kind_value (primitive tree.long) kind.Long v h r = ap (λ (w : Value). is_null (datum_of w kind.Long)) r.1.1 ∙ ap is_null (read.datum_of_Long r.1.0 kind.Long)
kind_value (primitive tree.long) kind.Time v h r = ap (λ (w : Value). is_null (datum_of w kind.Time)) r.1.1 ∙ ap is_null (read.datum_of_Long r.1.0 kind.Time)
kind_value (primitive tree.long) kind.Timestamp v h r = ap (λ (w : Value). is_null (datum_of w kind.Timestamp)) r.1.1 ∙ ap is_null (read.datum_of_Long r.1.0 kind.Timestamp)
kind_value (primitive tree.long) kind.TimestampTz v h r = ap (λ (w : Value). is_null (datum_of w kind.TimestampTz)) r.1.1 ∙ ap is_null (read.datum_of_Long r.1.0 kind.TimestampTz)
kind_value (primitive tree.text) kind.Text v h r = ap (λ (w : Value). is_null (datum_of w kind.Text)) r.1.1 ∙ ap is_null (read.datum_of_Text r.1.0 kind.Text)
kind_value (primitive tree.bytes) kind.Binary v h r = ap (λ (w : Value). is_null (datum_of w kind.Binary)) r.1.1 ∙ ap is_null (read.datum_of_Bytes r.1.0 kind.Binary)
kind_value (fixed size) kind.Uuid v h r =
    ap (λ (w : Value). is_null (datum_of w kind.Uuid)) r.1.0 ∙ sized_uuid r.0 (ap (λ (n : ℕ). n == 16) r.1.1 ∙ h)
kind_value (fixed size) (kind.Fixed own) v h r =
    ap (λ (w : Value). is_null (datum_of w (kind.Fixed own))) r.1.0 ∙ sized_fixed r.0 own (ap (λ (n : ℕ). n == own) r.1.1 ∙ h)
kind_value s k v h r = absurd (true≢false (sym h))

-- the type of a kind isn't null
kind_not_null : (s : Shape) (k : ColType) → is_kind_shape s k ≡ true → is_null_shape s ≡ false
kind_not_null (primitive tree.null) k h = absurd (true≢false (sym h))
kind_not_null s k h = refl

null_value : (s : Shape) (k : ColType) (v : Value) → is_null_shape s ≡ true → IsSpelled s v → is_null (datum_of v k) ≡ true
null_value (primitive tree.null) k v h r = ap (λ (w : Value). is_null (datum_of w k)) r.1.0 ∙ ap is_null (read.datum_of_Null k)
null_value s k v h r = absurd (true≢false (sym h))

-- one of two branches is null, and the other of the kind
data Branch (s : Shape) (k : ColType) : Type 0 where
  null : is_null_shape s ≡ true → Branch s k
  other : is_kind_shape s k ≡ true → Branch s k

branches : (a b : Shape) (k : ColType) → is_column_shape (union (shape_then a (shape_then b no_shapes))) k ≡ true → Branch a k × Branch b k
branches a b k h = by_test (is_null_shape a && is_kind_shape b k) refl h
  where
    by_test : (t : Bool) → (is_null_shape a && is_kind_shape b k) ≡ t → (t || (is_kind_shape a k && is_null_shape b)) ≡ true → Branch a k × Branch b k
    by_test true e f = let parts = and_parts (is_null_shape a) (is_kind_shape b k) e in (null parts.0, other parts.1)
    by_test false e f = let parts = and_parts (is_kind_shape a k) (is_null_shape b) f in (other parts.0, null parts.1)

of_branch : (s : Shape) (k : ColType) (v : Value) → Branch s k → IsSpelled s v → is_null (datum_of v k) ≡ is_null_shape s
of_branch s k v (null h) r = null_value s k v h r ∙ sym h
of_branch s k v (other h) r = kind_value s k v h r ∙ sym (kind_not_null s k h)

two_shapes : (a b : Shape) (k : ColType) (j : ℕ) (w : Value) (rest : List ℕ) → Branch a k × Branch b k → SpellsBranch (shape_then a (shape_then b no_shapes)) j w rest
    → is_null (datum_of w k) ≡ is_null_branch (shape_then a (shape_then b no_shapes)) (pos j)
two_shapes a b k zero w rest h r = of_branch a k w h.0 (rest, r)
two_shapes a b k (suc zero) w rest h r = of_branch b k w h.1 (rest, r)
two_shapes a b k (suc (suc j)) w rest h r = absurd r

-- a value of a column's type is null exactly where its datum is
null_same : (s : Shape) (k : ColType) (v : Value) → is_column_shape s k ≡ true → IsSpelled s v → is_null (datum_of v k) ≡ is_null_of s v
null_same (union (shape_then a (shape_then b no_shapes))) k v h r =
    let ss : Shapes = shape_then a (shape_then b no_shapes) in
    let j : ℕ = r.1.0 in
    let w : Value = r.1.1 in
    ap (λ (x : Value). is_null (datum_of x k)) r.1.4 ∙ ap is_null (read.datum_of_Union j w k) ∙ two_shapes a b k j w r.1.3 (branches a b k h) r.1.7
    ∙ sym (ap (λ (n : ℕ). is_null_branch ss (pos n)) (ap branch_of r.1.4 ∙ read.branch_of_Union j w))
null_same (union no_shapes) k v h r = absurd (true≢false (sym h))
null_same (union (shape_then a no_shapes)) k v h r = absurd (true≢false (sym h))
null_same (union (shape_then a (shape_then b (shape_then c ss)))) k v h r = absurd (true≢false (sym h))
null_same (primitive tree.null) k v h r = absurd (true≢false (sym h))
null_same s k v h r = kind_value s k v h r

-- ---- fields that are read

-- each value is one of its field
abbrev AreSpelled : Shapes → List Value → Type 0
AreSpelled no_shapes vs = Unit {0}
AreSpelled (shape_then s ss) [] = ⊥
AreSpelled (shape_then s ss) (v ∷ vs) = IsSpelled s v × AreSpelled ss vs

-- no value is a null that is refused
abbrev NoNulls : List Passed → List Value → Type 0
NoNulls [] vs = Unit {0}
NoNulls (p ∷ ps) [] = Unit {0}
NoNulls (p ∷ ps) (v ∷ vs) = ((p.needs && is_null_of p.shape v) ≡ false) × NoNulls ps vs

fields_parts : (s : Shape) (ss : Shapes) (all : List ℕ) (vs : List Value) (rest : List ℕ) → fields_at (shape_then s ss) all ≡ Ok (vs, rest)
    → (v : Value) × (mid : List ℕ) × (more : List Value) × (value_at s all ≡ Ok (v, mid)) × (fields_at ss mid ≡ Ok (more, rest)) × (vs ≡ v ∷ more)
fields_parts s ss all vs rest e =
    let first = bind_ok (value_at s all) (λ v. fields_at ss v.1 >>= (λ ws. Ok (v.0 ∷ ws.0, ws.1))) (vs, rest) e in
    let next = bind_ok (fields_at ss first.0.1) (λ ws. Ok (first.0.0 ∷ ws.0, ws.1)) (vs, rest) first.2 in (
      first.0.0,
      first.0.1,
      next.0.0,
      first.1,
      next.1 ∙ ap (λ (t : List ℕ). Ok (next.0.0, t)) (rest_is (first.0.0 ∷ next.0.0) vs next.0.1 rest next.2),
      sym (value_is (first.0.0 ∷ next.0.0) vs next.0.1 rest next.2),
    )

fields_spelled : (ss : Shapes) (all : List ℕ) (vs : List Value) (rest : List ℕ) → fields_at ss all ≡ Ok (vs, rest) → AreSpelled ss vs
fields_spelled no_shapes all vs rest e = tt
fields_spelled (shape_then s ss) all vs rest e =
    let parts = fields_parts s ss all vs rest e in
    let found = value_found s all parts.0 parts.1 parts.3 in
    subst (λ (ws : List Value). AreSpelled (shape_then s ss) ws) (sym parts.5) ((found.0, found.2), fields_spelled ss parts.1 parts.2 rest parts.4)

-- a record that is read has the values of its fields, and no null that is refused
to_fields : (at : ℕ) (columns : List Placed) (fs : Fields) (all : List ℕ) (vs : List Value) (rest : List ℕ) → record_at (passed_from at columns fs) all ≡ Ok (vs, rest)
    → (fields_at (fields_shapes fs) all ≡ Ok (vs, rest)) × NoNulls (passed_from at columns fs) vs
to_fields at columns tree.no_fields all vs rest e = (e, tt)
to_fields at columns (tree.field name id t fs) all vs rest e =
    let p : Passed = record { shape = shape t; needs = is_needed at columns } in
    let parts = record_parts p (passed_from (suc at) columns fs) all vs rest e in
    let here = field_value p all parts.0 parts.1 parts.3 in
    let more = to_fields (suc at) columns fs parts.1 parts.2 rest parts.4 in
    (joined (shape t) (fields_shapes fs) all parts.1 parts.0 parts.2 vs rest here.0 more.0 parts.5, subst (λ (ws : List Value). NoNulls (passed_from at columns (tree.field name id t fs)) ws) (sym parts.5) (here.1, more.1))
  where
    joined : (s : Shape) (ss : Shapes) (b mid : List ℕ) (v : Value) (ws xs : List Value) (end : List ℕ) → value_at s b ≡ Ok (v, mid) → fields_at ss mid ≡ Ok (ws, end) → xs ≡ v ∷ ws
        → fields_at (shape_then s ss) b ≡ Ok (xs, end)
    joined s ss b mid v ws xs end e f is = rw (e, f, is) refl

from_fields : (at : ℕ) (columns : List Placed) (fs : Fields) (all : List ℕ) (vs : List Value) (rest : List ℕ) → fields_at (fields_shapes fs) all ≡ Ok (vs, rest) → NoNulls (passed_from at columns fs) vs
    → record_at (passed_from at columns fs) all ≡ Ok (vs, rest)
from_fields at columns tree.no_fields all vs rest e n = e
from_fields at columns (tree.field name id t fs) all vs rest e n =
    let p : Passed = record { shape = shape t; needs = is_needed at columns } in
    let parts = fields_parts (shape t) (fields_shapes fs) all vs rest e in
    let none = subst (λ (ws : List Value). NoNulls (passed_from at columns (tree.field name id t fs)) ws) parts.5 n in
    joined p (passed_from (suc at) columns fs) all parts.1 parts.0 parts.2 vs rest (field_of_value p all parts.0 parts.1 parts.3 none.0) (from_fields (suc at) columns fs parts.1 parts.2 rest parts.4 none.1) parts.5
  where
    joined : (p : Passed) (ps : List Passed) (b mid : List ℕ) (v : Value) (ws xs : List Value) (end : List ℕ) → field_at p b ≡ Ok (v, mid) → record_at ps mid ≡ Ok (ws, end) → xs ≡ v ∷ ws
        → record_at (p ∷ ps) b ≡ Ok (xs, end)
    joined p ps b mid v ws xs end e f is = rw (e, f, is) refl

-- ---- fields at places

-- the shape of the field at a place
abbrev shape_at : Fields → ℕ → Option Shape
shape_at tree.no_fields i = None
shape_at (tree.field name id t fs) zero = Some (shape t)
shape_at (tree.field name id t fs) (suc i) = shape_at fs i

from_zero : (i : ℕ) → 0 + i ≡ i
from_zero i = omega arith

-- no null is refused at a place
abbrev NullFree : ℕ → List Placed → Fields → List Value → Type 0
NullFree at columns fs vs = (i : ℕ) (v : Value) (s : Shape) → slice_get vs i ≡ Some v → shape_at fs i ≡ Some s → (is_needed (at + i) columns && is_null_of s v) ≡ false

some_is : {A : Type 0} (x y : A) → Some x ≡ Some y → x ≡ y
some_is x y e = cc

null_free : (at : ℕ) (columns : List Placed) (fs : Fields) (vs : List Value) → NoNulls (passed_from at columns fs) vs → NullFree at columns fs vs
null_free at columns tree.no_fields vs n i v s e f = absurd (let never : ⊥ = cc in never)
null_free at columns (tree.field name id t fs) [] n zero v s e f = absurd (let never : ⊥ = cc in never)
null_free at columns (tree.field name id t fs) [] n (suc i) v s e f = absurd (let never : ⊥ = cc in never)
null_free at columns (tree.field name id t fs) (w ∷ vs) n zero v s e f =
    ap (λ (m : ℕ). is_needed m columns && is_null_of s v) (let m : at + 0 ≡ at = omega arith in m)
    ∙ ap (λ (x : Value). is_needed at columns && is_null_of s x) (sym (some_is w v e)) ∙ ap (λ (x : Shape). is_needed at columns && is_null_of x w) (sym (some_is (shape t) s f)) ∙ n.0
null_free at columns (tree.field name id t fs) (w ∷ vs) n (suc i) v s e f =
    ap (λ (m : ℕ). is_needed m columns && is_null_of s v) (let m : at + suc i ≡ suc at + i = omega arith in m) ∙ null_free (suc at) columns fs vs n.1 i v s e f

no_nulls : (at : ℕ) (columns : List Placed) (fs : Fields) (vs : List Value) → NullFree at columns fs vs → NoNulls (passed_from at columns fs) vs
no_nulls at columns tree.no_fields vs h = tt
no_nulls at columns (tree.field name id t fs) [] h = tt
no_nulls at columns (tree.field name id t fs) (v ∷ vs) h = (
  ap (λ (m : ℕ). is_needed m columns && is_null_of (shape t) v) (let m : at ≡ at + 0 = omega arith in m) ∙ h 0 v (shape t) refl refl,
  no_nulls (suc at) columns fs vs (λ i w s e f. ap (λ (m : ℕ). is_needed m columns && is_null_of s w) (let m : suc at + i ≡ at + suc i = omega arith in m) ∙ h (suc i) w s e f),
)

-- a field that has an id stands at its place, with its shape
found_at : (at : ℕ) (id : ℤ) (fs : Fields) (j : ℕ) (s : Shape) → field_from at id fs ≡ Some (j, s) → (i : ℕ) × (j ≡ at + i) × (shape_at fs i ≡ Some s)
found_at at id tree.no_fields j s e = absurd (let never : ⊥ = cc in never)
found_at at id (tree.field name own t fs) j s e = by_test (λ f. found_at (suc at) id fs j s f) (has_id id own) e
  where
    by_test : (field_from (suc at) id fs ≡ Some (j, s) → (i : ℕ) × (j ≡ suc at + i) × (shape_at fs i ≡ Some s)) → (b : Bool) → (if b then Some (at, shape t) else field_from (suc at) id fs) ≡ Some (j, s) → (i : ℕ) × (j ≡ at + i) × (shape_at (tree.field name own t fs) i ≡ Some s)
    by_test behind true f =
        let same : ◌≡◌ {A = ℕ × Shape} (at, shape t) (j, s) = some_is (at, shape t) (j, s) f in
        (0, (let n : j ≡ at + 0 = omega (arith, ap (λ (x : ℕ × Shape). x.0) same) in n), ap (λ (x : ℕ × Shape). Some x.1) same)
    by_test behind false f =
        let more = behind f in
        (suc more.0, (let n : j ≡ at + suc more.0 = omega (arith, more.1) in n), more.2)

-- a field that is read has a value
value_there : (fs : Fields) (vs : List Value) (i : ℕ) (s : Shape) → AreSpelled (fields_shapes fs) vs → shape_at fs i ≡ Some s → (v : Value) × (slice_get vs i ≡ Some v) × IsSpelled s v
value_there tree.no_fields vs i s h e = absurd (let never : ⊥ = cc in never)
value_there (tree.field name id t fs) [] i s h e = absurd h
value_there (tree.field name id t fs) (v ∷ vs) zero s h e = (v, refl, subst (λ (x : Shape). IsSpelled x v) (some_is (shape t) s e) h.0)
value_there (tree.field name id t fs) (v ∷ vs) (suc i) s h e = value_there fs vs i s h.1 e

-- ---- columns that are required

-- a required column that is in the file: its place, its shape and its value
record Needed (c : Column) (fs : Fields) (vs : List Value) : Type 0 where
  place : ℕ
  shape : Shape
  value : Value
  field : field_of c.id fs ≡ Some (place, shape)
  there : shape_at fs place ≡ Some shape
  is : slice_get vs place ≡ Some value
  same : is_null (datum_by_id c fs vs) ≡ is_null_of shape value

needed : (c : Column) (fs : Fields) (vs : List Value) → AreSpelled (fields_shapes fs) vs → c.required ≡ true → fits_field c (field_of c.id fs) ≡ true → Needed c fs vs
needed c fs vs spelled required fits = by_field (field_of c.id fs) refl fits
  where
    by_field : (o : Option (ℕ × Shape)) → field_of c.id fs ≡ o → fits_field c o ≡ true → Needed c fs vs
    by_field None e f = absurd (true≢false (sym f ∙ ap not required))
    by_field (Some x) e f =
        let at = found_at 0 c.id fs x.0 x.1 e in
        let here : shape_at fs x.0 ≡ Some x.1 = ap (shape_at fs) (let n : x.0 ≡ at.0 = omega (arith, at.1) in n) ∙ at.2 in
        let v = value_there fs vs x.0 x.1 spelled here in
        let datum : datum_by_id c fs vs ≡ datum_of v.0 c.kind =
        ap (λ (o : Option (ℕ × Shape)). datum_there c.kind (option_and_then (λ g. slice_get vs g.0) o)) e ∙ ap (datum_there c.kind) v.1 in
        record { place = x.0; shape = x.1; value = v.0; field = e; there = here; is = v.1; same = ap is_null datum ∙ null_same x.1 c.kind v.0 f v.2 }

fits_first : (c : Column) (columns : List Column) (fs : Fields) → first_unfit (c ∷ columns) fs ≡ None → (fits_field c (field_of c.id fs) ≡ true) × (first_unfit columns fs ≡ None)
fits_first c columns fs e = by_test (fits_field c (field_of c.id fs)) refl e
  where
    by_test : (b : Bool) → fits_field c (field_of c.id fs) ≡ b → (if b then first_unfit columns fs else Some c.id) ≡ None → (fits_field c (field_of c.id fs) ≡ true) × (first_unfit columns fs ≡ None)
    by_test true f g = (f, g)
    by_test false f g = absurd (let never : ⊥ = cc in never)

placed_at : (c : Column) (fs : Fields) (i : ℕ) (s : Shape) → field_of c.id fs ≡ Some (i, s) → c.required ≡ true → ((placed_of fs c).required && is_at i (placed_of fs c).place) ≡ true
placed_at c fs i s e r = rw (r, e) (eq-eqb i i refl)

or_second : (a b : Bool) → b ≡ true → (a || b) ≡ true
or_second true b e = refl
or_second false b e = e

-- where no null is refused no required column is null
have_required : (columns cs : List Column) (fs : Fields) (vs : List Value) → AreSpelled (fields_shapes fs) vs → NullFree 0 (map (placed_of fs) columns) fs vs → first_unfit cs fs ≡ None
    → ((at : ℕ) → is_needed at (map (placed_of fs) cs) ≡ true → is_needed at (map (placed_of fs) columns) ≡ true) → has_required cs fs vs ≡ true
have_required columns [] fs vs spelled free fit among = refl
have_required columns (c ∷ cs) fs vs spelled free fit among =
    let more : has_required cs fs vs ≡ true = have_required columns cs fs vs spelled free (fits_first c cs fs fit).1 (λ at e. among at (or_second _ _ e)) in
    let one : not (c.required && is_null (datum_by_id c fs vs)) ≡ true = by_required c.required refl in
    rw (one, more) refl
  where
    by_required : (b : Bool) → c.required ≡ b → not (c.required && is_null (datum_by_id c fs vs)) ≡ true
    by_required false e = rw e refl
    by_required true e =
        let n = needed c fs vs spelled e (fits_first c cs fs fit).0 in
        let asked : is_needed n.place (map (placed_of fs) columns) ≡ true = among n.place (rw (placed_at c fs n.place n.shape n.field e) refl) in
        let kept : is_null_of n.shape n.value ≡ false =
        sym (ap (λ (b : Bool). b && is_null_of n.shape n.value) asked) ∙ ap (λ (i : ℕ). is_needed i (map (placed_of fs) columns) && is_null_of n.shape n.value) (sym (from_zero n.place))
        ∙ free n.place n.value n.shape n.is n.there in
        rw (e, n.same, kept) refl

-- a required column stands at a place that is needed
record Asked (i : ℕ) (fs : Fields) (vs : List Value) : Type 0 where
  column : Column
  required : column.required ≡ true
  placed : is_at i (placed_of fs column).place ≡ true
  fits : fits_field column (field_of column.id fs) ≡ true
  kept : is_null (datum_by_id column fs vs) ≡ false

kept_one : (r n : Bool) → not (r && n) ≡ true → r ≡ true → n ≡ false
kept_one true true h e = absurd (true≢false (sym h))
kept_one true false h e = refl
kept_one false n h e = absurd (true≢false (sym e))

asked_for : (cs : List Column) (fs : Fields) (vs : List Value) (i : ℕ) → is_needed i (map (placed_of fs) cs) ≡ true → has_required cs fs vs ≡ true → first_unfit cs fs ≡ None → Asked i fs vs
asked_for [] fs vs i e h fit = absurd (true≢false (sym e))
asked_for (c ∷ cs) fs vs i e h fit =
    let parts = and_parts (not (c.required && is_null (datum_by_id c fs vs))) (has_required cs fs vs) h in
    by_test (λ g. asked_for cs fs vs i g parts.1 (fits_first c cs fs fit).1) parts.0 ((placed_of fs c).required && is_at i (placed_of fs c).place) refl e
  where
    by_test : (is_needed i (map (placed_of fs) cs) ≡ true → Asked i fs vs) → not (c.required && is_null (datum_by_id c fs vs)) ≡ true → (b : Bool)
        → ((placed_of fs c).required && is_at i (placed_of fs c).place) ≡ b → (b || is_needed i (map (placed_of fs) cs)) ≡ true → Asked i fs vs
    by_test more one true f g =
        let both = and_parts c.required (is_at i (placed_of fs c).place) f in
        record { column = c; required = both.0; placed = both.1; fits = (fits_first c cs fs fit).0; kept = kept_one c.required (is_null (datum_by_id c fs vs)) one both.0 }
    by_test more one false f g = more g

-- where no required column is null no null is refused
free_of : (columns : List Column) (fs : Fields) (vs : List Value) → AreSpelled (fields_shapes fs) vs → has_required columns fs vs ≡ true → first_unfit columns fs ≡ None → NullFree 0 (map (placed_of fs) columns) fs vs
free_of columns fs vs spelled h fit i v s e f =
    ap (λ (j : ℕ). is_needed j (map (placed_of fs) columns) && is_null_of s v) (from_zero i) ∙ by_test (is_needed i (map (placed_of fs) columns)) refl
  where
    by_test : (b : Bool) → is_needed i (map (placed_of fs) columns) ≡ b → (b && is_null_of s v) ≡ false
    by_test false g = refl
    by_test true g =
        let a = asked_for columns fs vs i g h fit in
        let n = needed a.column fs vs spelled a.required a.fits in
        let place : n.place ≡ i = eqb-true n.place i (sym (ap (λ (o : Option (ℕ × Shape)). is_at i (option_map (λ x. x.0) o)) n.field) ∙ a.placed) in
        let shapes : n.shape ≡ s = some_is n.shape s (sym n.there ∙ ap (shape_at fs) place ∙ f) in
        let values : n.value ≡ v = some_is n.value v (sym n.is ∙ ap (slice_get vs) place ∙ e) in
        ap (λ (x : Shape). is_null_of x v) (sym shapes) ∙ ap (is_null_of n.shape) (sym values) ∙ sym n.same ∙ a.kept

pub views_read_fields : ViewsReadFields
views_read_fields columns fs all vs rest fit = (forth, back)
  where
    forth : record_at (passed_of columns fs) all ≡ Ok (vs, rest) → (fields_at (fields_shapes fs) all ≡ Ok (vs, rest)) × (has_required columns fs vs ≡ true)
    forth e =
        let read = to_fields 0 (map (placed_of fs) columns) fs all vs rest e in
        let spelled = fields_spelled (fields_shapes fs) all vs rest read.0 in
        (read.0, have_required columns columns fs vs spelled (null_free 0 (map (placed_of fs) columns) fs vs read.1) fit (λ at f. f))

    back : (fields_at (fields_shapes fs) all ≡ Ok (vs, rest)) × (has_required columns fs vs ≡ true) → record_at (passed_of columns fs) all ≡ Ok (vs, rest)
    back h =
        let spelled = fields_spelled (fields_shapes fs) all vs rest h.0 in
        from_fields 0 (map (placed_of fs) columns) fs all vs rest h.0 (no_nulls 0 (map (placed_of fs) columns) fs vs (free_of columns fs vs spelled h.1 fit))
