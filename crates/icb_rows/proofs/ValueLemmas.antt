-- Data of values that are read.
use Rattle.std.proofs.Common.{◌≡◌, ℕ, zero, suc, ◌<◌, Bool, true, false, true≢false, List, [], ◌∷◌, length, map, get_or, Result, Ok, Err, Some, None, refl, sym, ap, ◌∙◌, arith, lt-ltb, ltb-true, ltb-false, subst, ◌≤◌}
use Rattle.std.specs.Prelude.{ℤ, pos, negsuc, nat_lt, if◌then◌else◌}
use Rattle.icb_schema.specs.Tree as tree
use Rattle.icb_schema.specs.Shape.{Shape, Shapes, primitive, fixed, enumeration, fields, array, map_of, union, no_shapes, shape_then, shape_of, shapes_of}
use Rattle.icb_schema.specs.declared.node.Node.{Node}
use Rattle.icb_avro.specs.declared.fault.AvroFault.{AvroFault}
use Rattle.icb_avro.specs.declared.fault.AvroCause.TheVariants as cause
use Rattle.icb_avro.specs.declared.value.Value.{Value, fold-roll-Value}
use Rattle.icb_avro.specs.declared.value.Value.TheOpen.{Value-F}
use Rattle.icb_avro.specs.declared.value.Value.TheVariants as value
use Rattle.icb_avro.specs.Cursor.{Input, Reads, unread}
use Rattle.icb_avro.specs.Reading.{Read, branch_at, count_of, index_at, index_of, int_at, read_as, value_at}
use Rattle.icb_avro.proofs.Steps.{bind_ok, ok_is, rest_is, test_ok, value_is}
use Rattle.icb_types.specs.declared.columns.ColType.{ColType}
use Rattle.icb_types.specs.declared.datum.Datum.{Datum}
use Rattle.icb_types.specs.declared.datum.Datum.TheVariants as datum
use Rattle.icb_rows.specs.Records.{datum_level, datum_of, is_null_shape}
use Rattle.icb_rows.specs.Views.{branch_level, branch_of, begins_null, is_null_branch, is_null_index, is_null_of, number_below}

-- ---- what a read gave

-- a value that is seen as another one
pub read_as_ok : {A B : Type 0} (f : A → B) (r : Read A) (v : B) (rest : List ℕ) → read_as f r ≡ Ok (v, rest) → (x : A) × (r ≡ Ok (x, rest)) × (v ≡ f x)
read_as_ok {A} f r v rest e =
    let s = bind_ok r (λ x. Ok (f x.0, x.1)) (v, rest) e in
    let x : A = s.0.0 in
    (x, s.1 ∙ ap (λ (t : List ℕ). Ok (x, t)) (rest_is (f x) v s.0.1 rest s.2), sym (value_is (f x) v s.0.1 rest s.2))

-- a call that reads what is there gives it
pub got : {X Y : Type 0} (view : X → Y) (result : Result X AvroFault) (old new : Input) (r : Read Y) (y : Y) (rest : List ℕ) → Reads view result old new r → r ≡ Ok (y, rest)
    → (x : X) × (result ≡ Ok x) × (view x ≡ y) × (unread new ≡ rest)
got view (Ok x) old new (Ok z) y rest h e = (x, refl, h.0 ∙ ap (λ w. w.0) (ok_is z (y, rest) e), h.3 ∙ ap (λ w. w.1) (ok_is z (y, rest) e))
got view (Ok x) old new (Err r) y rest h e = absurd h
got view (Err f) old new (Ok z) y rest h e = absurd h
got view (Err f) old new (Err r) y rest h e = absurd (let never : ⊥ = cc in never)

-- ---- data of values

pub datum_of_Null : (kind : ColType) → datum_of value.Null kind ≡ datum_level Value-F.Null kind
unfolding datum_of
datum_of_Null kind = ap (λ (f : ColType → Datum). f kind) (ap datum_of (sym value.rolls-Null) ∙ fold-roll-Value (ColType → Datum) datum_level Value-F.Null)

pub datum_of_Boolean : (b : Bool) → (kind : ColType) → datum_of (value.Boolean b) kind ≡ datum_level (Value-F.Boolean b) kind
unfolding datum_of
datum_of_Boolean b kind = ap (λ (f : ColType → Datum). f kind) (ap datum_of (sym (value.rolls-Boolean b)) ∙ fold-roll-Value (ColType → Datum) datum_level (Value-F.Boolean b))

pub datum_of_Int : (n : ℤ) → (kind : ColType) → datum_of (value.Int n) kind ≡ datum_level (Value-F.Int n) kind
unfolding datum_of
datum_of_Int n kind = ap (λ (f : ColType → Datum). f kind) (ap datum_of (sym (value.rolls-Int n)) ∙ fold-roll-Value (ColType → Datum) datum_level (Value-F.Int n))

pub datum_of_Long : (n : ℤ) → (kind : ColType) → datum_of (value.Long n) kind ≡ datum_level (Value-F.Long n) kind
unfolding datum_of
datum_of_Long n kind = ap (λ (f : ColType → Datum). f kind) (ap datum_of (sym (value.rolls-Long n)) ∙ fold-roll-Value (ColType → Datum) datum_level (Value-F.Long n))

pub datum_of_Float : (bytes : List ℕ) → (kind : ColType) → datum_of (value.Float bytes) kind ≡ datum_level (Value-F.Float bytes) kind
unfolding datum_of
datum_of_Float bytes kind = ap (λ (f : ColType → Datum). f kind) (ap datum_of (sym (value.rolls-Float bytes)) ∙ fold-roll-Value (ColType → Datum) datum_level (Value-F.Float bytes))

pub datum_of_Double : (bytes : List ℕ) → (kind : ColType) → datum_of (value.Double bytes) kind ≡ datum_level (Value-F.Double bytes) kind
unfolding datum_of
datum_of_Double bytes kind = ap (λ (f : ColType → Datum). f kind) (ap datum_of (sym (value.rolls-Double bytes)) ∙ fold-roll-Value (ColType → Datum) datum_level (Value-F.Double bytes))

pub datum_of_Bytes : (bytes : List ℕ) → (kind : ColType) → datum_of (value.Bytes bytes) kind ≡ datum_level (Value-F.Bytes bytes) kind
unfolding datum_of
datum_of_Bytes bytes kind = ap (λ (f : ColType → Datum). f kind) (ap datum_of (sym (value.rolls-Bytes bytes)) ∙ fold-roll-Value (ColType → Datum) datum_level (Value-F.Bytes bytes))

pub datum_of_Text : (text : List ℕ) → (kind : ColType) → datum_of (value.Text text) kind ≡ datum_level (Value-F.Text text) kind
unfolding datum_of
datum_of_Text text kind = ap (λ (f : ColType → Datum). f kind) (ap datum_of (sym (value.rolls-Text text)) ∙ fold-roll-Value (ColType → Datum) datum_level (Value-F.Text text))

pub datum_of_Fixed : (bytes : List ℕ) → (kind : ColType) → datum_of (value.Fixed bytes) kind ≡ datum_level (Value-F.Fixed bytes) kind
unfolding datum_of
datum_of_Fixed bytes kind = ap (λ (f : ColType → Datum). f kind) (ap datum_of (sym (value.rolls-Fixed bytes)) ∙ fold-roll-Value (ColType → Datum) datum_level (Value-F.Fixed bytes))

pub datum_of_Enum : (k : ℕ) → (kind : ColType) → datum_of (value.Enum k) kind ≡ datum_level (Value-F.Enum k) kind
unfolding datum_of
datum_of_Enum k kind = ap (λ (f : ColType → Datum). f kind) (ap datum_of (sym (value.rolls-Enum k)) ∙ fold-roll-Value (ColType → Datum) datum_level (Value-F.Enum k))

pub datum_of_Record : (vs : List Value) (kind : ColType) → datum_of (value.Record vs) kind ≡ datum.Null
unfolding datum_of
datum_of_Record vs kind = ap (λ (f : ColType → Datum). f kind) (ap datum_of (sym (value.rolls-Record vs)) ∙ fold-roll-Value (ColType → Datum) datum_level (Value-F.Record vs))

pub datum_of_Array : (vs : List Value) (kind : ColType) → datum_of (value.Array vs) kind ≡ datum.Null
unfolding datum_of
datum_of_Array vs kind = ap (λ (f : ColType → Datum). f kind) (ap datum_of (sym (value.rolls-Array vs)) ∙ fold-roll-Value (ColType → Datum) datum_level (Value-F.Array vs))

pub datum_of_Map : (es : List (List ℕ × Value)) (kind : ColType) → datum_of (value.Map es) kind ≡ datum.Null
unfolding datum_of
datum_of_Map es kind = ap (λ (f : ColType → Datum). f kind) (ap datum_of (sym (value.rolls-Map es)) ∙ fold-roll-Value (ColType → Datum) datum_level (Value-F.Map es))

pub datum_of_Union : (k : ℕ) (w : Value) (kind : ColType) → datum_of (value.Union k w) kind ≡ datum_of w kind
unfolding datum_of
datum_of_Union k w kind = ap (λ (f : ColType → Datum). f kind) (ap datum_of (sym (value.rolls-Union k w)) ∙ fold-roll-Value (ColType → Datum) datum_level (Value-F.Union k w))

pub branch_of_Union : (k : ℕ) (w : Value) → branch_of (value.Union k w) ≡ k
unfolding branch_of
branch_of_Union k w = ap branch_of (sym (value.rolls-Union k w)) ∙ fold-roll-Value ℕ branch_level (Value-F.Union k w)

-- a value of a type whose data are of no kind
pub no_datum : {A : Type 0} (f : A → Value) (r : Read A) (kind : ColType) → ((x : A) → datum_of (f x) kind ≡ datum.Null) → (v : Value) (rest : List ℕ) → read_as f r ≡ Ok (v, rest) → datum.Null ≡ datum_of v kind
no_datum f r kind none v rest e = let x = read_as_ok f r v rest e in sym (ap (λ (w : Value). datum_of w kind) x.2 ∙ none x.0)

-- a value of a type by what was read
pub leaf_datum : {A : Type 0} (f : A → Value) (r : Read A) (kind : ColType) (d : Datum) (level : A → Datum) → ((x : A) → datum_of (f x) kind ≡ level x) → ((x : A) (rest : List ℕ) → r ≡ Ok (x, rest) → d ≡ level x)
    → (v : Value) (rest : List ℕ) → read_as f r ≡ Ok (v, rest) → d ≡ datum_of v kind
leaf_datum f r kind d level of is v rest e = let x = read_as_ok f r v rest e in is x.0 rest x.1 ∙ sym (ap (λ (w : Value). datum_of w kind) x.2 ∙ of x.0)

-- the datum of null
pub null_datum : (kind : ColType) (all : List ℕ) (v : Value) (rest : List ℕ) → value_at (primitive tree.null) all ≡ Ok (v, rest) → datum.Null ≡ datum_of v kind
null_datum kind all v rest e = sym (datum_of_Null kind) ∙ ap (λ (w : Value). datum_of w kind) (value_is value.Null v all rest e)

-- ---- unions

index_parts : (count : ℕ) (all : List ℕ) (x : ℤ × List ℕ) (k : ℕ) (mid : List ℕ) → index_of count all x ≡ Ok (k, mid) → (x ≡ (pos k, mid)) × (nat_lt k count ≡ true)
index_parts count all (pos j, r) k mid e =
    let t = test_ok (nat_lt j count) (Ok (j, r)) (record { left = length all; cause = cause.Index }) (k, mid) e in
    let number = value_is j k r mid t.1 in
    (ap (λ (x : ℕ × List ℕ). (pos x.0, x.1)) (ok_is (j, r) (k, mid) t.1), ap (λ (i : ℕ). nat_lt i count) (sym number) ∙ t.0)
index_parts count all (negsuc j, r) k mid e = absurd (let never : ⊥ = cc in never)

-- the number of an index
pub index_int : (count : ℕ) (all : List ℕ) (k : ℕ) (mid : List ℕ) → index_at count all ≡ Ok (k, mid) → (int_at all ≡ Ok (pos k, mid)) × (nat_lt k count ≡ true)
unfolding index_at
index_int count all k mid e =
    let s = bind_ok (int_at all) (index_of count all) (k, mid) e in
    let parts = index_parts count all s.0 k mid s.2 in
    (s.1 ∙ ap (λ (x : ℤ × List ℕ). Ok x) parts.0, parts.1)

index_by_int : (count k : ℕ) (all mid : List ℕ) → nat_lt k count ≡ true → int_at all ≡ Ok (pos k, mid) → index_at count all ≡ Ok (k, mid)
unfolding index_at
index_by_int count k all mid h e = rw (e, h) refl

-- a value of a union is one of its branch
pub union_value : (ss : Shapes) (all : List ℕ) (v : Value) (rest : List ℕ) → value_at (union ss) all ≡ Ok (v, rest)
    → (k : ℕ) × (mid : List ℕ) × (w : Value) × (index_at (count_of ss) all ≡ Ok (k, mid)) × (branch_at ss k mid ≡ Ok (w, rest)) × (v ≡ value.Union k w)
union_value ss all v rest e =
    let s = bind_ok (index_at (count_of ss) all) (λ k. read_as (value.Union k.0) (branch_at ss k.0 k.1)) (v, rest) e in
    let w = read_as_ok (value.Union s.0.0) (branch_at ss s.0.0 s.0.1) v rest s.2 in
    (s.0.0, s.0.1, w.0, s.1, w.1, w.2)

-- ---- nulls

null_shape : (s : Shape) → is_null_shape s ≡ true → s ≡ primitive tree.null
null_shape (primitive tree.null) e = refl
null_shape (primitive tree.boolean) e = absurd (true≢false (sym e))
null_shape (primitive tree.int) e = absurd (true≢false (sym e))
null_shape (primitive tree.long) e = absurd (true≢false (sym e))
null_shape (primitive tree.float) e = absurd (true≢false (sym e))
null_shape (primitive tree.double) e = absurd (true≢false (sym e))
null_shape (primitive tree.bytes) e = absurd (true≢false (sym e))
null_shape (primitive tree.text) e = absurd (true≢false (sym e))
null_shape (fixed n) e = absurd (true≢false (sym e))
null_shape (enumeration n) e = absurd (true≢false (sym e))
null_shape (fields ss) e = absurd (true≢false (sym e))
null_shape (array s) e = absurd (true≢false (sym e))
null_shape (map_of s) e = absurd (true≢false (sym e))
null_shape (union ss) e = absurd (true≢false (sym e))

null_branch : (ss : Shapes) (k : ℕ) (all : List ℕ) → is_null_branch ss (pos k) ≡ true → (k < count_of ss) × (branch_at ss k all ≡ Ok (value.Null, all))
null_branch no_shapes k all e = absurd (true≢false (sym e))
null_branch (shape_then s ss) zero all e = (omega arith, ap (λ (t : Shape). value_at t all) (null_shape s e))
null_branch (shape_then s ss) (suc k) all e = let more = null_branch ss k all e in (omega (arith, more.0), more.1)

no_negative : (ss : Shapes) (k : ℕ) → is_null_branch ss (negsuc k) ≡ false
no_negative no_shapes k = refl
no_negative (shape_then s ss) k = refl

null_union : (ss : Shapes) (all : List ℕ) (r : Read ℤ) → int_at all ≡ r → is_null_index ss r ≡ true → (v : Value) × (rest : List ℕ) × (value_at (union ss) all ≡ Ok (v, rest)) × (is_null_of (union ss) v ≡ true)
null_union ss all (Ok (pos k, mid)) e h =
    let branch = null_branch ss k mid h in
    (value.Union k value.Null, mid, rw (index_by_int (count_of ss) k all mid (lt-ltb k (count_of ss) branch.0) e, branch.1) refl, ap (λ (j : ℕ). is_null_branch ss (pos j)) (branch_of_Union k value.Null) ∙ h)
null_union ss all (Ok (negsuc k, mid)) e h = absurd (true≢false (sym h ∙ no_negative ss k))
null_union ss all (Err d) e h = absurd (true≢false (sym h))

-- bytes that begin with a null are one
pub null_begins : (s : Shape) (all : List ℕ) → begins_null s all ≡ true → (v : Value) × (rest : List ℕ) × (value_at s all ≡ Ok (v, rest)) × (is_null_of s v ≡ true)
null_begins (primitive tree.null) all h = (value.Null, all, refl, refl)
null_begins (primitive tree.boolean) all h = absurd (true≢false (sym h))
null_begins (primitive tree.int) all h = absurd (true≢false (sym h))
null_begins (primitive tree.long) all h = absurd (true≢false (sym h))
null_begins (primitive tree.float) all h = absurd (true≢false (sym h))
null_begins (primitive tree.double) all h = absurd (true≢false (sym h))
null_begins (primitive tree.bytes) all h = absurd (true≢false (sym h))
null_begins (primitive tree.text) all h = absurd (true≢false (sym h))
null_begins (fixed n) all h = absurd (true≢false (sym h))
null_begins (enumeration n) all h = absurd (true≢false (sym h))
null_begins (fields ss) all h = absurd (true≢false (sym h))
null_begins (array s) all h = absurd (true≢false (sym h))
null_begins (map_of s) all h = absurd (true≢false (sym h))
null_begins (union ss) all h = null_union ss all (int_at all) refl h

-- bytes that don't begin with a null are none
pub none_begins : (s : Shape) (all : List ℕ) → begins_null s all ≡ false → (v : Value) (rest : List ℕ) → value_at s all ≡ Ok (v, rest) → is_null_of s v ≡ false
none_begins (primitive tree.null) all h v rest e = absurd (true≢false h)
none_begins (primitive tree.boolean) all h v rest e = refl
none_begins (primitive tree.int) all h v rest e = refl
none_begins (primitive tree.long) all h v rest e = refl
none_begins (primitive tree.float) all h v rest e = refl
none_begins (primitive tree.double) all h v rest e = refl
none_begins (primitive tree.bytes) all h v rest e = refl
none_begins (primitive tree.text) all h v rest e = refl
none_begins (fixed n) all h v rest e = refl
none_begins (enumeration n) all h v rest e = refl
none_begins (fields ss) all h v rest e = refl
none_begins (array s) all h v rest e = refl
none_begins (map_of s) all h v rest e = refl
none_begins (union ss) all h v rest e =
    let u = union_value ss all v rest e in
    let number = (index_int (count_of ss) all u.0 u.1 u.3).0 in
    let same : branch_of v ≡ u.0 = ap branch_of u.5 ∙ branch_of_Union u.0 u.2 in
    ap (λ (k : ℕ). is_null_branch ss (pos k)) same ∙ sym (ap (is_null_index ss) number) ∙ h

-- ---- numbers below a count

-- a number that was read is that of the index
pub number_read : (count : ℕ) (all : List ℕ) (index : ℤ) (input new : Input) (rest : List ℕ) → unread input ≡ all → Reads (λ n. n) (Ok index) input new (int_at (unread input)) → (k : ℕ)
    → index_at count all ≡ Ok (k, rest) → (number_below count index ≡ Some k) × (unread new ≡ rest)
number_read count all index input new rest start h k e =
    let i = index_int count all k rest e in
    let read = got (λ (n : ℤ). n) (Ok index) input new (int_at (unread input)) (pos k) rest h (ap int_at start ∙ i.0) in
    (ap (number_below count) (the_index read.0 index read.1 ∙ read.2) ∙ found count k i.1, read.3)
  where
    the_index : (x y : ℤ) → ◌≡◌ {A = Result ℤ AvroFault} (Ok y) (Ok x) → y ≡ x
    the_index x y e = cc

    found : (count k : ℕ) → nat_lt k count ≡ true → number_below count (pos k) ≡ Some k
    found count k e = rw e refl

-- no number was read
pub number_unread : (count : ℕ) (all : List ℕ) (f : AvroFault) (input new : Input) (rest : List ℕ) → unread input ≡ all → Reads (λ n. n) (Err f) input new (int_at (unread input)) → (k : ℕ)
    → index_at count all ≡ Ok (k, rest) → ⊥
number_unread count all f input new rest start h k e =
    let i = index_int count all k rest e in
    let read = got (λ (n : ℤ). n) (Err f) input new (int_at (unread input)) (pos k) rest h (ap int_at start ∙ i.0) in
    never read.0 read.1
  where
    never : (x : ℤ) → ◌≡◌ {A = Result ℤ AvroFault} (Err f) (Ok x) → ⊥
    never x e = cc

-- the branch of a number is null
pub branch_null : (ns : List Node) (k : ℕ) (n : Node) → k < length ns → n ≡ get_or ns k n → is_null_shape (shape_of n) ≡ is_null_branch (shapes_of (map shape_of ns)) (pos k)
branch_null [] k n h is = absurd (let never : ⊥ = omega (arith, h) in never)
branch_null (m ∷ ns) zero n h is = ap (λ (x : Node). is_null_shape (shape_of x)) is
branch_null (m ∷ ns) (suc k) n h is = branch_null ns k n (omega (arith, h)) is

-- a number that isn't below the count is that of no branch
pub branch_none : (ns : List Node) (index : ℤ) → number_below (length ns) index ≡ None → false ≡ is_null_branch (shapes_of (map shape_of ns)) index
branch_none ns (negsuc k) e = sym (no_negative (shapes_of (map shape_of ns)) k)
branch_none ns (pos k) e = behind ns k (above (nat_lt k (length ns)) refl e)
  where
    above : (b : Bool) → nat_lt k (length ns) ≡ b → (if b then Some k else None) ≡ None → length ns ≤ k
    above true f g = absurd (let never : ⊥ = cc in never)
    above false f g = ltb-false k (length ns) f

    behind : (ms : List Node) (j : ℕ) → length ms ≤ j → false ≡ is_null_branch (shapes_of (map shape_of ms)) (pos j)
    behind [] j h = refl
    behind (m ∷ ms) zero h = absurd (let never : ⊥ = omega (arith, h) in never)
    behind (m ∷ ms) (suc j) h = behind ms j (omega (arith, h))

-- a number that is below the count, as the number that it is
pub below_is : (count : ℕ) (index : ℤ) (k : ℕ) → number_below count index ≡ Some k → (index ≡ pos k) × (k < count)
below_is count (negsuc n) k e = absurd (let never : ⊥ = cc in never)
below_is count (pos n) k e = tested (nat_lt n count) refl e
  where
    tested : (b : Bool) → nat_lt n count ≡ b → (if b then Some n else None) ≡ Some k → (pos n ≡ pos k) × (k < count)
    tested false f g = absurd (let never : ⊥ = cc in never)
    tested true f g = let same : n ≡ k = cc in (ap pos same, subst (λ (m : ℕ). m < count) same (ltb-true n count f))
