-- What the calls of a cursor gave.
use Rattle.std.proofs.Common.{◌≡◌, ℕ, zero, suc, ◌+◌, ◌-◌, ◌<◌, ◌≤◌, true, false, List, [], ◌∷◌, ◌++◌, length, take, map, get_or, Ok, Err, Option, Some, None, option_map, option_and_then, refl, sym, ap, subst, ◌∙◌, arith, append-nil, length-append, length-drop, Bor}
use Rattle.std.specs.Prelude.{ℤ, slice_get}
use Rattle.icb_schema.specs.Tree.{Fields}
use Rattle.icb_schema.specs.Shape.{Shape, Shapes, union, shape_of, shapes_of, fields_shapes, all_arrays_take_bytes}
use Rattle.icb_schema.specs.declared.node.Node.{Node}
use Rattle.icb_avro.specs.declared.fault.AvroFault.{AvroFault}
use Rattle.icb_avro.specs.declared.fault.AvroCause.TheVariants as cause
use Rattle.icb_avro.specs.declared.fault.Refusal.{Refusal}
use Rattle.icb_avro.specs.declared.value.Value.{Value}
use Rattle.icb_avro.specs.Cursor.{Input, NamesAndStays, Reads, unread}
use Rattle.icb_avro.specs.Reading.{◌>>=◌, Read, behind, branch_at, index_at, read_as, value_at}
use Rattle.icb_avro.proofs.SkipLemmas.{behind_ok, branch_is, count_is}
use Rattle.icb_types.specs.declared.columns.ColType.{ColType}
use Rattle.icb_types.specs.declared.columns.Column.{Column}
use Rattle.icb_types.specs.declared.datum.Datum.{Datum}
use Rattle.icb_types.specs.declared.datum.Datum.TheVariants as datum
use Rattle.icb_rows.specs.declared.projection.Placed.{Placed}
use Rattle.icb_rows.specs.declared.projection.Projection.{Projection}
use Rattle.icb_rows.specs.Records.{datum_by_id, datum_of, datum_there, field_of}
use Rattle.icb_rows.specs.Views.{IsProjection, Passed, Passes, begins_null, field_at, is_null_branch, is_null_index, passed, passed_of, placed_of, record_at, taken_at}
use Rattle.icb_rows.proofs.ValueLemmas.{datum_of_Union, union_value}
use Rattle.icb_rows.proofs.RecordLemmas.{arrays_of, front_of, pass_refused, record_again, record_found}

-- ---- a read, and what is made of it

abbrev at_start : List ℕ → Input
at_start bytes = record { whole = bytes; place = 0 }

-- what is made of a read that gave a value
pub level_ok : {X Y : Type 0} (view : X → Y) (item : List ℕ → Read Y) (level : Y → Datum) (d : Datum) (x : X) (input new : Input) (bytes : List ℕ) → input ≡ at_start bytes
    → Reads view (Ok x) input new (item (unread input)) → d ≡ level (view x) → (y : Y) (rest : List ℕ) → item bytes ≡ Ok (y, rest) → d ≡ level y
level_ok view item level d x input new bytes start h same y rest e =
    let read : item (unread input) ≡ Ok (y, rest) = ap (λ (i : Input). item (unread i)) start ∙ e in
    let moved = subst (λ r. Reads view (Ok x) input new r) read h in
    same ∙ ap level moved.0

-- no value is read where the read was refused
pub level_err : {X Y : Type 0} (view : X → Y) (item : List ℕ → Read Y) (level : Y → Datum) (d : Datum) (f : AvroFault) (input new : Input) (bytes : List ℕ) → input ≡ at_start bytes
    → Reads view (Err f) input new (item (unread input)) → (y : Y) (rest : List ℕ) → item bytes ≡ Ok (y, rest) → d ≡ level y
level_err view item level d f input new bytes start h y rest e =
    let read : item (unread input) ≡ Ok (y, rest) = ap (λ (i : Input). item (unread i)) start ∙ e in
    absurd (subst (λ r. Reads view (Err f) input new r) read h)

-- the number of a branch was read
pub ok_index : (ss : Shapes) (r : Read ℤ) (index : ℤ) (old new : Input) → Reads (λ n. n) (Ok index) old new r → is_null_branch ss index ≡ is_null_index ss r
ok_index ss (Ok x) index old new h = ap (is_null_branch ss) h.0
ok_index ss (Err e) index old new h = absurd h

-- no number of a branch was read
pub err_index : (ss : Shapes) (r : Read ℤ) (f : AvroFault) (old new : Input) → Reads (λ n. n) (Err f) old new r → false ≡ is_null_index ss r
err_index ss (Ok x) f old new h = absurd h
err_index ss (Err e) f old new h = refl

-- ---- a branch

is_some : {A : Type 0} (x y : A) → Some x ≡ Some y → x ≡ y
is_some x y e = cc

same_pair : {A B : Type 0} (a b : A) (x y : B) → ◌≡◌ {A = Option (A × B)} (Some (a, x)) (Some (b, y)) → (a ≡ b) × (x ≡ y)
same_pair {A} {B} a b x y e =
    let p : A × B = (a, x) in
    let q : A × B = (b, y) in
    let same : p ≡ q = is_some p q e in
    (ap (λ (r : A × B). r.0) same, ap (λ (r : A × B). r.1) same)

-- nothing is no number
pub none_some : (k : ℕ) → ◌≡◌ {A = Option ℕ} None (Some k) → ⊥
none_some k e = cc

-- a number and the bytes behind it
pub some_pair : (j k : ℕ) (x y : List ℕ) → Some j ≡ Some k → x ≡ y → ◌≡◌ {A = Option (ℕ × List ℕ)} (Some (j, x)) (Some (k, y))
some_pair j k x y e f = let same : j ≡ k = is_some j k e in rw (same, f) refl

-- the datum of a branch is that of the union's value
pub branch_found : (ns : List Node) (bytes : List ℕ) (kind : ColType) (d : Datum) (j : ℕ) (n : Node) (found : List ℕ)
    → ((k : ℕ) (rest : List ℕ) → index_at (length ns) bytes ≡ Ok (k, rest) → ◌≡◌ {A = Option (ℕ × List ℕ)} (Some (j, found)) (Some (k, rest))) → j < length ns → n ≡ get_or ns j n
    → ((w : Value) (rest : List ℕ) → value_at (shape_of n) found ≡ Ok (w, rest) → d ≡ datum_of w kind)
    → (v : Value) (rest : List ℕ) → value_at (union (shapes_of (map shape_of ns))) bytes ≡ Ok (v, rest) → d ≡ datum_of v kind
branch_found ns bytes kind d j n found reads h is inside v rest e =
    let ss : Shapes = shapes_of (map shape_of ns) in
    let u = union_value ss bytes v rest e in
    let index : index_at (length ns) bytes ≡ Ok (u.0, u.1) = sym (ap (λ (m : ℕ). index_at m bytes) (count_is ns)) ∙ u.3 in
    let same = same_pair j u.0 found u.1 (reads u.0 u.1 index) in
    let value_is : value_at (shape_of n) found ≡ Ok (u.2, rest) =
    sym (branch_is ns j n found h is) ∙ ap (λ (m : ℕ). branch_at ss m found) same.0 ∙ ap (branch_at ss u.0) same.1 ∙ u.4 in
    inside u.2 rest value_is ∙ sym (ap (λ (w : Value). datum_of w kind) u.5 ∙ datum_of_Union u.0 u.2 kind)

-- a branch is there where the union's value is
pub no_branch : (ns : List Node) (bytes : List ℕ) (kind : ColType) (d : Datum)
    → ((k : ℕ) (rest : List ℕ) → index_at (length ns) bytes ≡ Ok (k, rest) → ◌≡◌ {A = Option (ℕ × List ℕ)} None (Some (k, rest)))
    → (v : Value) (rest : List ℕ) → value_at (union (shapes_of (map shape_of ns))) bytes ≡ Ok (v, rest) → d ≡ datum_of v kind
no_branch ns bytes kind d reads v rest e =
    let u = union_value (shapes_of (map shape_of ns)) bytes v rest e in
    let index : index_at (length ns) bytes ≡ Ok (u.0, u.1) = sym (ap (λ (m : ℕ). index_at m bytes) (count_is ns)) ∙ u.3 in
    let none = reads u.0 u.1 index in
    absurd (let never : ⊥ = cc in never)

-- ---- passing over fields

-- a null of a needed field was refused
pub refused_null : (p : Passed) (f : AvroFault) (old : Input) → p.needs ≡ true → begins_null p.shape (unread old) ≡ true → old.place ≤ length old.whole → f.place ≡ old.place → f.cause ≡ cause.Index
    → Reads {X = Unit {0}} (λ done. done) (Err f) old old (read_as (λ _. tt {0}) (field_at p (unread old)))
refused_null p f old needs null within place why =
    let n : f.place + length (unread old) ≡ length old.whole = omega (arith, place, length-drop old.place old.whole, within) in
    subst (λ r. Reads {X = Unit {0}} (λ done. done) (Err f) old old (read_as (λ _. tt {0}) r)) (sym (pass_refused p (unread old) needs null)) (why, n, refl)

-- a field was passed
pub passed_field : (r : Read Value) (x : Unit {0}) (old new : Input) → Reads (λ done. done) (Ok x) old new (read_as (λ _. tt {0}) r)
    → (v : Value) × (r ≡ Ok (v, unread new)) × (new.whole ≡ old.whole)
passed_field (Ok y) x old new h = (y.0, ap (λ (b : List ℕ). Ok (y.0, b)) (sym h.3), h.1)
passed_field (Err e) x old new h = absurd h

-- a field was refused
pub refused_field : (r : Read Value) (f : AvroFault) (old new : Input) → Reads (λ done. done) (Err f) old new (read_as (λ _. tt {0}) r)
    → (e : Refusal) × (r ≡ Err e) × NamesAndStays f old new e
refused_field (Ok y) f old new h = absurd h
refused_field (Err e) f old new h = (e, refl, h)

-- all fields were passed
pub all_passed : (ps : List Passed) (rest : Bor (List ℕ)) (old new : Input) → new.whole ≡ old.whole → rest.now ≡ unread new → new.place ≤ length new.whole
    → behind (record_at [] (unread new)) ≡ behind (record_at ps (unread old)) → Passes (Ok rest) old new (record_at ps (unread old))
all_passed ps rest old new whole is within e =
    let read = behind_ok (record_at ps (unread old)) (unread new) (sym e) in
    let n : new.place + length (unread new) ≡ length old.whole = omega (arith, length-drop new.place new.whole, ap length whole) in
    subst (λ r. Passes (Ok rest) old new r) (sym read.1) (is, whole, n, refl)

-- a field was refused behind others
pub not_passed : (ps : List Passed) (f : AvroFault) (old mid new : Input) (e : Refusal) → mid.whole ≡ old.whole → NamesAndStays f mid new e
    → record_at ps (unread old) ≡ Err e → Passes (Err f) old new (record_at ps (unread old))
not_passed ps f old mid new e whole h read =
    subst (λ r. Passes {A = List Value} (Err f) old new r) (sym read) (h.0, h.1 ∙ ap length whole, ap (λ (i : Input). i.whole) h.2 ∙ whole)

-- ---- taking a record

-- a record was taken
pub taken : (ps : List Passed) (rest : Bor (List ℕ)) (bytes : List ℕ) (old new : Input) → Passes (Ok rest) old new (record_at ps (unread old))
    → bytes ≡ take (length (unread old) - length rest.now) (unread old) → Reads (λ view. view) (Ok bytes) old new (taken_at ps (unread old))
taken ps rest bytes old new h is = read (record_at ps (unread old)) refl h
  where
    read : (r : Read (List Value)) → record_at ps (unread old) ≡ r → Passes (Ok rest) old new r
        → Reads (λ (view : List ℕ). view) (Ok bytes) old new (r >>= (λ vs. Ok (take (length (unread old) - length vs.1) (unread old), vs.1)))
    read (Ok x) e k = (is ∙ ap (λ (b : List ℕ). take (length (unread old) - length b) (unread old)) k.0, k.1, k.2, k.3)
    read (Err d) e k = absurd k

-- a record was refused, and the cursor went back
pub not_taken : (ps : List Passed) (f : AvroFault) (old mid new : Input) (all : List ℕ) → Passes (Err f) old mid (record_at ps (unread old)) → all ≡ unread old → old.place ≤ length old.whole
    → new.whole ≡ mid.whole → new.place ≡ length mid.whole - length all → Reads {X = List ℕ} (λ view. view) (Err f) old new (taken_at ps (unread old))
not_taken ps f old mid new all h is within whole place = read (record_at ps (unread old)) h
  where
    back : (w : mid.whole ≡ old.whole) → new ≡ old
    back w =
        let n : new.place ≡ old.place = omega (arith, place, ap length w, ap length is, length-drop old.place old.whole, within) in
        same new old (whole ∙ w) n
      where
        same : (a b : Input) → a.whole ≡ b.whole → a.place ≡ b.place → a ≡ b
        same a b g i = rw (g, i) refl

    read : (r : Read (List Value)) → Passes (Err f) old mid r
        → Reads (λ (view : List ℕ). view) (Err f) old new (r >>= (λ vs. Ok (take (length (unread old) - length vs.1) (unread old), vs.1)))
    read (Ok x) k = absurd k
    read (Err d) k = (k.0, k.1, back k.2)

-- what is left behind a record is no more than its bytes
pub rest_fits : (ps : List Passed) (rest : Bor (List ℕ)) (old new : Input) → Passes (Ok rest) old new (record_at ps (unread old)) → length rest.now ≤ length (unread old)
rest_fits ps rest old new h = read (record_at ps (unread old)) refl h
  where
    read : (r : Read (List Value)) → record_at ps (unread old) ≡ r → Passes (Ok rest) old new r → length rest.now ≤ length (unread old)
    read (Ok x) e k =
        let found = record_found ps (unread old) x.0 x.1 e in
        omega (arith, ap length k.0, ap length found.1, length-append found.0 x.1)
    read (Err d) e k = absurd k

view_again : (columns : List Column) (fs : Fields) → all_arrays_take_bytes (fields_shapes fs) ≡ true → (all bytes more : List ℕ) (vs : List Value) → record_at (passed_of columns fs) all ≡ Ok (vs, more)
    → bytes ≡ take (length all - length more) all → record_at (passed_of columns fs) bytes ≡ Ok (vs, [])
view_again columns fs arrays all bytes more vs e cut =
    let again = record_again (passed_of columns fs) (arrays_of 0 (map (placed_of fs) columns) fs arrays) all vs more e in
    let front : bytes ≡ again.0 ++ [] =
    cut ∙ ap (λ (b : List ℕ). take (length b - length more) b) again.1 ∙ front_of again.0 more ∙ sym (append-nil again.0) in
    ap (record_at (passed_of columns fs)) front ∙ again.2 []

-- a view spells the record that was taken
pub taken_again : (p : Projection) (rest : Bor (List ℕ)) (bytes : List ℕ) (old new : Input) → Passes (Ok rest) old new (record_at (map passed p.fields) (unread old))
    → bytes ≡ take (length (unread old) - length rest.now) (unread old) → (columns : List Column) (fs : Fields) → IsProjection p columns fs
    → (vs : List Value) (more : List ℕ) → record_at (passed_of columns fs) (unread old) ≡ Ok (vs, more) → record_at (passed_of columns fs) bytes ≡ Ok (vs, [])
taken_again p rest bytes old new h cut columns fs is vs more e =
    let read : record_at (map passed p.fields) (unread old) ≡ Ok (vs, more) = ap (λ (ps : List Passed). record_at ps (unread old)) is.fields ∙ e in
    let moved = subst (λ r. Passes (Ok rest) old new r) read h in
    view_again columns fs is.arrays (unread old) bytes more vs e (cut ∙ ap (λ (b : List ℕ). take (length (unread old) - length b) (unread old)) moved.0)

-- ---- the datum of a column

get_mapped : {A B : Type 0} (f : A → B) (xs : List A) (i : ℕ) (x : A) → slice_get xs i ≡ Some x → slice_get (map f xs) i ≡ Some (f x)
get_mapped f [] zero x e = absurd (let never : ⊥ = cc in never)
get_mapped f [] (suc i) x e = absurd (let never : ⊥ = cc in never)
get_mapped f (y ∷ xs) zero x e = ap (λ z. Some (f z)) (the_one y x e)
  where
    the_one : {C : Type 0} (a b : C) → Some a ≡ Some b → a ≡ b
    the_one a b e = cc
get_mapped f (y ∷ xs) (suc i) x e = get_mapped f xs i x e

-- where a column of a projection is
pub column_place : (p : Projection) (columns : List Column) (fs : Fields) → IsProjection p columns fs → (index : ℕ) (c : Column) → slice_get columns index ≡ Some c
    → slice_get p.columns index ≡ Some (placed_of fs c)
column_place p columns fs is index c e = ap (λ (cs : List Placed). slice_get cs index) is.places ∙ get_mapped (placed_of fs) columns index c e

by_place : (kind : ColType) (o : Option (ℕ × Shape)) (place : ℕ) (vs : List Value) → option_map (λ f. f.0) o ≡ Some place
    → datum_there kind (slice_get vs place) ≡ datum_there kind (option_and_then (λ f. slice_get vs f.0) o)
by_place kind None place vs e = absurd (let never : ⊥ = cc in never)
by_place kind (Some f) place vs e = ap (λ (i : ℕ). datum_there kind (slice_get vs i)) (let same : place ≡ f.0 = cc in same)

no_place : (kind : ColType) (o : Option (ℕ × Shape)) (vs : List Value) → option_map (λ f. f.0) o ≡ None → datum.Null ≡ datum_there kind (option_and_then (λ f. slice_get vs f.0) o)
no_place kind None vs e = refl
no_place kind (Some f) vs e = absurd (let never : ⊥ = cc in never)

the_same : {A : Type 0} (x y : A) → Some x ≡ Some y → x ≡ y
the_same x y e = cc

-- the datum of a column that is there
pub placed_datum : (p : Projection) (columns : List Column) (fs : Fields) → IsProjection p columns fs → (index : ℕ) (found : Placed) (place : ℕ) → slice_get p.columns index ≡ Some found → found.place ≡ Some place
    → (all : List ℕ) (d : Datum) → ((vs : List Value) (rest : List ℕ) → record_at (map passed p.fields) all ≡ Ok (vs, rest) → d ≡ datum_there found.kind (slice_get vs place))
    → (vs : List Value) → record_at (passed_of columns fs) all ≡ Ok (vs, []) → (c : Column) → slice_get columns index ≡ Some c → d ≡ datum_by_id c fs vs
placed_datum p columns fs is index found place e at all d inside vs read c chosen =
    let same : found ≡ placed_of fs c = the_same found (placed_of fs c) (sym e ∙ column_place p columns fs is index c chosen) in
    let there : option_map (λ f. f.0) (field_of c.id fs) ≡ Some place = sym (ap (λ (x : Placed). x.place) same) ∙ at in
    inside vs [] (ap (λ (ps : List Passed). record_at ps all) is.fields ∙ read) ∙ ap (λ (x : Placed). datum_there x.kind (slice_get vs place)) same ∙ by_place c.kind (field_of c.id fs) place vs there

-- the datum of a column that isn't there
pub missing_datum : (p : Projection) (columns : List Column) (fs : Fields) → IsProjection p columns fs → (index : ℕ) (found : Placed) → slice_get p.columns index ≡ Some found → found.place ≡ None
    → (vs : List Value) (c : Column) → slice_get columns index ≡ Some c → datum.Null ≡ datum_by_id c fs vs
missing_datum p columns fs is index found e at vs c chosen =
    let same : found ≡ placed_of fs c = the_same found (placed_of fs c) (sym e ∙ column_place p columns fs is index c chosen) in
    no_place c.kind (field_of c.id fs) vs (sym (ap (λ (x : Placed). x.place) same) ∙ at)

-- a column that was chosen has a place
pub no_column : (p : Projection) (columns : List Column) (fs : Fields) → IsProjection p columns fs → (index : ℕ) → slice_get p.columns index ≡ None → (c : Column) → slice_get columns index ≡ Some c → ⊥
no_column p columns fs is index e c chosen = let found = sym e ∙ column_place p columns fs is index c chosen in cc
