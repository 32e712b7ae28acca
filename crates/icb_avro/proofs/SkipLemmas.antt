-- Passing over a value.
use Rattle.std.proofs.Common.{◌≡◌, ℕ, zero, suc, ◌+◌, ◌<◌, ◌≤◌, List, [], ◌∷◌, length, drop, get_or, map, Result, Ok, Err, MatchResult, refl, sym, ap, ◌∙◌, arith, add-one, drop-cons, Bor, length-append}
use Rattle.std.proofs.lemmas.List.{drop_all}
use Rattle.icb_schema.specs.Shape.{Shape, Shapes, shape_of, shapes_of, union}
use Rattle.icb_schema.specs.declared.node.Node.{Node}
use Rattle.icb_schema.specs.declared.node.Field.{Field}
use Rattle.icb_avro.specs.declared.fault.Refusal.{Refusal}
use Rattle.icb_avro.specs.declared.value.Value.{Value}
use Rattle.icb_avro.specs.declared.value.Value.TheVariants as value
use Rattle.icb_avro.specs.Answers.{Gives}
use Rattle.icb_avro.specs.Reading.{◌>>=◌, Read, read_as, behind, text_at, entry_at, value_at, fields_at, branch_at, count_of, index_at}
use Rattle.icb_avro.proofs.Steps.{ok_is}
use Rattle.icb_avro.proofs.Found.{text_found}
use Rattle.icb_avro.proofs.FoundValues.{value_found}

-- the bytes behind a value that is read
pub leaf : {X Y Z : Type 0} (view : X → Y) (f : Y → Z) (read : Result (X × Bor (List ℕ)) Refusal) (result : Result (Bor (List ℕ)) Refusal) (spec : Read Y)
    → Gives (λ x. (view x.0, x.1.now)) read spec → MatchResult read (λ x. result ≡ Ok x.1) (λ e. result ≡ Err e) → Gives (λ r. r.now) result (behind (read_as f spec))
leaf view f (Ok x) result spec g e = rw (e, g) refl
leaf view f (Err d) result spec g e = rw (e, g) refl

pub behind_ok : {A : Type 0} (read : Read A) (rest : List ℕ) → behind read ≡ Ok rest → (x : A) × (read ≡ Ok (x, rest))
behind_ok (Ok x) rest e = (x.0, ap (λ (t : List ℕ). Ok (x.0, t)) (ok_is x.1 rest e))
behind_ok (Err d) rest e = absurd cc

pub behind_err : {A : Type 0} (read : Read A) (r : Refusal) → behind read ≡ Err r → read ≡ Err r
behind_err (Ok x) r e = absurd cc
behind_err (Err d) r e = cc

-- what is behind a value that is seen as another one
pub behind_as : {A B : Type 0} (f : A → B) (read : Read A) → behind (read_as f read) ≡ behind read
behind_as f (Ok x) = refl
behind_as f (Err d) = refl

-- ---- values are no longer than the bytes

pub value_shorter : (s : Shape) (all : List ℕ) (v : Value) (rest : List ℕ) → value_at s all ≡ Ok (v, rest) → length rest ≤ length all
value_shorter s all v rest e = let f = value_found s all v rest e in omega (arith, ap length f.1, length-append f.0 rest)

pub behind_shorter : (s : Shape) (all rest : List ℕ) → behind (value_at s all) ≡ Ok rest → length rest ≤ length all
behind_shorter s all rest e = let b = behind_ok (value_at s all) rest e in value_shorter s all b.0 rest b.1

pub text_shorter : (all text rest : List ℕ) → text_at all ≡ Ok (text, rest) → length rest ≤ length all
text_shorter all text rest e = let f = text_found all text rest e in omega (arith, ap length f.1, length-append f.0 rest)

-- ---- fields

abbrev pub shapes : List Field → Shapes
shapes fs = shapes_of (map (λ f. shape_of f.node) fs)

first_field : (s : Shape) (ss : Shapes) (read : Read Value) (rest : List ℕ) → behind read ≡ Ok rest → behind (read >>= (λ v. fields_at ss v.1 >>= (λ vs. Ok (v.0 ∷ vs.0, vs.1)))) ≡ behind (fields_at ss rest)
first_field s ss read rest e =
    let b = behind_ok read rest e in
    rw b.1 (tail b.0 (fields_at ss rest))
  where
    tail : (v : Value) (r : Read (List Value)) → behind (r >>= (λ vs. Ok (v ∷ vs.0, vs.1))) ≡ behind r
    tail v (Ok x) = refl
    tail v (Err d) = refl

pub field_skipped : (fs : List Field) (i : ℕ) (f : Field) (all rest : List ℕ) → i < length fs → f ≡ get_or fs i f → behind (value_at (shape_of f.node) all) ≡ Ok rest
    → behind (fields_at (shapes (drop i fs)) all) ≡ behind (fields_at (shapes (drop (i + 1) fs)) rest)
field_skipped fs i f all rest within is e = rw (add-one, drop-cons fs i f, ← is) (first_field (shape_of f.node) (shapes (drop (suc i) fs)) (value_at (shape_of f.node) all) rest e)

pub field_refused : (fs : List Field) (i : ℕ) (f : Field) (all : List ℕ) (r : Refusal) → i < length fs → f ≡ get_or fs i f → value_at (shape_of f.node) all ≡ Err r → fields_at (shapes (drop i fs)) all ≡ Err r
field_refused fs i f all r within is e = rw (drop-cons fs i f, ← is, e) refl

pub no_more_fields : (fs : List Field) (i : ℕ) (all : List ℕ) → length fs ≤ i → fields_at (shapes (drop i fs)) all ≡ Ok ([], all)
no_more_fields fs i all h = rw (drop_all i fs h) refl

-- ---- branches

pub count_is : (ns : List Node) → count_of (shapes_of (map shape_of ns)) ≡ length ns
count_is [] = refl
count_is (n ∷ ns) = ap suc (count_is ns)

pub branch_is : (ns : List Node) (k : ℕ) (n : Node) (all : List ℕ) → k < length ns → n ≡ get_or ns k n → branch_at (shapes_of (map shape_of ns)) k all ≡ value_at (shape_of n) all
branch_is [] k n all h e = absurd (let f : ⊥ = omega (arith, h) in f)
branch_is (m ∷ ns) zero n all h e = ap (λ (x : Node). value_at (shape_of x) all) (sym e)
branch_is (m ∷ ns) (suc k) n all h e = branch_is ns k n all (omega (arith, h)) e

pub union_no_index : (ns : List Node) (all : List ℕ) (r : Refusal) → index_at (length ns) all ≡ Err r → value_at (union (shapes_of (map shape_of ns))) all ≡ Err r
union_no_index ns all r e = rw (count_is ns, e) refl

pub union_read : (ns : List Node) (all : List ℕ) (k : ℕ) (rest : List ℕ) (n : Node) → index_at (length ns) all ≡ Ok (k, rest) → k < length ns → n ≡ get_or ns k n
    → value_at (union (shapes_of (map shape_of ns))) all ≡ read_as (value.Union k) (value_at (shape_of n) rest)
union_read ns all k rest n e h is = rw (count_is ns, e, branch_is ns k n rest h is) refl

pub union_skipped : (ns : List Node) (all : List ℕ) (k : ℕ) (rest : List ℕ) (n : Node) → index_at (length ns) all ≡ Ok (k, rest) → k < length ns → n ≡ get_or ns k n
    → behind (value_at (union (shapes_of (map shape_of ns))) all) ≡ behind (value_at (shape_of n) rest)
union_skipped ns all k rest n e h is = ap behind (union_read ns all k rest n e h is) ∙ behind_as (value.Union k) (value_at (shape_of n) rest)

-- ---- entries

pub entry_read : (s : Shape) (all text mid : List ℕ) (v : Value) (rest : List ℕ) → text_at all ≡ Ok (text, mid) → value_at s mid ≡ Ok (v, rest) → entry_at (value_at s) all ≡ Ok ((text, v), rest)
entry_read s all text mid v rest e f = rw (e, f) refl

pub entry_no_key : (s : Shape) (all : List ℕ) (r : Refusal) → text_at all ≡ Err r → entry_at (value_at s) all ≡ Err r
entry_no_key s all r e = rw e refl

pub entry_no_value : (s : Shape) (all text mid : List ℕ) (r : Refusal) → text_at all ≡ Ok (text, mid) → value_at s mid ≡ Err r → entry_at (value_at s) all ≡ Err r
entry_no_value s all text mid r e f = rw (e, f) refl

pub entry_shorter : (s : Shape) (all text mid rest : List ℕ) → text_at all ≡ Ok (text, mid) → behind (value_at s mid) ≡ Ok rest → length rest ≤ length all
entry_shorter s all text mid rest e f = omega (arith, text_shorter all text mid e, behind_shorter s mid rest f)
