-- Steps that were not refused, and what they say of one another.
use Rattle.std.proofs.Common.{◌≡◌, ℕ, eqb, Bool, true, false, cond, List, length, take, drop, Option, Some, None, Result, Ok, Err, refl, ap, ◌∙◌}
use Rattle.std.specs.Str.{bytes_eq}
use Rattle.icb_schema.specs.Shape.{shape}
use Rattle.icb_container.specs.Wrong.{Wrong, ◌>>=◌}
use Rattle.icb_container.specs.Blocks.{Head, Part, State, answered, behind, count_of, head_at, marked, next_of, part_of, records_at, skipped_of}

-- both steps gave a value
pub bind_ok : {A B : Type 0} (r : Result A Wrong) (f : A → Result B Wrong) (y : B) → (r >>= f) ≡ Ok y → (x : A) × (r ≡ Ok x) × (f x ≡ Ok y)
bind_ok (Ok x) f y e = (x, refl, e)
bind_ok (Err d) f y e = absurd cc

abbrev pub done : {A : Type 0} → A → Result A Wrong
done x = Ok x

pub done_is : {A : Type 0} (x y : A) → done x ≡ done y → x ≡ y
done_is x y e = cc

-- a test was passed
pub test_ok : {A : Type 0} (b : Bool) (x y : A) (d : Wrong) → cond b (done x) (Err d) ≡ Ok y → (b ≡ true) × (x ≡ y)
test_ok true x y d e = (refl, done_is x y e)
test_ok false x y d e = absurd cc

some_is : {A : Type 0} (x y : A) → Some x ≡ Some y → x ≡ y
some_is x y e = cc

-- a step that is at the end answers none
no_answer : {A : Type 0} {B : Type 0} (s t : State) (x : A) → done {A = Option A × State} (None, s) ≡ done {A = Option A × State} (Some x, t) → B
no_answer {A} s t x e = let a : Option A × State = (None, s) in let b : Option A × State = (Some x, t) in
    let f : None ≡ Some x = ap (λ (p : Option A × State). p.0) (done_is a b e) in absurd cc

-- the answer and where the reader stands
step_is : {A : Type 0} (s t : State) (x y : A) → done {A = Option A × State} (Some x, s) ≡ done {A = Option A × State} (Some y, t) → (x ≡ y) × (s ≡ t)
step_is {A} s t x y e = let a : Option A × State = (Some x, s) in let b : Option A × State = (Some y, t) in
    let p = done_is a b e in (some_is x y (ap (λ (q : Option A × State). q.0) p), ap (λ (q : Option A × State). q.1) p)

pub skipping_is_reading : (s t : State) (file : List ℕ) (part : Part) → next_of s file ≡ Ok (Some part, t) → skipped_of s file ≡ Ok (Some part.count, t)
unfolding next_of skipped_of
skipping_is_reading s t file part e = by_place (eqb s.place (length file)) refl e
  where
    reads : Head → Result (Part × State) Wrong
    reads head = records_at (shape s.schema) (length file) head >>= (λ vs. marked s head (part_of s (length file) head vs, behind s (length file) head))

    skips : Head → Result (ℕ × State) Wrong
    skips head = marked s head (head.count, behind s (length file) head)

    by_head : (h : Result Head Wrong) → (h >>= (λ head. reads head >>= answered)) ≡ Ok (Some part, t) → (h >>= (λ head. skips head >>= answered)) ≡ Ok (Some part.count, t)
    by_head (Err d) e = absurd cc
    by_head (Ok head) e =
        let a = bind_ok (reads head) answered (Some part, t) e in
        let b = bind_ok (records_at (shape s.schema) (length file) head) (λ vs. marked s head (part_of s (length file) head vs, behind s (length file) head)) a.0 a.1 in
        let c = test_ok (bytes_eq (take 16 (drop head.size head.rest)) s.marker) (part_of s (length file) head b.0, behind s (length file) head) a.0 _ b.2 in
        let d = step_is a.0.1 t a.0.0 part a.2 in
        let count : head.count ≡ part.count = ap (λ (p : Part × State). p.0.count) c.1 ∙ ap (λ (p : Part). p.count) d.0 in
        let place : behind s (length file) head ≡ t = ap (λ (p : Part × State). p.1) c.1 ∙ d.1 in
        rw (c.0, ← count, ← place) refl

    by_place : (b : Bool) → eqb s.place (length file) ≡ b
        → cond b (Ok (None, s)) (head_at (length file) (drop s.place file) >>= (λ head. reads head >>= answered)) ≡ Ok (Some part, t)
        → cond b (Ok (None, s)) (head_at (length file) (drop s.place file) >>= (λ head. skips head >>= answered)) ≡ Ok (Some part.count, t)
    by_place true is e = no_answer s t part e
    by_place false is e = by_head (head_at (length file) (drop s.place file)) e

pub count_is_told : (s t : State) (file : List ℕ) (count : ℕ) → skipped_of s file ≡ Ok (Some count, t) → count_of s file ≡ Ok (Some count, s)
unfolding skipped_of count_of
count_is_told s t file count e = by_place (eqb s.place (length file)) refl e
  where
    skips : Head → Result (ℕ × State) Wrong
    skips head = marked s head (head.count, behind s (length file) head)

    by_head : (h : Result Head Wrong) → (h >>= (λ head. skips head >>= answered)) ≡ Ok (Some count, t) → (h >>= (λ head. done (head.count, s) >>= answered)) ≡ Ok (Some count, s)
    by_head (Err d) e = absurd cc
    by_head (Ok head) e =
        let a = bind_ok (skips head) answered (Some count, t) e in
        let c = test_ok (bytes_eq (take 16 (drop head.size head.rest)) s.marker) (head.count, behind s (length file) head) a.0 _ a.1 in
        let d = step_is a.0.1 t a.0.0 count a.2 in
        let is : head.count ≡ count = ap (λ (p : ℕ × State). p.0) c.1 ∙ d.0 in
        rw is refl

    by_place : (b : Bool) → eqb s.place (length file) ≡ b
        → cond b (Ok (None, s)) (head_at (length file) (drop s.place file) >>= (λ head. skips head >>= answered)) ≡ Ok (Some count, t)
        → cond b (Ok (None, s)) (head_at (length file) (drop s.place file) >>= (λ head. done (head.count, s) >>= answered)) ≡ Ok (Some count, s)
    by_place true is e = no_answer s t count e
    by_place false is e = by_head (head_at (length file) (drop s.place file)) e
