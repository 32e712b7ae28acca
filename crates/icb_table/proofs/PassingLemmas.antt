-- A block that is read takes bytes, and ends within its file.
use Rattle.std.specs.Prelude.{◌≡◌, ℕ, zero, suc, ◌+◌, ◌-◌, ◌*◌, ◌^◌, ◌<◌, ◌≤◌, ◌==◌, nat_lt, ℤ, pos, negsuc, Bool, true, false, cond, eqb, List, [], ◌∷◌, length, take, drop, Option, Some, None, Result, Ok, Err, if◌then◌else◌}
use Rattle.std.specs.Str.{bytes_eq}
use Rattle.std.proofs.Common.{refl, ap, ◌∙◌, sym, subst, arith}
use Rattle.std.proofs.lemmas.Bool.{ltb-false}
use Rattle.std.proofs.lemmas.List.{length-drop}
use Rattle.icb_base.specs.declared.limits.Limited.TheVariants as limited
use Rattle.icb_schema.specs.Shape.{shape}
use Rattle.icb_avro.specs.declared.value.Value.{Value}
use Rattle.icb_avro.specs.declared.fault.AvroCause.{AvroCause}
use Rattle.icb_avro.specs.declared.fault.AvroCause.TheVariants as cause
use Rattle.icb_avro.specs.declared.fault.Refusal.{Refusal}
use Rattle.icb_avro.specs.Reading.{Read, below, long_at, number_at, number_of, read_as, unzigzag, varint_at}
use Rattle.icb_container.specs.Wrong.{Wrong, ◌>>=◌, in_file, refuse}
use Rattle.icb_container.specs.Blocks.{Head, Part, State, answered, behind, head_at, head_from, marked, max_block, natural, natural_at, next_of, part_of, records_at}
use Rattle.icb_container.proofs.Steps.{bind_ok, done, done_is, test_ok}
use Rattle.icb_table.proofs.ContentLemmas.{none_is, step_is}

-- ---- numbers

varint_by : (b : ℕ) (c : Bool) (r : Result (ℕ × List ℕ) AvroCause) (all : List ℕ) (x : ℕ × List ℕ)
    → ((y : ℕ × List ℕ) → r ≡ Ok y → length y.1 ≤ length all)
    → (if c then Ok (b, all) else below b r) ≡ Ok x → length x.1 ≤ suc (length all)
varint_by b true r all x h e =
    let is : (b, all) ≡ x = cause_ok (b, all) x e in let same : length all ≡ length x.1 = ap (λ y. length y.1) is in omega (arith, same)
  where
    cause_ok : (y z : ℕ × List ℕ) → (let a : Result (ℕ × List ℕ) AvroCause = Ok y in a) ≡ Ok z → y ≡ z
    cause_ok y z p = cc
varint_by b false (Err c) all x h e = absurd (let g : ⊥ = cc in g)
varint_by b false (Ok y) all x h e =
    let same : y.1 ≡ x.1 = second y.0 (b - 128 + 128 * y.0) y.1 x e in
    let less = h y refl in let sizes : length y.1 ≡ length x.1 = ap length same in omega (arith, less, sizes)
  where
    second : (m n : ℕ) (rest : List ℕ) (z : ℕ × List ℕ) → (let a : Result (ℕ × List ℕ) AvroCause = Ok (n, rest) in a) ≡ Ok z → rest ≡ z.1
    second m n rest z p = let q : (n, rest) ≡ z = cc in ap (λ w. w.1) q

varint_rest : (most : ℕ) (all : List ℕ) (x : ℕ × List ℕ) → varint_at most all ≡ Ok x → length x.1 ≤ length all
unfolding varint_at
varint_rest zero all x e = absurd (let g : ⊥ = cc in g)
varint_rest (suc most) [] x e = absurd (let g : ⊥ = cc in g)
varint_rest (suc most) (b ∷ all) x e =
    varint_by b (nat_lt b 128) (varint_at most all) all x (λ y p. varint_rest most all y p) e

ok_of : {A : Type 0} (x y : A) → (let a : Result A Refusal = Ok x in a) ≡ Ok y → x ≡ y
ok_of x y e = cc

number_by : (all : List ℕ) (r : Result (ℕ × List ℕ) AvroCause) (x : ℕ × List ℕ)
    → ((y : ℕ × List ℕ) → r ≡ Ok y → length y.1 ≤ length all) → number_of all r ≡ Ok x → length x.1 ≤ length all
number_by all (Err c) x h e = absurd (let g : ⊥ = cc in g)
number_by all (Ok y) x h e = by_size (nat_lt y.0 (2 ^ 64)) e
  where
    avro_refuse : Read ℕ
    avro_refuse = Err (record { left = length all; cause = cause.Long })

    by_size : (b : Bool) → (if b then Ok y else avro_refuse) ≡ Ok x → length x.1 ≤ length all
    by_size true p = let is : y ≡ x = ok_of y x p in subst (λ z. length z.1 ≤ length all) is (h y refl)
    by_size false p = absurd (let g : ⊥ = cc in g)

long_by : (read : Read ℕ) (x : ℤ × List ℕ) (n : ℕ) → ((y : ℕ × List ℕ) → read ≡ Ok y → length y.1 ≤ n)
    → read_as unzigzag read ≡ Ok x → length x.1 ≤ n
long_by (Err r) x n h e = absurd (let g : ⊥ = cc in g)
long_by (Ok y) x n h e =
    let is : (unzigzag y.0, y.1) ≡ x = ok_of (unzigzag y.0, y.1) x e in
    subst (λ z. length z.1 ≤ n) is (h y refl)

long_rest : (all : List ℕ) (x : ℤ × List ℕ) → long_at all ≡ Ok x → length x.1 ≤ length all
unfolding long_at number_at
long_rest all x e = long_by (number_of all (varint_at 10 all)) x (length all)
    (λ y p. number_by all (varint_at 10 all) y (λ z q. varint_rest 10 all z q) p) e

natural_by : (end : ℕ) (all : List ℕ) (y : ℤ × List ℕ) (x : ℕ × List ℕ) → length y.1 ≤ length all
    → natural end all y ≡ Ok x → length x.1 ≤ length all
natural_by end all (pos n, rest) x h e =
    let is : (n, rest) ≡ x = done_is (n, rest) x e in subst (λ z. length z.1 ≤ length all) is h
natural_by end all (negsuc n, rest) x h e = absurd (let g : ⊥ = cc in g)

in_file_is : {A : Type 0} (end : ℕ) (read : Result A Refusal) (x : A) → in_file end read ≡ Ok x → read ≡ Ok x
in_file_is end (Ok y) x e = cc
in_file_is end (Err r) x e = absurd (let g : ⊥ = cc in g)

natural_rest : (end : ℕ) (all : List ℕ) (x : ℕ × List ℕ) → natural_at end all ≡ Ok x → length x.1 ≤ length all
unfolding natural_at
natural_rest end all x e =
    let a = bind_ok (in_file end (long_at all)) (natural end all) x e in
    natural_by end all a.0 x (long_rest all a.0 (in_file_is end (long_at all) a.0 a.1)) a.2

-- ---- heads

-- the records of a block and the marker lie behind its head
head_by : (b c d : Bool) (head found : Head) (x y z : Wrong) → (if b then Err x else (if c then Err y
    else (if d then Err z else Ok head))) ≡ Ok found → (d ≡ false) × (head ≡ found)
head_by true c d head found x y z e = absurd (let g : ⊥ = cc in g)
head_by false true d head found x y z e = absurd (let g : ⊥ = cc in g)
head_by false false true head found x y z e = absurd (let g : ⊥ = cc in g)
head_by false false false head found x y z e = (refl, done_is head found e)

record HeadFits (all : List ℕ) (head : Head) : Type 0 where
  room : head.size + 16 ≤ length head.rest
  behind : length head.rest ≤ length all

head_fits : (end : ℕ) (all : List ℕ) (head : Head) → head_at end all ≡ Ok head → HeadFits all head
unfolding head_at
head_fits end all head e =
    let a = bind_ok (natural_at end all) (λ count. natural_at end count.1 >>= (λ size.
    head_from end all count.1 count.0 size)) head e in
    let b = bind_ok (natural_at end a.0.1) (λ size. head_from end all a.0.1 a.0.0 size) head a.2 in
    let c = head_by (nat_lt max_block b.0.0) (nat_lt b.0.0 a.0.0) (nat_lt (length b.0.1) (b.0.0 + 16))
    (record { count = a.0.0; size = b.0.0; rest = b.0.1 }) head _ _ _ b.2 in
    let first = natural_rest end all a.0 a.1 in
    let second = natural_rest end a.0.1 b.0 b.1 in
    let room = ltb-false (length b.0.1) (b.0.0 + 16) c.0 in
    subst (HeadFits all) c.1 (record { room = room; behind = omega (arith, first, second) })

-- ---- blocks

-- where a reader stands behind a block, by its head
BehindHead : State → State → List ℕ → Type 0
BehindHead s t file = (head : Head) × (head_at (length file) (drop s.place file) ≡ Ok head)
    × (behind s (length file) head ≡ t)

next_behind : (s t : State) (file : List ℕ) (part : Part) → next_of s file ≡ Ok (Some part, t) → BehindHead s t file
unfolding next_of BehindHead
next_behind s t file part e = by_place (eqb s.place (length file)) e
  where
    reads : Head → Result (Part × State) Wrong
    reads head = records_at (shape s.schema) (length file) head >>= (λ vs. marked s head (part_of s (length file) head vs, behind s (length file) head))

    by_head : (h : Result Head Wrong) → head_at (length file) (drop s.place file) ≡ h
        → (h >>= (λ head. reads head >>= answered)) ≡ Ok (Some part, t) → BehindHead s t file
    by_head (Err d) r e = absurd (let g : ⊥ = cc in g)
    by_head (Ok head) r e =
        let a = bind_ok (reads head) answered (Some part, t) e in
        let b = bind_ok (records_at (shape s.schema) (length file) head) (λ vs. marked s head (part_of s (length file) head vs, behind s (length file) head)) a.0 a.1 in
        let c = test_ok (bytes_eq (take 16 (drop head.size head.rest)) s.marker) (part_of s (length file) head b.0, behind s (length file) head) a.0 _ b.2 in
        let d = step_is a.0.1 t a.0.0 part a.2 in
        (head, r, ap (λ (p : Part × State). p.1) c.1 ∙ d.1)

    by_place : (b : Bool)
        → cond b (Ok (None, s)) (head_at (length file) (drop s.place file) >>= (λ head. reads head >>= answered)) ≡ Ok (Some part, t)
        → BehindHead s t file
    by_place true e = none_is s t part e
    by_place false e = by_head (head_at (length file) (drop s.place file)) refl e

-- a block was passed: the reader stands further on, within the file, behind one more
pub record Passes (s t : State) (file : List ℕ) : Type 0 where
  pub ahead : s.place < t.place
  pub within : t.place ≤ length file
  pub next : t.block ≡ suc s.block

pub next_passes : (s t : State) (file : List ℕ) (part : Part) → s.place ≤ length file
    → next_of s file ≡ Ok (Some part, t) → Passes s t file
unfolding BehindHead
next_passes s t file part h e =
    let b = next_behind s t file part e in
    let head : Head = b.0 in
    let fits = head_fits (length file) (drop s.place file) head b.1 in
    let room = fits.room in
    let left = fits.behind in
    let size : length (drop s.place file) ≡ length file - s.place = length-drop s.place file in
    subst (λ u. Passes s u file) b.2 (record {
      ahead = omega (arith, room, left, size, h);
      within = omega (arith, room, left, size, h);
      next = refl;
    })
