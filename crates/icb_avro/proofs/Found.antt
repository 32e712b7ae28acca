-- What is read is spelled so.
use Rattle.std.proofs.Common.{◌≡◌, ℕ, zero, suc, ◌+◌, ◌-◌, ◌*◌, ◌/◌, ◌%◌, ◌^◌, ◌<◌, ◌≤◌, ltb, leb, eqb, Bool, true, false, cond, List, [], ◌∷◌, ◌++◌, length, take, drop, Result, Ok, Err, refl, sym, ap, subst, ◌∙◌, arith}
use Rattle.std.specs.Prelude.{ℤ, pos, negsuc}
use Rattle.std.specs.Str.{IsUtf8, is_utf8}
use Rattle.std.proofs.lemmas.Bool.{ltb-true, ltb-false, leb-true, eqb-true, eqb-false}
use Rattle.std.proofs.lemmas.Str.{IsUtf8-from_is_utf8}
use Rattle.std.proofs.lemmas.List.{take-append-drop, length-take}
use Rattle.icb_avro.specs.declared.fault.AvroCause.{AvroCause}
use Rattle.icb_avro.specs.declared.fault.AvroCause.TheVariants as cause
use Rattle.icb_avro.specs.Numbers.{IsVarint, IsLong, IsInt, zigzag}
use Rattle.icb_avro.specs.Spelling.{IsCounted}
use Rattle.icb_avro.specs.Reading.{Read, varint_at, below, number_of, number_at, unzigzag, long_at, int_of, int_at, index_of, index_at, part_at, boolean_at, content_at, bytes_at, text_of, text_at, refuse}
use Rattle.icb_avro.proofs.Steps.{bind_ok, done, ok_is, value_is, rest_is, number_is, test_ok, pair_is, fronts_join}

-- a front of the bytes spells what is read
abbrev pub Found : {A : Type 0} → (A → List ℕ → Type 0) → (List ℕ → Read A) → Type 0
Found {A} Spell item = (all : List ℕ) (x : A) (more : List ℕ) → item all ≡ Ok (x, more) → (front : List ℕ) × (all ≡ front ++ more) × Spell x front

-- ---- numbers

below_ok : (b : ℕ) (r : Result (ℕ × List ℕ) AvroCause) (n : ℕ) (more : List ℕ) → below b r ≡ Ok (n, more) → (high : ℕ) × (r ≡ Ok (high, more)) × (n ≡ b - 128 + 128 * high)
below_ok b (Ok x) n more e =
    let s = number_is (b - 128 + 128 * x.0) n x.1 more e in
    (x.0, ap (λ (t : List ℕ). Ok (x.0, t)) s.1, sym s.0)
below_ok b (Err c) n more e = absurd cc

-- one byte more in front of a number
one_more : (b high n : ℕ) (front : List ℕ) → 128 ≤ b → n ≡ b - 128 + 128 * high → IsVarint front high → IsVarint (b ∷ front) n
one_more b high n [] ge e h = absurd h
one_more b high n (c ∷ front) ge e h = (ge, high, omega arith, h)

varint_cases : (most : ℕ) → ((all : List ℕ) (n : ℕ) (more : List ℕ) → varint_at most all ≡ Ok (n, more) → (front : List ℕ) × (all ≡ front ++ more) × IsVarint front n × (length front ≤ most))
    → (b : ℕ) (all : List ℕ) (n : ℕ) (more : List ℕ) (t : Bool) → ltb b 128 ≡ t → cond t (Ok (b, all)) (below b (varint_at most all)) ≡ Ok (n, more)
    → (front : List ℕ) × (b ∷ all ≡ front ++ more) × IsVarint front n × (length front ≤ suc most)
varint_cases most again b all n more true t e =
    let s = number_is b n all more e in
    (b ∷ [], ap (λ (w : List ℕ). b ∷ w) s.1, (ltb-true b 128 t, sym s.0), omega arith)
varint_cases most again b all n more false t e =
    let r = below_ok b (varint_at most all) n more e in
    let f = again all r.0 more r.1 in
    (b ∷ f.0, ap (λ (w : List ℕ). b ∷ w) f.1, one_more b r.0 n f.0 (ltb-false b 128 t) r.2 f.2, omega (arith, f.3))

varint_found : (most : ℕ) (all : List ℕ) (n : ℕ) (more : List ℕ) → varint_at most all ≡ Ok (n, more) → (front : List ℕ) × (all ≡ front ++ more) × IsVarint front n × (length front ≤ most)
unfolding varint_at
varint_found zero all n more e = absurd cc
varint_found (suc most) [] n more e = absurd cc
varint_found (suc most) (b ∷ all) n more e = varint_cases most (varint_found most) b all n more _ refl e

number_cases : (all : List ℕ) (r : Result (ℕ × List ℕ) AvroCause) (n : ℕ) (more : List ℕ) → number_of all r ≡ Ok (n, more) → (r ≡ Ok (n, more)) × (n < 2 ^ 64)
number_cases all (Ok x) n more e =
    let t = test_ok (ltb x.0 (2 ^ 64)) (Ok x) (record { left = length all; cause = cause.Long }) (n, more) e in
    let same : x ≡ (n, more) = ok_is x (n, more) t.1 in
    (ap (λ (y : ℕ × List ℕ). Ok y) same, subst (λ (y : ℕ × List ℕ). y.0 < 2 ^ 64) same (ltb-true _ _ t.0))
number_cases all (Err c) n more e = absurd cc

pub record IsNumber (n : ℕ) (bytes : List ℕ) : Type 0 where
  pub number : IsVarint bytes n
  pub ten_bytes : length bytes ≤ 10
  pub fits : n < 2 ^ 64

number_found : Found IsNumber number_at
unfolding number_at
number_found all n more e =
    let c = number_cases all (varint_at 10 all) n more e in
    let f = varint_found 10 all n more c.0 in
    (f.0, f.1, record { number = f.2; ten_bytes = f.3; fits = c.1 })

zigzag_cases : (n : ℕ) (t : Bool) → eqb (n % 2) 0 ≡ t → zigzag (cond t (pos (n / 2)) (negsuc (n / 2))) ≡ n
zigzag_cases n true t = let e : n % 2 ≡ 0 = eqb-true _ _ t in omega arith
zigzag_cases n false t = let e : n % 2 ≡ 1 = omega (arith, eqb-false (n % 2) 0 t) in omega arith

pub zigzag-unzigzag : (n : ℕ) → zigzag (unzigzag n) ≡ n
zigzag-unzigzag n = zigzag_cases n _ refl

pub long_found : Found IsLong long_at
unfolding long_at
long_found all n more e =
    let b = bind_ok (number_at all) (λ x. Ok (unzigzag x.0, x.1)) (n, more) e in
    let v : unzigzag b.0.0 ≡ n = value_is (unzigzag b.0.0) n b.0.1 more b.2 in
    let m : b.0.1 ≡ more = rest_is (unzigzag b.0.0) n b.0.1 more b.2 in
    let f = number_found all b.0.0 b.0.1 b.1 in
    let z : zigzag n ≡ b.0.0 = ap zigzag (sym v) ∙ zigzag-unzigzag b.0.0 in
    (f.0, subst (λ (t : List ℕ). all ≡ f.0 ++ t) m f.1, record { number = rw z f.2.number; ten_bytes = f.2.ten_bytes; fits = rw z f.2.fits })

pub int_found : Found IsInt int_at
unfolding int_at
int_found all n more e =
    let b = bind_ok (long_at all) (int_of all) (n, more) e in
    let t = test_ok (ltb (zigzag b.0.0) (2 ^ 32)) (Ok b.0) (record { left = length all; cause = cause.Int }) (n, more) b.2 in
    let same : b.0 ≡ (n, more) = ok_is b.0 (n, more) t.1 in
    let f = long_found all n more (b.1 ∙ t.1) in
    (f.0, f.1, record { long = f.2; fits = subst (λ (y : ℤ × List ℕ). zigzag y.0 < 2 ^ 32) same (ltb-true _ _ t.0) })

abbrev pub IsIndex : ℕ → ℕ → List ℕ → Type 0
IsIndex count k bytes = (k < count) × IsInt (pos k) bytes

index_cases : (count : ℕ) (all : List ℕ) (n : ℤ) (rest : List ℕ) (k : ℕ) (more : List ℕ) → index_of count all (n, rest) ≡ Ok (k, more) → (k < count) × (n ≡ pos k) × (rest ≡ more)
index_cases count all (pos j) rest k more e =
    let t = test_ok (ltb j count) (Ok (j, rest)) (record { left = length all; cause = cause.Index }) (k, more) e in
    let v : j ≡ k = value_is j k rest more t.1 in
    (subst (λ (i : ℕ). i < count) v (ltb-true _ _ t.0), ap pos v, rest_is j k rest more t.1)
index_cases count all (negsuc j) rest k more e = absurd cc

pub index_found : (count : ℕ) → Found (IsIndex count) (index_at count)
unfolding index_at
index_found count all k more e =
    let b = bind_ok (int_at all) (index_of count all) (k, more) e in
    let c = index_cases count all b.0.0 b.0.1 k more b.2 in
    let f = int_found all (pos k) more (b.1 ∙ ap (λ (y : ℤ × List ℕ). Ok y) (pair_is b.0 (pos k) more c.1 c.2)) in
    (f.0, f.1, (c.0, f.2))

-- ---- bytes

pub part_found : (n : ℕ) (all rest content more : List ℕ) → part_at n all rest ≡ Ok (content, more) → (rest ≡ content ++ more) × (length content ≡ n)
unfolding part_at
part_found n all rest content more e =
    let t = test_ok (leb n (length rest)) (Ok (take n rest, drop n rest)) (record { left = length all; cause = cause.End }) (content, more) e in
    let fits : n ≤ length rest = leb-true _ _ t.0 in
    let v : take n rest ≡ content = value_is (take n rest) content (drop n rest) more t.1 in
    let m : drop n rest ≡ more = rest_is (take n rest) content (drop n rest) more t.1 in
    (rw (← v, ← m) (sym (take-append-drop n rest)), rw (← v) (omega (arith, length-take n rest)))

content_cases : (all : List ℕ) (n : ℤ) (rest content more : List ℕ) → content_at all (n, rest) ≡ Ok (content, more) → (rest ≡ content ++ more) × (n ≡ pos (length content))
content_cases all (pos k) rest content more e = let p = part_found k all rest content more e in (p.0, ap pos (sym p.1))
content_cases all (negsuc k) rest content more e = absurd cc

pub bytes_found : Found IsCounted bytes_at
unfolding bytes_at
bytes_found all content more e =
    let b = bind_ok (long_at all) (content_at all) (content, more) e in
    let c = content_cases all b.0.0 b.0.1 content more b.2 in
    let f = long_found all b.0.0 b.0.1 b.1 in
    (f.0 ++ content, fronts_join all f.0 b.0.1 content more f.1 c.0, (f.0, refl, subst (λ (n : ℤ). IsLong n f.0) c.1 f.2))

abbrev pub IsText : List ℕ → List ℕ → Type 0
IsText content bytes = IsUtf8 content × IsCounted content bytes

pub text_found : Found IsText text_at
unfolding text_at
text_found all content more e =
    let b = bind_ok (bytes_at all) (text_of all) (content, more) e in
    let t = test_ok (is_utf8 b.0.0) (Ok b.0) (record { left = length all; cause = cause.Utf8 }) (content, more) b.2 in
    let same : b.0 ≡ (content, more) = ok_is b.0 (content, more) t.1 in
    let f = bytes_found all content more (b.1 ∙ t.1) in
    (f.0, f.1, (IsUtf8-from_is_utf8 content (subst (λ (y : List ℕ × List ℕ). is_utf8 y.0 ≡ true) same t.0), f.2))

-- ---- truth values

abbrev pub IsTruth : Bool → List ℕ → Type 0
IsTruth b bytes = bytes ≡ cond b 1 0 ∷ []

truth_cases : (b : ℕ) (rest : List ℕ) (t u : Bool) (v : Bool) (more : List ℕ) → eqb b 0 ≡ t → eqb b 1 ≡ u
    → cond t (done {A = Bool × List ℕ} (false, rest)) (cond u (Ok (true, rest)) (refuse cause.Bool (b ∷ rest))) ≡ Ok (v, more)
    → (front : List ℕ) × (b ∷ rest ≡ front ++ more) × IsTruth v front
truth_cases b rest true u v more t w e =
    subst (λ (x : Bool). (front : List ℕ) × (b ∷ rest ≡ front ++ more) × IsTruth x front) (value_is false v rest more e)
    (0 ∷ [], rw (eqb-true b 0 t) (ap (λ (y : List ℕ). 0 ∷ y) (rest_is false v rest more e)), refl)
truth_cases b rest false true v more t w e =
    subst (λ (x : Bool). (front : List ℕ) × (b ∷ rest ≡ front ++ more) × IsTruth x front) (value_is true v rest more e)
    (1 ∷ [], rw (eqb-true b 1 w) (ap (λ (y : List ℕ). 1 ∷ y) (rest_is true v rest more e)), refl)
truth_cases b rest false false v more t w e = absurd cc

pub boolean_found : Found IsTruth boolean_at
unfolding boolean_at
boolean_found [] v more e = absurd cc
boolean_found (b ∷ rest) v more e = truth_cases b rest _ _ v more refl refl e
