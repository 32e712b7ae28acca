-- A property is put in its place among sorted ones.
use Rattle.std.proofs.Common.{◌≡◌, ℕ, zero, suc, ◌+◌, ◌<◌, List, [], ◌∷◌, ◌++◌, length, take, drop, get_or, set, Less, Equal, Greater, nat_cmp, refl, sym, ap, subst, ◌∙◌, arith}
use Rattle.std.specs.Cmp.Lexicographic.{slice_cmp}
use Rattle.std.specs.FinMap as finite
use Rattle.icb_container.specs.Sorted.{pairs}
use Rattle.icb_container.specs.declared.properties.Property.{Property}

abbrev Pairs : Type 0
Pairs = List (List ℕ × List ℕ)

abbrev pub put : List ℕ → List ℕ → Pairs → Pairs
put k v es = finite.put (slice_cmp nat_cmp) k v es

-- what is put stands behind the first so many
abbrev pub behind : List ℕ → List ℕ → ℕ → Pairs → Pairs
behind k v n es = take n es ++ put k v (drop n es)

pub record Passed (k v : List ℕ) (n : ℕ) (now first : List Property) : Type 0 where
  pub same : now ≡ first
  pub is : put k v (pairs first) ≡ behind k v n (pairs first)

pub greater_at : (k v : List ℕ) (n : ℕ) (ps : List Property) (p : Property) → n < length ps → p ≡ get_or ps n p → slice_cmp nat_cmp k p.key.now ≡ Greater
    → behind k v n (pairs ps) ≡ behind k v (suc n) (pairs ps)
greater_at k v n [] p h i g = absurd (let f : ⊥ = omega (arith, h) in f)
greater_at k v zero (q ∷ ps) p h i g = let e : slice_cmp nat_cmp k q.key.now ≡ Greater = ap (λ (x : Property). slice_cmp nat_cmp k x.key.now) (sym i) ∙ g in rw e refl
greater_at k v (suc n) (q ∷ ps) p h i g = ap (λ (es : Pairs). (q.key.now, q.value.now) ∷ es) (greater_at k v n ps p (omega (arith, h)) i g)

-- the same, where the next place is one more
pub passed_more : (k v : List ℕ) (n : ℕ) (now first : List Property) (p : Property) → Passed k v n now first → n < length now → p ≡ get_or now n p → Greater ≡ slice_cmp nat_cmp k p.key.now → Passed k v (n + 1) now first
passed_more k v n now first p passed h i g =
    let e : suc n ≡ n + 1 = omega arith in
    let step : behind k v n (pairs now) ≡ behind k v (n + 1) (pairs now) = subst (λ (m : ℕ). behind k v n (pairs now) ≡ behind k v m (pairs now)) e (greater_at k v n now p h i (sym g)) in
    record { same = passed.same; is = passed.is ∙ subst (λ (ps : List Property). behind k v n (pairs ps) ≡ behind k v (n + 1) (pairs ps)) passed.same step }

same_item : (n : ℕ) (ps : List Property) (p q : Property) → n < length ps → p ≡ get_or ps n p → q ≡ get_or ps n q → p ≡ q
same_item n [] p q h i j = absurd (let f : ⊥ = omega (arith, h) in f)
same_item zero (x ∷ ps) p q h i j = i ∙ sym j
same_item (suc n) (x ∷ ps) p q h i j = same_item n ps p q (omega (arith, h)) i j

pub less_at : (k v : List ℕ) (n : ℕ) (ps : List Property) (p q : Property) → n < length ps → p ≡ get_or ps n p → q.key.now ≡ k → q.value.now ≡ v → slice_cmp nat_cmp k p.key.now ≡ Less
    → pairs (take n ps ++ q ∷ drop n ps) ≡ behind k v n (pairs ps)
less_at k v n [] p q h i ek ev g = absurd (let f : ⊥ = omega (arith, h) in f)
less_at k v zero (x ∷ ps) p q h i ek ev g = let e : slice_cmp nat_cmp k x.key.now ≡ Less = ap (λ (y : Property). slice_cmp nat_cmp k y.key.now) (sym i) ∙ g in rw (e, ek, ev) refl
less_at k v (suc n) (x ∷ ps) p q h i ek ev g = ap (λ (es : Pairs). (x.key.now, x.value.now) ∷ es) (less_at k v n ps p q (omega (arith, h)) i ek ev g)

pub equal_at : (k v : List ℕ) (n : ℕ) (ps : List Property) (p q : Property) → n < length ps → p ≡ get_or ps n p → q.key.now ≡ p.key.now → q.value.now ≡ v → slice_cmp nat_cmp k p.key.now ≡ Equal
    → pairs (set ps n q) ≡ behind k v n (pairs ps)
equal_at k v n [] p q h i ek ev g = absurd (let f : ⊥ = omega (arith, h) in f)
equal_at k v zero (x ∷ ps) p q h i ek ev g =
    let e : slice_cmp nat_cmp k x.key.now ≡ Equal = ap (λ (y : Property). slice_cmp nat_cmp k y.key.now) (sym i) ∙ g in
    let s : q.key.now ≡ x.key.now = ek ∙ ap (λ (y : Property). y.key.now) i in rw (e, s, ev) refl
equal_at k v (suc n) (x ∷ ps) p q h i ek ev g = ap (λ (es : Pairs). (x.key.now, x.value.now) ∷ es) (equal_at k v n ps p q (omega (arith, h)) i ek ev g)

pub put_before : (k v : List ℕ) (n : ℕ) (now first : List Property) (p q : Property) → Passed k v n now first → n < length now → p ≡ get_or now n p → q.key.now ≡ k → q.value.now ≡ v → Less ≡ slice_cmp nat_cmp k p.key.now
    → (new : List Property) → new ≡ take n now ++ q ∷ drop n now → pairs new ≡ put k v (pairs first)
put_before k v n now first p q passed h i ek ev g new e =
    ap pairs e ∙ less_at k v n now p q h i ek ev (sym g) ∙ ap (λ (ps : List Property). behind k v n (pairs ps)) passed.same ∙ sym passed.is

pub put_at : (k v : List ℕ) (n : ℕ) (now first : List Property) (p m q : Property) → Passed k v n now first → n < length now → p ≡ get_or now n p → m ≡ get_or now n m → q.key.now ≡ m.key.now → q.value.now ≡ v
    → Equal ≡ slice_cmp nat_cmp k p.key.now → pairs (set now n q) ≡ put k v (pairs first)
put_at k v n now first p m q passed h i j ek ev g =
    let s : p ≡ m = same_item n now p m h i j in
    equal_at k v n now p q h i (ek ∙ ap (λ (x : Property). x.key.now) (sym s)) ev (sym g) ∙ ap (λ (ps : List Property). behind k v n (pairs ps)) passed.same ∙ sym passed.is
