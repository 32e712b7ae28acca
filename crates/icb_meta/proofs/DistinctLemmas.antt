-- Keys that are looked up among those before them, for any keys that a test tells apart.
use Rattle.std.proofs.Common.{Ordering, Less, Equal, Greater, ◌≡◌, ℕ, suc, ◌+◌, ◌<◌, ℤ, List, [], ◌∷◌, ◌++◌, length, map, take, drop, get_or, Bool, true, false, not, ◌&&◌, ◌||◌, cond, Decides, ◌⊎◌, inl, inr, refl, sym, ap, ◌∙◌, subst, add-one, drop-cons, true≢false}
use Rattle.std.proofs.lemmas.List.{take-append-drop, map-append}
use Rattle.std.proofs.Math.Seq.{take-suc}
use Rattle.std.specs.List.{list_any}
use Rattle.std.specs.Ordering.{int_eq, int_cmp, is_eq, nat_cmp}
use Rattle.std.specs.Cmp.Lexicographic.{slice_cmp}
use Rattle.std.proofs.lemmas.Map.Text.{is_eq-slice_cmp}
use Rattle.std.specs.Str.{bytes_eq}
use Rattle.std.proofs.lemmas.Cmp.{int_cmp_total, tied_itself}
use Rattle.std.proofs.lemmas.Map.Lookups.{exact_signed}
use Rattle.std.proofs.lemmas.Slice.Eq.{bytes_eq-Decides}
use Rattle.icb_schema.specs.Names.{are_distinct}
use Rattle.icb_types.specs.Columns.{are_distinct_ids}
use Rattle.icb_schema.proofs.NameLemmas.{or_right, or_first, or_second, both_left, both_right, not_true}

or_cond : (a : Bool) → (a || false) ≡ cond a true false
or_cond true = refl
or_cond false = refl

or_swap : (a b c : Bool) → (a || cond b true c) ≡ cond b true (a || c)
or_swap true true c = refl
or_swap true false c = refl
or_swap false true c = refl
or_swap false false c = refl

pub not_false : (b : Bool) → not b ≡ false → b ≡ true
not_false true e = refl
not_false false e = absurd (true≢false e)

pub not_true_is : (b : Bool) → true ≡ not b → b ≡ false
not_true_is true e = absurd (true≢false e)
not_true_is false e = refl

-- a key is one of these
abbrev pub In : {A : Type 0} → A → List A → Type 0
In n [] = ⊥
In n (m ∷ ms) = (m ≡ n) ⊎ In n ms

-- no key stands twice
abbrev pub Distinct : {A : Type 0} → List A → Type 0
Distinct [] = Unit {0}
Distinct (n ∷ ns) = (In n ns → ⊥) × Distinct ns

in_right : {A : Type 0} (n : A) (xs ys : List A) → In n ys → In n (xs ++ ys)
in_right n [] ys h = h
in_right n (x ∷ xs) ys h = inr (in_right n xs ys h)

in_split : {A : Type 0} (n : A) (xs ys : List A) → In n (xs ++ ys) → In n xs ⊎ In n ys
in_split n [] ys h = inr h
in_split n (x ∷ xs) ys (inl e) = inl (inl e)
in_split n (x ∷ xs) ys (inr h) = elim (in_split n xs ys h) [ inl i ↦ inl (inr i) | inr i ↦ inr i ]

-- a key that stands in two parts stands twice
twice : {A : Type 0} (n : A) (xs ys : List A) → In n xs → Distinct (xs ++ n ∷ ys) → ⊥
twice n [] ys h d = h
twice n (x ∷ xs) ys (inl e) d = d.0 (in_right x xs (n ∷ ys) (inl (sym e)))
twice n (x ∷ xs) ys (inr h) d = twice n xs ys h d.1

module _ {A : Type 0} (eq : A → A → Bool) (decides : (m n : A) → Decides (eq m n) (m ≡ n)) where
  -- one of these is this key
  abbrev pub among : A → List A → Bool
  among n ms = list_any (λ m. eq m n) ms

  -- no key stands twice, as a test
  abbrev pub distinct : List A → Bool
  distinct [] = true
  distinct (n ∷ ns) = not (among n ns) && distinct ns

  in_to : (n : A) (ms : List A) → In n ms → among n ms ≡ true
  in_to n [] h = absurd h
  in_to n (m ∷ ms) (inl e) = rw ((decides m n).1 e) refl
  in_to n (m ∷ ms) (inr h) = or_right (eq m n) (among n ms) (in_to n ms h)

  in_from_at : (n m : A) (ms : List A) (b : Bool) → eq m n ≡ b → (among n ms ≡ true → In n ms) → (b || among n ms) ≡ true → In n (m ∷ ms)
  in_from_at n m ms true e f h = inl ((decides m n).0 e)
  in_from_at n m ms false e f h = inr (f h)

  in_from : (n : A) (ms : List A) → among n ms ≡ true → In n ms
  in_from n [] h = absurd (true≢false (sym h))
  in_from n (m ∷ ms) h = in_from_at n m ms (eq m n) refl (in_from n ms) h

  none_of : (n : A) (ms : List A) (b : Bool) → among n ms ≡ b → (In n ms → ⊥) → b ≡ false
  none_of n ms true e h = absurd (h (in_from n ms e))
  none_of n ms false e h = refl

  pub distinct_from : (ns : List A) → distinct ns ≡ true → Distinct ns
  distinct_from [] e = tt
  distinct_from (n ∷ ns) e =
      (λ h. true≢false (sym (in_to n ns h) ∙ not_true (among n ns) (both_left (not (among n ns)) (distinct ns) e)), distinct_from ns (both_right (not (among n ns)) (distinct ns) e))

  pub distinct_to : (ns : List A) → Distinct ns → distinct ns ≡ true
  distinct_to [] d = refl
  distinct_to (n ∷ ns) d = rw (none_of n ns (among n ns) refl d.0, distinct_to ns d.1) refl

  not_distinct : (ns : List A) (b : Bool) → distinct ns ≡ b → (distinct ns ≡ true → ⊥) → b ≡ false
  not_distinct ns true e h = absurd (h e)
  not_distinct ns false e h = refl

  pub distinct_push : (ns : List A) (n : A) → Distinct ns → among n ns ≡ false → Distinct (ns ++ n ∷ [])
  distinct_push [] n d b = (λ h. h, tt)
  distinct_push (m ∷ ns) n d b =
      let later = distinct_push ns n d.1 (or_second (eq m n) (among n ns) b) in
      (λ h. elim (in_split m ns (n ∷ []) h) [ inl i ↦ d.0 i | inr i ↦ elim i [ inl e ↦ true≢false (sym ((decides m n).1 (sym e)) ∙ or_first (eq m n) (among n ns) b) | inr j ↦ j ] ], later)

  among_push : (q n : A) (ns : List A) → among q (ns ++ n ∷ []) ≡ cond (eq n q) true (among q ns)
  among_push q n [] = or_cond (eq n q)
  among_push q n (m ∷ ns) = rw (among_push q n ns) (or_swap (eq m q) (eq n q) (among q ns))

  module _ {B : Type 0} (f : B → A) where
    keys_to : (xs : List B) (i : ℕ) (d : B) → i < length xs → map f (take (i + 1) xs) ≡ map f (take i xs) ++ f (get_or xs i d) ∷ []
    keys_to xs i d h = rw (add-one, take-suc xs i d h, map-append) refl

    keys_at : (xs : List B) (i : ℕ) (d : B) → i < length xs → map f xs ≡ map f (take i xs) ++ f (get_or xs i d) ∷ map f (drop (suc i) xs)
    keys_at xs i d h = ap (map f) (sym (take-append-drop i xs)) ∙ rw (drop-cons xs i d h, map-append) refl

    -- a key that stands before is a second one
    pub stands_twice : (xs : List B) (i : ℕ) (d : B) (k : A) → i < length xs → k ≡ f (get_or xs i d) → among k (map f (take i xs)) ≡ true → distinct (map f xs) ≡ false
    stands_twice xs i d k h is b = not_distinct (map f xs) (distinct (map f xs)) refl (λ e. twice k (map f (take i xs)) (map f (drop (suc i) xs))
        (in_from k (map f (take i xs)) b) (subst (λ n. Distinct (map f (take i xs) ++ n ∷ map f (drop (suc i) xs))) (sym is) (subst Distinct (keys_at xs i d h) (distinct_from (map f xs) e))))

    -- a key that doesn't stand before is one more
    pub stands_once : (xs : List B) (i : ℕ) (d : B) (k : A) → i < length xs → k ≡ f (get_or xs i d) → Distinct (map f (take i xs)) → among k (map f (take i xs)) ≡ false → Distinct (map f (take (i + 1) xs))
    stands_once xs i d k h is e b = subst Distinct (ap (λ n. map f (take i xs) ++ n ∷ []) is ∙ sym (keys_to xs i d h)) (distinct_push (map f (take i xs)) k e b)

    -- one more key is held
    pub held_more : (xs : List B) (i : ℕ) (d : B) (k q : A) (a b : Bool) → i < length xs → k ≡ f (get_or xs i d) → b ≡ cond (eq k q) true a → a ≡ among q (map f (take i xs)) → b ≡ among q (map f (take (i + 1) xs))
    held_more xs i d k q a b h is e g = rw (e, g, keys_to xs i d h, sym is, among_push q k (map f (take i xs))) refl

-- ---- numbers and texts

pub int_decides : (m n : ℤ) → Decides (int_eq m n) (m ≡ n)
int_decides m n = (λ e. exact_signed m n (equal_from (int_cmp m n) e), λ e. subst (λ z. int_eq m z ≡ true) e (ap is_eq (tied_itself int_cmp_total m)))
  where
    equal_from : (o : Ordering) → is_eq o ≡ true → o ≡ Equal
    equal_from Less e = absurd (true≢false (sym e))
    equal_from Equal e = refl
    equal_from Greater e = absurd (true≢false (sym e))

pub ids_are_distinct : (ids : List ℤ) → are_distinct_ids ids ≡ distinct int_eq int_decides ids
ids_are_distinct [] = refl
ids_are_distinct (id ∷ ids) = rw (ids_are_distinct ids) refl

pub names_are_distinct : (names : List (List ℕ)) → are_distinct names ≡ distinct bytes_eq bytes_eq-Decides names
names_are_distinct [] = refl
names_are_distinct (n ∷ names) = rw (names_are_distinct names) refl

-- one more name is held
pub name_held_more : {B : Type 0} (f : B → List ℕ) (xs : List B) (i : ℕ) (d : B) (k q : List ℕ) (a b : Bool) → i < length xs → k ≡ f (get_or xs i d)
    → b ≡ cond (is_eq (slice_cmp nat_cmp k q)) true a → a ≡ among bytes_eq bytes_eq-Decides q (map f (take i xs)) → b ≡ among bytes_eq bytes_eq-Decides q (map f (take (i + 1) xs))
name_held_more f xs i d k q a b h is e g = held_more bytes_eq bytes_eq-Decides f xs i d k q a b h is (e ∙ ap (λ t. cond t true a) (is_eq-slice_cmp k q)) g
