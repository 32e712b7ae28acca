-- Names that are looked up among those before them.
use Rattle.std.proofs.Common.{◌≡◌, ℕ, suc, ◌+◌, ◌<◌, List, [], ◌∷◌, ◌++◌, length, map, take, drop, get_or, Bor, Bool, true, false, not, ◌||◌, cond, inl, inr, refl, sym, ap, ◌∙◌, subst, add-one, drop-cons, true≢false}
use Rattle.std.proofs.lemmas.List.{take-append-drop, map-append}
use Rattle.std.proofs.Math.Seq.{take-suc}
use Rattle.std.specs.Ordering.{nat_cmp, is_eq}
use Rattle.std.specs.Cmp.Lexicographic.{slice_cmp}
use Rattle.std.proofs.lemmas.Slice.Eq.{bytes_eq-Decides}
use Rattle.std.proofs.lemmas.Map.Text.{is_eq-slice_cmp}
use Rattle.std.specs.Str.{bytes_eq}
use Rattle.icb_schema.specs.Names.{is_among, are_distinct}
use Rattle.icb_schema.proofs.NameLemmas.{Distinct, in_from, in_split, not_among, or_first, or_second, distinct_from, distinct_apart}

or_cond : (a : Bool) → (a || false) ≡ cond a true false
or_cond true = refl
or_cond false = refl

or_swap : (a b c : Bool) → (a || cond b true c) ≡ cond b true (a || c)
or_swap true true c = refl
or_swap true false c = refl
or_swap false true c = refl
or_swap false false c = refl

-- the texts that are borrowed
abbrev pub texts : List (Bor (List ℕ)) → List (List ℕ)
texts names = map (λ n. n.now) names

pub distinct_to : (ns : List (List ℕ)) → Distinct ns → are_distinct ns ≡ true
distinct_to [] d = refl
distinct_to (n ∷ ns) d = rw (not_among n ns d.0, distinct_to ns d.1) refl

not_distinct : (ns : List (List ℕ)) (b : Bool) → are_distinct ns ≡ b → (Distinct ns → ⊥) → b ≡ false
not_distinct ns true e h = absurd (h (distinct_from ns e))
not_distinct ns false e h = refl

pub not_false : (b : Bool) → not b ≡ false → b ≡ true
not_false true e = refl
not_false false e = absurd (true≢false e)

pub not_true_is : (b : Bool) → true ≡ not b → b ≡ false
not_true_is true e = absurd (true≢false e)
not_true_is false e = refl

-- the texts up to a place, and the one there
texts_to : (names : List (Bor (List ℕ))) (i : ℕ) (d : Bor (List ℕ)) → i < length names → texts (take (i + 1) names) ≡ texts (take i names) ++ (get_or names i d).now ∷ []
texts_to names i d h = rw (add-one, take-suc names i d h, map-append) refl

-- the texts up to a place, the one there, and the others
texts_at : (names : List (Bor (List ℕ))) (i : ℕ) (d : Bor (List ℕ)) → i < length names → texts names ≡ texts (take i names) ++ (get_or names i d).now ∷ texts (drop (suc i) names)
texts_at names i d h = ap texts (sym (take-append-drop i names)) ∙ rw (drop-cons names i d h, map-append) refl

-- a name that stands before is a second one
pub stands_twice : (names : List (Bor (List ℕ))) (i : ℕ) (d : Bor (List ℕ)) → i < length names → is_among (get_or names i d).now (texts (take i names)) ≡ true → are_distinct (texts names) ≡ false
stands_twice names i d h b = not_distinct (texts names) (are_distinct (texts names)) refl (λ e. distinct_apart (texts (take i names)) ((get_or names i d).now ∷ texts (drop (suc i) names)) (subst Distinct (texts_at names i d h) e)
    (get_or names i d).now (in_from (get_or names i d).now (texts (take i names)) b) (inl refl))

distinct_push : (ns : List (List ℕ)) (n : List ℕ) → Distinct ns → is_among n ns ≡ false → Distinct (ns ++ n ∷ [])
distinct_push [] n d b = (λ h. h, tt)
distinct_push (m ∷ ns) n d b =
    let later = distinct_push ns n d.1 (or_second (bytes_eq m n) (is_among n ns) b) in
    (λ h. elim (in_split m ns (n ∷ []) h) [ inl i ↦ d.0 i | inr i ↦ elim i [ inl e ↦ true≢false (sym ((bytes_eq-Decides m n).1 (sym e)) ∙ or_first (bytes_eq m n) (is_among n ns) b) | inr j ↦ j ] ], later)

-- a name that doesn't stand before is one more
pub stands_once : (names : List (Bor (List ℕ))) (i : ℕ) (d : Bor (List ℕ)) → i < length names → Distinct (texts (take i names)) → is_among (get_or names i d).now (texts (take i names)) ≡ false → Distinct (texts (take (i + 1) names))
stands_once names i d h e b = subst Distinct (sym (texts_to names i d h)) (distinct_push (texts (take i names)) (get_or names i d).now e b)

is_among_push : (q n : List ℕ) (ns : List (List ℕ)) → is_among q (ns ++ n ∷ []) ≡ cond (bytes_eq n q) true (is_among q ns)
is_among_push q n [] = or_cond (bytes_eq n q)
is_among_push q n (m ∷ ns) = rw (is_among_push q n ns) (or_swap (bytes_eq m q) (bytes_eq n q) (is_among q ns))

-- one more name is held
pub held_more : (names : List (Bor (List ℕ))) (i : ℕ) (d : Bor (List ℕ)) (q : List ℕ) (a b : Bool) → i < length names → b ≡ cond (is_eq (slice_cmp nat_cmp (get_or names i d).now q)) true a → a ≡ is_among q (texts (take i names))
    → b ≡ is_among q (texts (take (i + 1) names))
held_more names i d q a b h e f = rw (e, f, is_eq-slice_cmp (get_or names i d).now q, texts_to names i d h, is_among_push q (get_or names i d).now (texts (take i names))) refl
