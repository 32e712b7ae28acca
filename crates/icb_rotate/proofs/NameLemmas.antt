-- Texts in the order of their names.
use Rattle.std.proofs.Common.{◌≡◌, ◌≤◌, ◌<◌, ◌-◌, ℕ, zero, suc, List, [], ◌∷◌, ◌++◌, length, drop, drop-cons, get_or, arith, Bool, true, false, ◌&&◌, Some, fold, map, bytes_eq, Ordering, Less, Equal, Greater, refl, sym, ap, ◌∙◌, append_assoc, append-nil}
use Rattle.std.specs.List.{AllByRecursion}
use Rattle.std.specs.Ordering.{eq_by_cmp, nat_cmp, match_ordering, ordering_reverse}
use Rattle.std.specs.Cmp.Lexicographic.{slice_cmp, texts_ties, nat_list_cmp_total}
use Rattle.std.proofs.lemmas.Slice.Eq.{bytes_eq-Decides}
use Rattle.icb_meta.specs.Forms.{text_named}
use Rattle.icb_meta.specs.declared.records.KeyEntry.{KeyEntry}
use Rattle.icb_edits.specs.Values.{in_order, ordered, with_text}
use Rattle.icb_rotate.specs.Keys.{all_ascend, ascend_from, is_before, names_ascend}

-- ---- two facts that hold

pub first_so : (a b : Bool) → (a && b) ≡ true → a ≡ true
first_so true b h = refl
first_so false b h = h

pub second_so : (a b : Bool) → (a && b) ≡ true → b ≡ true
second_so true b h = h
second_so false b h = absurd (let g : ⊥ = cc in g)

-- ---- order

-- all names are less than this one
abbrev pub Below : List ℕ → List (List ℕ × List ℕ) → Type 0
Below name acc = AllByRecursion (λ q. slice_cmp nat_cmp q.0 name ≡ Less) acc

less_of : (o : Ordering) → match_ordering o true false false ≡ true → o ≡ Less
less_of Less h = refl
less_of Equal h = absurd (let g : ⊥ = cc in g)
less_of Greater h = absurd (let g : ⊥ = cc in g)

turned : (name other : List ℕ) (o : Ordering) → slice_cmp nat_cmp name other ≡ o → slice_cmp nat_cmp other name ≡ ordering_reverse o
turned name other o h = nat_list_cmp_total.antisymm other name ∙ ap ordering_reverse h

-- a text whose name is greater goes last
put_last : (acc : List (List ℕ × List ℕ)) (p : List ℕ × List ℕ) → Below p.0 acc → with_text acc p ≡ acc ++ p ∷ []
put_last [] p h = refl
put_last (q ∷ qs) p h = rw (turned q.0 p.0 Less h.0) (ap (λ l. q ∷ l) (put_last qs p h.1))

below_push : (name : List ℕ) (acc : List (List ℕ × List ℕ)) (p : List ℕ × List ℕ) → Below name acc → slice_cmp nat_cmp p.0 name ≡ Less → Below name (acc ++ p ∷ [])
below_push name [] p h is = (is, tt)
below_push name (q ∷ qs) p h is = (h.0, below_push name qs p h.1 is)

fold_ascends : (acc : List (List ℕ × List ℕ)) (name : List ℕ) (ps : List (List ℕ × List ℕ))
    → ((next : List ℕ) → slice_cmp nat_cmp name next ≡ Less → Below next acc)
    → ascend_from name ps ≡ true → fold with_text acc ps ≡ acc ++ ps
fold_ascends acc name [] below h = sym (append-nil acc)
fold_ascends acc name (p ∷ ps) below h =
    let less = less_of (slice_cmp nat_cmp name p.0) (first_so (is_before name p.0) (ascend_from p.0 ps) h) in
    let last = put_last acc p (below p.0 less) in
    ap (λ l. fold with_text l ps) last
    ∙ fold_ascends (acc ++ p ∷ []) p.0 ps
    (λ next is. below_push next acc p (below next (nat_list_cmp_total.trans name p.0 next less is)) is)
    (second_so (is_before name p.0) (ascend_from p.0 ps) h)
    ∙ append_assoc acc (p ∷ []) ps

-- texts whose names ascend are in order
pub in_order_same : (ps : List (List ℕ × List ℕ)) → names_ascend ps ≡ true → in_order ps ≡ ps
unfolding in_order
in_order_same [] h = refl
in_order_same (p ∷ ps) h = fold_ascends (p ∷ []) p.0 ps (λ next is. (is, tt)) h

pub ordered_same : (es : List KeyEntry) → all_ascend es ≡ true → map ordered es ≡ es
ordered_same [] h = refl
ordered_same (e ∷ es) h =
    rw (in_order_same e.properties (first_so (names_ascend e.properties) (all_ascend es) h), ordered_same es (second_so (names_ascend e.properties) (all_ascend es) h)) refl

-- ---- a text that was put

same_text : (k : List ℕ) → bytes_eq k k ≡ true
same_text k = (bytes_eq-Decides k k).1 refl

same_bytes : (q k : List ℕ) → bytes_eq q k ≡ eq_by_cmp (slice_cmp nat_cmp) q k
same_bytes q k = texts_ties q k

-- the name that comes first is the one that was put, or another one
named_at : (o : Ordering) (k v : List ℕ) (q : List ℕ × List ℕ) (qs : List (List ℕ × List ℕ)) → slice_cmp nat_cmp k q.0 ≡ o
    → text_named k (with_text qs (k, v)) ≡ Some v
    → text_named k (match_ordering o ((k, v) ∷ q ∷ qs) ((q.0, v) ∷ qs) (q ∷ with_text qs (k, v))) ≡ Some v
named_at Less k v q qs h later = rw (same_text k) refl
named_at Equal k v q qs h later = rw (same_bytes q.0 k, turned k q.0 Equal h) refl
named_at Greater k v q qs h later = rw (same_bytes q.0 k, turned k q.0 Greater h) later

pub text_put : (k v : List ℕ) (texts : List (List ℕ × List ℕ)) → text_named k (with_text texts (k, v)) ≡ Some v
text_put k v [] = rw (same_text k) refl
text_put k v (q ∷ qs) = named_at (slice_cmp nat_cmp k q.0) k v q qs refl (text_put k v qs)

-- ---- names, one by one

pub names_begin : (texts : List (List ℕ × List ℕ)) → names_ascend texts ≡ ascend_from (get_or texts 0 ([], [])).0 (drop 1 texts)
names_begin [] = refl
names_begin (p ∷ ps) = refl

names_split : (texts : List (List ℕ × List ℕ)) (i : ℕ) → i < length texts
    → ascend_from (get_or texts (i - 1) ([], [])).0 (drop i texts)
    ≡ (is_before (get_or texts (i - 1) ([], [])).0 (get_or texts i ([], [])).0 && ascend_from (get_or texts i ([], [])).0 (drop (suc i) texts))
names_split texts i h = ap (ascend_from (get_or texts (i - 1) ([], [])).0) (drop-cons texts i ([], []) h)

pub names_next : (texts : List (List ℕ × List ℕ)) (i next : ℕ) → next ≡ suc i → i < length texts
    → names_ascend texts ≡ ascend_from (get_or texts (i - 1) ([], [])).0 (drop i texts)
    → is_before (get_or texts (i - 1) ([], [])).0 (get_or texts i ([], [])).0 ≡ true
    → names_ascend texts ≡ ascend_from (get_or texts (next - 1) ([], [])).0 (drop next texts)
names_next texts i next e h left less =
    let back : next - 1 ≡ i = omega (arith, e) in
    rw (back, e) (left ∙ names_split texts i h ∙ ap (λ b. b && ascend_from (get_or texts i ([], [])).0 (drop (suc i) texts)) less)

pub names_stop : (texts : List (List ℕ × List ℕ)) (i : ℕ) → i < length texts
    → names_ascend texts ≡ ascend_from (get_or texts (i - 1) ([], [])).0 (drop i texts)
    → is_before (get_or texts (i - 1) ([], [])).0 (get_or texts i ([], [])).0 ≡ false → names_ascend texts ≡ false
names_stop texts i h left less =
    left ∙ names_split texts i h ∙ ap (λ b. b && ascend_from (get_or texts i ([], [])).0 (drop (suc i) texts)) less

none_behind : (texts : List (List ℕ × List ℕ)) (i : ℕ) → length texts ≤ i → drop i texts ≡ []
none_behind [] i h = drop_nothing i
  where
    drop_nothing : (i : ℕ) → drop {A = List ℕ × List ℕ} i [] ≡ []
    drop_nothing zero = refl
    drop_nothing (suc i) = refl
none_behind (p ∷ ps) zero h = absurd (let g : ⊥ = omega (arith, h) in g)
none_behind (p ∷ ps) (suc i) h = none_behind ps i (omega (arith, h))

pub names_end : (texts : List (List ℕ × List ℕ)) (i : ℕ) → length texts ≤ i
    → names_ascend texts ≡ ascend_from (get_or texts (i - 1) ([], [])).0 (drop i texts) → names_ascend texts ≡ true
names_end texts i h left = left ∙ ap (ascend_from (get_or texts (i - 1) ([], [])).0) (none_behind texts i h)
