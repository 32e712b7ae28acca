-- The properties that a header was written with are those of its map, and each is found by its key.
use Rattle.std.proofs.Common.{◌≡◌, ℕ, Bool, true, false, cond, ◌&&◌, T, List, [], ◌∷◌, codes, Option, Some, None, Ordering, Less, Equal, Greater, refl, sym, ap, subst, ◌∙◌}
use Rattle.std.specs.Prelude.{is_some}
use Rattle.std.specs.List.{AllByRecursion, fold}
use Rattle.std.specs.Option.{option_map, option_or}
use Rattle.std.specs.Ordering.{nat_cmp, eq_by_cmp, is_eq, is_lt}
use Rattle.std.specs.Str.{bytes_eq, is_utf8}
use Rattle.std.specs.FinMap as finite
use Rattle.std.specs.FinMap.Entries.{below_all, by_order, is_sorted}
use Rattle.std.specs.Cmp.Lexicographic.{slice_cmp, nat_list_cmp_total}
use Rattle.std.proofs.lemmas.Map.Text.{is_eq-slice_cmp}
use Rattle.std.proofs.lemmas.Slice.Eq.{bytes_eq-Decides}
use Rattle.icb_container.specs.Header.{Property, property_of}
use Rattle.icb_container.specs.Content.{Properties, by_key}
use Rattle.icb_container.specs.Written.{properties_of, put_all}
use Rattle.icb_container.proofs.Appended.{empty_at_first}
use Rattle.icb_container.proofs.NumbersAgain.{HaveTexts, Pair, all_before, ascii_is_text}

abbrev order : List ℕ → List ℕ → Ordering
order = slice_cmp nat_cmp

abbrev value_of : Property → List ℕ
value_of p = p.value

first_of_both : (a b : Bool) → T (a && b) → T a
first_of_both true b p = tt
first_of_both false b p = p

second_of_both : (a b : Bool) → T (a && b) → T b
second_of_both true b p = p
second_of_both false b p = absurd p

less_is_other : (o : Ordering) → T (is_lt o) → is_eq o ≡ false
less_is_other Less p = refl
less_is_other Equal p = absurd p
less_is_other Greater p = absurd p

-- no later key is the first one
not_found : (key : List ℕ) (es : List Pair) → T (below_all order key es) → finite.find order key es ≡ None
not_found key [] h = refl
not_found key (e ∷ es) h =
    let other : eq_by_cmp order key e.0 ≡ false = less_is_other (order key e.0) (first_of_both (is_lt (order key e.0)) (below_all order key es) h) in
    rw (other, not_found key es (second_of_both (is_lt (order key e.0)) (below_all order key es) h)) refl

-- the map of sorted properties
made_by_key : (end : ℕ) (es : List Pair) (more : List ℕ) → T (is_sorted order es) → by_key (all_before end es more) ≡ finite.from_entries es
unfolding by_key
made_by_key end [] more h = refl
made_by_key end (e ∷ es) more h =
    let rest : by_key (all_before end es more) ≡ finite.from_entries es = made_by_key end es more (second_of_both (below_all order e.0 es) (is_sorted order es) h) in
    let missing : finite.get (finite.from_entries {R = order} es) e.0 ≡ None = finite.get-from_entries nat_list_cmp_total es e.0 ∙ not_found e.0 es (first_of_both (below_all order e.0 es) (is_sorted order es) h) in
    rw (rest, missing) refl

-- the map is made of its entries
made_again : (m : Properties) → finite.from_entries (finite.entries m) ≡ m
made_again m = finite.same_map nat_list_cmp_total (finite.slice_cmp-IsAntisymmetric finite.nat_cmp-IsAntisymmetric) (finite.from_entries (finite.entries m)) m
    (λ q. finite.get-from_entries nat_list_cmp_total (finite.entries m) q ∙ sym (finite.get-entries m q))

-- what was written of a map is that map
pub by_key_again : (end : ℕ) (m : Properties) (more : List ℕ) → by_key (all_before end (finite.entries m) more) ≡ m
by_key_again end m more = made_by_key end (finite.entries m) more (finite.entries_sorted m) ∙ made_again m

-- ---- look-ups

abbrev found_value : List ℕ → List Property → Option (List ℕ)
found_value key ps = option_map value_of (property_of key ps)

same_bytes : (xs ys : List ℕ) → bytes_eq xs ys ≡ true → xs ≡ ys
same_bytes xs ys h = (bytes_eq-Decides xs ys).0 h

put_last : (key : List ℕ) (p : Property) (m : Properties) (same : Bool) → bytes_eq key p.key ≡ same → finite.get (finite.insert m p.key p.value) key ≡ cond same (Some p.value) (finite.get m key)
put_last key p m same e =
    finite.get-insert nat_list_cmp_total m p.key p.value key ∙ ap (λ (b : Bool). cond b (Some p.value) (finite.get m key)) (is_eq-slice_cmp key p.key ∙ e)

same_key : (key : List ℕ) (p : Property) (m : Properties) → bytes_eq key p.key ≡ true → finite.contains_key m p.key ≡ is_some (finite.get m key)
same_key key p m e = ap (λ (k : List ℕ). is_some (finite.get m k)) (sym (same_bytes key p.key e))

-- what a look-up finds, where a property stands before others
one_earlier : (key : List ℕ) (p : Property) (found : Option Property) (m : Properties) (same there : Bool)
    → option_map value_of found ≡ finite.get m key → bytes_eq key p.key ≡ same → finite.contains_key m p.key ≡ there
    → option_map value_of (option_or found (cond same (Some p) None)) ≡ finite.get (cond there m (finite.insert m p.key p.value)) key
one_earlier key p (Some q) m same true is e h = is
one_earlier key p None m false true is e h = is
one_earlier key p None m true true is e h = let f : true ≡ false = sym h ∙ same_key key p m e ∙ ap is_some (sym is) in absurd cc
one_earlier key p None m true false is e h = sym (put_last key p m true e)
one_earlier key p None m false false is e h = is ∙ sym (put_last key p m false e)
one_earlier key p (Some q) m false false is e h = is ∙ sym (put_last key p m false e)
one_earlier key p (Some q) m true false is e h = let f : false ≡ true = sym h ∙ same_key key p m e ∙ ap is_some (sym is) in absurd cc

-- the last property of a key has the map's value
pub value_found : (key : List ℕ) (ps : List Property) → option_map (λ p. p.value) (property_of key ps) ≡ finite.get (by_key ps) key
unfolding property_of by_key
value_found key [] = sym (finite.get-empty order key)
value_found key (p ∷ ps) = one_earlier key p (property_of key ps) (by_key ps) (bytes_eq key p.key) (finite.contains_key (by_key ps) p.key) (value_found key ps) refl refl

-- a property of this key, which has this value
pub has_value : (found : Option Property) (value : List ℕ) → option_map (λ p. p.value) found ≡ Some value → (p : Property) × (found ≡ Some p) × (p.value ≡ value)
has_value None value e = absurd cc
has_value (Some p) value e = (p, refl, cc)

-- ---- the writer's properties

put_has : (P : List ℕ → Type 0) (k v : List ℕ) (es : List Pair) → P k → AllByRecursion (λ e. P e.0) es → AllByRecursion (λ e. P e.0) (finite.put order k v es)
put_has P k v [] p h = (p, tt)
put_has P k v (e ∷ es) p h = elim (order k e.0) as (λ o. AllByRecursion (λ (x : Pair). P x.0) (by_order o ((k, v) ∷ e ∷ es) ((e.0, v) ∷ es) (e ∷ finite.put order k v es))) [
  | Less ↦ (p, h)
  | Equal ↦ h
  | Greater ↦ (h.0, put_has P k v es p h.1)
]

inserted_have : (m : Properties) (k v : List ℕ) → is_utf8 k ≡ true → HaveTexts (finite.entries m) → HaveTexts (finite.entries (finite.insert m k v))
inserted_have m k v u h = subst HaveTexts (sym (finite.entries-insert nat_list_cmp_total m k v)) (put_has (λ x. is_utf8 x ≡ true) k v (finite.entries m) u h)

all_have : (es : List Pair) (m : Properties) → HaveTexts es → HaveTexts (finite.entries m) → HaveTexts (finite.entries (fold (λ (n : Properties) (x : Pair). finite.insert n x.0 x.1) m es))
all_have [] m u h = h
all_have (e ∷ es) m u h = all_have es (finite.insert m e.0 e.1) u.1 (inserted_have m e.0 e.1 u.0 h)

empty_has : HaveTexts (finite.entries {R = order} (finite.empty {X = List ℕ} {R = order}))
empty_has = subst HaveTexts (empty_at_first [] refl) tt

-- the keys are texts where those of the other properties are
pub keys_are_texts : (text : List ℕ) (extra : List Pair) → HaveTexts extra → HaveTexts (finite.entries (properties_of text extra))
keys_are_texts text extra u =
    inserted_have (finite.insert (put_all extra) (codes "avro.codec") (codes "null")) (codes "avro.schema") text (ascii_is_text (codes "avro.schema") refl)
    (inserted_have (put_all extra) (codes "avro.codec") (codes "null") (ascii_is_text (codes "avro.codec") refl) (all_have extra finite.empty u empty_has))

pub schema_is : (text : List ℕ) (extra : List Pair) → finite.get (properties_of text extra) (codes "avro.schema") ≡ Some text
schema_is text extra = finite.get-insert nat_list_cmp_total (finite.insert (put_all extra) (codes "avro.codec") (codes "null")) (codes "avro.schema") text (codes "avro.schema")

pub codec_is : (text : List ℕ) (extra : List Pair) → finite.get (properties_of text extra) (codes "avro.codec") ≡ Some (codes "null")
codec_is text extra =
    finite.get-insert nat_list_cmp_total (finite.insert (put_all extra) (codes "avro.codec") (codes "null")) (codes "avro.schema") text (codes "avro.codec")
    ∙ finite.get-insert nat_list_cmp_total (put_all extra) (codes "avro.codec") (codes "null") (codes "avro.codec")
