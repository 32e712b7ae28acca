-- What the writer's loops have appended.
use Rattle.std.proofs.Common.{◌≡◌, ℕ, ◌+◌, ◌<◌, List, [], ◌∷◌, ◌++◌, length, map, take, get_or, append_assoc, true, refl, sym, ap, subst, ◌∙◌, arith, nat_cmp, Result, Ok, Err}
use Rattle.std.specs.List.{AllByRecursion, flat_map, fold}
use Rattle.std.specs.Str.{IsUtf8, is_utf8}
use Rattle.std.proofs.lemmas.Str.{is_utf8-from_IsUtf8}
use Rattle.std.specs.FinMap as finite
use Rattle.std.specs.Cmp.Lexicographic.{slice_cmp, nat_list_cmp_total}
use Rattle.std.proofs.lemmas.List.{append-nil, take_more}
use Rattle.std.specs.Prelude.{ℤ, pos, OnOk}
use Rattle.icb_avro.specs.Writing.{written, written_long}
use Rattle.icb_avro.specs.declared.value.Value.TheVariants as value
use Rattle.icb_avro.proofs.WriteLemmas.{written_Long}
use Rattle.icb_container.specs.Content.{Properties}
use Rattle.icb_container.specs.Sorted.{pairs}
use Rattle.icb_container.specs.Written.{put_all, written_property}
use Rattle.icb_container.specs.declared.properties.Property.{Property}
use Rattle.icb_container.proofs.Sorting.{put}

abbrev pub all_properties : List Property → List ℕ
all_properties ps = flat_map (λ x. x) (map written_property (pairs ps))

abbrev entry : Property → List ℕ
entry p = written_property (p.key.now, p.value.now)

push : (ps : List Property) (p : Property) → all_properties (ps ++ p ∷ []) ≡ all_properties ps ++ entry p
push [] p = append-nil (entry p)
push (q ∷ ps) p = ap (λ (t : List ℕ). entry q ++ t) (push ps p) ∙ sym (append_assoc (entry q) (all_properties ps) (entry p))

joined : (before all more mid new : List ℕ) → mid ≡ before ++ all → new ≡ mid ++ more → new ≡ before ++ (all ++ more)
joined before all more mid new e f = f ∙ ap (λ (t : List ℕ). t ++ more) e ∙ append_assoc before all more

-- one more property
pub property_more : (ps : List Property) (i : ℕ) (d : Property) (before mid new : List ℕ) → i < length ps
    → mid ≡ before ++ all_properties (take i ps) → new ≡ mid ++ entry (get_or ps i d) → new ≡ before ++ all_properties (take (i + 1) ps)
property_more ps i d before mid new h e f =
    let taken : all_properties (take (i + 1) ps) ≡ all_properties (take i ps) ++ entry (get_or ps i d) =
    ap all_properties (take_more ps i d h) ∙ push (take i ps) (get_or ps i d) in
    rw taken (joined before (all_properties (take i ps)) (entry (get_or ps i d)) mid new e f)

-- a count is written as the number that it is
pub count_written : {E : Type 0} (r : Result (Unit {0}) E) (n : ℤ) (count : ℕ) (old new : List ℕ) → n ≡ pos count → OnOk r (new ≡ old ++ written (value.Long n)) → OnOk r (new ≡ old ++ written_long (pos count))
count_written (Ok x) n count old new e h = h ∙ ap (λ (t : List ℕ). old ++ t) (written_Long n ∙ ap written_long e)
count_written (Err d) n count old new e h = tt

abbrev Pair : Type 0
Pair = List ℕ × List ℕ

put_all-push : (es : List Pair) (m : Properties) (e : Pair) → fold (λ (n : Properties) (x : Pair). finite.insert n x.0 x.1) m (es ++ e ∷ []) ≡ finite.insert (fold (λ (n : Properties) (x : Pair). finite.insert n x.0 x.1) m es) e.0 e.1
put_all-push [] m e = refl
put_all-push (x ∷ es) m e = put_all-push es (finite.insert m x.0 x.1) e

-- one more property in its place
pub sorted_more : (es : List Pair) (i : ℕ) (e : Pair) (now new : List Pair) → i < length es → e ≡ get_or es i e → now ≡ finite.entries (put_all (take i es))
    → new ≡ put e.0 e.1 now → new ≡ finite.entries (put_all (take (i + 1) es))
sorted_more es i e now new h is was done =
    let taken : put_all (take (i + 1) es) ≡ finite.insert (put_all (take i es)) e.0 e.1 =
    ap put_all (take_more es i e h) ∙ put_all-push (take i es) finite.empty (get_or es i e) ∙ ap (λ (x : Pair). finite.insert (put_all (take i es)) x.0 x.1) (sym is) in
    done ∙ ap (put e.0 e.1) was ∙ sym (finite.entries-insert nat_list_cmp_total (put_all (take i es)) e.0 e.1) ∙ ap finite.entries (sym taken)

-- a property that is put into what a map has
pub put_in : (m : Properties) (k v : List ℕ) (now new : List Pair) → now ≡ finite.entries m → new ≡ put k v now → new ≡ finite.entries (finite.insert m k v)
put_in m k v now new was done = done ∙ ap (put k v) was ∙ sym (finite.entries-insert nat_list_cmp_total m k v)

none_left : {A : Type 0} (xs : List A) → length xs ≡ 0 → xs ≡ []
none_left [] e = refl
none_left (x ∷ xs) e = absurd (let f : ⊥ = omega (arith, e) in f)

-- no property is none of the empty map
pub empty_at_first : (es : List Pair) → es ≡ [] → es ≡ finite.entries {R = slice_cmp nat_cmp} (finite.empty {X = List ℕ} {R = slice_cmp nat_cmp})
empty_at_first es e = e ∙ sym (none_left _ (sym (finite.len-entries finite.empty) ∙ finite.len-empty (slice_cmp nat_cmp) (List ℕ)))

abbrev Texts : List Pair → Type 0
Texts es = AllByRecursion (λ e. is_utf8 e.0 ≡ true) es

texts_push : (es : List Pair) (e : Pair) → Texts es → is_utf8 e.0 ≡ true → Texts (es ++ e ∷ [])
texts_push [] e h u = (u, tt)
texts_push (x ∷ es) e h u = (h.0, texts_push es e h.1 u)

-- one more key that is a text
pub texts_more : (es : List Pair) (i : ℕ) (e : Pair) (text : List ℕ) → i < length es → e ≡ get_or es i e → text ≡ e.0 → IsUtf8 text → Texts (take i es) → Texts (take (i + 1) es)
texts_more es i e text h is same u texts =
    subst Texts (sym (take_more es i e h)) (texts_push (take i es) (get_or es i e) texts (subst (λ (x : Pair). is_utf8 x.0 ≡ true) is (ap is_utf8 (sym same) ∙ is_utf8-from_IsUtf8 text u)))
