-- Texts that were put read in the order of their names.
use Rattle.std.proofs.Common.{◌≡◌, ℕ, List, [], ◌∷◌, fold, Option, Some, None, option_and_then, option_map, unwrap_or, Ordering, Less, Equal, Greater, refl, ap, subst}
use Rattle.std.specs.Ordering.{match_ordering, nat_cmp}
use Rattle.std.specs.Cmp.Lexicographic.{slice_cmp}
use Rattle.serde_json.specs.Data as json
use Rattle.serde_json.specs.Data.{Data, Members, put}
use Rattle.serde_json.specs.Find.{as_str}
use Rattle.icb_meta.specs.Forms.{properties_in, texts_of}
use Rattle.icb_edits.specs.Values.{in_order, put_text, texts_json, with_text}

abbrev Texts : Type 0
Texts = List (List ℕ × List ℕ)

some_same : {A : Type 0} (x y : A) → Some x ≡ Some y → x ≡ y
some_same x y e = ap (λ o. unwrap_or o x) e

put_at : (o : Ordering) (k t l te : List ℕ) (e : Data) (ms : Members) (rest : Texts) → as_str e ≡ Some te → texts_of ms ≡ Some rest
    → texts_of (put k (json.string t) ms) ≡ Some (with_text rest (k, t))
    → texts_of (match_ordering o (json.member k (json.string t) (json.member l e ms)) (json.member l (json.string t) ms) (json.member l e (put k (json.string t) ms)))
    ≡ Some (match_ordering o ((k, t) ∷ (l, te) ∷ rest) ((l, t) ∷ rest) ((l, te) ∷ with_text rest (k, t)))
put_at Less k t l te e ms rest is before later = rw (is, before) refl
put_at Equal k t l te e ms rest is before later = rw before refl
put_at Greater k t l te e ms rest is before later = rw (is, later) refl

put_by : (k t l : List ℕ) (e : Data) (ms : Members) (ts : Texts) (oe : Option (List ℕ)) (found : Option Texts) → as_str e ≡ oe → texts_of ms ≡ found
    → ((rest : Texts) → texts_of ms ≡ Some rest → texts_of (put k (json.string t) ms) ≡ Some (with_text rest (k, t)))
    → option_and_then (λ text. option_map (λ rest. (l, text) ∷ rest) found) oe ≡ Some ts
    → texts_of (put k (json.string t) (json.member l e ms)) ≡ Some (with_text ts (k, t))
put_by k t l e ms ts None found is before later h = cc
put_by k t l e ms ts (Some te) None is before later h = cc
put_by k t l e ms ts (Some te) (Some rest) is before later h =
    subst (λ x. texts_of (put k (json.string t) (json.member l e ms)) ≡ Some (with_text x (k, t))) (some_same ((l, te) ∷ rest) ts h)
    (put_at (slice_cmp nat_cmp k l) k t l te e ms rest is before (later rest before))

-- a text was put
pub text_put : (k t : List ℕ) (ms : Members) (ts : Texts) → texts_of ms ≡ Some ts → texts_of (put k (json.string t) ms) ≡ Some (with_text ts (k, t))
text_put k t json.no_members ts h = subst (λ x. texts_of (put k (json.string t) json.no_members) ≡ Some (with_text x (k, t))) (some_same [] ts h) refl
text_put k t (json.member l e ms) ts h =
    put_by k t l e ms ts (as_str e) (texts_of ms) refl refl (λ rest before. text_put k t ms rest before) h

-- texts were put
pub texts_put : (ps : Texts) (ms : Members) (ts : Texts) → texts_of ms ≡ Some ts → texts_of (fold put_text ms ps) ≡ Some (fold with_text ts ps)
texts_put [] ms ts h = h
texts_put (p ∷ ps) ms ts h = texts_put ps (put_text ms p) (with_text ts p) (text_put p.0 p.1 ms ts h)

-- an object of texts reads as them, in order
pub texts_read : (ps : Texts) → properties_in (texts_json ps) ≡ Some (in_order ps)
unfolding texts_json in_order
texts_read ps = texts_put ps json.no_members [] refl
