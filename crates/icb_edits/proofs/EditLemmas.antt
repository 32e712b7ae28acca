-- What stays of metadata where members are set.
use Rattle.std.proofs.Common.{◌≡◌, ◌≤◌, ◌+◌, ℕ, zero, suc, List, [], ◌∷◌, ◌++◌, drop, Bool, true, false, ◌||◌, Option, Some, None, MatchOption, option_and_then, unwrap_or, Ok, Ordering, Less, Equal, Greater, refl, ap, ◌∙◌, arith}
use Rattle.std.specs.Ordering.{match_ordering, nat_cmp}
use Rattle.std.specs.Cmp.Lexicographic.{slice_cmp}
use Rattle.serde_json.specs.Data as json
use Rattle.serde_json.specs.Data.{Data, Items, Members, items_depth}
use Rattle.serde_json.specs.Find.{as_object, get, get_member}
use Rattle.serde_json.specs.Written.{items_have_float}
use Rattle.icb_schema.specs.Reading.{as_list, list_of}
use Rattle.icb_meta.specs.Forms.{if_absent, properties_in, texts_of}
use Rattle.icb_meta.specs.Shown.{member, member_or, or_field}
use Rattle.icb_edits.specs.Sets.{Sets, set_all, value_after}
use Rattle.icb_edits.specs.Keys.{elements, last_of, members_in}
use Rattle.icb_edits.proofs.KnownLemmas.{ok_same}
use Rattle.icb_edits.proofs.PlainLemmas.{AllPlain, ArePlain, IsPlain}
use Rattle.icb_edits.proofs.SetLemmas.{get_after}

-- ---- members that stay

-- a name that isn't set keeps its value
pub kept : (k : List ℕ) (sets : Sets) (ms : Members) → value_after k sets (get_member k ms) ≡ get_member k ms → get k (json.object (set_all sets ms)) ≡ get k (json.object ms)
kept k sets ms h = get_after k sets ms ∙ h

pub member_same : {A : Type 0} (read : Data → Option A) (name : List ℕ) (d now : Data) (a : A) → get name now ≡ get name d → member read name d ≡ Ok a → member read name now ≡ Ok a
member_same read name d now a g h = ap (λ o. or_field name (option_and_then read o)) g ∙ h

pub member_or_same : {A : Type 0} (other : A) (read : Data → Option A) (name : List ℕ) (d now : Data) (a : A) → get name now ≡ get name d → member_or other read name d ≡ Ok a → member_or other read name now ≡ Ok a
member_or_same other read name d now a g h = ap (λ o. or_field name (if_absent other read o)) g ∙ h

-- ---- what a member held

pub or_some : {A : Type 0} (name : List ℕ) (o : Option A) (a : A) → or_field name o ≡ Ok a → o ≡ Some a
or_some name None a h = cc
or_some name (Some x) a h = ap Some (ok_same x a h)

-- a step that gave a value
pub then_some : {A B : Type 0} (f : A → Option B) (o : Option A) (b : B) → option_and_then f o ≡ Some b → (a : A) × (o ≡ Some a) × (f a ≡ Some b)
then_some f None b h = cc
then_some f (Some a) b h = (a, refl, h)

texts_at : (o : Option Members) (ps : List (List ℕ × List ℕ)) → option_and_then texts_of o ≡ Some ps → texts_of (unwrap_or o json.no_members) ≡ Some ps
texts_at None ps h = cc
texts_at (Some ms) ps h = h

texts_there : (o : Option Data) (name : List ℕ) (ps : List (List ℕ × List ℕ)) → or_field name (if_absent [] properties_in o) ≡ Ok ps
    → texts_of (unwrap_or (option_and_then as_object o) json.no_members) ≡ Some ps
texts_there None name ps h = ap Some (ok_same [] ps h)
texts_there (Some e) name ps h = texts_at (as_object e) ps (or_some name (properties_in e) ps h)

-- the texts of a member that shows texts
pub texts_held : (name : List ℕ) (d : Data) (ps : List (List ℕ × List ℕ)) → member_or [] properties_in name d ≡ Ok ps → texts_of (members_in name d) ≡ Some ps
texts_held name d ps h = texts_there (get name d) name ps h

-- ---- plain values

either_or : (a b : Bool) → (a || b) ≡ false → (a ≡ false) × (b ≡ false)
either_or true b h = cc
either_or false b h = (refl, h)

found_by : (o : Ordering) (n : ℕ) (e : Data) (rest : Option Data) → IsPlain n e → MatchOption rest (Unit {0}) (IsPlain n) → MatchOption (match_ordering o rest (Some e) rest) (Unit {0}) (IsPlain n)
found_by Less n e rest p q = q
found_by Equal n e rest p q = p
found_by Greater n e rest p q = q

found_plain : (n : ℕ) (k : List ℕ) (ms : Members) → ArePlain n ms → MatchOption (get_member k ms) (Unit {0}) (IsPlain n)
found_plain n k json.no_members q = tt
found_plain n k (json.member l e ms) q =
    let w = either_or _ _ q.whole in let few = q.levels in
    found_by (slice_cmp nat_cmp k l) n e (get_member k ms) (record { whole = w.0; levels = omega arith })
    (found_plain n k ms (record { whole = w.1; levels = omega arith }))

items_all : (n : ℕ) (ds : Items) → items_have_float ds ≡ false → items_depth ds ≤ n → AllPlain n (list_of ds)
items_all n json.no_items w few = tt
items_all n (json.item d ds) w few =
    let p = either_or _ _ w in
    (record { whole = p.0; levels = omega arith }, items_all n ds p.1 (omega arith))

array_all : (n : ℕ) (o : Option Data) → MatchOption o (Unit {0}) (IsPlain (n + 1)) → AllPlain n (unwrap_or (option_and_then as_list o) [])
array_all n None p = tt
array_all n (Some json.null) p = tt
array_all n (Some (json.boolean b)) p = tt
array_all n (Some (json.number x)) p = tt
array_all n (Some (json.string s)) p = tt
array_all n (Some (json.array ds)) p = let few = p.levels in items_all n ds p.whole (omega arith)
array_all n (Some (json.object ms)) p = tt

-- the elements of a member of plain members
pub elements_plain : (n : ℕ) (k : List ℕ) (ms : Members) → ArePlain (n + 1) ms → AllPlain n (elements k (json.object ms))
elements_plain n k ms q = array_all n (get_member k ms) (found_plain (n + 1) k ms q)

object_all : (n : ℕ) (o : Option Data) → MatchOption o (Unit {0}) (IsPlain (n + 1)) → ArePlain n (unwrap_or (option_and_then as_object o) json.no_members)
object_all n None p = record { whole = refl; levels = omega arith }
object_all n (Some json.null) p = record { whole = refl; levels = omega arith }
object_all n (Some (json.boolean b)) p = record { whole = refl; levels = omega arith }
object_all n (Some (json.number x)) p = record { whole = refl; levels = omega arith }
object_all n (Some (json.string s)) p = record { whole = refl; levels = omega arith }
object_all n (Some (json.array ds)) p = record { whole = refl; levels = omega arith }
object_all n (Some (json.object ms)) p = let few = p.levels in record { whole = p.whole; levels = omega arith }

-- the members of such a member
pub inner_plain : (n : ℕ) (k : List ℕ) (ms : Members) → ArePlain (n + 1) ms → ArePlain n (members_in k (json.object ms))
inner_plain n k ms q = object_all n (get_member k ms) (found_plain (n + 1) k ms q)

-- one more element
pub pushed_plain : (n : ℕ) (ds : List Data) (d : Data) → AllPlain n ds → IsPlain n d → AllPlain n (ds ++ d ∷ [])
pushed_plain n [] d p q = (q, tt)
pushed_plain n (e ∷ ds) d p q = (p.0, pushed_plain n ds d p.1 q)

dropped_plain : (n k : ℕ) (ds : List Data) → AllPlain n ds → AllPlain n (drop k ds)
dropped_plain n zero ds p = p
dropped_plain n (suc k) [] p = tt
dropped_plain n (suc k) (d ∷ ds) p = dropped_plain n k ds p.1

-- the last elements
pub last_plain : (n most : ℕ) (ds : List Data) → AllPlain n ds → AllPlain n (last_of most ds)
last_plain n most ds p = dropped_plain n _ ds p
