-- In a schema that is read, types of one name have one form: a reference is the type that it names.
use Rattle.std.specs.Prelude.{codes, option_map, flat_map}
use Rattle.std.specs.Str.{bytes_eq}
use Rattle.std.specs.Cmp.Lexicographic.{slice_cmp, nat_list_cmp_total}
use Rattle.std.specs.Ordering.{nat_cmp}
use Rattle.std.specs.FinMap as finite
use Rattle.std.proofs.Common.{◌≡◌, ℕ, zero, suc, ◌+◌, ◌<◌, List, [], ◌∷◌, ◌++◌, length, slice_index_or, Bool, true, false, cond, not, Option, Some, None, Result, Ok, is_some, ℤ, ◌⊎◌, inl, inr, refl, sym, ap, ◌∙◌, subst, arith, true≢false}
use Rattle.std.proofs.lemmas.Slice.Eq.{bytes_eq-Decides}
use Rattle.std.proofs.lemmas.Map.Text.{is_eq-slice_cmp}
use Rattle.serde_json.specs.Data as json
use Rattle.serde_json.specs.Data.{Data, Items, Members}
use Rattle.serde_json.specs.Find.{get, as_str}
use Rattle.icb_schema.specs.Tree as tree
use Rattle.icb_schema.specs.Tree.{Tree, Form, Fields, Trees, root_form}
use Rattle.icb_schema.specs.Nodes.{Part, fields_of, trees_of}
use Rattle.icb_schema.specs.Shape.{shape, takes_bytes}
use Rattle.icb_schema.specs.Names.{is_among, full_name}
use Rattle.icb_schema.specs.Reading.{Types, Scope, Seen, Reader, Head, Attributes, or_shape, each, name_of, form_name, with_type, list_of, size_of, needed, attributes_of, with_ids, with_attributes, bare, begun, own_namespace, is_new, new_name, symbols_of, heads_of, numbered, copied, named, primitive_named, schema_by, fixed_node, enum_node, inside, field_by, record_node, array_node, map_node, union_node, word_of, word_node, typed_node, object_node, node_at, outermost, nothing, schema_in}
use Rattle.icb_schema.specs.Rules.{with_own, types_of, HaveOneForm}
use Rattle.icb_schema.specs.declared.fault.SchemaFault.{SchemaFault}
use Rattle.icb_schema.specs.declared.words.Word.{Word}
use Rattle.icb_schema.specs.declared.words.Word.TheVariants as word
use Rattle.icb_schema.proofs.NameLemmas.{both_left, both_right, not_true, or_right}
use Rattle.icb_schema.proofs.TypeLemmas.{get_other}
use Rattle.icb_schema.proofs.FoldLemmas.{fields_types, trees_types}
use Rattle.icb_schema.proofs.Kept.{ok_is, no_err, bind_ok, if_ok, else_ok, shape_ok, some_is, no_some, then_some, only_some}

-- ---- types that are known

-- a type of this name and form is known
abbrev KnownAs : Types → List ℕ → Form → Type 0
KnownAs types name form = (u : Tree) × (finite.get types name ≡ Some u) × (form ≡ root_form u)

-- each of these is known
Agree : Types → List (List ℕ × Tree) → Type 0
Agree types [] = Unit {0}
Agree types (p ∷ ps) = KnownAs types p.0 (root_form p.1) × Agree types ps

-- what was known is known as it was
abbrev Follows : Types → Types → Type 0
Follows old new = (n : List ℕ) (t : Tree) → finite.get old n ≡ Some t → finite.get new n ≡ Some t

agree_later : (old new : Types) (ps : List (List ℕ × Tree)) → Follows old new → Agree old ps → Agree new ps
unfolding Agree
agree_later old new [] f a = tt
agree_later old new (p ∷ ps) f a = ((a.0.0, f p.0 a.0.0 a.0.1, a.0.2), agree_later old new ps f a.1)

agree_append : (types : Types) (ps qs : List (List ℕ × Tree)) → Agree types ps → Agree types qs → Agree types (ps ++ qs)
unfolding Agree
agree_append types [] qs a b = b
agree_append types (p ∷ ps) qs a b = (a.0, agree_append types ps qs a.1 b)

agree_front : (types : Types) (ps qs : List (List ℕ × Tree)) → Agree types (ps ++ qs) → Agree types ps
unfolding Agree
agree_front types [] qs a = tt
agree_front types (p ∷ ps) qs a = (a.0, agree_front types ps qs a.1)

agree_none : (types : Types) → Agree types []
unfolding Agree
agree_none types = tt

agree_one : (types : Types) (name : List ℕ) (t : Tree) → KnownAs types name (root_form t) → Agree types ((name, t) ∷ [])
unfolding Agree
agree_one types name t k = (k, tt)

agree_at : (types : Types) (ps : List (List ℕ × Tree)) (k : ℕ) (name : List ℕ) (t : Tree) → Agree types ps → k < length ps → slice_index_or ps k (name, t) ≡ (name, t) → KnownAs types name (root_form t)
unfolding Agree
agree_at types [] k name t a h e = absurd (let f : ⊥ = omega (arith, h) in f)
agree_at types (p ∷ ps) zero name t a h e = subst (λ q. KnownAs types q.0 (root_form q.1)) e a.0
agree_at types (p ∷ ps) (suc k) name t a h e = agree_at types ps k name t a.1 (omega (arith, h)) e

-- each type is known by its own name, and what is inside it is known
abbrev Good : Types → Type 0
Good types = (n : List ℕ) (t : Tree) → finite.get types n ≡ Some t → (name_of t ≡ Some n) × Agree types (types_of t)

-- ---- one more type

equal_names : (n : List ℕ) → bytes_eq n n ≡ true
equal_names n = (bytes_eq-Decides n n).1 refl

get_same : (types : Types) (name : List ℕ) (t : Tree) → finite.get (finite.insert types name t) name ≡ Some t
get_same types name t = finite.get-insert nat_list_cmp_total types name t name ∙ rw (is_eq-slice_cmp name name, equal_names name) refl

follows_insert : (types : Types) (name : List ℕ) (t : Tree) → finite.get types name ≡ None → Follows types (finite.insert types name t)
follows_insert types name t none n u e = get_other types name t n (λ same. no_some u (sym none ∙ ap (finite.get types) same ∙ e)) ∙ e

good_at : (b : Bool) (types new : Types) (name n : List ℕ) (t u : Tree) → bytes_eq n name ≡ b → Good types → Follows types new → name_of t ≡ Some name → Agree new (types_of t) → cond b (Some t) (finite.get types n) ≡ Some u
    → (name_of u ≡ Some n) × Agree new (types_of u)
good_at true types new name n t u b g f own a e =
    subst (λ x. (name_of x ≡ Some n) × Agree new (types_of x)) (some_is t u e) (own ∙ ap (λ m. Some m) (sym ((bytes_eq-Decides n name).0 b)), a)
good_at false types new name n t u b g f own a e = let k = g n u e in (k.0, agree_later types new (types_of u) f k.1)

good_insert : (types : Types) (name : List ℕ) (t : Tree) → Good types → finite.get types name ≡ None → name_of t ≡ Some name → Agree (finite.insert types name t) (types_of t) → Good (finite.insert types name t)
good_insert types name t g none own a n u e =
    good_at (bytes_eq n name) types (finite.insert types name t) name n t u refl g (follows_insert types name t none) own a
    (ap (λ b. cond b (Some t) (finite.get types n)) (sym (is_eq-slice_cmp n name)) ∙ sym (finite.get-insert nat_list_cmp_total types name t n) ∙ e)

-- ---- what a reading keeps

-- the types inside a form
abbrev types_in : Form → List (List ℕ × Tree)
types_in form = flat_map (λ ts. ts) (tree.of_form (λ form logical utc types. with_own (tree.node form logical utc) (form_name form) (flat_map (λ ts. ts) types)) form)

-- a node was read: its own name, where it has one, is known as it is, or new
record Named (scope : Scope) (seen : Seen) (form : Form) (after : Seen) : Type 0 where
  follows : Follows seen.types after.types
  outside : (n : List ℕ) → is_among n scope.enclosing ≡ true → finite.get after.types n ≡ finite.get seen.types n
  inner : Agree after.types (types_in form)
  own : (n : List ℕ) → form_name form ≡ Some n → KnownAs after.types n form ⊎ ((finite.get after.types n ≡ None) × (is_among n scope.enclosing ≡ false))
  good : Good after.types

-- nodes were read, and each type of theirs is known
record Known (scope : Scope) (seen : Seen) (ts : List (List ℕ × Tree)) (after : Seen) : Type 0 where
  follows : Follows seen.types after.types
  outside : (n : List ℕ) → is_among n scope.enclosing ≡ true → finite.get after.types n ≡ finite.get seen.types n
  types : Agree after.types ts
  good : Good after.types

abbrev ReadsNamed : Reader → Type 0
ReadsNamed read = (depth : ℕ) (scope : Scope) (d : Data) (seen : Seen) (t : Tree) (after : Seen) → Good seen.types → read depth scope d seen ≡ Ok (t, after) → Named scope seen (root_form t) after

abbrev ReadsKnown : Reader → Type 0
ReadsKnown child = (depth : ℕ) (scope : Scope) (d : Data) (seen : Seen) (t : Tree) (after : Seen) → Good seen.types → child depth scope d seen ≡ Ok (t, after) → Known scope seen (types_of t) after

moved : (scope : Scope) (seen done after : Seen) (s t : Tree) → ◌≡◌ {A = Result (Tree × Seen) SchemaFault} (Ok (s, done)) (Ok (t, after)) → Named scope seen (root_form s) done → Named scope seen (root_form t) after
moved scope seen done after s t e k = subst (λ p. Named scope seen (root_form p.0) p.1) (ok_is (s, done) (t, after) e) k

with_known : (types : Types) (name : List ℕ) (t u : Tree) → finite.get types name ≡ Some u → with_type t (Some name) types ≡ types
with_known types name t u e = rw e refl

with_new : (types : Types) (name : List ℕ) (t : Tree) → finite.get types name ≡ None → with_type t (Some name) types ≡ finite.insert types name t
with_new types name t e = rw e refl

differ : (m n : List ℕ) (ns : List (List ℕ)) → is_among n ns ≡ true → is_among m ns ≡ false → m ≡ n → ⊥
differ m n ns h k e = true≢false (sym h ∙ ap (λ x. is_among x ns) (sym e) ∙ k)

-- the types of a node whose name is this
abbrev own_types : Form → Option (List ℕ) → Option Bool → Option (List ℕ) → List (List ℕ × Tree)
own_types form l u o = with_own (tree.node form l u) o (types_in form)

remember_at : (scope : Scope) (seen after : Seen) (form : Form) (l : Option (List ℕ)) (u : Option Bool) (o : Option (List ℕ)) → form_name form ≡ o → Named scope seen form after
    → Known scope seen (own_types form l u o) (record { count = after.count; types = with_type (tree.node form l u) o after.types })
remember_at scope seen after form l u None e k = record { follows = k.follows; outside = k.outside; types = k.inner; good = k.good }
remember_at scope seen after form l u (Some name) e k = elim (k.own name e) [
  | inl known ↦
      let same = with_known after.types name (tree.node form l u) known.0 known.1 in
      subst (λ types. Known scope seen (types_in form ++ (name, tree.node form l u) ∷ []) (record { count = after.count; types = types })) (sym same) (record {
        follows = k.follows;
        outside = k.outside;
        types = agree_append after.types (types_in form) ((name, tree.node form l u) ∷ []) k.inner (agree_one after.types name (tree.node form l u) known);
        good = k.good;
      })
  | inr fresh ↦
      let t : Tree = tree.node form l u in
      let new : Types = finite.insert after.types name t in
      let f : Follows after.types new = follows_insert after.types name t fresh.0 in
      let a : Agree new (types_in form ++ (name, t) ∷ []) = agree_append new (types_in form) ((name, t) ∷ []) (agree_later after.types new (types_in form) f k.inner) (agree_one new name t (t, get_same after.types name t, refl)) in
      subst (λ types. Known scope seen (types_in form ++ (name, t) ∷ []) (record { count = after.count; types = types })) (sym (with_new after.types name t fresh.0)) (record {
        follows = λ n x h. f n x (k.follows n x h);
        outside = λ n h. get_other after.types name t n (differ name n scope.enclosing h fresh.1) ∙ k.outside n h;
        types = a;
        good = good_insert after.types name t k.good fresh.0 e (subst (λ o. Agree new (own_types form l u o)) (sym e) a);
      })
]

remember : (scope : Scope) (seen after : Seen) (t : Tree) → Named scope seen (root_form t) after → Known scope seen (types_of t) (record { count = after.count; types = with_type t (name_of t) after.types })
remember scope seen after (tree.node form l u) k = remember_at scope seen after form l u (form_name form) refl k

child_known : (read : Reader) → ReadsNamed read → ReadsKnown (schema_by read)
child_known read reads depth scope d seen t after g e =
    let few = if_ok _ _ _ (t, after) e in
    let shallow = if_ok _ _ _ (t, after) few.1 in
    let r = bind_ok (read depth scope d seen) _ (t, after) shallow.1 in
    let k = reads depth scope d seen r.0.0 r.0.1 g r.1 in
    subst (λ p. Known scope seen (types_of p.0) p.1) (ok_is _ (t, after) r.2) (remember scope seen r.0.1 r.0.0 k)

-- ---- nodes without nodes inside

none_is : {A : Type 0} (o : Option A) → is_some o ≡ false → o ≡ None
none_is None e = refl
none_is (Some a) e = absurd (true≢false e)

new_is : (scope : Scope) (seen : Seen) (o : Data) (name : List ℕ) → new_name scope seen o ≡ Some name → is_new scope seen name ≡ true
new_is scope seen o name e =
    let n = then_some _ (needed as_str (codes "name") o) name e in
    let s = then_some _ (own_namespace scope (get (codes "namespace") o)) name n.2 in
    only_some (is_new scope seen) (full_name s.0 n.0) name (is_new scope seen (full_name s.0 n.0)) refl s.2

-- a new name is of no enclosing type
new_outside : (scope : Scope) (seen : Seen) (name : List ℕ) → is_new scope seen name ≡ true → is_among name scope.enclosing ≡ false
new_outside scope seen name e = not_true (is_among name scope.enclosing) (both_left (not (is_among name scope.enclosing)) (not (finite.contains_key seen.types name)) e)

-- and of none that ended
new_none : (scope : Scope) (seen : Seen) (name : List ℕ) → is_new scope seen name ≡ true → finite.get seen.types name ≡ None
new_none scope seen name e = none_is (finite.get seen.types name) (not_true (finite.contains_key seen.types name) (both_right (not (is_among name scope.enclosing)) (not (finite.contains_key seen.types name)) e))

-- a type of a new name that has no types inside
leaf_named : (scope : Scope) (seen : Seen) (form : Form) (name : List ℕ) → Good seen.types → Agree seen.types (types_in form) → form_name form ≡ Some name → is_new scope seen name ≡ true → Named scope seen form (begun seen)
leaf_named scope seen form name g a is new = record {
  follows = λ n t e. e;
  outside = λ n h. refl;
  inner = a;
  own = λ n e. subst (λ m. KnownAs seen.types m form ⊎ ((finite.get seen.types m ≡ None) × (is_among m scope.enclosing ≡ false))) (some_is name n (sym is ∙ e)) (inr (new_none scope seen name new, new_outside scope seen name new));
  good = g;
}

fixed_named : (scope : Scope) (o : Data) (seen : Seen) (t : Tree) (after : Seen) → Good seen.types → fixed_node scope o seen ≡ Ok (t, after) → Named scope seen (root_form t) after
fixed_named scope o seen t after g e =
    let n = bind_ok (or_shape seen.count (new_name scope seen o)) _ (t, after) e in
    let s = bind_ok (or_shape seen.count (needed size_of (codes "size") o)) _ (t, after) n.2 in
    moved scope seen (begun seen) after (bare (tree.fixed n.0 s.0)) t s.2 (leaf_named scope seen (tree.fixed n.0 s.0) n.0 g (agree_none seen.types) refl (new_is scope seen o n.0 (shape_ok seen.count (new_name scope seen o) n.0 n.1)))

enum_named : (scope : Scope) (o : Data) (seen : Seen) (t : Tree) (after : Seen) → Good seen.types → enum_node scope o seen ≡ Ok (t, after) → Named scope seen (root_form t) after
enum_named scope o seen t after g e =
    let n = bind_ok (or_shape seen.count (new_name scope seen o)) _ (t, after) e in
    let s = bind_ok (or_shape seen.count (needed symbols_of (codes "symbols") o)) _ (t, after) n.2 in
    moved scope seen (begun seen) after (bare (tree.enumeration n.0 s.0)) t s.2
    (leaf_named scope seen (tree.enumeration n.0 s.0) n.0 g (agree_none seen.types) refl (new_is scope seen o n.0 (shape_ok seen.count (new_name scope seen o) n.0 n.1)))

-- ---- references

copied_inner : (types : Types) (t : Tree) (name : List ℕ) → name_of t ≡ Some name → Agree types (types_of t) → Agree types (types_in (root_form t))
copied_inner types (tree.node form l u) name e a = agree_front types (types_in form) ((name, tree.node form l u) ∷ []) (subst (λ o. Agree types (own_types form l u o)) e a)

copied_name : (t : Tree) (name n : List ℕ) → name_of t ≡ Some name → form_name (root_form t) ≡ Some n → name ≡ n
copied_name (tree.node form l u) name n e f = some_is name n (sym e ∙ f)

copied_named : (depth : ℕ) (scope : Scope) (name : List ℕ) (seen : Seen) (o : Option Tree) (t : Tree) (after : Seen) → Good seen.types → finite.get seen.types name ≡ o → copied depth o seen ≡ Ok (t, after) → Named scope seen (root_form t) after
copied_named depth scope name seen None t after g n e = absurd (no_err _ (t, after) e)
copied_named depth scope name seen (Some s) t after g n e =
    let r = bind_ok (numbered depth s seen.count) _ (t, after) e in
    let known = g name s n in
    moved scope seen (record { count = r.0; types = seen.types }) after s t r.2 (record {
      follows = λ m u h. h;
      outside = λ m h. refl;
      inner = copied_inner seen.types s name known.0 known.1;
      own = λ m h. inl (s, ap (finite.get seen.types) (sym (copied_name s name m known.0 h)) ∙ n, refl);
      good = g;
    })

text_named : (depth : ℕ) (scope : Scope) (name : List ℕ) (o : Option tree.Primitive) (seen : Seen) (t : Tree) (after : Seen) → Good seen.types → named depth scope name (option_map tree.primitive o) seen ≡ Ok (t, after)
    → Named scope seen (root_form t) after
text_named depth scope name (Some p) seen t after g e = moved scope seen (begun seen) after (bare (tree.primitive p)) t e
    (record { follows = λ n u h. h; outside = λ n h. refl; inner = agree_none seen.types; own = λ n h. absurd (no_some n h); good = g })
text_named depth scope name None seen t after g e =
    let r = else_ok (is_among (full_name scope.namespace name) scope.enclosing) _ _ (t, after) e in
    copied_named depth scope (full_name scope.namespace name) seen (finite.get seen.types (full_name scope.namespace name)) t after g refl r.1

-- ---- nodes with nodes inside

fields_known : (child : Reader) → ReadsKnown child → (hs : List Head) (depth : ℕ) (scope : Scope) (seen : Seen) (r : List Part × Seen) → Good seen.types → each (field_by child depth scope) hs seen ≡ Ok r
    → Known scope seen (fields_types (fields_of r.0)) r.1
fields_known child reads [] depth scope seen r g e =
    subst (λ p. Known scope seen (fields_types (fields_of p.0)) p.1) (ok_is ([], seen) r e) (record { follows = λ n t h. h; outside = λ n h. refl; types = agree_none seen.types; good = g })
fields_known child reads (h ∷ hs) depth scope seen r g e =
    let y = bind_ok (field_by child depth scope h seen) _ r e in
    let c = bind_ok (child depth scope h.type_data seen) _ y.0 y.1 in
    let is = ok_is ((h.name, h.id, c.0.0), c.0.1) y.0 c.2 in
    let k = reads depth scope h.type_data seen c.0.0 c.0.1 g c.1 in
    let more = bind_ok (each (field_by child depth scope) hs y.0.1) _ r y.2 in
    let q = fields_known child reads hs depth scope c.0.1 more.0 k.good (subst (λ s. each (field_by child depth scope) hs s ≡ Ok more.0) (sym (ap (λ x. x.1) is)) more.1) in
    let part : Part = (h.name, h.id, c.0.0) in
    let whole : Known scope seen (fields_types (fields_of (part ∷ more.0.0))) more.0.1 = record {
      follows = λ n t f. q.follows n t (k.follows n t f);
      outside = λ n f. q.outside n f ∙ k.outside n f;
      types = agree_append more.0.1.types (types_of c.0.0) (fields_types (fields_of more.0.0)) (agree_later c.0.1.types more.0.1.types (types_of c.0.0) q.follows k.types) q.types;
      good = q.good;
    } in
    subst (λ p. Known scope seen (fields_types (fields_of p.0)) p.1) (ap (λ p. (p ∷ more.0.0, more.0.1)) (ap (λ x. x.0) is) ∙ ok_is (y.0.0 ∷ more.0.0, more.0.1) r more.2) whole

first_among : (n : List ℕ) (ns : List (List ℕ)) → is_among n (n ∷ ns) ≡ true
first_among n ns = rw (equal_names n) refl

record_named : (child : Reader) → ReadsKnown child → (depth : ℕ) (scope : Scope) (o : Data) (seen : Seen) (t : Tree) (after : Seen) → Good seen.types → record_node child depth scope o seen ≡ Ok (t, after) → Named scope seen (root_form t) after
record_named child reads depth scope o seen t after g e =
    let n = bind_ok (or_shape seen.count (new_name scope seen o)) _ (t, after) e in
    let hs = bind_ok (or_shape seen.count (needed heads_of (codes "fields") o)) _ (t, after) n.2 in
    let ps = bind_ok (each (field_by child (depth + 1) (inside scope n.0)) hs.0 (begun seen)) _ (t, after) hs.2 in
    let new = new_is scope seen o n.0 (shape_ok seen.count (new_name scope seen o) n.0 n.1) in
    let k = fields_known child reads hs.0 (depth + 1) (inside scope n.0) (begun seen) ps.0 g ps.1 in
    let none = k.outside n.0 (first_among n.0 scope.enclosing) ∙ new_none scope seen n.0 new in
    moved scope seen ps.0.1 after (bare (tree.fields n.0 (fields_of ps.0.0))) t ps.2 (record {
      follows = k.follows;
      outside = λ m h. k.outside m (or_right (bytes_eq n.0 m) (is_among m scope.enclosing) h);
      inner = k.types;
      own = λ m h. subst (λ x. KnownAs ps.0.1.types x (tree.fields n.0 (fields_of ps.0.0)) ⊎ ((finite.get ps.0.1.types x ≡ None) × (is_among x scope.enclosing ≡ false))) (some_is n.0 m h) (inr (none, new_outside scope seen n.0 new));
      good = k.good;
    })

-- a form without a name of its own
unnamed : (scope : Scope) (seen : Seen) (form : Form) (after : Seen) → form_name form ≡ None → Known scope (begun seen) (types_in form) after → Named scope seen form after
unnamed scope seen form after none k =
    record { follows = k.follows; outside = k.outside; inner = k.types; own = λ n h. absurd (no_some n (sym none ∙ h)); good = k.good }

one_inside : (scope : Scope) (seen after : Seen) (ts : List (List ℕ × Tree)) → Known scope seen ts after → Known scope seen (ts ++ []) after
one_inside scope seen after ts k = record { follows = k.follows; outside = k.outside; types = agree_append after.types ts [] k.types (agree_none after.types); good = k.good }

array_named : (child : Reader) → ReadsKnown child → (depth : ℕ) (scope : Scope) (o : Data) (seen : Seen) (t : Tree) (after : Seen) → Good seen.types → array_node child depth scope o seen ≡ Ok (t, after) → Named scope seen (root_form t) after
array_named child reads depth scope o seen t after g e =
    let d = bind_ok (or_shape seen.count (get (codes "items") o)) _ (t, after) e in
    let c = bind_ok (child (depth + 1) scope d.0 (begun seen)) _ (t, after) d.2 in
    let b = if_ok (takes_bytes (shape c.0.0)) _ _ (t, after) c.2 in
    moved scope seen c.0.1 after (bare (tree.array c.0.0 None)) t b.1
    (unnamed scope seen (tree.array c.0.0 None) c.0.1 refl (one_inside scope (begun seen) c.0.1 (types_of c.0.0) (reads (depth + 1) scope d.0 (begun seen) c.0.0 c.0.1 g c.1)))

map_named : (child : Reader) → ReadsKnown child → (depth : ℕ) (scope : Scope) (o : Data) (seen : Seen) (t : Tree) (after : Seen) → Good seen.types → map_node child depth scope o seen ≡ Ok (t, after) → Named scope seen (root_form t) after
map_named child reads depth scope o seen t after g e =
    let d = bind_ok (or_shape seen.count (get (codes "values") o)) _ (t, after) e in
    let c = bind_ok (child (depth + 1) scope d.0 (begun seen)) _ (t, after) d.2 in
    moved scope seen c.0.1 after (bare (tree.map c.0.0 None None)) t c.2
    (unnamed scope seen (tree.map c.0.0 None None) c.0.1 refl (one_inside scope (begun seen) c.0.1 (types_of c.0.0) (reads (depth + 1) scope d.0 (begun seen) c.0.0 c.0.1 g c.1)))

trees_known : (child : Reader) → ReadsKnown child → (ds : List Data) (depth : ℕ) (scope : Scope) (seen : Seen) (r : List Tree × Seen) → Good seen.types → each (child depth scope) ds seen ≡ Ok r → Known scope seen (trees_types (trees_of r.0)) r.1
trees_known child reads [] depth scope seen r g e =
    subst (λ p. Known scope seen (trees_types (trees_of p.0)) p.1) (ok_is ([], seen) r e) (record { follows = λ n t h. h; outside = λ n h. refl; types = agree_none seen.types; good = g })
trees_known child reads (d ∷ ds) depth scope seen r g e =
    let c = bind_ok (child depth scope d seen) _ r e in
    let k = reads depth scope d seen c.0.0 c.0.1 g c.1 in
    let more = bind_ok (each (child depth scope) ds c.0.1) _ r c.2 in
    let q = trees_known child reads ds depth scope c.0.1 more.0 k.good more.1 in
    subst (λ p. Known scope seen (trees_types (trees_of p.0)) p.1) (ok_is (c.0.0 ∷ more.0.0, more.0.1) r more.2) (record {
      follows = λ n t f. q.follows n t (k.follows n t f);
      outside = λ n f. q.outside n f ∙ k.outside n f;
      types = agree_append more.0.1.types (types_of c.0.0) (trees_types (trees_of more.0.0)) (agree_later c.0.1.types more.0.1.types (types_of c.0.0) q.follows k.types) q.types;
      good = q.good;
    })

union_named : (child : Reader) (j : ℕ) → ReadsKnown child → (depth : ℕ) (scope : Scope) (ds : List Data) (seen : Seen) (t : Tree) (after : Seen) → Good seen.types → union_node child j depth scope ds seen ≡ Ok (t, after)
    → Named scope seen (root_form t) after
union_named child j reads depth scope ds seen t after g e =
    let b = else_ok _ _ _ (t, after) e in
    let r = bind_ok (each (child (depth + 1) scope) ds (begun seen)) _ (t, after) b.1 in
    moved scope seen r.0.1 after (bare (tree.union (trees_of r.0.0))) t r.2
    (unnamed scope seen (tree.union (trees_of r.0.0)) r.0.1 refl (trees_known child reads ds (depth + 1) scope (begun seen) r.0 g r.1))

-- ---- objects, and any node

ids_named : (scope : Scope) (seen after : Seen) (e k v : Option ℤ) (form : Form) → Named scope seen form after → Named scope seen (with_ids e k v form) after
ids_named scope seen after e k v (tree.primitive p) n = n
ids_named scope seen after e k v (tree.fixed name size) n = n
ids_named scope seen after e k v (tree.enumeration name symbols) n = n
ids_named scope seen after e k v (tree.fields name fs) n = n
ids_named scope seen after e k v (tree.array items element) n = record { follows = n.follows; outside = n.outside; inner = n.inner; own = λ m h. absurd (no_some m h); good = n.good }
ids_named scope seen after e k v (tree.map values key value) n = record { follows = n.follows; outside = n.outside; inner = n.inner; own = λ m h. absurd (no_some m h); good = n.good }
ids_named scope seen after e k v (tree.union ts) n = n

attributes_named : (scope : Scope) (seen after : Seen) (a : Attributes) (t : Tree) → Named scope seen (root_form t) after → Named scope seen (root_form (with_attributes a t)) after
attributes_named scope seen after a (tree.node form l u) k = ids_named scope seen after a.element a.key a.value form k

word_named : (read : Reader) → ReadsNamed read → (depth : ℕ) (scope : Scope) (o : Data) (name : List ℕ) (w : Option Word) (seen : Seen) (t : Tree) (after : Seen) → Good seen.types
    → word_node (schema_by read) depth scope o name w seen ≡ Ok (t, after) → Named scope seen (root_form t) after
word_named read reads depth scope o name None seen t after g e = text_named depth scope name (primitive_named name) seen t after g e
word_named read reads depth scope o name (Some word.Fixed) seen t after g e = fixed_named scope o seen t after g e
word_named read reads depth scope o name (Some word.Enum) seen t after g e = enum_named scope o seen t after g e
word_named read reads depth scope o name (Some word.Record) seen t after g e = record_named (schema_by read) (child_known read reads) depth scope o seen t after g e
word_named read reads depth scope o name (Some word.Array) seen t after g e = array_named (schema_by read) (child_known read reads) depth scope o seen t after g e
word_named read reads depth scope o name (Some word.Map) seen t after g e = map_named (schema_by read) (child_known read reads) depth scope o seen t after g e

typed_named : (read : Reader) → ReadsNamed read → (depth : ℕ) (scope : Scope) (o : Data) (x : Option Data) (seen : Seen) (t : Tree) (after : Seen) → Good seen.types → typed_node read depth scope o x seen ≡ Ok (t, after)
    → Named scope seen (root_form t) after
typed_named read reads depth scope o None seen t after g e = absurd (no_err _ (t, after) e)
typed_named read reads depth scope o (Some (json.string name)) seen t after g e = word_named read reads depth scope o name (word_of name) seen t after g e
typed_named read reads depth scope o (Some json.null) seen t after g e = reads depth scope json.null seen t after g e
typed_named read reads depth scope o (Some (json.boolean b)) seen t after g e = reads depth scope (json.boolean b) seen t after g e
typed_named read reads depth scope o (Some (json.number n)) seen t after g e = reads depth scope (json.number n) seen t after g e
typed_named read reads depth scope o (Some (json.array ds)) seen t after g e = reads depth scope (json.array ds) seen t after g e
typed_named read reads depth scope o (Some (json.object ms)) seen t after g e = reads depth scope (json.object ms) seen t after g e

object_named : (read : Reader) → ReadsNamed read → (depth : ℕ) (scope : Scope) (o : Data) (seen : Seen) (t : Tree) (after : Seen) → Good seen.types → object_node read depth scope o seen ≡ Ok (t, after) → Named scope seen (root_form t) after
object_named read reads depth scope o seen t after g e =
    let a = bind_ok (attributes_of seen.count o) _ (t, after) e in
    let r = bind_ok (typed_node read depth scope o (get (codes "type") o) seen) _ (t, after) a.2 in
    moved scope seen r.0.1 after (with_attributes a.0 r.0.0) t r.2 (attributes_named scope seen r.0.1 a.0 r.0.0 (typed_named read reads depth scope o (get (codes "type") o) seen r.0.0 r.0.1 g r.1))

node_named : (n : ℕ) → ReadsNamed (node_at n)
unfolding node_at
node_named zero depth scope d seen t after g e = absurd (no_err _ (t, after) e)
node_named (suc n) depth scope (json.string name) seen t after g e = text_named depth scope name (primitive_named name) seen t after g e
node_named (suc n) depth scope (json.array ds) seen t after g e = union_named (schema_by (node_at n)) n (child_known (node_at n) (node_named n)) depth scope (list_of ds) seen t after g e
node_named (suc n) depth scope (json.object ms) seen t after g e = object_named (node_at n) (node_named n) depth scope (json.object ms) seen t after g e
node_named (suc n) depth scope json.null seen t after g e = absurd (no_err _ (t, after) e)
node_named (suc n) depth scope (json.boolean b) seen t after g e = absurd (no_err _ (t, after) e)
node_named (suc n) depth scope (json.number b) seen t after g e = absurd (no_err _ (t, after) e)

good_nothing : Good nothing.types
good_nothing n t e = absurd (no_some t (sym (finite.get-empty (slice_cmp nat_cmp) n) ∙ e))

-- types of one name that are known have one form
one_form : (types : Types) (ps : List (List ℕ × Tree)) → Agree types ps → HaveOneForm ps
one_form types ps k name a b x y =
    let p = agree_at types ps x.0 name a k x.1 x.2 in
    let q = agree_at types ps y.0 name b k y.1 y.2 in
    p.2 ∙ ap root_form (some_is p.0 q.0 (sym p.1 ∙ q.1)) ∙ sym q.2

-- in what was read, types of one name have one form
pub types_agree : (d : Data) (t : Tree) → schema_in d ≡ Ok t → HaveOneForm (types_of t)
unfolding schema_in
types_agree d t e =
    let r = bind_ok (schema_by (node_at 128) 1 outermost d nothing) _ t e in
    let k = child_known (node_at 128) (node_named 128) 1 outermost d nothing r.0.0 r.0.1 good_nothing r.1 in
    subst (λ x. HaveOneForm (types_of x)) (ok_is r.0.0 t r.2) (one_form r.0.1.types (types_of r.0.0) k.types)

-- what a reading ends with knows each type by its own name
pub types_known : (d : Data) (t : Tree) (after : Seen) → schema_by (node_at 128) 1 outermost d nothing ≡ Ok (t, after)
    → (name : List ℕ) (known : Tree) → finite.get after.types name ≡ Some known → name_of known ≡ Some name
types_known d t after e name known h =
    ((child_known (node_at 128) (node_named 128) 1 outermost d nothing t after good_nothing e).good name known h).0
