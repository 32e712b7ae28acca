-- The JSON of a schema is read as the schema: object by object.
use Rattle.std.specs.Prelude.{codes, option_map, if◌then◌else◌}
use Rattle.std.proofs.Common.{◌≡◌, ℕ, zero, suc, ◌+◌, ◌^◌, ◌≤◌, ◌==◌, nat_lt, nat_le, List, [], ◌∷◌, length, Bool, true, false, not, ◌&&◌, ◌||◌, Option, Some, None, Ok, ℤ, pos, negsuc, refl, arith, true≢false, slice_index}
use Rattle.std.specs.List.{list_any}
use Rattle.std.proofs.lemmas.Bool.{lt-ltb, ltb-true}
use Rattle.serde_json.specs.Data as json
use Rattle.serde_json.specs.Data.{Data, Items, Members}
use Rattle.serde_json.specs.Find.{get}
use Rattle.icb_schema.specs.Tree as tree
use Rattle.icb_schema.specs.Tree.{Primitive, Tree, Form, Fields, Trees}
use Rattle.icb_schema.specs.Nodes.{Part, fields_of}
use Rattle.icb_schema.specs.Shape.{shape, takes_bytes}
use Rattle.icb_schema.specs.Names.{has_dot, before_dot, namespace_of, full_name}
use Rattle.icb_schema.specs.Reading.{Scope, Seen, Reader, Head, Attributes, Reading, each, list_of, fits_32, id_of, size_of, needed, attributes_of, with_ids, with_attributes, bare, begun, is_new, new_name, symbols_of, heads_of, primitive_form, schema_by, fixed_node, enum_node, inside, field_by, record_node, array_node, map_node, union_node, word_of, word_node, object_node, node_at, max_size}
use Rattle.icb_schema.specs.Printing.{with_member, attributed, of_type, plain, id_json}

-- ---- ids, names and namespaces

fits_64 : (n : ℕ) → nat_lt n (2 ^ 31) ≡ true → nat_lt n (2 ^ 63) ≡ true
fits_64 n h = lt-ltb n (2 ^ 63) (omega (arith, ltb-true n (2 ^ 31) h))

-- an id that fits is read again
pub id_again : (z : ℤ) → fits_32 z ≡ true → id_of (id_json z) ≡ Some z
id_again (pos n) h = rw (fits_64 n h, h) refl
id_again (negsuc n) h = rw h refl

or_left : (a b : Bool) → (a || b) ≡ false → a ≡ false
or_left true b e = absurd (true≢false e)
or_left false b e = refl

or_rest : (a b : Bool) → (a || b) ≡ false → b ≡ false
or_rest true b e = absurd (true≢false e)
or_rest false b e = e

no_dot_at : (name : List ℕ) (n : ℕ) → list_any (λ c. c == 46) name ≡ false → (slice_index name n == 46) ≡ false
no_dot_at [] n h = refl
no_dot_at (c ∷ name) zero h = or_left (c == 46) (list_any (λ c. c == 46) name) h
no_dot_at (c ∷ name) (suc n) h = no_dot_at name n (or_rest (c == 46) (list_any (λ c. c == 46) name) h)

no_namespace : (n : ℕ) (name : List ℕ) → has_dot name ≡ false → before_dot n name ≡ []
no_namespace zero name h = refl
no_namespace (suc n) name h = rw (no_dot_at name n h) (no_namespace n name h)

-- a full name without a dot has the empty namespace
pub namespace_none : (name : List ℕ) → has_dot name ≡ false → namespace_of name ≡ []
unfolding namespace_of
namespace_none name h = no_namespace (length name) name h

own_at : (dotted h : Bool) (namespace name : List ℕ) → has_dot name ≡ h → (dotted ≡ false → namespace ≡ []) → full_name (if dotted && not h then [] else namespace) name ≡ name
unfolding full_name
own_at dotted true namespace name e k = rw e refl
own_at true false namespace name e k = rw e refl
own_at false false namespace name e k = rw (e, k refl) refl

-- a printed full name is read as itself
pub own_name : (dotted : Bool) (namespace name : List ℕ) → (dotted ≡ false → namespace ≡ []) → full_name (if dotted && not (has_dot name) then [] else namespace) name ≡ name
own_name dotted namespace name k = own_at dotted (has_dot name) namespace name refl k

-- ---- objects

-- the attributes that an object shows
abbrev pub shows : Option (List ℕ) → Option Bool → Option ℤ → Option ℤ → Option ℤ → Attributes
shows l u e k v = record { logical = l; utc = u; element = e; key = k; value = v }

abbrev pub namespace_json : Bool → Option Data
namespace_json b = if b then Some (json.string []) else None

abbrev pub fixed_object : Bool → List ℕ → ℕ → Option (List ℕ) → Option Bool → Data
fixed_object b name size l u = json.object (attributed l u (with_member (codes "name") (Some (json.string name)) (with_member (codes "namespace") (namespace_json b)
    (with_member (codes "size") (Some (json.number (json.unsigned size))) (of_type (json.string (codes "fixed")))))))

abbrev pub enum_object : Bool → List ℕ → Items → Option (List ℕ) → Option Bool → Data
enum_object b name symbols l u = json.object (attributed l u (with_member (codes "name") (Some (json.string name)) (with_member (codes "namespace") (namespace_json b)
    (with_member (codes "symbols") (Some (json.array symbols)) (of_type (json.string (codes "enum")))))))

abbrev pub record_object : Bool → List ℕ → Items → Option (List ℕ) → Option Bool → Data
record_object b name fs l u = json.object (attributed l u (with_member (codes "fields") (Some (json.array fs)) (with_member (codes "name") (Some (json.string name))
    (with_member (codes "namespace") (namespace_json b) (of_type (json.string (codes "record")))))))

abbrev pub array_object : Data → Option ℤ → Option (List ℕ) → Option Bool → Data
array_object d e l u = json.object (attributed l u (with_member (codes "element-id") (option_map id_json e) (with_member (codes "items") (Some d) (of_type (json.string (codes "array"))))))

abbrev pub map_object : Data → Option ℤ → Option ℤ → Option (List ℕ) → Option Bool → Data
map_object d k v l u = json.object (attributed l u (with_member (codes "key-id") (option_map id_json k) (with_member (codes "value-id") (option_map id_json v)
    (with_member (codes "values") (Some d) (of_type (json.string (codes "map")))))))

abbrev pub OwnName : Scope → Seen → Bool → List ℕ → Type 0
OwnName scope seen b name = (full_name (if b then [] else scope.namespace) name ≡ name) × (is_new scope seen name ≡ true)

-- ---- what `type` an object has

pub fixed_type : (b : Bool) (name : List ℕ) (size : ℕ) (l : Option (List ℕ)) (u : Option Bool) → get (codes "type") (fixed_object b name size l u) ≡ Some (json.string (codes "fixed"))
fixed_type true name size None None = refl
fixed_type true name size (Some l) None = refl
fixed_type true name size None (Some u) = refl
fixed_type true name size (Some l) (Some u) = refl
fixed_type false name size None None = refl
fixed_type false name size (Some l) None = refl
fixed_type false name size None (Some u) = refl
fixed_type false name size (Some l) (Some u) = refl

pub enum_type : (b : Bool) (name : List ℕ) (symbols : Items) (l : Option (List ℕ)) (u : Option Bool) → get (codes "type") (enum_object b name symbols l u) ≡ Some (json.string (codes "enum"))
enum_type true name symbols None None = refl
enum_type true name symbols (Some l) None = refl
enum_type true name symbols None (Some u) = refl
enum_type true name symbols (Some l) (Some u) = refl
enum_type false name symbols None None = refl
enum_type false name symbols (Some l) None = refl
enum_type false name symbols None (Some u) = refl
enum_type false name symbols (Some l) (Some u) = refl

pub record_type : (b : Bool) (name : List ℕ) (fs : Items) (l : Option (List ℕ)) (u : Option Bool) → get (codes "type") (record_object b name fs l u) ≡ Some (json.string (codes "record"))
record_type true name fs None None = refl
record_type true name fs (Some l) None = refl
record_type true name fs None (Some u) = refl
record_type true name fs (Some l) (Some u) = refl
record_type false name fs None None = refl
record_type false name fs (Some l) None = refl
record_type false name fs None (Some u) = refl
record_type false name fs (Some l) (Some u) = refl

pub array_type : (d : Data) (e : Option ℤ) (l : Option (List ℕ)) (u : Option Bool) → get (codes "type") (array_object d e l u) ≡ Some (json.string (codes "array"))
array_type d None None None = refl
array_type d None (Some l) None = refl
array_type d None None (Some u) = refl
array_type d None (Some l) (Some u) = refl
array_type d (Some z) None None = refl
array_type d (Some z) (Some l) None = refl
array_type d (Some z) None (Some u) = refl
array_type d (Some z) (Some l) (Some u) = refl

pub map_type : (d : Data) (k v : Option ℤ) (l : Option (List ℕ)) (u : Option Bool) → get (codes "type") (map_object d k v l u) ≡ Some (json.string (codes "map"))
map_type d None None None None = refl
map_type d None None (Some l) None = refl
map_type d None None None (Some u) = refl
map_type d None None (Some l) (Some u) = refl
map_type d None (Some z) None None = refl
map_type d None (Some z) (Some l) None = refl
map_type d None (Some z) None (Some u) = refl
map_type d None (Some z) (Some l) (Some u) = refl
map_type d (Some y) None None None = refl
map_type d (Some y) None (Some l) None = refl
map_type d (Some y) None None (Some u) = refl
map_type d (Some y) None (Some l) (Some u) = refl
map_type d (Some y) (Some z) None None = refl
map_type d (Some y) (Some z) (Some l) None = refl
map_type d (Some y) (Some z) None (Some u) = refl
map_type d (Some y) (Some z) (Some l) (Some u) = refl

pub fixed_shows : (n : ℕ) (scope : Scope) (seen : Seen) (b : Bool) (name : List ℕ) (size : ℕ) (l : Option (List ℕ)) (u : Option Bool) → OwnName scope seen b name → nat_le size max_size ≡ true
    → (attributes_of n (fixed_object b name size l u) ≡ Ok (shows l u None None None))
    × (new_name scope seen (fixed_object b name size l u) ≡ Some name) × (needed size_of (codes "size") (fixed_object b name size l u) ≡ Some size)
fixed_shows n scope seen true name size None None own fits = (refl, rw (own.0, own.1) refl, rw fits refl)
fixed_shows n scope seen true name size (Some l) None own fits = (refl, rw (own.0, own.1) refl, rw fits refl)
fixed_shows n scope seen true name size None (Some u) own fits = (refl, rw (own.0, own.1) refl, rw fits refl)
fixed_shows n scope seen true name size (Some l) (Some u) own fits = (refl, rw (own.0, own.1) refl, rw fits refl)
fixed_shows n scope seen false name size None None own fits = (refl, rw (own.0, own.1) refl, rw fits refl)
fixed_shows n scope seen false name size (Some l) None own fits = (refl, rw (own.0, own.1) refl, rw fits refl)
fixed_shows n scope seen false name size None (Some u) own fits = (refl, rw (own.0, own.1) refl, rw fits refl)
fixed_shows n scope seen false name size (Some l) (Some u) own fits = (refl, rw (own.0, own.1) refl, rw fits refl)

pub enum_shows : (n : ℕ) (scope : Scope) (seen : Seen) (b : Bool) (name : List ℕ) (symbols : Items) (l : Option (List ℕ)) (u : Option Bool) → OwnName scope seen b name
    → (attributes_of n (enum_object b name symbols l u) ≡ Ok (shows l u None None None))
    × (new_name scope seen (enum_object b name symbols l u) ≡ Some name) × (needed symbols_of (codes "symbols") (enum_object b name symbols l u) ≡ symbols_of (json.array symbols))
enum_shows n scope seen true name symbols None None own = (refl, rw (own.0, own.1) refl, refl)
enum_shows n scope seen true name symbols (Some l) None own = (refl, rw (own.0, own.1) refl, refl)
enum_shows n scope seen true name symbols None (Some u) own = (refl, rw (own.0, own.1) refl, refl)
enum_shows n scope seen true name symbols (Some l) (Some u) own = (refl, rw (own.0, own.1) refl, refl)
enum_shows n scope seen false name symbols None None own = (refl, rw (own.0, own.1) refl, refl)
enum_shows n scope seen false name symbols (Some l) None own = (refl, rw (own.0, own.1) refl, refl)
enum_shows n scope seen false name symbols None (Some u) own = (refl, rw (own.0, own.1) refl, refl)
enum_shows n scope seen false name symbols (Some l) (Some u) own = (refl, rw (own.0, own.1) refl, refl)

pub record_shows : (n : ℕ) (scope : Scope) (seen : Seen) (b : Bool) (name : List ℕ) (fs : Items) (l : Option (List ℕ)) (u : Option Bool) → OwnName scope seen b name
    → (attributes_of n (record_object b name fs l u) ≡ Ok (shows l u None None None))
    × (new_name scope seen (record_object b name fs l u) ≡ Some name) × (needed heads_of (codes "fields") (record_object b name fs l u) ≡ heads_of (json.array fs))
record_shows n scope seen true name fs None None own = (refl, rw (own.0, own.1) refl, refl)
record_shows n scope seen true name fs (Some l) None own = (refl, rw (own.0, own.1) refl, refl)
record_shows n scope seen true name fs None (Some u) own = (refl, rw (own.0, own.1) refl, refl)
record_shows n scope seen true name fs (Some l) (Some u) own = (refl, rw (own.0, own.1) refl, refl)
record_shows n scope seen false name fs None None own = (refl, rw (own.0, own.1) refl, refl)
record_shows n scope seen false name fs (Some l) None own = (refl, rw (own.0, own.1) refl, refl)
record_shows n scope seen false name fs None (Some u) own = (refl, rw (own.0, own.1) refl, refl)
record_shows n scope seen false name fs (Some l) (Some u) own = (refl, rw (own.0, own.1) refl, refl)

-- an id that is there fits
abbrev pub Fits : Option ℤ → Type 0
Fits None = Unit {0}
Fits (Some z) = fits_32 z ≡ true

pub array_shows : (n : ℕ) (d : Data) (e : Option ℤ) (l : Option (List ℕ)) (u : Option Bool) → Fits e
    → (attributes_of n (array_object d e l u) ≡ Ok (shows l u e None None))
    × (get (codes "items") (array_object d e l u) ≡ Some d)
array_shows n d None None None fits = (refl, refl)
array_shows n d None (Some l) None fits = (refl, refl)
array_shows n d None None (Some u) fits = (refl, refl)
array_shows n d None (Some l) (Some u) fits = (refl, refl)
array_shows n d (Some z) None None fits = (rw (id_again z fits) refl, refl)
array_shows n d (Some z) (Some l) None fits = (rw (id_again z fits) refl, refl)
array_shows n d (Some z) None (Some u) fits = (rw (id_again z fits) refl, refl)
array_shows n d (Some z) (Some l) (Some u) fits = (rw (id_again z fits) refl, refl)

pub map_shows : (n : ℕ) (d : Data) (k v : Option ℤ) (l : Option (List ℕ)) (u : Option Bool) → Fits k → Fits v
    → (attributes_of n (map_object d k v l u) ≡ Ok (shows l u None k v))
    × (get (codes "values") (map_object d k v l u) ≡ Some d)
map_shows n d None None None None fk fv = (refl, refl)
map_shows n d None None (Some l) None fk fv = (refl, refl)
map_shows n d None None None (Some u) fk fv = (refl, refl)
map_shows n d None None (Some l) (Some u) fk fv = (refl, refl)
map_shows n d None (Some z) None None fk fv = (rw (id_again z fv) refl, refl)
map_shows n d None (Some z) (Some l) None fk fv = (rw (id_again z fv) refl, refl)
map_shows n d None (Some z) None (Some u) fk fv = (rw (id_again z fv) refl, refl)
map_shows n d None (Some z) (Some l) (Some u) fk fv = (rw (id_again z fv) refl, refl)
map_shows n d (Some y) None None None fk fv = (rw (id_again y fk) refl, refl)
map_shows n d (Some y) None (Some l) None fk fv = (rw (id_again y fk) refl, refl)
map_shows n d (Some y) None None (Some u) fk fv = (rw (id_again y fk) refl, refl)
map_shows n d (Some y) None (Some l) (Some u) fk fv = (rw (id_again y fk) refl, refl)
map_shows n d (Some y) (Some z) None None fk fv = (rw (id_again y fk, id_again z fv) refl, refl)
map_shows n d (Some y) (Some z) (Some l) None fk fv = (rw (id_again y fk, id_again z fv) refl, refl)
map_shows n d (Some y) (Some z) None (Some u) fk fv = (rw (id_again y fk, id_again z fv) refl, refl)
map_shows n d (Some y) (Some z) (Some l) (Some u) fk fv = (rw (id_again y fk, id_again z fv) refl, refl)

-- an object whose `type` is a word is read by that word
pub object_again : (read : Reader) (depth : ℕ) (scope : Scope) (o : Data) (seen after : Seen) (a : Attributes) (w : List ℕ) (t : Tree) → attributes_of seen.count o ≡ Ok a → get (codes "type") o ≡ Some (json.string w)
    → word_node (schema_by read) depth scope o w (word_of w) seen ≡ Ok (t, after) → object_node read depth scope o seen ≡ Ok (with_attributes a t, after)
object_again read depth scope o seen after a w t ea et ew = rw (ea, et, ew) refl

pub fixed_again : (scope : Scope) (seen : Seen) (o : Data) (name : List ℕ) (size : ℕ) → new_name scope seen o ≡ Some name → needed size_of (codes "size") o ≡ Some size
    → fixed_node scope o seen ≡ Ok (bare (tree.fixed name size), begun seen)
fixed_again scope seen o name size en es = rw (en, es) refl

pub enum_again : (scope : Scope) (seen : Seen) (o : Data) (name : List ℕ) (symbols : List (List ℕ)) → new_name scope seen o ≡ Some name → needed symbols_of (codes "symbols") o ≡ Some symbols
    → enum_node scope o seen ≡ Ok (bare (tree.enumeration name symbols), begun seen)
enum_again scope seen o name symbols en es = rw (en, es) refl

pub record_again : (child : Reader) (depth : ℕ) (scope : Scope) (seen after : Seen) (o : Data) (name : List ℕ) (heads : List Head) (parts : List Part) → new_name scope seen o ≡ Some name → needed heads_of (codes "fields") o ≡ Some heads
    → each (field_by child (depth + 1) (inside scope name)) heads (begun seen) ≡ Ok (parts, after) → record_node child depth scope o seen ≡ Ok (bare (tree.fields name (fields_of parts)), after)
record_again child depth scope seen after o name heads parts en eh ef = rw (en, eh, ef) refl

pub array_again : (child : Reader) (depth : ℕ) (scope : Scope) (seen after : Seen) (o d : Data) (t : Tree) → get (codes "items") o ≡ Some d → child (depth + 1) scope d (begun seen) ≡ Ok (t, after) → takes_bytes (shape t) ≡ true
    → array_node child depth scope o seen ≡ Ok (bare (tree.array t None), after)
array_again child depth scope seen after o d t eg ec eb = rw (eg, ec, eb) refl

pub map_again : (child : Reader) (depth : ℕ) (scope : Scope) (seen after : Seen) (o d : Data) (t : Tree) → get (codes "values") o ≡ Some d → child (depth + 1) scope d (begun seen) ≡ Ok (t, after)
    → map_node child depth scope o seen ≡ Ok (bare (tree.map t None None), after)
map_again child depth scope seen after o d t eg ec = rw (eg, ec) refl

pub each_again : {A B : Type 0} (read : A → Seen → Reading B) (x : A) (xs : List A) (y : B) (ys : List B) (seen middle after : Seen) → read x seen ≡ Ok (y, middle) → each read xs middle ≡ Ok (ys, after)
    → each read (x ∷ xs) seen ≡ Ok (y ∷ ys, after)
each_again read x xs y ys seen middle after e f = rw (e, f) refl

pub field_again : (child : Reader) (depth : ℕ) (scope : Scope) (h : Head) (t : Tree) (seen after : Seen) → child depth scope h.type_data seen ≡ Ok (t, after) → field_by child depth scope h seen ≡ Ok ((h.name, h.id, t), after)
field_again child depth scope h t seen after e = rw e refl

-- a primitive type, with and without attributes
pub plain_again : (k depth : ℕ) (scope : Scope) (seen : Seen) (name : List ℕ) (form : Form) (l : Option (List ℕ)) (u : Option Bool) → word_of name ≡ None → primitive_form name ≡ Some form → ((e i v : Option ℤ) → with_ids e i v form ≡ form)
    → node_at (suc k) depth scope (plain (json.string name) l u) seen ≡ Ok (tree.node form l u, begun seen)
unfolding node_at
plain_again k depth scope seen name form None None ew ep ei = rw ep refl
plain_again k depth scope seen name form (Some l) None ew ep ei = rw (ew, ep, ei None None None) refl
plain_again k depth scope seen name form None (Some u) ew ep ei = rw (ew, ep, ei None None None) refl
plain_again k depth scope seen name form (Some l) (Some u) ew ep ei = rw (ew, ep, ei None None None) refl

-- a union, with and without attributes
pub union_again : (k depth : ℕ) (scope : Scope) (seen after : Seen) (ds : Items) (ts : Trees) (l : Option (List ℕ)) (u : Option Bool)
    → ((j : ℕ) → k ≤ j → union_node (schema_by (node_at j)) j depth scope (list_of ds) seen ≡ Ok (bare (tree.union ts), after))
    → node_at (suc (suc k)) depth scope (plain (json.array ds) l u) seen ≡ Ok (tree.node (tree.union ts) l u, after)
unfolding node_at
union_again k depth scope seen after ds ts None None h = h (suc k) (omega arith)
union_again k depth scope seen after ds ts (Some l) None h = rw (h k (omega arith)) refl
union_again k depth scope seen after ds ts None (Some u) h = rw (h k (omega arith)) refl
union_again k depth scope seen after ds ts (Some l) (Some u) h = rw (h k (omega arith)) refl

-- an object is read as one
pub node_again_object : (k depth : ℕ) (scope : Scope) (ms : Members) (seen : Seen) → node_at (suc k) depth scope (json.object ms) seen ≡ object_node (node_at k) depth scope (json.object ms) seen
unfolding node_at
node_again_object k depth scope ms seen = refl
