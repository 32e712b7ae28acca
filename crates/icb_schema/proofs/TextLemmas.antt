-- The JSON of a schema has no float, and nests three times as deep as its tree at most.
use Rattle.std.specs.Prelude.{codes, option_map, if◌then◌else◌, not, ◌&&◌}
use Rattle.icb_schema.specs.Names.{has_dot}
use Rattle.icb_schema.specs.Printing.{begins_with_null}
use Rattle.std.proofs.Common.{◌≡◌, ℕ, ◌+◌, ◌*◌, ◌≤◌, List, [], ◌∷◌, Bool, true, false, ◌||◌, Option, Some, None, ℤ, pos, negsuc, Ordering, Less, Equal, Greater, refl, sym, subst, arith, nat_cmp}
use Rattle.std.specs.Ordering.{match_ordering}
use Rattle.std.specs.Cmp.Lexicographic.{slice_cmp}
use Rattle.serde_json.specs.Data as json
use Rattle.serde_json.specs.Data.{Data, Items, Members, put, depth, items_depth, members_depth}
use Rattle.serde_json.specs.Written.{has_float, items_have_float, members_have_float}
use Rattle.icb_schema.specs.Tree as tree
use Rattle.icb_schema.specs.Tree.{Primitive, Tree, Form, Fields, Trees}
use Rattle.icb_schema.specs.Rules.{height}
use Rattle.icb_schema.proofs.FoldLemmas.{form_height, fields_height, trees_height, height_form}
use Rattle.icb_schema.specs.Printing.{with_member, attributed, of_type, plain, id_json, with_name, texts_json, field_json, default_json, json_of, form_json, fields_json, trees_json, primitive_name}

-- members whose values pass, each with no float and not above a depth
abbrev pub Small : ℕ → Data → Type 0
Small n d = (has_float d ≡ false) × (depth d ≤ n)

abbrev pub SmallMembers : ℕ → Members → Type 0
SmallMembers n ms = (members_have_float ms ≡ false) × (members_depth ms ≤ n)

abbrev SmallItems : ℕ → Items → Type 0
SmallItems n ds = (items_have_float ds ≡ false) × (items_depth ds ≤ n)

neither : (a b : Bool) → a ≡ false → b ≡ false → (a || b) ≡ false
neither a b e f = rw (e, f) refl

put_cases : (o : Ordering) (a b c : Members) (n : ℕ) → SmallMembers n a → SmallMembers n b → SmallMembers n c → SmallMembers n (match_ordering o a b c)
put_cases Less a b c n p q r = p
put_cases Equal a b c n p q r = q
put_cases Greater a b c n p q r = r

left : (a b : Bool) → (a || b) ≡ false → a ≡ false
left true b e = e
left false b e = refl

right : (a b : Bool) → (a || b) ≡ false → b ≡ false
right true b e = absurd (let f : ⊥ = cc in f)
right false b e = e

small_put : (n : ℕ) (k : List ℕ) (d : Data) (ms : Members) → Small n d → SmallMembers n ms → SmallMembers n (put k d ms)
small_put n k d json.no_members p q = (neither (has_float d) false p.0 refl, omega (arith, p.1))
small_put n k d (json.member l e ms) p q =
    let fe = left (has_float e) (members_have_float ms) q.0 in
    let fm = right (has_float e) (members_have_float ms) q.0 in
    let de : depth e ≤ n = omega (arith, q.1) in
    let dm : members_depth ms ≤ n = omega (arith, q.1) in
    let later = small_put n k d ms p (fm, dm) in
    put_cases (slice_cmp nat_cmp k l) (json.member k d (json.member l e ms)) (json.member l d ms) (json.member l e (put k d ms)) n
    (neither (has_float d) (has_float e || members_have_float ms) p.0 q.0, omega (arith, p.1, q.1))
    (neither (has_float d) (members_have_float ms) p.0 fm, omega (arith, p.1, dm))
    (neither (has_float e) (members_have_float (put k d ms)) fe later.0, omega (arith, de, later.1))

abbrev SmallOption : ℕ → Option Data → Type 0
SmallOption n None = Unit {0}
SmallOption n (Some d) = Small n d

small_with : (n : ℕ) (k : List ℕ) (o : Option Data) (ms : Members) → SmallOption n o → SmallMembers n ms → SmallMembers n (with_member k o ms)
small_with n k None ms p q = q
small_with n k (Some d) ms p q = small_put n k d ms p q

small_logical : (n : ℕ) (l : Option (List ℕ)) → SmallOption n (option_map json.string l)
small_logical n None = tt
small_logical n (Some s) = (refl, omega arith)

small_utc : (n : ℕ) (u : Option Bool) → SmallOption n (option_map json.boolean u)
small_utc n None = tt
small_utc n (Some b) = (refl, omega arith)

small_integer : (n : ℕ) (z : ℤ) → Small n (id_json z)
small_integer n (pos m) = (refl, omega arith)
small_integer n (negsuc m) = (refl, omega arith)

small_id : (n : ℕ) (i : Option ℤ) → SmallOption n (option_map id_json i)
small_id n None = tt
small_id n (Some z) = small_integer n z

small_attributed : (n : ℕ) (l : Option (List ℕ)) (u : Option Bool) (ms : Members) → SmallMembers n ms → SmallMembers n (attributed l u ms)
small_attributed n l u ms q = small_with n (codes "adjust-to-utc") (option_map json.boolean u) _ (small_utc n u) (small_with n (codes "logicalType") (option_map json.string l) ms (small_logical n l) q)

small_type : (n : ℕ) (d : Data) → Small n d → SmallMembers n (of_type d)
small_type n d p = small_with n (codes "type") (Some d) json.no_members p (refl, omega arith)

small_word : (n : ℕ) (s : List ℕ) → SmallMembers n (of_type (json.string s))
small_word n s = small_type n (json.string s) (refl, omega arith)

small_namespace : (n : ℕ) (b : Bool) → SmallOption n (if b then Some (json.string []) else None)
small_namespace n true = (refl, omega arith)
small_namespace n false = tt

small_name : (n : ℕ) (dotted : Bool) (name : List ℕ) (ms : Members) → SmallMembers n ms → SmallMembers n (with_name dotted name ms)
small_name n dotted name ms q = small_with n (codes "name") (Some (json.string name)) _ (refl, omega arith)
    (small_with n (codes "namespace") (if dotted && not (has_dot name) then Some (json.string []) else None) ms (small_namespace n (dotted && not (has_dot name))) q)

small_object : (n : ℕ) (ms : Members) → SmallMembers n ms → Small (n + 1) (json.object ms)
small_object n ms q = (q.0, omega (arith, q.1))

weaker : (m n : ℕ) (d : Data) → m ≤ n → Small m d → Small n d
weaker m n d h p = (p.0, omega (arith, p.1))

small_plain : (n : ℕ) (d : Data) (l : Option (List ℕ)) (u : Option Bool) → Small n d → Small (n + 1) (plain d l u)
small_plain n d None None p = weaker n (n + 1) d (omega arith) p
small_plain n d (Some l) u p = small_object n (attributed (Some l) u (of_type d)) (small_attributed n (Some l) u (of_type d) (small_type n d p))
small_plain n d None (Some u) p = small_object n (attributed None (Some u) (of_type d)) (small_attributed n None (Some u) (of_type d) (small_type n d p))

small_texts : (ss : List (List ℕ)) → SmallItems 0 (texts_json ss)
small_texts [] = (refl, omega arith)
small_texts (s ∷ ss) = let later = small_texts ss in (later.0, omega (arith, later.1))

small_default : (n : ℕ) (t : Tree) (b : Bool) → SmallOption n (if b then Some json.null else None)
small_default n t true = (refl, omega arith)
small_default n t false = tt

small_field : (n : ℕ) (name : List ℕ) (id : Option ℤ) (t : Tree) (d : Data) → Small n d → Small (n + 1) (field_json name id (default_json t) d)
small_field n name id t d p = small_object n _ (small_with n (codes "default") (default_json t) _ (small_default n t (begins_with_null t)) (small_with n (codes "field-id") (option_map id_json id) _ (small_id n id)
    (small_with n (codes "name") (Some (json.string name)) (of_type d) (refl, omega arith) (small_type n d p))))

small_array : (n : ℕ) (ds : Items) → SmallItems n ds → Small (n + 1) (json.array ds)
small_array n ds p = (p.0, omega (arith, p.1))

mutual
  pub small_json : (dotted : Bool) (t : Tree) → Small (3 * height t) (json_of dotted t)
  small_json dotted (tree.node form l u) = subst (λ n. Small (3 * n) (form_json dotted form l u)) (sym (height_form form l u)) (small_form dotted form l u)

  small_form : (dotted : Bool) (form : Form) (l : Option (List ℕ)) (u : Option Bool) → Small (3 * (1 + form_height form)) (form_json dotted form l u)
  small_form dotted (tree.primitive p) l u = weaker 1 3 _ (omega arith) (small_plain 0 (json.string (primitive_name p)) l u (refl, omega arith))
  small_form dotted (tree.fixed name size) l u = small_object 2 _ (small_attributed 2 l u _ (small_name 2 dotted name _
      (small_with 2 (codes "size") (Some (json.number (json.unsigned size))) (of_type (json.string (codes "fixed"))) (refl, omega arith) (small_word 2 (codes "fixed")))))
  small_form dotted (tree.enumeration name symbols) l u = small_object 2 _ (small_attributed 2 l u _ (small_name 2 dotted name _
      (small_with 2 (codes "symbols") (Some (json.array (texts_json symbols))) (of_type (json.string (codes "enum"))) (weaker 1 2 (json.array (texts_json symbols)) (omega arith) (small_array 0 (texts_json symbols) (small_texts symbols))) (small_word 2 (codes "enum")))))
  small_form dotted (tree.fields name fs) l u =
      let n : ℕ = 3 * fields_height fs + 2 in
      let m : n + 1 ≤ 3 * (1 + fields_height fs) = omega arith in
      weaker (n + 1) (3 * (1 + fields_height fs)) (json.object (attributed l u (with_member (codes "fields") (Some (json.array (fields_json (has_dot name) fs))) (with_name dotted name (of_type (json.string (codes "record"))))))) m (small_object n _ (small_attributed n l u _
      (small_with n (codes "fields") (Some (json.array (fields_json (has_dot name) fs))) _ (weaker (3 * fields_height fs + 1 + 1) n (json.array (fields_json (has_dot name) fs)) (omega arith) (small_array (3 * fields_height fs + 1) _ (small_fields (has_dot name) fs)))
      (small_name n dotted name (of_type (json.string (codes "record"))) (small_word n (codes "record"))))))
  small_form dotted (tree.array items element) l u =
      weaker (3 * height items + 1) (3 * (1 + height items)) (json.object (attributed l u (with_member (codes "element-id") (option_map id_json element) (with_member (codes "items") (Some (json_of dotted items)) (of_type (json.string (codes "array"))))))) (omega arith) (small_object (3 * height items) _ (small_attributed (3 * height items) l u _
      (small_with (3 * height items) (codes "element-id") (option_map id_json element) (with_member (codes "items") (Some (json_of dotted items)) (of_type (json.string (codes "array")))) (small_id (3 * height items) element)
      (small_with (3 * height items) (codes "items") (Some (json_of dotted items)) (of_type (json.string (codes "array"))) (small_json dotted items) (small_word (3 * height items) (codes "array"))))))
  small_form dotted (tree.map values key value) l u =
      weaker (3 * height values + 1) (3 * (1 + height values)) (json.object (attributed l u (with_member (codes "key-id") (option_map id_json key) (with_member (codes "value-id") (option_map id_json value) (with_member (codes "values") (Some (json_of dotted values)) (of_type (json.string (codes "map")))))))) (omega arith) (small_object (3 * height values) _ (small_attributed (3 * height values) l u _
      (small_with (3 * height values) (codes "key-id") (option_map id_json key) _ (small_id (3 * height values) key)
      (small_with (3 * height values) (codes "value-id") (option_map id_json value) (with_member (codes "values") (Some (json_of dotted values)) (of_type (json.string (codes "map")))) (small_id (3 * height values) value)
      (small_with (3 * height values) (codes "values") (Some (json_of dotted values)) (of_type (json.string (codes "map"))) (small_json dotted values) (small_word (3 * height values) (codes "map")))))))
  small_form dotted (tree.union ts) l u = weaker (3 * trees_height ts + 1 + 1) (3 * (1 + trees_height ts)) _ (omega arith)
      (small_plain (3 * trees_height ts + 1) (json.array (trees_json dotted ts)) l u (small_array (3 * trees_height ts) _ (small_trees dotted ts)))

  small_fields : (dotted : Bool) (fs : Fields) → SmallItems (3 * fields_height fs + 1) (fields_json dotted fs)
  small_fields dotted tree.no_fields = (refl, omega arith)
  small_fields dotted (tree.field name id t fs) =
      let here = small_field (3 * height t) name id t (json_of dotted t) (small_json dotted t) in
      let later = small_fields dotted fs in
      (neither (has_float (field_json name id (default_json t) (json_of dotted t))) (items_have_float (fields_json dotted fs)) here.0 later.0, omega (arith, here.1, later.1))

  small_trees : (dotted : Bool) (ts : Trees) → SmallItems (3 * trees_height ts) (trees_json dotted ts)
  small_trees dotted tree.no_trees = (refl, omega arith)
  small_trees dotted (tree.branch t ts) =
      let here = small_json dotted t in
      let later = small_trees dotted ts in
      (neither (has_float (json_of dotted t)) (items_have_float (trees_json dotted ts)) here.0 later.0, omega (arith, here.1, later.1))
