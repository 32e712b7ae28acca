-- No two types of a table's Avro schema have one name.
use Rattle.std.proofs.Common.{append_assoc, true≢false, ◌≡◌, ◌≢◌, ◌<◌, ◌^◌, ◌⊎◌, ℕ, ℤ, pos, negsuc, List, [], ◌∷◌, ◌++◌, map, append-nil, flat_map, Option, Bool, true, false, not, refl, sym, ap, ◌∙◌, inl, inr, arith, bytes_eq, codes, nat_lt}
use Rattle.std.proofs.lemmas.Bool.{and_parts, or_parts, ltb-true}
use Rattle.std.proofs.lemmas.Fmt.{decimal_is_IsNumeral}
use Rattle.std.proofs.lemmas.Slice.Eq.{bytes_eq-Decides}
use Rattle.std.proofs.lemmas.Bool.Decides.{Decides-int_eq}
use Rattle.std.specs.Fmt.{decimal}
use Rattle.std.specs.List.{list_all, list_any}
use Rattle.std.specs.Ordering.{int_eq}
use Rattle.std.specs.Str.Parse.{digits_value}
use Rattle.icb_schema.specs.Tree.{Fields, Form, Tree}
use Rattle.icb_schema.specs.Nodes.{fields_of}
use Rattle.icb_schema.specs.Names.{are_distinct, is_among}
use Rattle.icb_schema.specs.Reading.{form_name}
use Rattle.icb_schema.specs.Rules.{has_distinct_names, names_in, types_of, with_own}
use Rattle.icb_schema.specs.Tree as tree
use Rattle.icb_types.specs.Columns.{AreColumns, are_distinct_ids, is_id}
use Rattle.icb_types.specs.Table.{column_part, column_tree, kind_tree, table_tree, type_name}
use Rattle.icb_types.specs.declared.columns.ColType.{ColType}
use Rattle.icb_types.specs.declared.columns.ColType.TheVariants as kind
use Rattle.icb_types.specs.declared.columns.Column.{Column}
use Rattle.icb_types.proofs.ColumnLemmas.{decided_no, not_true}

-- a name of a column's own type
abbrev IsNamed : ℤ → List ℕ → Type 0
IsNamed id name = (name ≡ type_name (codes "fixed_") id) ⊎ (name ≡ type_name (codes "uuid_fixed_") id)

-- at most one name, of this column's own
abbrev AreNamed : ℤ → List (List ℕ) → Type 0
AreNamed id [] = Unit {0}
AreNamed id (name ∷ []) = IsNamed id name
AreNamed id (name ∷ other ∷ names) = ⊥

-- the names of a column's types
abbrev own_names : Column → List (List ℕ)
own_names c = names_in (types_of (column_tree c))

kind_named : (id : ℤ) (k : ColType) → AreNamed id (names_in (types_of (kind_tree id k)))
kind_named id kind.Boolean = tt
kind_named id kind.Int = tt
kind_named id kind.Long = tt
kind_named id kind.Date = tt
kind_named id kind.Time = tt
kind_named id kind.Timestamp = tt
kind_named id kind.TimestampTz = tt
kind_named id kind.Text = tt
kind_named id kind.Uuid = inr refl
kind_named id (kind.Fixed size) = inl refl
kind_named id kind.Binary = tt

column_named : (c : Column) → AreNamed c.id (own_names c)
column_named c = by_required c.required refl
  where
    by_required : (b : Bool) → c.required ≡ b → AreNamed c.id (own_names c)
    by_required true e = rw e (kind_named c.id c.kind)
    by_required false e = rw (e, append-nil) (kind_named c.id c.kind)

-- the names of all columns' types
abbrev all_names : List Column → List (List ℕ)
all_names [] = codes "table" ∷ []
all_names (c ∷ columns) = own_names c ++ all_names columns

-- ---- names of two columns differ

same_decimal : (m n : ℕ) → m < 2 ^ 64 → n < 2 ^ 64 → decimal m ≡ decimal n → m ≡ n
same_decimal m n small_m small_n e =
    sym (decimal_is_IsNumeral m small_m).1 ∙ ap (digits_value 10) e ∙ (decimal_is_IsNumeral n small_n).1

id_small : (n : ℕ) → is_id (pos n) ≡ true → n < 2 ^ 64
id_small n h = let small = ltb-true n 2147483648 (and_parts (nat_lt 0 n) (nat_lt n 2147483648) h).1 in omega arith

same_behind : (word xs ys : List ℕ) → word ++ xs ≡ word ++ ys → xs ≡ ys
same_behind [] xs ys e = e
same_behind (c ∷ word) xs ys e = same_behind word xs ys (tail_of c (word ++ xs) (word ++ ys) e)
  where
    tail_of : (b : ℕ) (us vs : List ℕ) → b ∷ us ≡ b ∷ vs → us ≡ vs
    tail_of b us vs h = cc

other_heads : (a b : ℕ) (xs ys : List ℕ) → a ≢ b → a ∷ xs ≡ b ∷ ys → ⊥
other_heads a b xs ys other e = other (head_of e)
  where
    head_of : a ∷ xs ≡ b ∷ ys → a ≡ b
    head_of h = cc

-- names of types of columns with other ids
named_apart : (m n : ℤ) (a b : List ℕ) → is_id m ≡ true → is_id n ≡ true → m ≢ n → IsNamed m a → IsNamed n b → a ≡ b → ⊥
named_apart (negsuc m) n a b hm hn other ma nb e = absurd (let never : ⊥ = cc in never)
named_apart (pos m) (negsuc n) a b hm hn other ma nb e = absurd (let never : ⊥ = cc in never)
named_apart (pos m) (pos n) a b hm hn other (inl ma) (inl nb) e =
    other (ap pos (same_decimal m n (id_small m hm) (id_small n hn) (same_behind (codes "fixed_") (decimal m) (decimal n) (sym ma ∙ e ∙ nb))))
named_apart (pos m) (pos n) a b hm hn other (inr ma) (inr nb) e =
    other (ap pos (same_decimal m n (id_small m hm) (id_small n hn) (same_behind (codes "uuid_fixed_") (decimal m) (decimal n) (sym ma ∙ e ∙ nb))))
named_apart (pos m) (pos n) a b hm hn other (inl ma) (inr nb) e =
    other_heads 102 117 _ _ (λ h. absurd (let never : ⊥ = omega arith in never)) (sym ma ∙ e ∙ nb)
named_apart (pos m) (pos n) a b hm hn other (inr ma) (inl nb) e =
    other_heads 117 102 _ _ (λ h. absurd (let never : ⊥ = omega arith in never)) (sym ma ∙ e ∙ nb)

-- the record's name is no column's
not_table : (id : ℤ) (name : List ℕ) → IsNamed id name → codes "table" ≡ name → ⊥
not_table id name (inl named) e = other_heads 116 102 _ _ (λ h. absurd (let never : ⊥ = omega arith in never)) (e ∙ named)
not_table id name (inr named) e = other_heads 116 117 _ _ (λ h. absurd (let never : ⊥ = omega arith in never)) (e ∙ named)

-- ---- no name stands twice

-- a column's name isn't among those of others
not_among : (id : ℤ) (name : List ℕ) → is_id id ≡ true → IsNamed id name → (columns : List Column)
    → list_any (λ other. int_eq other id) (map (λ c. c.id) columns) ≡ false → list_all is_id (map (λ c. c.id) columns) ≡ true
    → is_among name (all_names columns) ≡ false
not_among id name above named [] new ids =
    rw (decided_no (bytes_eq (codes "table") name) (bytes_eq-Decides (codes "table") name) (not_table id name named)) refl
not_among id name above named (c ∷ columns) new ids =
    let here = or_parts (int_eq c.id id) (list_any (λ other. int_eq other id) (map (λ d. d.id) columns)) new in
    let both = and_parts (is_id c.id) (list_all is_id (map (λ d. d.id) columns)) ids in
    let other : c.id ≢ id = λ e. true≢false (sym ((Decides-int_eq c.id id).1 e) ∙ here.0) in
    by_own (own_names c) (column_named c) both.0 other (not_among id name above named columns here.1 both.1)
  where
    by_own : (names : List (List ℕ)) → AreNamed c.id names → is_id c.id ≡ true → c.id ≢ id
        → is_among name (all_names columns) ≡ false → is_among name (names ++ all_names columns) ≡ false
    by_own [] are is_above other rest = rest
    by_own (n ∷ []) are is_above other rest =
        rw (decided_no (bytes_eq n name) (bytes_eq-Decides n name) (named_apart c.id id n name is_above above other are named)) rest
    by_own (n ∷ m ∷ names) are is_above other rest = absurd are

distinct_names : (columns : List Column) → are_distinct_ids (map (λ c. c.id) columns) ≡ true → list_all is_id (map (λ c. c.id) columns) ≡ true
    → are_distinct (all_names columns) ≡ true
distinct_names [] distinct ids = refl
distinct_names (c ∷ columns) distinct ids =
    let here = and_parts (not (list_any (λ other. int_eq other c.id) (map (λ d. d.id) columns))) (are_distinct_ids (map (λ d. d.id) columns)) distinct in
    let both = and_parts (is_id c.id) (list_all is_id (map (λ d. d.id) columns)) ids in
    by_own (own_names c) (column_named c) (λ name named. not_among c.id name both.0 named columns (not_true _ here.0) both.1) (distinct_names columns here.1 both.1)
  where
    by_own : (names : List (List ℕ)) → AreNamed c.id names → ((name : List ℕ) → IsNamed c.id name → is_among name (all_names columns) ≡ false)
        → are_distinct (all_names columns) ≡ true → are_distinct (names ++ all_names columns) ≡ true
    by_own [] are new rest = rest
    by_own (n ∷ []) are new rest = rw (new n are, rest) refl
    by_own (n ∷ m ∷ names) are new rest = absurd are

-- ---- the types of the record

names_in-append : (ps qs : List (List ℕ × Tree)) → names_in (ps ++ qs) ≡ names_in ps ++ names_in qs
names_in-append [] qs = refl
names_in-append (p ∷ ps) qs = ap (λ names. p.0 ∷ names) (names_in-append ps qs)

-- one node's step of the types
abbrev type_step : Form → Option (List ℕ) → Option Bool → List (List (List ℕ × Tree)) → List (List ℕ × Tree)
type_step form logical utc types = with_own (tree.node form logical utc) (form_name form) (flat_map (λ ts. ts) types)

-- the types of fields
abbrev fields_types : Fields → List (List ℕ × Tree)
fields_types fs = flat_map (λ ts. ts) (tree.of_fields type_step fs)

names_are : (columns : List Column) (t : Tree) → names_in (fields_types (fields_of (map column_part columns)) ++ (codes "table", t) ∷ []) ≡ all_names columns
names_are [] t = refl
names_are (c ∷ columns) t =
    ap names_in (append_assoc (types_of (column_tree c)) (fields_types (fields_of (map column_part columns))) ((codes "table", t) ∷ []))
    ∙ names_in-append (types_of (column_tree c)) (fields_types (fields_of (map column_part columns)) ++ (codes "table", t) ∷ [])
    ∙ ap (λ names. own_names c ++ names) (names_are columns t)

pub table_names : (columns : List Column) → AreColumns columns → has_distinct_names (table_tree columns) ≡ true
unfolding has_distinct_names table_tree
table_names columns are = ap are_distinct (names_are columns (table_tree columns)) ∙ distinct_names columns are.ids are.above
