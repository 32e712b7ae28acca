-- The table behind an append's commit.
use Rattle.std.proofs.Common.{◌≡◌, ℕ, ℤ, Bool, true, false, cond, List, [], ◌∷◌, ◌++◌, length, map, Option, Some, None, IsSome, if◌then◌else◌, Ok, refl, sym, ap, ◌∙◌, subst, arith, inl, inr}
use Rattle.std.specs.Prelude.{◌⊎◌, ◌||◌, IsSomeAnd, IsTrue, not, bytes_eq}
use Rattle.std.specs.Cmp.{int_cmp_is, int_cmp_total}
use Rattle.std.specs.FinMap as finite
use Rattle.std.specs.List.{AllByRecursion, Contains}
use Rattle.std.specs.Ordering.{eq_by_cmp, int_cmp, int_eq, is_eq}
use Rattle.std.specs.declared.cmp.Ordering.{Ordering}
use Rattle.std.specs.declared.cmp.Ordering.TheVariants.{Less, Equal, Greater}
use Rattle.std.proofs.lemmas.Bool.{and_parts}
use Rattle.std.proofs.lemmas.List.{map-append}
use Rattle.std.proofs.lemmas.List.Elements.{All-contains, All-from_recursion, Contains-append_cases, Contains-append_left, Contains-append_right}
use Rattle.std.proofs.lemmas.Slice.Eq.{bytes_eq-Decides}
use Rattle.icb_base.specs.KeyMetadata.{KeyRecord, prefix_of}
use Rattle.icb_base.specs.Objects.{Objects}
use Rattle.icb_base.specs.Paths.{is_object_path}
use Rattle.icb_chain.specs.Opening.{kek_of, table_of}
use Rattle.icb_chain.specs.Ring.{Ring}
use Rattle.icb_edits.specs.Snapshots.{snapshot_fields}
use Rattle.icb_list.specs.declared.row.ListRow.{ListRow}
use Rattle.icb_meta.proofs.DistinctLemmas.{int_decides}
use Rattle.icb_meta.specs.Answers.{shown_of}
use Rattle.icb_meta.specs.Forms.{snapshot_named}
use Rattle.icb_meta.specs.declared.fields.Fields.{Fields}
use Rattle.icb_meta.specs.declared.records.KeyEntry.{KeyEntry}
use Rattle.icb_meta.specs.declared.records.Snapshot.{Snapshot}
use Rattle.icb_rows.specs.Records.{Row, row_from}
use Rattle.icb_schema.specs.Names.{are_distinct, is_among}
use Rattle.icb_table.specs.Listed.{Listed}
use Rattle.icb_table.specs.Table.{HasRows, HasTree, IsInTable, IsTable, Table, rows_asked}
use Rattle.icb_table.specs.Tree.{TreeFile, listed_as}
use Rattle.icb_table.specs.Tree as tree
use Rattle.icb_turns.proofs.GrownLemmas.{tree_is}
use Rattle.icb_append.specs.Committing.{IsListEntry, snapshot_of}
use Rattle.icb_append.specs.Drafts.{columns_for}
use Rattle.icb_append.specs.Keeping.{AreUnlisted, HasValues, HoldsAppend, own_paths}
use Rattle.icb_append.specs.NewLists.{path_of_list}
use Rattle.icb_append.specs.declared.draft.Draft.{Draft}
use Rattle.icb_append.specs.declared.tried.Tried.{Tried}
use Rattle.icb_append.proofs.AboveLemmas.{NewTree, is_there, new_bounds, new_rows, new_tree, own_added, own_list}
use Rattle.icb_append.proofs.AddedLemmas.{added_at, added_objects, added_prefixes, cons_cases}
use Rattle.icb_append.proofs.ListLemmas.{new_list_is, old_list_stays, or_else, snapshot_more}

-- ---- ids

equal_of : (o : Ordering) → is_eq o ≡ true → o ≡ Equal
equal_of Less e = absurd (let g : ⊥ = cc in g)
equal_of Equal e = refl
equal_of Greater e = absurd (let g : ⊥ = cc in g)

-- ids that tie are equal
tied : (x y : ℤ) → eq_by_cmp int_cmp x y ≡ true → x ≡ y
tied x y e = finite.int_cmp-IsAntisymmetric x y (equal_of (int_cmp x y) e)

tied_itself : (x : ℤ) → eq_by_cmp int_cmp x x ≡ true
tied_itself x = ap is_eq (sym (int_cmp_is x x Equal refl))

is_some_of : {A : Type 0} (o : Option A) (x : A) → o ≡ Some x → IsSome o
is_some_of o x e = subst IsSome (sym e) refl

no_some : {A : Type 0} (o : Option A) → IsSome o → o ≡ None → ⊥
no_some None h e = let g : ⊥ = cc in g
no_some (Some x) h e = let g : ⊥ = cc in g

prefix_listed : (m : KeyRecord) (path : List ℕ) → m.prefix ≡ Some path → prefix_of m ≡ path
prefix_listed m path e = rw e refl

some_more : {A : Type 0} (o : Option A) (P Q : A → Type 0) → ((x : A) → P x → Q x) → IsSomeAnd o P → IsSomeAnd o Q
some_more None P Q f h = h
some_more (Some x) P Q f h = f x h

-- ---- files with paths of their own

-- the file of a path among files of which no two have one
is_not_among : (path : List ℕ) (fs : List Listed) (g : Listed) → not (is_among path (map (λ f. f.path) fs)) ≡ true → Contains fs g → g.path ≡ path → ⊥
is_not_among path [] g h is_in same = All-contains (λ _. ⊥) [] g (All-from_recursion (λ _. ⊥) [] tt) is_in
is_not_among path (f ∷ fs) g h is_in same = elim (cons_cases f fs g is_in) [
  | inl first ↦ here (bytes_eq f.path path) (is_among path (map (λ x. x.path) fs)) ((bytes_eq-Decides f.path path).1 (ap (λ x. x.path) first ∙ same)) h
  | inr other ↦ is_not_among path fs g (later (bytes_eq f.path path) (is_among path (map (λ x. x.path) fs)) h) other same
]
  where
    here : (b r : Bool) → b ≡ true → not (b || r) ≡ true → ⊥
    here true r e h = let g : ⊥ = cc in g
    here false r e h = let g : ⊥ = cc in g

    later : (b r : Bool) → not (b || r) ≡ true → not r ≡ true
    later true r h = absurd (let g : ⊥ = cc in g)
    later false r h = h

pub one_of_path : (fs : List Listed) (f g : Listed) → are_distinct (map (λ x. x.path) fs) ≡ true → Contains fs f → Contains fs g → f.path ≡ g.path → f ≡ g
one_of_path [] f g h a b e = absurd (All-contains (λ _. ⊥) [] f (All-from_recursion (λ _. ⊥) [] tt) a)
one_of_path (x ∷ fs) f g h a b e =
    let apart = and_parts (not (is_among x.path (map (λ y. y.path) fs))) (are_distinct (map (λ y. y.path) fs)) h in
    elim (cons_cases x fs f a) [
      | inl first ↦ elim (cons_cases x fs g b) [
        | inl second ↦ sym first ∙ second
        | inr later ↦ absurd (is_not_among x.path fs g apart.0 later (sym e ∙ sym (ap (λ y. y.path) first)))
      ]
      | inr other ↦ elim (cons_cases x fs g b) [
        | inl second ↦ absurd (is_not_among x.path fs f apart.0 other (e ∙ sym (ap (λ y. y.path) second)))
        | inr later ↦ one_of_path fs f g apart.1 other later e
      ]
    ]

contains_map : {A B : Type 0} (f : A → B) (xs : List A) (x : A) → Contains xs x → Contains (map f xs) (f x)
contains_map f [] x h = absurd (All-contains (λ _. ⊥) [] x (All-from_recursion (λ _. ⊥) [] tt) h)
contains_map f (y ∷ xs) x h = elim (cons_cases y xs x h) [
  | inl first ↦ subst (Contains (map f (y ∷ xs))) (ap f first) (Contains-append_left (f y ∷ []) (map f xs) (f y) (0, omega arith, refl))
  | inr other ↦ Contains-append_right (f y ∷ []) (map f xs) (f x) (contains_map f xs x other)
]

map_map : {A B C : Type 0} (f : A → B) (g : B → C) (xs : List A) → map g (map f xs) ≡ map (λ x. g (f x)) xs
map_map f g [] = refl
map_map f g (x ∷ xs) = ap (λ ys. g (f x) ∷ ys) (map_map f g xs)

all_mapped : {A B : Type 0} (P : B → Type 0) (f : A → B) (xs : List A) → AllByRecursion (λ x. P (f x)) xs → AllByRecursion P (map f xs)
all_mapped P f [] all = tt
all_mapped P f (x ∷ xs) all = (all.0, all_mapped P f xs all.1)

module _ (files : Objects) (ring : Ring) (table : Table) (made tried : Tried) (draft : Draft) (manifest : Option ListRow) (parent : List ListRow) (attempt : ℕ) (list : KeyRecord)
    (held : HoldsAppend files ring made tried draft manifest parent attempt list) (values : HasValues made tried draft manifest parent attempt)
    (is_table : IsTable files (shown_of tried.meta) ring table) (entry : KeyEntry) (nonce : List ℕ) (now_ms : ℕ)
    (is_entry : IsListEntry (shown_of tried.meta) tried.wrapper nonce list entry) (opens : kek_of (table_of (shown_of tried.meta).state) ring tried.wrapper.id ≡ Ok tried.wrapper.key) where
  abbrev meta : Fields
  meta = shown_of tried.meta

  abbrev s : Snapshot
  s = snapshot_of meta tried.id (path_of_list draft.unique tried attempt) tried.rows entry.id now_ms

  abbrev pub meta_now : Fields
  meta_now = snapshot_fields meta s entry now_ms

  abbrev own : Listed
  own = own_list files ring table made tried draft manifest parent attempt list held values is_table

  abbrev above : NewTree files ring table made tried draft manifest parent attempt list held values is_table meta.state.current
  above = new_tree files ring table made tried draft manifest parent attempt list held values is_table

  abbrev news : List TreeFile
  news = own_added files ring table made tried draft manifest parent attempt list held values is_table above.at

  abbrev new_files : List TreeFile
  new_files = tree.list own ∷ (above.before ++ news)

  abbrev pub all_rows : List Row
  all_rows = rows_asked table meta.state.current ++ map (row_from (columns_for tried)) draft.rows

  abbrev pub table_now : Table
  table_now = finite.insert table tried.id all_rows

  -- ---- trees and rows

  tree_to : (id : ℤ) (t : List TreeFile) → HasTree files meta ring id t → HasTree files meta_now ring id t
  tree_to id t h = record {
    list = h.list;
    is_list = old_list_stays meta ring tried.wrapper nonce list entry s now_ms is_entry opens id h.list h.is_list;
    is_tree = h.is_tree;
  }

  rows_to : (id : ℤ) (rows : List Row) → HasRows files meta ring id rows → HasRows files meta_now ring id rows
  rows_to id rows h = record { tree = h.tree; has_tree = tree_to id h.tree h.has_tree; are_rows = h.are_rows; bounds = h.bounds }

  new_has_tree : HasTree files meta_now ring tried.id new_files
  new_has_tree = record {
    list = own;
    is_list = new_list_is meta ring tried.wrapper nonce list entry s now_ms is_entry opens (path_of_list draft.unique tried attempt) (length held.list_held.object)
        tried.ready.unused refl refl held.list_held.is_sealed.is_path (ap (λ m. m.length_told) held.list_held.is_sealed.own);
    is_tree = above.is_tree;
  }

  new_has_rows : HasRows files meta_now ring tried.id all_rows
  new_has_rows = record {
    tree = new_files;
    has_tree = new_has_tree;
    are_rows = new_rows files ring table made tried draft manifest parent attempt list held values is_table;
    bounds = new_bounds files ring table made tried draft manifest parent attempt list held values is_table;
  }

  -- ---- snapshots

  name_cases : (id : ℤ) (o : Option Snapshot) → snapshot_named id meta.state.snapshots ≡ o → IsSome (snapshot_named id meta_now.state.snapshots)
      → IsSome (snapshot_named id meta.state.snapshots) ⊎ (tried.id ≡ id)
  name_cases id (Some x) e h = inl (is_some_of (snapshot_named id meta.state.snapshots) x e)
  name_cases id None e h = inr (first (int_eq tried.id id) refl (subst IsSome (snapshot_more id meta.state.snapshots (s ∷ []) ∙ ap (λ o. or_else o (snapshot_named id (s ∷ []))) e) h))
    where
      first : (b : Bool) → int_eq tried.id id ≡ b → IsSome (if b then Some s else None) → tried.id ≡ id
      first true t h = (int_decides tried.id id).0 t
      first false t h = absurd (let g : ⊥ = cc in g)

  name_kept : (id : ℤ) (o : Option Snapshot) → snapshot_named id meta.state.snapshots ≡ o → IsSome (snapshot_named id meta.state.snapshots) → IsSome (snapshot_named id meta_now.state.snapshots)
  name_kept id (Some x) e h = is_some_of (snapshot_named id meta_now.state.snapshots) x (snapshot_more id meta.state.snapshots (s ∷ []) ∙ ap (λ o. or_else o (snapshot_named id (s ∷ []))) e)
  name_kept id None e h = absurd (no_some (snapshot_named id meta.state.snapshots) h e)

  name_own : IsSome (snapshot_named tried.id meta_now.state.snapshots)
  name_own = is_some_of (snapshot_named tried.id meta_now.state.snapshots) s
      (snapshot_more tried.id meta.state.snapshots (s ∷ []) ∙ ap (λ o. or_else o (snapshot_named tried.id (s ∷ []))) tried.ready.unused ∙ here)
    where
      here : or_else None (snapshot_named tried.id (s ∷ [])) ≡ Some s
      here = let same : int_eq tried.id tried.id ≡ true = (int_decides tried.id tried.id).1 refl in rw same refl

  -- the new id is that of no snapshot before
  pub not_own : (id : ℤ) → IsSome (snapshot_named id meta.state.snapshots) → tried.id ≡ id → ⊥
  not_own id h same =
      no_some (snapshot_named id meta.state.snapshots) h (subst (λ i. snapshot_named i meta.state.snapshots ≡ None) same tried.ready.unused)

  get_now : (id : ℤ) (b : Bool) → eq_by_cmp int_cmp id tried.id ≡ b → finite.get table_now id ≡ cond b (Some all_rows) (finite.get table id)
  get_now id b e = finite.get-insert int_cmp_total table tried.id all_rows id ∙ ap (λ c. cond c (Some all_rows) (finite.get table id)) e

  get_own : finite.get table_now tried.id ≡ Some all_rows
  get_own = get_now tried.id true (tied_itself tried.id)

  get_other : (id : ℤ) (b : Bool) → eq_by_cmp int_cmp id tried.id ≡ b → (tried.id ≡ id → ⊥) → finite.get table_now id ≡ finite.get table id
  get_other id true e apart = absurd (apart (sym (tied id tried.id e)))
  get_other id false e apart = get_now id false e

  only_now : (id : ℤ) (b : Bool) → eq_by_cmp int_cmp id tried.id ≡ b → IsSome (finite.get table_now id) → IsSome (snapshot_named id meta_now.state.snapshots)
  only_now id true e h = subst (λ i. IsSome (snapshot_named i meta_now.state.snapshots)) (sym (tied id tried.id e)) name_own
  only_now id false e h = name_kept id (snapshot_named id meta.state.snapshots) refl (is_table.only_snapshots id (subst IsSome (get_now id false e) h))

  each_now : (id : ℤ) → IsSome (snapshot_named id meta.state.snapshots) ⊎ (tried.id ≡ id) → IsSomeAnd (finite.get table_now id) (HasRows files meta_now ring id)
  each_now id (inl old) =
      subst (λ o. IsSomeAnd o (HasRows files meta_now ring id)) (sym (get_other id (eq_by_cmp int_cmp id tried.id) refl (not_own id old)))
      (some_more (finite.get table id) (HasRows files meta ring id) (HasRows files meta_now ring id) (λ rows has. rows_to id rows has) (is_table.each_snapshot id old))
  each_now id (inr same) =
      subst (λ i. IsSomeAnd (finite.get table_now i) (HasRows files meta_now ring i)) same
      (subst (λ o. IsSomeAnd o (HasRows files meta_now ring tried.id)) (sym get_own) new_has_rows)

  -- ---- files

  -- the own files, as they are listed
  abbrev pub own_files : List Listed
  own_files = own ∷ map listed_as news

  in_old : (f : Listed) (h : IsInTable files meta_now ring f) → IsSome (snapshot_named h.id meta.state.snapshots) → IsInTable files meta ring f
  in_old f h old =
      let had = is_there (finite.get table h.id) (HasRows files meta ring h.id) (is_table.each_snapshot h.id old) in
      let same : had.holds.tree ≡ h.tree = tree_is files meta_now ring h.id had.holds.tree h.tree (tree_to h.id had.holds.tree had.holds.has_tree) h.has_tree in
      record {
        id = h.id;
        is_snapshot = old;
        tree = h.tree;
        has_tree = subst (HasTree files meta ring h.id) same had.holds.has_tree;
        is_in = h.is_in;
      }

  in_new : (f : Listed) (h : IsInTable files meta_now ring f) → tried.id ≡ h.id → IsInTable files meta ring f ⊎ Contains own_files f
  in_new f h same =
      let is_new : new_files ≡ h.tree = tree_is files meta_now ring h.id new_files h.tree (subst (λ i. HasTree files meta_now ring i new_files) same new_has_tree) h.has_tree in
      let is_in : Contains (own ∷ map listed_as (above.before ++ news)) f = subst (λ t. Contains (map listed_as t) f) (sym is_new) h.is_in in
      elim (cons_cases own (map listed_as (above.before ++ news)) f is_in) [
        | inl first ↦ inr (subst (Contains own_files) first (Contains-append_left (own ∷ []) (map listed_as news) own (0, omega arith, refl)))
        | inr other ↦ elim (Contains-append_cases (map listed_as above.before) (map listed_as news) f (subst (λ fs. Contains fs f) (map-append listed_as above.before news) other)) [
          | inl old ↦ inl (above.were f old)
          | inr new ↦ inr (Contains-append_right (own ∷ []) (map listed_as news) f new)
        ]
      ]

  -- a file that is listed was listed before, or is an own one
  pub in_cases : (f : Listed) → IsInTable files meta_now ring f → IsInTable files meta ring f ⊎ Contains own_files f
  in_cases f h = elim (name_cases h.id (snapshot_named h.id meta.state.snapshots) refl h.is_snapshot) [
    | inl old ↦ inl (in_old f h old)
    | inr new ↦ in_new f h new
  ]

  paths_are : map (λ f. f.path) own_files ≡ own_paths draft manifest tried attempt
  paths_are = ap (λ ps. path_of_list draft.unique tried attempt ∷ ps)
      (map_map listed_as (λ f. f.path) news ∙ added_at files made tried draft held.same_place held.same_layout manifest held.draft_held above.at)

  -- an own file lies at an own path
  pub own_path : (f : Listed) → Contains own_files f → Contains (own_paths draft manifest tried attempt) f.path
  own_path f is = subst (λ ps. Contains ps f.path) paths_are (contains_map (λ x. x.path) own_files f is)

  -- which is one of an object
  own_object : (f : Listed) → Contains own_files f → is_object_path f.path ≡ true
  own_object f is = All-contains (λ x. is_object_path x.path ≡ true) own_files f (All-from_recursion (λ x. is_object_path x.path ≡ true) own_files (
    held.list_held.is_sealed.is_path,
    all_mapped (λ x. is_object_path x.path ≡ true) listed_as news (added_objects files made tried draft held.same_place held.same_layout manifest held.draft_held above.at),
  )) is

  -- its prefix is its path
  pub own_prefix : (f : Listed) → Contains own_files f → f.prefix ≡ f.path
  own_prefix f is = All-contains (λ x. x.prefix ≡ x.path) own_files f (All-from_recursion (λ x. x.prefix ≡ x.path) own_files (
    prefix_listed list (path_of_list draft.unique tried attempt) (ap (λ m. m.prefix) held.list_held.is_sealed.own),
    all_mapped (λ x. x.prefix ≡ x.path) listed_as news (added_prefixes files made tried draft held.same_place held.same_layout manifest held.draft_held above.at),
  )) is

  own_one : (f g : Listed) → Contains own_files f → Contains own_files g → f.path ≡ g.path → f ≡ g
  own_one f g a b e = one_of_path own_files f g
      (subst (λ ps. are_distinct ps ≡ true) (sym paths_are) values.distinct) a b e

  -- ---- the table

  module _ (unlisted : AreUnlisted (own_paths draft manifest tried attempt) files meta ring)
      (own_prefixes : (f : Listed) → IsInTable files meta ring f → IsTrue (is_object_path f.prefix) → f.prefix ≡ f.path) where
    abbrev IsOne : Listed → Type 0
    IsOne f = IsInTable files meta ring f ⊎ Contains own_files f

    one_way_by : (f g : Listed) → IsOne f → IsOne g → f.path ≡ g.path → f ≡ g
    one_way_by f g (inl a) (inl b) e = is_table.one_way f g a b e
    one_way_by f g (inl a) (inr b) e = absurd (unlisted f a (subst (Contains (own_paths draft manifest tried attempt)) (sym e) (own_path g b)))
    one_way_by f g (inr a) (inl b) e = absurd (unlisted g b (subst (Contains (own_paths draft manifest tried attempt)) e (own_path f a)))
    one_way_by f g (inr a) (inr b) e = own_one f g a b e

    -- a listed file with the prefix of an own one is at its path
    same_prefix : (f g : Listed) → Contains own_files f → IsInTable files meta ring g → f.prefix ≡ g.prefix → f.path ≡ g.path
    same_prefix f g a b p =
        let prefix_path : g.prefix ≡ f.path = sym p ∙ own_prefix f a in
        sym prefix_path ∙ own_prefixes g b (subst (λ x. is_object_path x ≡ true) (sym prefix_path) (own_object f a))

    own_keys_by : (f g : Listed) → IsOne f → IsOne g → f.key ≡ g.key → f.prefix ≡ g.prefix → f.path ≡ g.path
    own_keys_by f g (inl a) (inl b) k p = is_table.own_keys f g a b k p
    own_keys_by f g (inl a) (inr b) k p = sym (same_prefix g f b a (sym p))
    own_keys_by f g (inr a) (inl b) k p = same_prefix f g a b p
    own_keys_by f g (inr a) (inr b) k p = sym (own_prefix f a) ∙ p ∙ own_prefix g b

    prefix_by : (f : Listed) → IsOne f → IsTrue (is_object_path f.prefix) → f.prefix ≡ f.path
    prefix_by f (inl a) h = own_prefixes f a h
    prefix_by f (inr a) h = own_prefix f a

    pub is_table_now : IsTable files meta_now ring table_now
    is_table_now = record {
      only_snapshots = λ id h. only_now id (eq_by_cmp int_cmp id tried.id) refl h;
      each_snapshot = λ id h. each_now id (name_cases id (snapshot_named id meta.state.snapshots) refl h);
      one_way = λ f g a b e. one_way_by f g (in_cases f a) (in_cases g b) e;
      own_keys = λ f g a b k p. own_keys_by f g (in_cases f a) (in_cases g b) k p;
    }

    pub prefixes_now : (f : Listed) → IsInTable files meta_now ring f → IsTrue (is_object_path f.prefix) → f.prefix ≡ f.path
    prefixes_now f h is = prefix_by f (in_cases f h) is

  -- the new id is in no table
  pub id_is_new : finite.get table tried.id ≡ None
  id_is_new = none_by (finite.get table tried.id) refl
    where
      none_by : (o : Option (List Row)) → finite.get table tried.id ≡ o → finite.get table tried.id ≡ None
      none_by None e = e
      none_by (Some rows) e = absurd (not_own tried.id (is_table.only_snapshots tried.id (is_some_of (finite.get table tried.id) rows e)) refl)
