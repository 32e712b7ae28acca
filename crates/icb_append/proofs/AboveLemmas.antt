-- The tree of an append's snapshot: the parent's files, and then the append's own.
use Rattle.std.proofs.Common.{◌≡◌, ℕ, ℤ, List, [], ◌∷◌, ◌++◌, length, map, Option, Some, None, IsSome, Result, Ok, refl, sym, ap, ◌∙◌, subst, arith}
use Rattle.std.specs.Prelude.{IsSomeAnd, unwrap_or}
use Rattle.std.specs.FinMap as finite
use Rattle.std.specs.List.{AllByRecursion, Contains}
use Rattle.std.proofs.lemmas.List.{append-nil}
use Rattle.std.proofs.lemmas.List.Elements.{All-contains, All-from_recursion, Contains-append_right, filter_map-append}
use Rattle.icb_base.specs.KeyMetadata.{KeyRecord}
use Rattle.icb_base.specs.Objects.{Objects}
use Rattle.icb_chain.specs.Ring.{Ring}
use Rattle.icb_list.specs.Laws.{IsRow}
use Rattle.icb_list.specs.Written.{written_list}
use Rattle.icb_list.specs.declared.row.ListRow.{ListRow}
use Rattle.icb_meta.proofs.SchemaLemmas.{current_columns}
use Rattle.icb_meta.specs.Answers.{json_of, shown_of}
use Rattle.icb_meta.specs.Forms.{snapshot_named}
use Rattle.icb_meta.specs.declared.fields.Fields.{Fields}
use Rattle.icb_meta.specs.declared.records.Snapshot.{Snapshot}
use Rattle.icb_rows.specs.Records.{Row, row_from}
use Rattle.icb_types.specs.Columns.{AreColumns}
use Rattle.icb_table.specs.Listed.{Listed, listed}
use Rattle.icb_table.specs.Snapshots.{◌>>=◌, Refused, list_of, no_snapshot, or_refused}
use Rattle.icb_table.specs.Table.{AllBoundsHold, HasRows, IsInTable, IsTable, Table, rows_asked}
use Rattle.icb_table.specs.Trace.{Trace, each_in, ended, numbered_from, one, then_read, whole}
use Rattle.icb_table.specs.Tree.{Contents, TreeFile, below_row, listed_as, live, live_files, rows_in, tree_below}
use Rattle.icb_table.specs.Tree as tree
use Rattle.icb_written.specs.Laws.{ShowsAll}
use Rattle.icb_written.proofs.RecordLemmas.{each_append}
use Rattle.icb_written.proofs.ShownLemmas.{written_list_rows_show}
use Rattle.icb_append.specs.Drafts.{columns_for, location_for, settings_for}
use Rattle.icb_append.specs.Keeping.{AreParentRows, HasValues, HoldsAppend, HoldsDraft}
use Rattle.icb_append.specs.NewLists.{list_rows_of, path_of_list}
use Rattle.icb_append.specs.declared.draft.Draft.{Draft}
use Rattle.icb_append.specs.declared.tried.Tried.{Tried}
use Rattle.icb_append.proofs.AddedLemmas.{added, added_bounded, added_rows, own_rows, rows_add, rows_behind, shows_now}
use Rattle.icb_append.proofs.ReadRowLemmas.{all_append, parent_rows_are}
use Rattle.icb_append.proofs.SealedLemmas.{short_of}
use Rattle.icb_append.proofs.TreeLemmas.{tree_more}

-- what is there, and what holds of it
pub record IsThere {A : Type 0} (o : Option A) (P : A → Type 0) : Type 0 where
  pub value : A
  pub is : o ≡ Some value
  pub holds : P value

pub is_there : {A : Type 0} (o : Option A) (P : A → Type 0) → IsSomeAnd o P → IsThere o P
is_there None P h = absurd h
is_there (Some x) P h = record { value = x; is = refl; holds = h }

-- a trace that isn't stopped is whole
not_stopped : {A : Type 0} (t : Trace A) → t.stop ≡ None → t ≡ whole t.items
not_stopped t e = ap (λ s. record { items = t.items; stop = s }) e

-- ---- snapshots with lists

is_named : (id : ℤ) (o : Option Snapshot) (rest : Snapshot → Result Listed Refused) (f : Listed) → (or_refused (no_snapshot id) o >>= rest) ≡ Ok f → IsSome o
is_named id None rest f h = absurd (let g : ⊥ = cc in g)
is_named id (Some s) rest f h = refl

-- a snapshot whose list opens is there
pub named_of_list : (meta : Fields) (ring : Ring) (id : ℤ) (f : Listed) → list_of meta ring id ≡ Ok f → IsSome (snapshot_named id meta.state.snapshots)
unfolding list_of
named_of_list meta ring id f h = is_named id (snapshot_named id meta.state.snapshots) _ f h

ok_is : (x y : Listed) → ◌≡◌ {A = Result Listed Refused} (Ok x) (Ok y) → x ≡ y
ok_is x y h = cc

-- a tree begins with its list
record Begins (list : Listed) (files : List TreeFile) : Type 0 where
  rest : List TreeFile
  is : files ≡ tree.list list ∷ rest

tree_begins : (location : List ℕ) (c : Contents) (list : Listed) (files : List TreeFile) → tree_below location c list ≡ whole files → Begins list files
unfolding tree_below
tree_begins location c list files h = record { rest = _; is = sym (ap (λ t. t.items) h) }

-- a list has no rows of its own
rows_behind_list : (c : Contents) (list : Listed) (files : List TreeFile) (rows : List Row) → each_in (rows_in c) (tree.list list ∷ files) ≡ whole rows → each_in (rows_in c) files ≡ whole rows
unfolding each_in
rows_behind_list c list files rows h = h

-- the files below a list whose rows are the own ones alone
tree_alone : (location : List ℕ) (c : Contents) (list : Listed) (own : List (ℕ × ListRow)) (files : List TreeFile) → c.list_rows list ≡ whole own
    → each_in (below_row location c list) (numbered_from 0 own) ≡ whole files → tree_below location c list ≡ whole (tree.list list ∷ files)
unfolding tree_below
tree_alone location c list own files read below =
    ap (λ t. then_read (one (tree.list list)) (then_read (each_in (below_row location c list) (numbered_from 0 t.items)) (ended t.stop))) read
    ∙ ap (λ t. then_read (one (tree.list list)) (then_read t (ended None))) below
    ∙ ap (λ xs. whole (tree.list list ∷ xs)) (append-nil files)

-- ---- rows of the new list

own_row_is : (files : Objects) (made tried : Tried) (draft : Draft) (m : Option ListRow) → HoldsDraft files made draft m → AllByRecursion IsRow (own_rows tried m)
own_row_is files made tried draft None h = tt
own_row_is files made tried draft (Some row) h = (
  record {
    kind = 0;
    content = ap (λ x. x.content) h.manifest.is_row;
    known = omega arith;
    files = ap (λ x. length x.files) h.manifest.is_row;
    rows = ap (λ x. length x.rows) h.manifest.is_row;
  },
  tt,
)

module _ (files : Objects) (ring : Ring) (table : Table) (made tried : Tried) (draft : Draft) (manifest : Option ListRow) (parent : List ListRow) (attempt : ℕ) (list : KeyRecord)
    (held : HoldsAppend files ring made tried draft manifest parent attempt list) (values : HasValues made tried draft manifest parent attempt)
    (is_table : IsTable files (shown_of tried.meta) ring table) where
  abbrev meta : Fields
  meta = shown_of tried.meta

  columns_are : AreColumns (columns_for made)
  columns_are = current_columns (json_of made.meta) (shown_of made.meta) made.meta.shown

  abbrev now : Contents
  now = shows_now files made tried draft held.same_place held.same_layout

  -- how the append's own list is listed
  abbrev pub own_list : Listed
  own_list = listed (path_of_list draft.unique tried attempt) list (length held.list_held.object)

  abbrev pub own_added : ℕ → List TreeFile
  own_added at = added files made tried draft held.same_place held.same_layout manifest held.draft_held at

  list_shows : ShowsAll (now.list_rows own_list) (list_rows_of parent manifest tried)
  list_shows =
      let l = held.list_held in
      let rows : AllByRecursion IsRow (list_rows_of parent manifest tried) = subst (AllByRecursion IsRow) (sym (rows_behind parent manifest tried))
      (all_append IsRow parent (own_rows tried manifest) (parent_rows_are files meta ring meta.state.current parent held.are_parent) (own_row_is files made tried draft manifest held.draft_held)) in
      written_list_rows_show meta files list (path_of_list draft.unique tried attempt) l.marker l.object (settings_for tried).block (list_rows_of parent manifest tried)
      rows values.list_rows l.fresh.marker_length (short_of written_list (list_rows_of parent manifest tried) l.marker l.may) l.is_sealed.stream l.held

  news_are : map (λ r. r.1) (now.list_rows own_list).items ≡ parent ++ own_rows tried manifest
  news_are = list_shows.same ∙ rows_behind parent manifest tried

  own_below_list : (at : ℕ) (own : List (ℕ × ListRow)) → map (λ r. r.1) own ≡ own_rows tried manifest
      → each_in (below_row (location_for tried) now own_list) (numbered_from at own) ≡ whole (own_added at)
  own_below_list at own same = rows_add files made tried draft held.same_place held.same_layout manifest held.draft_held own_list at own same values.entries

  -- the tree of the new snapshot: the own list, the files of the parent with this one current, and
  -- the own files
  pub record NewTree (current : Option ℤ) : Type 0 where
    pub at : ℕ
    pub before : List TreeFile
    pub is_tree : tree_below (location_for tried) now own_list ≡ whole (tree.list own_list ∷ (before ++ own_added at))
    pub are_rows : each_in (rows_in now) before ≡ whole (rows_asked table current)
    pub bounds : AllByRecursion (AllBoundsHold (columns_for tried) now) (live_files before)
    pub were : (f : Listed) → Contains (map listed_as before) f → IsInTable files meta ring f

  none_before : (f : Listed) → Contains (map listed_as []) f → ⊥
  none_before f h = All-contains (λ _. ⊥) [] f (All-from_recursion (λ _. ⊥) [] tt) h

  -- behind a parent
  behind_parent : (id : ℤ) (was : Listed) → list_of meta ring id ≡ Ok was → ShowsAll (now.list_rows was) parent
      → IsThere (finite.get table id) (HasRows files meta ring id) → NewTree (Some id)
  unfolding each_in
  behind_parent id was opens shown has =
      let tree_list : has.holds.has_tree.list ≡ was = ok_is has.holds.has_tree.list was (sym has.holds.has_tree.is_list ∙ opens) in
      let below : tree_below (location_for tried) now was ≡ whole has.holds.tree = subst (λ l. tree_below (location_for tried) now l ≡ whole has.holds.tree) tree_list has.holds.has_tree.is_tree in
      let begins = tree_begins (location_for tried) now was has.holds.tree below in
      let rows : each_in (rows_in now) (tree.list was ∷ begins.rest) ≡ whole has.value = subst (λ t. each_in (rows_in now) t ≡ whole has.value) begins.is has.holds.are_rows in
      record {
        at = length (now.list_rows was).items;
        before = begins.rest;
        is_tree = tree_more (location_for tried) now was own_list (now.list_rows was).items (now.list_rows own_list).items (own_rows tried manifest) begins.rest
            (own_added (length (now.list_rows was).items)) (not_stopped (now.list_rows was) shown.all) (not_stopped (now.list_rows own_list) list_shows.all)
            (news_are ∙ ap (λ p. p ++ own_rows tried manifest) (sym shown.same)) (below ∙ ap (λ t. whole t) begins.is)
            (λ own same. own_below_list (length (now.list_rows was).items) own same);
        are_rows = rows_behind_list now was begins.rest has.value rows ∙ ap (λ o. whole (unwrap_or o [])) (sym has.is);
        bounds = subst (λ t. AllByRecursion (AllBoundsHold (columns_for tried) now) (live_files t)) begins.is has.holds.bounds;
        were = λ f is_in. record {
          id = id;
          is_snapshot = named_of_list meta ring id was opens;
          tree = has.holds.tree;
          has_tree = has.holds.has_tree;
          is_in = subst (λ t. Contains (map listed_as t) f) (sym begins.is) (Contains-append_right (was ∷ []) (map listed_as begins.rest) f is_in);
        };
      }

  tree_by : (current : Option ℤ) → AreParentRows files meta ring current parent → NewTree current
  unfolding each_in
  tree_by None none =
      let own : map (λ r. r.1) (now.list_rows own_list).items ≡ own_rows tried manifest = news_are ∙ ap (λ p. p ++ own_rows tried manifest) none in
      record {
        at = 0;
        before = [];
        is_tree = tree_alone (location_for tried) now own_list (now.list_rows own_list).items (own_added 0) (not_stopped (now.list_rows own_list) list_shows.all)
            (own_below_list 0 (now.list_rows own_list).items own);
        are_rows = refl;
        bounds = tt;
        were = λ f is_in. absurd (none_before f is_in);
      }
  tree_by (Some id) p = behind_parent id p.0 p.1 p.2 (is_there (finite.get table id) (HasRows files meta ring id)
      (is_table.each_snapshot id (named_of_list meta ring id p.0 p.1)))

  pub new_tree : NewTree meta.state.current
  new_tree = tree_by meta.state.current held.are_parent

  -- ---- its rows

  pub new_rows : each_in (rows_in now) (tree.list own_list ∷ (new_tree.before ++ own_added new_tree.at))
      ≡ whole (rows_asked table meta.state.current ++ map (row_from (columns_for tried)) draft.rows)
  unfolding each_in
  new_rows =
      ap (then_read (whole []))
      (each_append (rows_in now) new_tree.before (own_added new_tree.at)
      ∙ ap (λ t. then_read t (each_in (rows_in now) (own_added new_tree.at))) new_tree.are_rows
      ∙ ap (then_read (whole (rows_asked table meta.state.current)))
      (added_rows files made tried draft held.same_place held.same_layout manifest held.draft_held new_tree.at columns_are values.rows))

  pub new_bounds : AllByRecursion (AllBoundsHold (columns_for tried) now) (live_files (tree.list own_list ∷ (new_tree.before ++ own_added new_tree.at)))
  new_bounds = subst (AllByRecursion (AllBoundsHold (columns_for tried) now)) (sym (filter_map-append live new_tree.before (own_added new_tree.at)))
      (all_append (AllBoundsHold (columns_for tried) now) (live_files new_tree.before) (live_files (own_added new_tree.at)) new_tree.bounds
      (added_bounded files made tried draft held.same_place held.same_layout manifest held.draft_held new_tree.at columns_are values.rows))
