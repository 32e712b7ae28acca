-- Tables of stores that grew, and the table of no snapshot.
use Rattle.std.specs.Prelude.{◌≡◌, ℤ, List, [], ◌∷◌, Option, Some, None, IsSome, IsSomeAnd, Ok}
use Rattle.std.specs.List.{AllByRecursion}
use Rattle.std.specs.FinMap as finite
use Rattle.std.specs.Ordering.{int_cmp}
use Rattle.icb_meta.specs.declared.records.Snapshot.{Snapshot}
use Rattle.std.proofs.Common.{ap, ◌∙◌, sym, subst}
use Rattle.icb_base.specs.Objects.{Grows, Objects}
use Rattle.icb_chain.specs.Ring.{Ring}
use Rattle.icb_meta.specs.Forms.{snapshot_named}
use Rattle.icb_meta.specs.declared.fields.Fields.{Fields}
use Rattle.icb_types.specs.declared.columns.Column.{Column}
use Rattle.icb_rows.specs.Records.{Row}
use Rattle.icb_table.specs.Contents.{plaintexts_in}
use Rattle.icb_table.specs.Laws.{EmptyStands, TableWhenGrown}
use Rattle.icb_table.specs.Listed.{Listed}
use Rattle.icb_table.specs.Snapshots.{columns_of}
use Rattle.icb_table.specs.Table.{AllBoundsHold, BoundsHold, HasRows, HasTree, IsInTable, IsTable, Table, contents_in}
use Rattle.icb_table.specs.Trace.{each_in}
use Rattle.icb_table.specs.Tree.{Contents, TreeFile, list, manifest, data_file, live_files, rows_in, tree_below}
use Rattle.icb_table.proofs.KnownLemmas.{plaintexts_grown}
use Rattle.icb_table.proofs.TraceLemmas.{behind_first, behind_second, each_extends}
use Rattle.icb_table.proofs.TreeLemmas.{ContentsExtend, contents_extend, rows_in_extends, whole_tree_stays}

-- ---- growth

-- what a store shows that grew extends what it showed
grown_contents : (before now : Objects) (meta : Fields) → Grows before now
    → ContentsExtend (contents_in meta before) (contents_in meta now)
grown_contents before now meta grows =
    contents_extend (columns_of meta) (plaintexts_in before) (plaintexts_in now) (plaintexts_grown before now grows)

tree_grown : (before now : Objects) (meta : Fields) (ring : Ring) (id : ℤ) (tree : List TreeFile)
    → Grows before now → HasTree before meta ring id tree → HasTree now meta ring id tree
tree_grown before now meta ring id tree grows h = record {
  list = h.list;
  is_list = h.is_list;
  is_tree = whole_tree_stays (columns_of meta) meta.heading.location h.list (plaintexts_in before)
      (plaintexts_in now) tree (plaintexts_grown before now grows) h.is_tree;
}

-- bounds that held of what was shown hold of what is
bounds_grown : (columns : List Column) (less more : Contents) → ContentsExtend less more
    → (tree : List TreeFile) → (each_in (rows_in less) tree).stop ≡ None
    → AllByRecursion (AllBoundsHold columns less) (live_files tree)
    → AllByRecursion (AllBoundsHold columns more) (live_files tree)
unfolding each_in
bounds_grown columns less more h [] e bounds = tt
bounds_grown columns less more h (list f ∷ files) e bounds =
    bounds_grown columns less more h files (behind_second [] None (each_in (rows_in less) files) e) bounds
bounds_grown columns less more h (manifest f ∷ files) e bounds =
    bounds_grown columns less more h files (behind_second [] None (each_in (rows_in less) files) e) bounds
bounds_grown columns less more h (data_file f ∷ files) e bounds =
    let stops = behind_first (less.data_rows f.listed).items (less.data_rows f.listed).stop (each_in (rows_in less) files) e in
    let same : more.data_rows f.listed ≡ less.data_rows f.listed = h.data_rows f.listed stops in (
      subst (λ t. AllByRecursion (BoundsHold f.file t.items) columns) (sym same) bounds.0,
      bounds_grown columns less more h files
          (behind_second (less.data_rows f.listed).items (less.data_rows f.listed).stop (each_in (rows_in less) files) e) bounds.1,
    )

rows_grown : (before now : Objects) (meta : Fields) (ring : Ring) (id : ℤ) (rows : List Row)
    → Grows before now → HasRows before meta ring id rows → HasRows now meta ring id rows
rows_grown before now meta ring id rows grows h =
    let more = grown_contents before now meta grows in
    let stops : (each_in (rows_in (contents_in meta before)) h.tree).stop ≡ None = ap (λ t. t.stop) h.are_rows in
    record {
      tree = h.tree;
      has_tree = tree_grown before now meta ring id h.tree grows h.has_tree;
      are_rows = each_extends (rows_in (contents_in meta before)) (rows_in (contents_in meta now))
          (rows_in_extends (contents_in meta before) (contents_in meta now) more) h.tree stops ∙ h.are_rows;
      bounds = bounds_grown (columns_of meta).kept (contents_in meta before) (contents_in meta now) more
          h.tree stops h.bounds;
    }

-- what holds of what is there
some_of : {A : Type 0} (o : Option A) (P : A → Type 0) → IsSomeAnd o P → (x : A) × P x
some_of None P h = absurd h
some_of (Some x) P h = (x, h)

some_more : {A : Type 0} (o : Option A) (P Q : A → Type 0) → ((x : A) → P x → Q x) → IsSomeAnd o P → IsSomeAnd o Q
some_more None P Q f h = h
some_more (Some x) P Q f h = f x h

-- one snapshot has one tree
tree_is : (files : Objects) (meta : Fields) (ring : Ring) (id : ℤ) (one two : List TreeFile)
    → HasTree files meta ring id one → HasTree files meta ring id two → one ≡ two
tree_is files meta ring id one two a b =
    let both : Ok a.list ≡ Ok b.list = sym a.is_list ∙ b.is_list in
    let same : a.list ≡ b.list = cc in
    ap (λ t. t.items) (sym a.is_tree
    ∙ ap (tree_below meta.heading.location (contents_in meta files)) same ∙ b.is_tree)

-- a file that is in a table since a store grew was in it before
was_in_table : (before now : Objects) (meta : Fields) (ring : Ring) (table : Table) (f : Listed)
    → Grows before now → IsTable before meta ring table → IsInTable now meta ring f
    → IsInTable before meta ring f
was_in_table before now meta ring table f grows h is_in =
    let had = some_of (finite.get table is_in.id) (HasRows before meta ring is_in.id)
    (h.each_snapshot is_in.id is_in.is_snapshot) in
    let then_tree = had.1.has_tree in
    let same : had.1.tree ≡ is_in.tree = tree_is now meta ring is_in.id had.1.tree is_in.tree
    (tree_grown before now meta ring is_in.id had.1.tree grows then_tree) is_in.has_tree in
    record {
      id = is_in.id;
      is_snapshot = is_in.is_snapshot;
      tree = is_in.tree;
      has_tree = subst (HasTree before meta ring is_in.id) same then_tree;
      is_in = is_in.is_in;
    }

pub table_when_grown : TableWhenGrown
table_when_grown before now meta ring table grows h = record {
  only_snapshots = h.only_snapshots;
  each_snapshot = λ id is. some_more (finite.get table id) (HasRows before meta ring id) (HasRows now meta ring id)
      (λ rows has. rows_grown before now meta ring id rows grows has) (h.each_snapshot id is);
  one_way = λ f g a b e. h.one_way f g (was_in_table before now meta ring table f grows h a)
      (was_in_table before now meta ring table g grows h b) e;
  own_keys = λ f g a b k p. h.own_keys f g (was_in_table before now meta ring table f grows h a)
      (was_in_table before now meta ring table g grows h b) k p;
}

-- ---- no snapshot

-- nothing is named among none
none_named : (snapshots : List Snapshot) (id : ℤ) → snapshots ≡ [] → IsSome (snapshot_named id snapshots) → ⊥
none_named [] id e h = absurd (let g : ⊥ = cc in g)
none_named (s ∷ snapshots) id e h = absurd (let g : ⊥ = cc in g)

pub empty_stands : EmptyStands
empty_stands files meta ring bytes json none last held shows = record {
  last = 1;
  is_last = last;
  current = record { bytes = bytes; held = held; json = json; shows = shows };
  is_table = record {
    only_snapshots = λ id is. let e : finite.get (finite.empty {X = List Row} {R = int_cmp}) id ≡ None =
        finite.get-empty int_cmp id in absurd (let g : ⊥ = cc in g);
    each_snapshot = λ id is. absurd (none_named meta.state.snapshots id none is);
    one_way = λ f g a b e. absurd (none_named meta.state.snapshots a.id none a.is_snapshot);
    own_keys = λ f g a b k p. absurd (none_named meta.state.snapshots a.id none a.is_snapshot);
  };
  own_prefixes = λ f is own. absurd (none_named meta.state.snapshots is.id none is.is_snapshot);
}
