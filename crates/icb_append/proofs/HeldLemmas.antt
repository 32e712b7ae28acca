-- The files that a table lists are held, and an append's progress stays as a store grows.
use Rattle.std.proofs.Common.{◌≡◌, ◌+◌, ℕ, ℤ, List, [], ◌∷◌, map, Option, Some, None, IsSome, Result, Ok, refl, sym, ap, ◌∙◌, subst, inl, inr}
use Rattle.std.specs.Prelude.{◌⊎◌}
use Rattle.std.specs.FinMap as finite
use Rattle.std.specs.List.{AllByRecursion, Contains}
use Rattle.std.proofs.lemmas.List.Elements.{All-contains, All-from_recursion}
use Rattle.icb_base.specs.KeyMetadata.{KeyRecord}
use Rattle.icb_base.specs.Objects.{Grows, Objects, object_at, with_object}
use Rattle.icb_base.proofs.LawLemmas.{put_grows}
use Rattle.icb_chain.specs.Ring.{Ring}
use Rattle.icb_list.specs.Rows.{list_row}
use Rattle.icb_list.specs.declared.row.ListRow.{ListRow}
use Rattle.icb_manifest.specs.Entries.{entry_of}
use Rattle.icb_meta.specs.Answers.{shown_of}
use Rattle.icb_meta.specs.declared.fields.Fields.{Fields}
use Rattle.icb_rows.specs.Records.{Row}
use Rattle.icb_stream.specs.Content.{plaintext}
use Rattle.icb_stream.specs.Layout.{Layout}
use Rattle.icb_stream.specs.declared.fault.StreamFault.{StreamFault}
use Rattle.icb_table.proofs.AllowedLemmas.{IsRead, tree_read}
use Rattle.icb_table.proofs.TableLemmas.{table_when_grown}
use Rattle.icb_table.proofs.VisitedLemmas.{AllRead, all_read}
use Rattle.icb_table.specs.Contents.{contents_of, of_object, opening_in, plaintexts_in, read_plain}
use Rattle.icb_table.specs.Listed.{Listed}
use Rattle.icb_table.specs.Records.{records_of}
use Rattle.icb_table.specs.Rows.{Columns, rows_of}
use Rattle.icb_table.proofs.TraceLemmas.{through_reads}
use Rattle.icb_table.specs.Snapshots.{Refused, columns_of, list_of}
use Rattle.icb_table.specs.Table.{HasRows, HasTree, IsInTable, IsTable, Table, contents_in}
use Rattle.icb_table.specs.Trace.{Trace, numbered, whole}
use Rattle.icb_table.specs.Tree.{TreeFile, below_row, list, listed_as, manifest, data_file, rows_in, tree_below}
use Rattle.icb_tree.specs.Versions.{version_path}
use Rattle.icb_turns.proofs.GrownLemmas.{tree_is, was_in_table}
use Rattle.icb_append.specs.Progress.{HasTable, HasTried, IsCommitting, IsFiled, IsFiling, IsNewest, IsWriting}
use Rattle.icb_append.specs.declared.draft.Draft.{Draft}
use Rattle.icb_append.specs.declared.tried.Tried.{Tried}
use Rattle.icb_append.proofs.AboveLemmas.{is_there}
use Rattle.icb_append.proofs.GrowthLemmas.{draft_kept, files_kept, list_kept, parent_kept}

-- ---- files of the table

-- what is read to its end has a plaintext
plain_there : {A : Type 0} (read : Listed → List ℕ → Trace A) (f : Listed) (plain : Option (List ℕ)) → (read_plain read f plain).stop ≡ None → IsSome plain
plain_there read f None e = absurd (let g : ⊥ = cc in g)
plain_there read f (Some bytes) e = refl

file_there : (files : Objects) (columns : Columns) (file : TreeFile) → IsRead (contents_of columns (plaintexts_in files)) file
    → (rows_in (contents_of columns (plaintexts_in files)) file).stop ≡ None → IsSome (plaintexts_in files (listed_as file))
file_there files columns (list f) a b = plain_there (records_of list_row) f (plaintexts_in files f) a
file_there files columns (manifest f) a b = plain_there (records_of entry_of) f (plaintexts_in files f) a
file_there files columns (data_file f) a b = plain_there (rows_of columns) f.listed (plaintexts_in files f.listed) b

all_there : (files : Objects) (columns : Columns) (tree : List TreeFile) → AllByRecursion (IsRead (contents_of columns (plaintexts_in files))) tree
    → AllRead (contents_of columns (plaintexts_in files)) tree → AllByRecursion (λ f. IsSome (plaintexts_in files f)) (map listed_as tree)
all_there files columns [] a b = tt
all_there files columns (file ∷ tree) a b = (file_there files columns file a.0 b.0, all_there files columns tree a.1 b.1)

object_there : (o : Option (List ℕ)) (r : Result Layout StreamFault) → IsSome (of_object plaintext o r) → IsSome o
object_there None r h = absurd (let g : ⊥ = cc in g)
object_there (Some bytes) r h = refl

-- a file that a table lists is held
pub listed_held : (files : Objects) (meta : Fields) (ring : Ring) (table : Table) (f : Listed) → IsTable files meta ring table → IsInTable files meta ring f → IsSome (object_at files f.path)
listed_held files meta ring table f is_table h =
    let had = is_there (finite.get table h.id) (HasRows files meta ring h.id) (is_table.each_snapshot h.id h.is_snapshot) in
    let has = had.holds in
    let same : has.tree ≡ h.tree = tree_is files meta ring h.id has.tree h.tree has.has_tree h.has_tree in
    let whole_tree = has.has_tree.is_tree in
    let read = tree_read (contents_in meta files) meta.heading.location has.has_tree.list (ap (λ (t : Trace TreeFile). t.stop) whole_tree) in
    let all = all_there files (columns_of meta) has.tree (subst (λ (t : Trace TreeFile). AllByRecursion (IsRead (contents_in meta files)) t.items) whole_tree read)
    (all_read (contents_in meta files) has.tree (ap (λ (t : Trace Row). t.stop) has.are_rows)) in
    let is_in : Contains (map listed_as has.tree) f = subst (λ t. Contains (map listed_as t) f) (sym same) h.is_in in
    object_there (object_at files f.path) (opening_in files f)
    (All-contains (λ g. IsSome (plaintexts_in files g)) (map listed_as has.tree) f (All-from_recursion (λ g. IsSome (plaintexts_in files g)) (map listed_as has.tree) all) is_in)

-- the list of a snapshot whose tree is whole has a plaintext
pub list_plain : (files : Objects) (meta : Fields) (ring : Ring) (id : ℤ) (f : Listed) (tree : List TreeFile) → HasTree files meta ring id tree → list_of meta ring id ≡ Ok f → IsSome (plaintexts_in files f)
unfolding tree_below
list_plain files meta ring id f tree h is =
    let same : h.list ≡ f = ok_is h.list f (sym h.is_list ∙ is) in
    let below : tree_below meta.heading.location (contents_in meta files) f ≡ whole tree = subst (λ l. tree_below meta.heading.location (contents_in meta files) l ≡ whole tree) same h.is_tree in
    let stops = ap (λ (t : Trace TreeFile). t.stop) below in
    plain_there (records_of list_row) f (plaintexts_in files f)
    (through_reads (below_row meta.heading.location (contents_in meta files) f) (numbered ((contents_in meta files).list_rows f)) stops)
  where
    ok_is : (a b : Listed) → ◌≡◌ {A = Result Listed Refused} (Ok a) (Ok b) → a ≡ b
    ok_is a b h = cc

no_some : (o : Option (List ℕ)) → IsSome o → o ≡ None → ⊥
no_some None h e = let g : ⊥ = cc in g
no_some (Some x) h e = let g : ⊥ = cc in g

-- ---- growth

module _ (before now : Objects) (grows : Grows before now) where
  pub newest_back : (tried : Tried) → IsNewest now tried → IsNewest before tried
  newest_back tried e = by_object (object_at before (version_path (tried.version + 1))) refl
    where
      by_object : (o : Option (List ℕ)) → object_at before (version_path (tried.version + 1)) ≡ o → IsNewest before tried
      by_object None is = is
      by_object (Some bytes) is =
          let held : object_at now (version_path (tried.version + 1)) ≡ Some bytes = grows.stays (version_path (tried.version + 1)) bytes is in
          absurd (no_some (object_at now (version_path (tried.version + 1))) (subst IsSome (sym held) refl) e)

  pub tried_kept : (ring : Ring) (tried : Tried) (draft : Draft) → HasTried before ring tried draft → HasTried now ring tried draft
  tried_kept ring tried draft h = record {
    is_tried = h.is_tried;
    shows = record {
      bytes = h.shows.bytes;
      held = grows.stays (version_path tried.version) h.shows.bytes h.shows.held;
      json = h.shows.json;
      shows = h.shows.shows;
    };
    fit = h.fit;
  }

  table_kept : (ring : Ring) (tried : Tried) (paths : List (List ℕ)) → HasTable before ring tried paths → HasTable now ring tried paths
  table_kept ring tried paths h = record {
    table = h.table;
    is_table = table_when_grown before now (shown_of tried.meta) ring h.table grows h.is_table;
    unlisted = λ f is_in at. h.unlisted f (was_in_table before now (shown_of tried.meta) ring h.table f grows h.is_table is_in) at;
  }

  pub filing_kept : (ring : Ring) (tried : Tried) (draft : Draft) → IsFiling before ring tried draft → IsFiling now ring tried draft
  filing_kept ring tried draft h = record {
    has_tried = tried_kept ring tried draft h.has_tried;
    data_files = files_kept before now grows tried draft 0 draft.entries h.data_files;
    distinct = h.distinct;
    newest = λ e. table_kept ring tried _ (h.newest (newest_back tried e));
  }

  pub filed_kept : (ring : Ring) (tried : Tried) (draft : Draft) (m : Option ListRow) → IsFiled before ring tried draft m → IsFiled now ring tried draft m
  filed_kept ring tried draft m h = record {
    has_tried = tried_kept ring tried draft h.has_tried;
    draft_held = draft_kept before now grows tried draft m h.draft_held;
    distinct = h.distinct;
    newest = λ e. table_kept ring tried _ (h.newest (newest_back tried e));
  }

  pub writing_kept : (ring : Ring) (tried : Tried) (draft : Draft) (m : Option ListRow) (parent : List ListRow) → IsWriting before ring tried draft m parent → IsWriting now ring tried draft m parent
  writing_kept ring tried draft m parent h = record {
    filed = filed_kept ring tried draft m h.filed;
    are_parent = λ e. parent_kept before now grows (shown_of tried.meta) ring _ parent (h.are_parent (newest_back tried e));
  }

  pub committing_kept : (ring : Ring) (tried : Tried) (draft : Draft) (m : Option ListRow) (attempt : ℕ) (own : KeyRecord)
      → IsCommitting before ring tried draft m attempt own → IsCommitting now ring tried draft m attempt own
  committing_kept ring tried draft m attempt own h = record {
    parent = h.parent;
    of_code = h.of_code;
    has_tried = tried_kept ring tried draft h.has_tried;
    draft_held = draft_kept before now grows tried draft m h.draft_held;
    list_held = list_kept before now grows tried draft.unique attempt _ own h.list_held;
    distinct = h.distinct;
    newest = λ e. table_kept ring tried _ (h.newest (newest_back tried e));
    are_parent = λ e. parent_kept before now grows (shown_of tried.meta) ring _ h.parent (h.are_parent (newest_back tried e));
  }

-- ---- a put at a path of one's own

-- behind a put no file is listed at the path at which none was held
pub table_put : (files : Objects) (ring : Ring) (tried : Tried) (path object : List ℕ) (paths more : List (List ℕ)) → object_at files path ≡ None
    → ((q : List ℕ) → Contains more q → (path ≡ q) ⊎ Contains paths q) → HasTable files ring tried paths → HasTable (with_object files path object) ring tried more
table_put files ring tried path object paths more free cases h =
    let grows = put_grows files path object free in
    record {
      table = h.table;
      is_table = table_when_grown files (with_object files path object) (shown_of tried.meta) ring h.table grows h.is_table;
      unlisted = λ f is_in at.
          let was = was_in_table files (with_object files path object) (shown_of tried.meta) ring h.table f grows h.is_table is_in in
          by_path f was (cases f.path at);
    }
  where
    by_path : (f : Listed) → IsInTable files (shown_of tried.meta) ring f → (path ≡ f.path) ⊎ Contains paths f.path → ⊥
    by_path f was (inl same) = no_some (object_at files f.path) (listed_held files (shown_of tried.meta) ring h.table f h.is_table was) (subst (λ p. object_at files p ≡ None) same free)
    by_path f was (inr other) = h.unlisted f was other
