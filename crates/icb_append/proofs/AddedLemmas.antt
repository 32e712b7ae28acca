-- The files below an append's own list that are its own, in the words of the version that it tried.
use Rattle.std.proofs.Common.{◌≡◌, ℕ, true, List, [], ◌∷◌, ◌++◌, map, Option, Some, None, refl, sym, ap, ◌∙◌, subst, inl, inr}
use Rattle.std.specs.Prelude.{◌⊎◌}
use Rattle.std.specs.List.{AllByRecursion, Contains}
use Rattle.std.proofs.lemmas.List.{append-nil}
use Rattle.std.proofs.lemmas.List.Elements.{All-contains, All-from_recursion, Contains-append_cases}
use Rattle.icb_base.specs.KeyMetadata.{KeyRecord}
use Rattle.icb_base.specs.Objects.{Objects}
use Rattle.icb_base.specs.Paths.{is_object_path}
use Rattle.icb_avro.specs.Writing.{Fits}
use Rattle.icb_schema.specs.Shape.{shape}
use Rattle.icb_list.specs.declared.row.ListRow.{ListRow}
use Rattle.icb_manifest.specs.Written.{entry_tree, entry_value}
use Rattle.icb_meta.specs.Answers.{shown_of}
use Rattle.icb_meta.specs.declared.fields.Layout.{Layout}
use Rattle.icb_rows.specs.Records.{row_from}
use Rattle.icb_types.specs.Columns.{AreColumns}
use Rattle.icb_types.specs.Fits.{FitsColumns}
use Rattle.icb_table.specs.Contents.{contents_of, plaintexts_in}
use Rattle.icb_table.specs.Listed.{Listed, listed}
use Rattle.icb_table.specs.Table.{AllBoundsHold, contents_in}
use Rattle.icb_table.specs.Trace.{each_in, numbered_from, then_read, whole}
use Rattle.icb_table.specs.Tree.{Contents, TreeFile, below_row, listed_as, live_files, rows_in}
use Rattle.icb_append.specs.Committing.{next_sequence}
use Rattle.icb_append.specs.Drafts.{columns_for, location_for}
use Rattle.icb_append.specs.Keeping.{HoldsDraft, draft_paths}
use Rattle.icb_append.specs.NewLists.{list_rows_of}
use Rattle.icb_append.specs.Paths.{manifest_path}
use Rattle.icb_append.specs.Records.{row_in}
use Rattle.icb_append.specs.declared.draft.Draft.{Draft}
use Rattle.icb_append.specs.declared.tried.Tried.{Tried}
use Rattle.icb_append.proofs.OwnLemmas.{all_given, data_below, data_bounded, data_objects, data_paths_are, data_prefixes, data_rows_are, own_below, row_below, shows}

-- the rows of a list behind the parent's
abbrev pub own_rows : Tried → Option ListRow → List ListRow
own_rows tried None = []
own_rows tried (Some row) = row_in row tried.id (next_sequence (shown_of tried.meta)) (shown_of tried.meta).state.next_row ∷ []

-- the list has the parent's rows and then these
pub rows_behind : (parent : List ListRow) (m : Option ListRow) (tried : Tried) → list_rows_of parent m tried ≡ parent ++ own_rows tried m
rows_behind parent None tried = sym (append-nil parent)
rows_behind parent (Some row) tried = refl

-- the first of a list, or one of the others
pub cons_cases : {A : Type 0} (x : A) (xs : List A) (y : A) → Contains (x ∷ xs) y → (x ≡ y) ⊎ Contains xs y
cons_cases x xs y h = elim (Contains-append_cases (x ∷ []) xs y h) [
  | inl first ↦ inl (alone x y first)
  | inr other ↦ inr other
]
  where
    alone : {A : Type 0} (x y : A) → Contains (x ∷ []) y → x ≡ y
    alone x y h = All-contains (λ z. x ≡ z) (x ∷ []) y (All-from_recursion (λ z. x ≡ z) (x ∷ []) (refl, tt)) h

module _ (files : Objects) (made tried : Tried) (draft : Draft) (place : location_for made ≡ location_for tried)
    (layout : (shown_of made.meta).layout ≡ (shown_of tried.meta).layout) where
  -- what the store shows
  abbrev pub shows_now : Contents
  shows_now = contents_in (shown_of tried.meta) files

  same_shows : shows files made draft ≡ shows_now
  same_shows = ap (λ (l : Layout). contents_of (record { kept = l.schema.columns; shown = l.schema.columns }) (plaintexts_in files)) layout

  same_columns : columns_for made ≡ columns_for tried
  same_columns = ap (λ (l : Layout). l.schema.columns) layout

  -- the append's own files but its list
  abbrev pub added : (m : Option ListRow) → HoldsDraft files made draft m → ℕ → List TreeFile
  added None h at = []
  added (Some row) h at = own_below files made draft row h at

  -- ---- the files below the own rows

  row_adds : (row : ListRow) (h : HoldsDraft files made draft (Some row)) (list : Listed) (at place_in : ℕ) (r : ListRow) → own_rows tried (Some row) ≡ r ∷ []
      → AllByRecursion (Fits (shape entry_tree)) (map entry_value draft.entries)
      → below_row (location_for tried) shows_now list (at, (place_in, r)) ≡ whole (added (Some row) h at)
  row_adds row h list at place_in r same fit =
      let is : row_in row tried.id (next_sequence (shown_of tried.meta)) (shown_of tried.meta).state.next_row ≡ r = cc in
      sym (ap (λ l. below_row l (shows files made draft) list (at, (place_in, r))) place ∙ ap (λ c. below_row (location_for tried) c list (at, (place_in, r))) same_shows)
      ∙ row_below files made draft row h list at place_in r (sym (ap (λ x. x.content) is)) (sym (ap (λ x. x.path) is)) (sym (ap (λ x. x.key) is)) fit

  pub rows_add : (m : Option ListRow) (h : HoldsDraft files made draft m) (list : Listed) (at : ℕ) (own : List (ℕ × ListRow)) → map (λ r. r.1) own ≡ own_rows tried m
      → AllByRecursion (Fits (shape entry_tree)) (map entry_value draft.entries)
      → each_in (below_row (location_for tried) shows_now list) (numbered_from at own) ≡ whole (added m h at)
  unfolding each_in numbered_from
  rows_add None h list at [] same fit = refl
  rows_add None h list at (x ∷ xs) same fit = absurd (let g : ⊥ = cc in g)
  rows_add (Some row) h list at [] same fit = absurd (let g : ⊥ = cc in g)
  rows_add (Some row) h list at (x ∷ y ∷ xs) same fit = absurd (let g : ⊥ = cc in g)
  rows_add (Some row) h list at (x ∷ []) same fit =
      ap (λ t. then_read t (whole [])) (row_adds row h list at x.0 x.1 (sym same) fit)
      ∙ ap (λ xs. whole xs) (append-nil (added (Some row) h at))

  -- ---- their rows

  pub added_rows : (m : Option ListRow) (h : HoldsDraft files made draft m) (at : ℕ) → AreColumns (columns_for made) → AllByRecursion (FitsColumns (columns_for made)) draft.rows
      → each_in (rows_in shows_now) (added m h at) ≡ whole (map (row_from (columns_for tried)) draft.rows)
  unfolding each_in
  added_rows None h at are fit = ap (λ rows. whole (map (row_from (columns_for tried)) rows)) (sym h)
  added_rows (Some row) h at are fit =
      let data_is = data_rows_are files made draft at 0 draft.entries h.data_files are fit in
      ap (then_read (whole []))
      (sym (ap (λ c. each_in (rows_in c) (data_below files made draft at 0 draft.entries h.data_files)) same_shows) ∙ data_is)
      ∙ ap (λ rows. whole (map (row_from (columns_for made)) rows)) (all_given files made draft h.all)
      ∙ ap (λ cs. whole (map (row_from cs) draft.rows)) same_columns

  pub added_bounded : (m : Option ListRow) (h : HoldsDraft files made draft m) (at : ℕ) → AreColumns (columns_for made) → AllByRecursion (FitsColumns (columns_for made)) draft.rows
      → AllByRecursion (AllBoundsHold (columns_for tried) shows_now) (live_files (added m h at))
  added_bounded None h at are fit = tt
  added_bounded (Some row) h at are fit =
      subst (λ c. AllByRecursion (AllBoundsHold (columns_for tried) c) (live_files (added (Some row) h at))) same_shows
      (subst (λ cs. AllByRecursion (AllBoundsHold cs (shows files made draft)) (live_files (added (Some row) h at))) same_columns
      (data_bounded files made draft at 0 draft.entries h.data_files are fit))

  -- ---- where they lie

  pub added_at : (m : Option ListRow) (h : HoldsDraft files made draft m) (at : ℕ) → map (λ f. (listed_as f).path) (added m h at) ≡ draft_paths draft m
  added_at None h at = refl
  added_at (Some row) h at = ap (λ ps. manifest_path draft.unique ∷ ps) (data_paths_are files made draft at 0 draft.entries h.data_files)

  pub added_prefixes : (m : Option ListRow) (h : HoldsDraft files made draft m) (at : ℕ) → AllByRecursion (λ f. (listed_as f).prefix ≡ (listed_as f).path) (added m h at)
  added_prefixes None h at = tt
  added_prefixes (Some row) h at = (
    prefix_is h.manifest.meta (manifest_path draft.unique) (ap (λ m. m.prefix) h.manifest.is_sealed.own),
    data_prefixes files made draft at 0 draft.entries h.data_files,
  )
    where
      prefix_is : (m : KeyRecord) (path : List ℕ) → m.prefix ≡ Some path → (listed path m 0).prefix ≡ path
      prefix_is m path e = rw e refl

  pub added_objects : (m : Option ListRow) (h : HoldsDraft files made draft m) (at : ℕ) → AllByRecursion (λ f. is_object_path (listed_as f).path ≡ true) (added m h at)
  added_objects None h at = tt
  added_objects (Some row) h at = (h.manifest.is_sealed.is_path, data_objects files made draft at 0 draft.entries h.data_files)
