-- The own files of an append: how they are listed, the files below their manifest, and their rows.
use Rattle.std.proofs.Common.{◌≡◌, ◌≤◌, ◌+◌, ◌*◌, ℕ, zero, suc, pos, true, false, List, [], ◌∷◌, ◌++◌, length, map, take, drop, Some, None, Ok, if◌then◌else◌, refl, sym, ap, ◌∙◌, subst, arith, append_assoc}
use Rattle.std.specs.Prelude.{codes, nat_le}
use Rattle.std.specs.List.{AllByRecursion}
use Rattle.std.proofs.lemmas.Bool.{and_parts, leb-true}
use Rattle.std.proofs.lemmas.List.{append-nil, drop-drop, map-append}
use Rattle.icb_base.specs.KeyMetadata.{KeyRecord}
use Rattle.icb_base.specs.Objects.{Objects}
use Rattle.icb_base.specs.Paths.{is_object_path}
use Rattle.icb_avro.specs.Writing.{Fits}
use Rattle.icb_schema.specs.Shape.{shape}
use Rattle.icb_schema.specs.Printing.{text_of}
use Rattle.icb_container.specs.Header.{max_header}
use Rattle.icb_container.specs.Written.{properties_of, written_header}
use Rattle.icb_keymeta.specs.Encoded.{encoded}
use Rattle.icb_list.specs.declared.row.ListRow.{ListRow}
use Rattle.icb_manifest.specs.Laws.{IsEntry}
use Rattle.icb_manifest.specs.Written.{entry_tree, entry_value, written_manifest}
use Rattle.icb_manifest.specs.declared.entry.Entry.{Entry}
use Rattle.icb_manifest.specs.declared.file.DataFile.{DataFile}
use Rattle.icb_meta.specs.Answers.{shown_of}
use Rattle.icb_rows.specs.Data.{data_file}
use Rattle.icb_rows.specs.Records.{row_from}
use Rattle.icb_rows.specs.Rows.{IsHeaded}
use Rattle.icb_types.specs.Columns.{AreColumns}
use Rattle.icb_types.specs.Fits.{FitsColumns}
use Rattle.icb_types.specs.Table.{table_tree}
use Rattle.icb_types.specs.declared.columns.Column.{Column}
use Rattle.icb_types.specs.declared.datum.Datum.{Datum}
use Rattle.icb_table.specs.Listed.{Listed, listed}
use Rattle.icb_table.specs.Table.{AllBoundsHold, BoundsHold, contents_in}
use Rattle.icb_table.specs.Tests.{data_file_of, is_deleted, is_passed, manifest_of}
use Rattle.icb_table.specs.Trace.{Trace, each_in, ended, one, then_read, whole}
use Rattle.icb_table.specs.Tree.{Contents, LiveFile, TreeFile, below_entry, below_manifest, below_row, file_in, listed_as, live_files, rows_in}
use Rattle.icb_table.specs.Tree as tree
use Rattle.icb_written.specs.Laws.{ShowsAll}
use Rattle.icb_written.proofs.BoundLemmas.{written_bounds_hold}
use Rattle.icb_written.proofs.ListedLemmas.{written_file_is_listed, written_manifest_is_listed}
use Rattle.icb_written.proofs.PlainLemmas.{sealed_rows_are_read}
use Rattle.icb_written.proofs.ShownLemmas.{written_entries_show}
use Rattle.icb_append.specs.Drafts.{columns_for, holds_all, location_for, settings_for}
use Rattle.icb_append.specs.Keeping.{HoldsAll, HoldsFile, HoldsFiles, data_paths, file_rows}
use Rattle.icb_append.specs.Paths.{data_path, manifest_path}
use Rattle.icb_append.specs.Records.{added_entry}
use Rattle.icb_append.specs.declared.draft.Draft.{Draft}
use Rattle.icb_append.specs.declared.tried.Tried.{Tried}
use Rattle.icb_append.proofs.SealedLemmas.{own_key_read, short_of}

-- ---- rows in files

abbrev none_of : (A : Type 0) → List A
none_of A = []

take_none : {A : Type 0} (n : ℕ) → take n (none_of A) ≡ none_of A
take_none zero = refl
take_none (suc n) = refl

take_more : {A : Type 0} (a b : ℕ) (xs : List A) → take a xs ++ take b (drop a xs) ≡ take (a + b) xs
take_more zero b xs = ap (λ n. take n xs) (omega arith)
take_more (suc a) b [] = take_none b ∙ sym (take_none (suc a + b))
take_more (suc a) b (x ∷ xs) =
    let all : suc (a + b) ≡ suc a + b = omega arith in
    ap (λ ys. x ∷ ys) (take_more a b xs) ∙ ap (λ n. take n (x ∷ xs)) all

take_all : {A : Type 0} (n : ℕ) (xs : List A) → length xs ≤ n → take n xs ≡ xs
take_all zero [] h = refl
take_all zero (x ∷ xs) h = absurd (let g : ⊥ = omega (arith, h) in g)
take_all (suc n) [] h = refl
take_all (suc n) (x ∷ xs) h = ap (λ ys. x ∷ ys) (take_all n xs (omega (arith, h)))

-- what holds of each holds of each that is taken or left
pub all_taken : {A : Type 0} (P : A → Type 0) (n : ℕ) (xs : List A) → AllByRecursion P xs → AllByRecursion P (take n xs)
all_taken P zero xs all = tt
all_taken P (suc n) [] all = tt
all_taken P (suc n) (x ∷ xs) all = (all.0, all_taken P n xs all.1)

pub all_dropped : {A : Type 0} (P : A → Type 0) (n : ℕ) (xs : List A) → AllByRecursion P xs → AllByRecursion P (drop n xs)
all_dropped P zero xs all = all
all_dropped P (suc n) [] all = tt
all_dropped P (suc n) (x ∷ xs) all = all_dropped P n xs all.1

-- an added file's entry is one
entry_is : (e : Entry) (file : DataFile) → e ≡ added_entry file → IsEntry e
entry_is e file is = record { kind = 1; status = ap (λ x. x.status) is; known = omega arith }

module _ (files : Objects) (made : Tried) (draft : Draft) where
  abbrev columns : List Column
  columns = columns_for made

  abbrev location : List ℕ
  location = location_for made

  -- what the store shows
  abbrev pub shows : Contents
  shows = contents_in (shown_of made.meta) files

  -- ---- the rows of all files

  -- the rows of the data files of entries, the first of which has this number
  abbrev pub given_from : ℕ → List Entry → List (List Datum)
  given_from number [] = []
  given_from number (e ∷ es) = file_rows made draft number ++ given_from (suc number) es

  given_is : (number : ℕ) (es : List Entry) → given_from number es ≡ take ((settings_for made).rows * length es) (drop ((settings_for made).rows * number) draft.rows)
  given_is number [] =
      let none : (settings_for made).rows * 0 ≡ 0 = omega arith in
      sym (ap (λ n. take n (drop ((settings_for made).rows * number) draft.rows)) none)
  given_is number (e ∷ es) =
      let size : ℕ = (settings_for made).rows in
      let next : size * suc number ≡ size * number + size = omega arith in
      let all : size + size * length es ≡ size * suc (length es) = omega arith in
      let rest : given_from (suc number) es ≡ take (size * length es) (drop size (drop (size * number) draft.rows)) =
      given_is (suc number) es ∙ ap (λ n. take (size * length es) (drop n draft.rows)) next
      ∙ ap (take (size * length es)) (sym (drop-drop size (size * number) draft.rows)) in
      ap (λ rows. file_rows made draft number ++ rows) rest
      ∙ take_more size (size * length es) (drop (size * number) draft.rows)
      ∙ ap (λ n. take n (drop (size * number) draft.rows)) all

  -- all rows are in the files
  pub all_given : holds_all (settings_for made).rows draft.rows (length draft.entries) ≡ true → given_from 0 draft.entries ≡ draft.rows
  all_given h =
      let none : (settings_for made).rows * 0 ≡ 0 = omega arith in
      given_is 0 draft.entries ∙ ap (λ n. take ((settings_for made).rows * length draft.entries) (drop n draft.rows)) none
      ∙ take_all ((settings_for made).rows * length draft.entries) draft.rows (leb-true _ _ h)

  -- ---- one data file

  -- how it is listed
  abbrev pub listing : (number : ℕ) (e : Entry) → HoldsFile files made draft number e → Listed
  listing number e h = listed (data_path draft.unique number) h.meta (length h.object)

  -- as a file of a tree, below the row of this position
  abbrev pub live_file : ℕ → (number : ℕ) (e : Entry) → HoldsFile files made draft number e → LiveFile
  live_file row number e h = record { listed = listing number e h; file = e.file; row = row }

  pub told : (number : ℕ) (e : Entry) (h : HoldsFile files made draft number e) → h.meta.length_told ≡ Some (length h.object)
  told number e h = ap (λ m. m.length_told) h.is_object.own

  not_deleted : (parent : Listed) (row : ℕ) (e : Entry) (f : DataFile) (t : Trace TreeFile) → e ≡ added_entry f → (if is_deleted e then whole [] else t) ≡ t
  not_deleted parent row e f t is = let kept : is_deleted e ≡ false = ap is_deleted is in rw kept refl

  -- its entry adds it
  file_below : (parent : Listed) (row place number : ℕ) (e : Entry) (h : HoldsFile files made draft number e)
      → below_entry location parent row (place, e) ≡ one (tree.data_file (live_file row number e h))
  file_below parent row place number e h =
      let key = own_key_read (settings_for made).key h.key h.marker (data_path draft.unique number) h.object _ h.meta _ h.fresh h.is_object.is_path h.is_object.own h.is_object.stream in
      let named : data_file_of location place e.file ≡ Ok (listing number e h) = written_file_is_listed location (data_path draft.unique number) place (length h.object) e.file h.meta (encoded h.meta) h.is_object.is_path
      (ap (λ x. x.file.content) h.is_entry) (ap (λ x. x.file.format) h.is_entry)
      (ap (λ x. x.file.path) h.is_entry ∙ sym (append_assoc location (codes "/") (data_path draft.unique number)))
      (ap (λ x. x.file.key) h.is_entry) key (told number e h) in
      not_deleted parent row e _ (file_in parent row e.file (data_file_of location place e.file)) h.is_entry
      ∙ ap (file_in parent row e.file) named

  -- its rows fit the columns
  rows_fit : (number : ℕ) → AllByRecursion (FitsColumns columns) draft.rows → AllByRecursion (FitsColumns columns) (file_rows made draft number)
  rows_fit number fit = all_taken (FitsColumns columns) (settings_for made).rows _ (all_dropped (FitsColumns columns) _ draft.rows fit)

  headed : (number : ℕ) (e : Entry) (h : HoldsFile files made draft number e) → AllByRecursion (FitsColumns columns) draft.rows
      → IsHeaded columns (file_rows made draft number) h.marker
  headed number e h fit =
      let header : List ℕ = written_header (properties_of (text_of (table_tree columns)) []) h.marker in
      let p = and_parts (nat_le (length (data_file columns [] (settings_for made).avro h.marker)) max_header) _ h.may in
      record {
        fit = rows_fit number fit;
        header = subst (λ (x : List ℕ). length x ≤ max_header) (append-nil header) (leb-true _ _ p.0);
      }

  -- they are what the store shows of it
  pub file_shows : (number : ℕ) (e : Entry) (h : HoldsFile files made draft number e) → AreColumns columns → AllByRecursion (FitsColumns columns) draft.rows
      → shows.data_rows (listing number e h) ≡ whole (map (row_from columns) (file_rows made draft number))
  file_shows number e h are fit = sealed_rows_are_read (shown_of made.meta) files h.meta (data_path draft.unique number) _ h.object _ (file_rows made draft number)
      are (rows_fit number fit) (h.is_object.holds (headed number e h fit)) h.is_object.stream h.held

  -- and its record bounds them
  pub file_bounded : (row number : ℕ) (e : Entry) (h : HoldsFile files made draft number e) → AreColumns columns → AllByRecursion (FitsColumns columns) draft.rows
      → AllBoundsHold columns shows (live_file row number e h)
  file_bounded row number e h are fit =
      subst (λ t. AllByRecursion (BoundsHold e.file t.items) columns) (sym (file_shows number e h are fit))
      (written_bounds_hold columns (file_rows made draft number) e.file are (h.is_object.are_rows (rows_fit number fit))
      (ap (λ x. x.file.lower) h.is_entry) (ap (λ x. x.file.upper) h.is_entry))

  -- ---- all data files

  -- the data files of entries as files of a tree
  abbrev pub data_below : ℕ → (number : ℕ) (es : List Entry) → HoldsFiles files made draft number es → List TreeFile
  data_below row number [] h = []
  data_below row number (e ∷ es) h = tree.data_file (live_file row number e h.0) ∷ data_below row (suc number) es h.1

  entries_below : (parent : Listed) (row number : ℕ) (xs : List (ℕ × Entry)) (es : List Entry) (h : HoldsFiles files made draft number es) → map (λ x. x.1) xs ≡ es
      → each_in (below_entry location parent row) xs ≡ whole (data_below row number es h)
  unfolding each_in
  entries_below parent row number [] [] h same = refl
  entries_below parent row number [] (e ∷ es) h same = absurd (let g : ⊥ = cc in g)
  entries_below parent row number (x ∷ xs) [] h same = absurd (let g : ⊥ = cc in g)
  entries_below parent row number (x ∷ xs) (e ∷ es) h same =
      let here : x.1 ≡ e = cc in
      let later : map (λ y. y.1) xs ≡ es = cc in
      let one_is : below_entry location parent row x ≡ one (tree.data_file (live_file row number e h.0)) =
      ap (λ y. below_entry location parent row (x.0, y)) here ∙ file_below parent row x.0 number e h.0 in
      ap (λ t. then_read t (each_in (below_entry location parent row) xs)) one_is
      ∙ ap (then_read (one (tree.data_file (live_file row number e h.0)))) (entries_below parent row (suc number) xs es h.1 later)

  pub data_rows_are : (row number : ℕ) (es : List Entry) (h : HoldsFiles files made draft number es) → AreColumns columns → AllByRecursion (FitsColumns columns) draft.rows
      → each_in (rows_in shows) (data_below row number es h) ≡ whole (map (row_from columns) (given_from number es))
  unfolding each_in
  data_rows_are row number [] h are fit = refl
  data_rows_are row number (e ∷ es) h are fit =
      ap (λ t. then_read t (each_in (rows_in shows) (data_below row (suc number) es h.1))) (file_shows number e h.0 are fit)
      ∙ ap (then_read (whole (map (row_from columns) (file_rows made draft number)))) (data_rows_are row (suc number) es h.1 are fit)
      ∙ ap (λ rows. whole rows) (sym (map-append (row_from columns) (file_rows made draft number) (given_from (suc number) es)))

  pub data_bounded : (row number : ℕ) (es : List Entry) (h : HoldsFiles files made draft number es) → AreColumns columns → AllByRecursion (FitsColumns columns) draft.rows
      → AllByRecursion (AllBoundsHold columns shows) (live_files (data_below row number es h))
  data_bounded row number [] h are fit = tt
  data_bounded row number (e ∷ es) h are fit = (file_bounded row number e h.0 are fit, data_bounded row (suc number) es h.1 are fit)

  -- they lie at their paths, with these as prefixes
  pub data_paths_are : (row number : ℕ) (es : List Entry) (h : HoldsFiles files made draft number es)
      → map (λ f. (listed_as f).path) (data_below row number es h) ≡ data_paths draft.unique number es
  data_paths_are row number [] h = refl
  data_paths_are row number (e ∷ es) h = ap (λ ps. data_path draft.unique number ∷ ps) (data_paths_are row (suc number) es h.1)

  pub data_prefixes : (row number : ℕ) (es : List Entry) (h : HoldsFiles files made draft number es)
      → AllByRecursion (λ f. (listed_as f).prefix ≡ (listed_as f).path) (data_below row number es h)
  data_prefixes row number [] h = tt
  data_prefixes row number (e ∷ es) h = (prefix_is h.0.meta (data_path draft.unique number) (ap (λ m. m.prefix) h.0.is_object.own), data_prefixes row (suc number) es h.1)
    where
      prefix_is : (m : KeyRecord) (path : List ℕ) → m.prefix ≡ Some path → (listed path m 0).prefix ≡ path
      prefix_is m path e = rw e refl

  pub data_objects : (row number : ℕ) (es : List Entry) (h : HoldsFiles files made draft number es)
      → AllByRecursion (λ f. is_object_path (listed_as f).path ≡ true) (data_below row number es h)
  data_objects row number [] h = tt
  data_objects row number (e ∷ es) h = (h.0.is_object.is_path, data_objects row (suc number) es h.1)

  entries_are : (number : ℕ) (es : List Entry) → HoldsFiles files made draft number es → AllByRecursion IsEntry es
  entries_are number [] h = tt
  entries_are number (e ∷ es) h = (entry_is e _ h.0.is_entry, entries_are (suc number) es h.1)

  -- ---- the manifest

  module _ (row : ListRow) (h : HoldsAll files made draft row) where
    abbrev pub manifest_listing : Listed
    manifest_listing = listed (manifest_path draft.unique) h.manifest.meta (length h.manifest.object)

    -- the manifest and its data files
    abbrev pub own_below : ℕ → List TreeFile
    own_below at = tree.manifest manifest_listing ∷ data_below at 0 draft.entries h.data_files

    -- a list row of the manifest adds them
    pub row_below : (list : Listed) (at place : ℕ) (r : ListRow) → r.content ≡ row.content → r.path ≡ row.path → r.key ≡ row.key
        → AllByRecursion (Fits (shape entry_tree)) (map entry_value draft.entries)
        → below_row location shows list (at, (place, r)) ≡ whole (own_below at)
    row_below list at place r content path key fit =
        let m = h.manifest in
        let read = own_key_read (settings_for made).key m.key m.marker (manifest_path draft.unique) m.object _ m.meta _ m.fresh m.is_sealed.is_path m.is_sealed.own m.is_sealed.stream in
        let of_data : r.content ≡ pos 0 = content ∙ ap (λ x. x.content) m.is_row in
        let named : manifest_of location place r ≡ Ok manifest_listing = written_manifest_is_listed location (manifest_path draft.unique) place (length m.object) r m.meta (encoded m.meta) m.is_sealed.is_path
        of_data (path ∙ ap (λ x. x.path) m.is_row ∙ sym (append_assoc location (codes "/") (manifest_path draft.unique)))
        (key ∙ ap (λ x. x.key) m.is_row) read (ap (λ x. x.length_told) m.is_sealed.own) in
        let seen : ShowsAll (shows.entries manifest_listing) draft.entries = written_entries_show (shown_of made.meta) files m.meta (manifest_path draft.unique) m.marker m.object (settings_for made).block
        (shown_of made.meta).layout.schema (shown_of made.meta).layout.spec draft.entries (entries_are 0 draft.entries h.data_files) fit m.fresh.marker_length
        (short_of (written_manifest (shown_of made.meta).layout.schema (shown_of made.meta).layout.spec) draft.entries m.marker m.may) m.is_sealed.stream m.held in
        let T : Trace (ℕ × Entry) = shows.entries manifest_listing in
        let data_is : each_in (below_entry location manifest_listing at) T.items ≡ whole (data_below at 0 draft.entries h.data_files) =
        entries_below manifest_listing at 0 T.items draft.entries h.data_files seen.same in
        not_passed r of_data (below_manifest location shows list at (manifest_of location place r))
        ∙ ap (below_manifest location shows list at) named
        ∙ ap (λ s. then_read (one (tree.manifest manifest_listing)) (then_read (each_in (below_entry location manifest_listing at) T.items) (ended s))) seen.all
        ∙ ap (λ t. then_read (one (tree.manifest manifest_listing)) (then_read t (ended None))) data_is
        ∙ ap (λ xs. whole (tree.manifest manifest_listing ∷ xs)) (append-nil (data_below at 0 draft.entries h.data_files))
      where
        not_passed : (r : ListRow) → r.content ≡ pos 0 → (t : Trace TreeFile) → (if is_passed r then whole [] else t) ≡ t
        not_passed r e t = rw e refl
