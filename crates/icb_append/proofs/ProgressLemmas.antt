-- The turns of an append take its progress on.
use Rattle.std.proofs.Common.{◌≡◌, ◌+◌, ℕ, suc, true, cond, List, [], ◌∷◌, ◌++◌, length, Option, Some, None, IsSome, Result, Ok, Err, refl, sym, ap, ◌∙◌, subst, arith, inl, inr}
use Rattle.std.specs.Prelude.{◌⊎◌, IfSome, IsSomeAnd}
use Rattle.std.specs.List.{Contains}
use Rattle.std.proofs.lemmas.List.Elements.{All-contains, All-from_recursion, Contains-append_cases}
use Rattle.std.proofs.lemmas.Slice.Eq.{bytes_eq-Decides}
use Rattle.icb_base.specs.KeyMetadata.{KeyRecord}
use Rattle.icb_base.specs.Objects.{Objects, object_at, with_object}
use Rattle.icb_base.specs.declared.storage.Store as store
use Rattle.icb_base.specs.declared.transfer.Draws as draws
use Rattle.icb_base.proofs.LawLemmas.{object_at-with_object, put_grows}
use Rattle.icb_chain.specs.Ring.{Ring}
use Rattle.icb_list.specs.Written.{written_list}
use Rattle.icb_list.specs.declared.row.ListRow.{ListRow}
use Rattle.icb_manifest.specs.Written.{written_manifest}
use Rattle.icb_manifest.specs.declared.entry.Entry.{Entry}
use Rattle.icb_manifest.specs.declared.file.DataFile.{DataFile}
use Rattle.icb_meta.specs.Answers.{shown_of}
use Rattle.icb_schema.specs.Names.{are_distinct}
use Rattle.icb_seal.specs.Keys.{FileKeyValue}
use Rattle.icb_turns.specs.Answers.{◌>>=◌}
use Rattle.icb_turns.specs.declared.fault.JobFault.{JobFault}
use Rattle.icb_append.specs.Data.{IsDataObject, file_record, is_file}
use Rattle.icb_append.specs.Drafts.{ComesOfFile, PutsManifest, PutsEntries, PutsNextRows, PutsRows, columns_for, holds_all, location_for, next_path, next_rows, settings_for, with_file}
use Rattle.icb_append.specs.Keeping.{HoldsDraft, HoldsFile, HoldsFiles, data_paths, draft_paths}
use Rattle.icb_append.specs.NewLists.{PutsOwnList, list_rows_of, path_of_list}
use Rattle.icb_append.specs.Paths.{data_path, manifest_path}
use Rattle.icb_append.specs.Progress.{AreOfCode, HasTable, IsCommitting, IsFiled, IsFiling, IsWriting}
use Rattle.icb_append.specs.Records.{added_entry, manifest_row}
use Rattle.icb_append.specs.Sealed.{IsSealed, may_be_put}
use Rattle.icb_append.specs.declared.draft.Draft.{Draft}
use Rattle.icb_append.specs.declared.tried.Tried.{Tried}
use Rattle.icb_append.proofs.AddedLemmas.{cons_cases}
use Rattle.icb_append.proofs.GrowthLemmas.{files_kept}
use Rattle.icb_append.proofs.HeldLemmas.{newest_back, table_put, tried_kept, writing_kept}
use Rattle.icb_append.proofs.PathLemmas.{AreHeld, distinct_first, distinct_last, paths_more}
use Rattle.icb_append.proofs.PutTurnLemmas.{IsPut, if_more, is_put}

-- what was put is held
put_held : (files : Objects) (path bytes : List ℕ) → object_at (with_object files path bytes) path ≡ Some bytes
put_held files path bytes =
    object_at-with_object files path bytes path
    ∙ ap (λ b. cond b (Some bytes) (object_at files path)) ((bytes_eq-Decides path path).1 refl)

is_held : (files : Objects) (path bytes : List ℕ) → object_at files path ≡ Some bytes → IsSome (object_at files path)
is_held files path bytes e = subst IsSome (sym e) refl

-- ---- data files

-- a data file of a draft is one of the draft with more entries
file_moved : (files : Objects) (made : Tried) (draft : Draft) (f : DataFile) (number : ℕ) (e : Entry) → HoldsFile files made draft number e → HoldsFile files made (with_file draft f) number e
file_moved files made draft f number e h = record {
  key = h.key;
  marker = h.marker;
  object = h.object;
  meta = h.meta;
  fresh = h.fresh;
  may = h.may;
  is_object = h.is_object;
  is_entry = h.is_entry;
  held = h.held;
}

files_moved : (files : Objects) (made : Tried) (draft : Draft) (f : DataFile) (number : ℕ) (es : List Entry) → HoldsFiles files made draft number es → HoldsFiles files made (with_file draft f) number es
files_moved files made draft f number [] h = tt
files_moved files made draft f number (e ∷ es) h = (file_moved files made draft f number e h.0, files_moved files made draft f (suc number) es h.1)

files_more : (files : Objects) (made : Tried) (draft : Draft) (number : ℕ) (es : List Entry) (e : Entry) → HoldsFiles files made draft number es
    → HoldsFile files made draft (number + length es) e → HoldsFiles files made draft number (es ++ e ∷ [])
files_more files made draft number [] e h more = let same : number + 0 ≡ number = omega arith in (subst (λ n. HoldsFile files made draft n e) same more, tt)
files_more files made draft number (x ∷ es) e h more =
    let next : number + suc (length es) ≡ suc number + length es = omega arith in
    (h.0, files_more files made draft (suc number) es e h.1 (subst (λ n. HoldsFile files made draft n e) next more))

paths_held : (files : Objects) (made : Tried) (draft : Draft) (number : ℕ) (es : List Entry) → HoldsFiles files made draft number es → AreHeld files (data_paths draft.unique number es)
paths_held files made draft number [] h = tt
paths_held files made draft number (e ∷ es) h = (is_held files (data_path draft.unique number) h.0.object h.0.held, paths_held files made draft (suc number) es h.1)

-- the paths of a draft's files are held
draft_held : (files : Objects) (made : Tried) (draft : Draft) (m : Option ListRow) → HoldsDraft files made draft m → AreHeld files (draft_paths draft m)
draft_held files made draft None h = tt
draft_held files made draft (Some row) h = (is_held files (manifest_path draft.unique) h.manifest.object h.manifest.held, paths_held files made draft 0 draft.entries h.data_files)

last_cases : (paths : List (List ℕ)) (path q : List ℕ) → Contains (paths ++ path ∷ []) q → (path ≡ q) ⊎ Contains paths q
last_cases paths path q h = elim (Contains-append_cases paths (path ∷ []) q h) [
  | inl before ↦ inr before
  | inr last ↦ inl (All-contains (λ z. path ≡ z) (path ∷ []) q (All-from_recursion (λ z. path ≡ z) (path ∷ []) (refl, tt)) last)
]

module _ {S D : Type 0} (of : store.Ghosts S) (random : draws.Ghosts D) (ring : Ring) (tried : Tried) (x y : S) (drew drawn : D) where
  -- what is so behind a turn over a told store
  abbrev Leads : (Objects → Type 0) → (Objects → Type 0) → Type 0
  Leads P Q = IfSome (of.held x) (λ files. P files → IsSomeAnd (of.held y) Q)

  module _ (draft : Draft) where
    abbrev path : List ℕ
    path = next_path draft

    abbrev FilePut : DataFile → Objects → Option Objects → Type 0
    FilePut f files now = IsPut of random (settings_for tried).key path
        (λ key marker object meta. IsDataObject (settings_for tried) (columns_for tried) (next_rows draft tried) path marker key object meta)
        (λ marker. is_file (settings_for tried) (columns_for tried) (next_rows draft tried) marker)
        (λ meta size file. file ≡ file_record (location_for tried) path (columns_for tried) (next_rows draft tried) meta size) x y drew drawn f files now

    file_put : (f : DataFile) (files : Objects) → FilePut f files (of.held y) → IsFiling files ring tried draft → IsSomeAnd (of.held y) (λ now. IsFiling now ring tried (with_file draft f))
    file_put f files p h =
        let now : Objects = with_object files path p.object in
        let grows = put_grows files path p.object p.free in
        let held_now = files_kept files now grows tried draft 0 draft.entries h.data_files in
        let own : HoldsFile now tried draft (length draft.entries) (added_entry f) = record {
          key = p.key;
          marker = p.marker;
          object = p.object;
          meta = p.meta;
          fresh = p.fresh;
          may = p.passes;
          is_object = p.made;
          is_entry = ap added_entry p.is_said;
          held = put_held files path p.object;
        } in
        let at : length draft.entries ≡ 0 + length draft.entries = omega arith in
        let all : HoldsFiles now tried (with_file draft f) 0 (draft.entries ++ added_entry f ∷ []) =
        files_moved now tried draft f 0 (draft.entries ++ added_entry f ∷ [])
        (files_more now tried draft 0 draft.entries (added_entry f) held_now (subst (λ n. HoldsFile now tried draft n (added_entry f)) at own)) in
        let paths : data_paths draft.unique 0 (draft.entries ++ added_entry f ∷ []) ≡ data_paths draft.unique 0 draft.entries ++ path ∷ [] =
        paths_more draft.unique 0 draft.entries (added_entry f) ∙ ap (λ n. data_paths draft.unique 0 draft.entries ++ data_path draft.unique n ∷ []) (sym at) in
        let tried_now = tried_kept files now grows ring tried draft h.has_tried in
        subst (λ o. IsSomeAnd o (λ n. IsFiling n ring tried (with_file draft f))) (sym p.put)
        (record {
          has_tried = record { is_tried = tried_now.is_tried; shows = tried_now.shows; fit = tried_now.fit };
          data_files = all;
          distinct = subst (λ ps. are_distinct ps ≡ true) (sym paths)
              (distinct_last files path (data_paths draft.unique 0 draft.entries) p.free (paths_held files tried draft 0 draft.entries h.data_files) h.distinct);
          newest = λ e. subst (HasTable now ring tried) (sym paths)
              (table_put files ring tried path p.object (data_paths draft.unique 0 draft.entries) (data_paths draft.unique 0 draft.entries ++ path ∷ []) p.free
              (λ q is. last_cases (data_paths draft.unique 0 draft.entries) path q is) (h.newest (newest_back files now grows tried e)));
        })

    abbrev PutsRowsOf : Result DataFile JobFault → Type 0
    PutsRowsOf r = PutsRows of random draft tried r x y drew drawn

    file_comes : (draft_now : Draft) (r : Result DataFile JobFault) → ComesOfFile draft r draft_now (Ok None)
        → (f : DataFile) × (r ≡ Ok f) × (draft_now ≡ with_file draft f)
    file_comes draft_now (Ok f) h = (f, refl, h)
    file_comes draft_now (Err e) h = absurd (let g : ⊥ = let same = h.1 in cc in g)

    -- a data file that was put takes the filing on
    pub rows_put : (draft_now : Draft) → PutsNextRows of random tried draft draft_now (Ok None) x y drew drawn
        → Leads (λ files. IsFiling files ring tried draft) (λ now. IsFiling now ring tried draft_now)
    rows_put draft_now p =
        let c = file_comes draft_now p.file p.comes in
        let puts = subst (λ r. PutsRowsOf r) c.1 p.puts in
        if_more (of.held x) _ (λ files. IsFiling files ring tried draft → IsSomeAnd (of.held y) (λ now. IsFiling now ring tried draft_now))
        (λ files put h. subst (λ d. IsSomeAnd (of.held y) (λ now. IsFiling now ring tried d)) (sym c.2) (file_put c.0 files put h))
        (is_put of random (settings_for tried).key path _ _ _ x y drew drawn c.0 puts)

    -- ---- the manifest

    abbrev PutsEntriesOf : Result ListRow JobFault → Type 0
    PutsEntriesOf r = PutsEntries of random draft tried r x y drew drawn

    abbrev RowPut : ListRow → Objects → Option Objects → Type 0
    RowPut row files now = IsPut of random (settings_for tried).key (manifest_path draft.unique)
        (λ key marker object meta. IsSealed (settings_for tried).block (manifest_path draft.unique)
        (written_manifest (shown_of tried.meta).layout.schema (shown_of tried.meta).layout.spec draft.entries marker) key object meta)
        (may_be_put (written_manifest (shown_of tried.meta).layout.schema (shown_of tried.meta).layout.spec) draft.entries)
        (λ meta size r. r ≡ manifest_row (location_for tried) (manifest_path draft.unique) (shown_of tried.meta).layout.spec (length draft.entries) tried.rows meta size)
        x y drew drawn row files now

    row_put : (row : ListRow) (files : Objects) → RowPut row files (of.held y) → holds_all (settings_for tried).rows draft.rows (length draft.entries) ≡ true
        → IsFiling files ring tried draft → IsSomeAnd (of.held y) (λ now. IsFiled now ring tried draft (Some row))
    row_put row files p all h =
        let own : List ℕ = manifest_path draft.unique in
        let now : Objects = with_object files own p.object in
        let grows = put_grows files own p.object p.free in
        let datas : List (List ℕ) = data_paths draft.unique 0 draft.entries in
        subst (λ o. IsSomeAnd o (λ n. IsFiled n ring tried draft (Some row))) (sym p.put)
        (record {
          has_tried = tried_kept files now grows ring tried draft h.has_tried;
          draft_held = record {
            data_files = files_kept files now grows tried draft 0 draft.entries h.data_files;
            all = all;
            manifest = record {
              key = p.key;
              marker = p.marker;
              object = p.object;
              meta = p.meta;
              fresh = p.fresh;
              may = p.passes;
              is_sealed = p.made;
              is_row = p.is_said;
              held = put_held files own p.object;
            };
          };
          distinct = distinct_first files own datas p.free (paths_held files tried draft 0 draft.entries h.data_files) h.distinct;
          newest = λ e. table_put files ring tried own p.object datas (own ∷ datas) p.free (λ q is. cons_cases own datas q is) (h.newest (newest_back files now grows tried e));
        })

    row_comes : (row : ListRow) (r : Result ListRow JobFault) → ◌≡◌ {A = Result (Option ListRow) JobFault} (Ok (Some row)) (r >>= (λ q. Ok (Some q))) → r ≡ Ok row
    row_comes row (Ok q) h = let same : row ≡ q = cc in ap (λ z. Ok z) (sym same)
    row_comes row (Err e) h = absurd (let g : ⊥ = cc in g)

    -- the manifest that was put ends the filing
    pub entries_put : (draft_now : Draft) (row : ListRow) → holds_all (settings_for tried).rows draft.rows (length draft.entries) ≡ true
        → PutsManifest of random tried draft draft_now (Ok (Some row)) x y drew drawn
        → Leads (λ files. IsFiling files ring tried draft) (λ now. IsFiled now ring tried draft_now (Some row))
    entries_put draft_now row all p =
        let puts = subst (λ r. PutsEntriesOf r) (row_comes row p.row p.answers) p.puts in
        if_more (of.held x) (λ files. RowPut row files (of.held y)) (λ files. IsFiling files ring tried draft → IsSomeAnd (of.held y) (λ now. IsFiled now ring tried draft_now (Some row)))
        (λ files put h. subst (λ d. IsSomeAnd (of.held y) (λ now. IsFiled now ring tried d (Some row))) (sym p.stays) (row_put row files put all h))
        (is_put of random (settings_for tried).key (manifest_path draft.unique) _ _ _ x y drew drawn row puts)

    -- ---- the list

    module _ (manifest : Option ListRow) (parent : List ListRow) (attempt : ℕ) where
      abbrev list_path : List ℕ
      list_path = path_of_list draft.unique tried attempt

      abbrev rows : List ListRow
      rows = list_rows_of parent manifest tried

      abbrev ListPut : KeyRecord → Objects → Option Objects → Type 0
      ListPut list files now = IsPut of random (settings_for tried).key list_path
          (λ key marker object meta. IsSealed (settings_for tried).block list_path (written_list rows marker) key object meta)
          (may_be_put written_list rows) (λ meta size own. own ≡ meta) x y drew drawn list files now

      sealed_as : (block : ℕ) (path plain : List ℕ) (key : FileKeyValue) (object : List ℕ) (one two : KeyRecord) → two ≡ one → IsSealed block path plain key object one → IsSealed block path plain key object two
      sealed_as block path plain key object one two e h = subst (λ m. IsSealed block path plain key object m) (sym e) h

      list_put_in : (list : KeyRecord) (files : Objects) → ListPut list files (of.held y) → IsWriting files ring tried draft manifest parent → AreOfCode tried draft manifest parent
          → IsSomeAnd (of.held y) (λ now. IsCommitting now ring tried draft manifest attempt list)
      list_put_in list files p h code =
          let now : Objects = with_object files list_path p.object in
          let grows = put_grows files list_path p.object p.free in
          let paths : List (List ℕ) = draft_paths draft manifest in
          let kept = writing_kept files now grows ring tried draft manifest parent h in
          subst (λ o. IsSomeAnd o (λ n. IsCommitting n ring tried draft manifest attempt list)) (sym p.put)
          (record {
            parent = parent;
            of_code = code;
            has_tried = kept.filed.has_tried;
            draft_held = kept.filed.draft_held;
            list_held = record {
              key = p.key;
              marker = p.marker;
              object = p.object;
              fresh = p.fresh;
              may = p.passes;
              is_sealed = sealed_as (settings_for tried).block list_path (written_list rows p.marker) p.key p.object p.meta list p.is_said p.made;
              held = put_held files list_path p.object;
            };
            distinct = distinct_first files list_path paths p.free (draft_held files tried draft manifest h.filed.draft_held) h.filed.distinct;
            newest = λ e. table_put files ring tried list_path p.object paths (list_path ∷ paths) p.free (λ q is. cons_cases list_path paths q is)
                (h.filed.newest (newest_back files now grows tried e));
            are_parent = kept.are_parent;
          })

      -- the list that was put is what the commit needs
      pub list_put : (list : KeyRecord) → PutsOwnList of random draft.unique tried rows attempt (Ok list) x y drew drawn
          → IfSome (of.held x) (λ files. IsWriting files ring tried draft manifest parent → AreOfCode tried draft manifest parent
          → IsSomeAnd (of.held y) (λ now. IsCommitting now ring tried draft manifest attempt list))
      list_put list p = if_more (of.held x) (λ files. ListPut list files (of.held y))
          (λ files. IsWriting files ring tried draft manifest parent → AreOfCode tried draft manifest parent → IsSomeAnd (of.held y) (λ now. IsCommitting now ring tried draft manifest attempt list))
          (λ files put h code. list_put_in list files put h code)
          (is_put of random (settings_for tried).key list_path _ _ _ x y drew drawn list p)
