-- The steps of an append that read the parent's list and put the version.
use Rattle.std.proofs.Common.{◌≡◌, ◌+◌, ℕ, ℤ, Bool, true, false, List, [], ◌∷◌, ◌++◌, length, Option, Some, None, IsSome, if◌then◌else◌, Result, Ok, Err, refl, sym, subst, inl, inr}
use Rattle.std.specs.Prelude.{◌⊎◌, IfSome, IsSomeAnd, Vec}
use Rattle.std.specs.declared.alloc.Global.{Global}
use Rattle.std.specs.FinMap as finite
use Rattle.std.specs.List.{Contains}
use Rattle.std.proofs.lemmas.List.Elements.{All-contains, All-from_recursion, Contains-append_right}
use Rattle.icb_base.specs.KeyMetadata.{KeyRecord}
use Rattle.icb_base.specs.Objects.{Objects, object_at, with_object}
use Rattle.icb_base.specs.declared.storage.Put.{Put}
use Rattle.icb_base.specs.declared.storage.Put.TheVariants as put
use Rattle.icb_base.specs.declared.storage.Store as store
use Rattle.icb_base.specs.declared.transfer.Draws as draws
use Rattle.icb_chain.specs.Ring.{Ring}
use Rattle.icb_list.specs.declared.row.ListRow.{ListRow}
use Rattle.icb_meta.specs.Answers.{json_of, shown_of}
use Rattle.icb_meta.specs.declared.fields.Fields.{Fields}
use Rattle.icb_table.proofs.KnownLemmas.{own_plaintext_is_allowed}
use Rattle.icb_table.specs.Contents.{plaintexts_in}
use Rattle.icb_table.specs.Known.{Allows, shown_in}
use Rattle.icb_table.specs.Listed.{Listed}
use Rattle.icb_table.specs.Snapshots.{Refused, list_of}
use Rattle.icb_table.specs.Standing.{ShowsMeta, Stands}
use Rattle.icb_table.specs.Table.{HasRows, IsInTable, IsTable, Table, contents_in}
use Rattle.icb_tree.specs.Versions.{version_path}
use Rattle.icb_turns.specs.Turns.{Change, IsTurn, IsVersionPath, PutsAtMostOne}
use Rattle.icb_turns.specs.declared.fault.CannotWhat.TheVariants as form
use Rattle.icb_turns.specs.declared.fault.JobFault.{JobFault}
use Rattle.icb_turns.specs.declared.fault.JobFault.TheVariants as fault
use Rattle.icb_turns.specs.declared.fault.Step.{Step}
use Rattle.icb_walk.specs.WholeLists.{FindsList, ReadsList}
use Rattle.icb_walk.specs.declared.fault.TreeFault.{TreeFault}
use Rattle.icb_walk.specs.declared.fault.TreeFault.TheVariants as walk
use Rattle.icb_written.specs.Laws.{ShowsAll}
use Rattle.icb_append.specs.Committing.{IsNextVersion}
use Rattle.icb_append.specs.Keeping.{AreParentRows, AreUnlisted, data_paths, own_paths}
use Rattle.icb_append.specs.Laws.{IsCommit}
use Rattle.icb_append.specs.Drafts.{next_path}
use Rattle.icb_append.specs.Paths.{manifest_path}
use Rattle.icb_append.specs.NewLists.{have_row_ids, parent_rows, path_of_list}
use Rattle.icb_append.specs.Progress.{IsCommitting, IsFiled, IsNewest}
use Rattle.icb_append.specs.Steps.{FitsPlace, HasCode, KeepsTable, StepKeepsTable, TellsChange, change_of, job_paths}
use Rattle.icb_append.specs.Turning as turning
use Rattle.icb_append.specs.Turning.{Commits, IsTurnAt, OnWork, PutsNextVersion, TakesTurn, comes_to, of_version, parent_after, parent_for, place_after, step_of}
use Rattle.icb_append.specs.declared.job.AppendJob.{AppendJob}
use Rattle.icb_append.specs.declared.place.Place.{Place}
use Rattle.icb_append.specs.declared.place.Place.TheVariants as place
use Rattle.icb_append.specs.declared.place.Turn.{Turn}
use Rattle.icb_append.specs.declared.place.Turn.TheVariants as turn
use Rattle.icb_append.specs.declared.tried.Tried.{Tried}
use Rattle.icb_append.specs.declared.work.Work.{Work}
use Rattle.icb_append.proofs.AddedLemmas.{cons_cases}
use Rattle.icb_append.proofs.AboveLemmas.{is_there, named_of_list}
use Rattle.icb_append.proofs.HeldLemmas.{list_plain}
use Rattle.icb_append.proofs.PutTurnLemmas.{if_more}
use Rattle.icb_append.proofs.StepLemmas.{Leaves, probing, refused_tells, rested, told_same, version_read}
use Rattle.icb_append.proofs.TurnLemmas.{commit_is_turn, is_the_last, shown_once}
use Rattle.icb_append.proofs.WorkStepLemmas.{files_put, first_is, if_both, list_put_step, second_is}

-- ---- the parent's rows

rows_answered : (rows : List ListRow) (r : Result (Vec ListRow Global) TreeFault) → ◌≡◌ {A = Result (List ListRow) JobFault} (Ok rows) (parent_rows r) → (v : Vec ListRow Global) × (r ≡ Ok v) × (rows ≡ v.items)
rows_answered rows (Ok v) h = (v, refl, by_ids (have_row_ids v.items) h)
  where
    by_ids : (b : Bool) → ◌≡◌ {A = Result (List ListRow) JobFault} (Ok rows) (if b then Ok v.items else Err (fault.Cannot form.NoRowIds)) → rows ≡ v.items
    by_ids true h = cc
    by_ids false h = absurd (let g : ⊥ = cc in g)
rows_answered rows (Err walk.Store) h = absurd (let g : ⊥ = cc in g)
rows_answered rows (Err walk.NoMemory) h = absurd (let g : ⊥ = cc in g)
rows_answered rows (Err (walk.NoSnapshot id)) h = absurd (let g : ⊥ = cc in g)
rows_answered rows (Err (walk.PlainList id)) h = absurd (let g : ⊥ = cc in g)
rows_answered rows (Err (walk.Chain f)) h = absurd (let g : ⊥ = cc in g)
rows_answered rows (Err (walk.BadList id f w)) h = absurd (let g : ⊥ = cc in g)
rows_answered rows (Err (walk.At path c)) h = absurd (let g : ⊥ = cc in g)

list_found : (files : Objects) (r : Result Listed Refused) (v : Vec ListRow Global) → FindsList r (Ok v) → ReadsList files r (Ok v) → (f : Listed) × (r ≡ Ok f) × ReadsList files (Ok f) (Ok v)
list_found files (Ok f) v finds reads = (f, refl, reads)
list_found files (Err e) v finds reads = absurd finds

-- the rows that are read of a list that is whole are those that it shows
all_shown : (files : Objects) (meta : Fields) (f : Listed) (v : Vec ListRow Global) (plain : Option (List ℕ)) → plaintexts_in files f ≡ plain → IsSome plain → ReadsList files (Ok f) (Ok v)
    → ShowsAll ((contents_in meta files).list_rows f) v.items
all_shown files meta f v None e h reads = absurd (let g : ⊥ = cc in g)
all_shown files meta f v (Some bytes) e h reads =
    let allowed : Allows (shown_in files f) (plaintexts_in files f) = subst (Allows (shown_in files f)) (sym e) (own_plaintext_is_allowed files f bytes e) in
    let all = reads (plaintexts_in files f) allowed in
    record { all = all.ends; same = sym all.all }

-- the parent's rows are those of its list
parent_is : (files : Objects) (ring : Ring) (tried : Tried) (table : Table) (parent : ℤ) (rows : List ListRow) (r : Result (Vec ListRow Global) TreeFault) → IsTable files (shown_of tried.meta) ring table
    → FindsList (list_of (shown_of tried.meta) ring parent) r → ReadsList files (list_of (shown_of tried.meta) ring parent) r → ◌≡◌ {A = Result (List ListRow) JobFault} (Ok rows) (parent_rows r)
    → AreParentRows files (shown_of tried.meta) ring (Some parent) rows
parent_is files ring tried table parent rows r is_table finds reads answers =
    let meta : Fields = shown_of tried.meta in
    let a = rows_answered rows r answers in
    let found = list_found files (list_of meta ring parent) a.0 (subst (FindsList (list_of meta ring parent)) a.1 finds) (subst (ReadsList files (list_of meta ring parent)) a.1 reads) in
    let named = named_of_list meta ring parent found.0 found.1 in
    let had = is_there (finite.get table parent) (HasRows files meta ring parent) (is_table.each_snapshot parent named) in
    let plain = list_plain files meta ring parent found.0 had.holds.tree had.holds.has_tree found.1 in
    (found.0, found.1, subst (ShowsAll ((contents_in meta files).list_rows found.0)) (sym a.2) (all_shown files meta found.0 a.0 (plaintexts_in files found.0) refl plain found.2))

-- ---- the step that reads them

module _ {S D : Type 0} (of : store.Ghosts S) (random : draws.Ghosts D) (ring : Ring) (x y : S) (drew drawn : D) (had has : Work) where
  abbrev LeavesWork : Place → Result Turn JobFault → Objects → Type 0
  LeavesWork p t files = Leaves of random ring x y drew drawn (Some had) (Some has) p t files

  filed_moved : (files : Objects) → has.draft ≡ had.draft → has.tried ≡ had.tried → has.manifest ≡ had.manifest → IsFiled files ring had.tried had.draft had.manifest → IsFiled files ring has.tried has.draft has.manifest
  filed_moved files d t m h = subst (λ q. IsFiled files ring q has.draft has.manifest) (sym t) (subst (λ q. IsFiled files ring had.tried q has.manifest) (sym d) (subst (λ q. IsFiled files ring had.tried had.draft q) (sym m) h))

  writes : (files : Objects) (parent : ℤ) (rows : List ListRow) (r : Result (Vec ListRow Global) TreeFault) → IsFiled files ring had.tried had.draft had.manifest → parent_for had.tried ≡ Some parent
      → FindsList (list_of (shown_of had.tried.meta) ring parent) r → ReadsList files (list_of (shown_of had.tried.meta) ring parent) r → ◌≡◌ {A = Result (List ListRow) JobFault} (Ok rows) (parent_rows r)
      → has.parent ≡ rows → has.draft ≡ had.draft → has.tried ≡ had.tried → has.manifest ≡ had.manifest → FitsPlace ring files place.Writing (Some has)
  writes files parent rows r filed is_parent finds reads answers p d t m = record {
    filed = filed_moved files d t m filed;
    are_parent = λ free.
        let newest : IsNewest files had.tried = subst (λ q. IsNewest files q) t free in
        let their : AreParentRows files (shown_of had.tried.meta) ring (Some parent) rows = parent_is files ring had.tried (filed.newest newest).table parent rows r (filed.newest newest).is_table finds reads answers in
        subst (λ q. AreParentRows files (shown_of q.meta) ring (parent_for q) has.parent) (sym t)
        (subst (λ c. AreParentRows files (shown_of had.tried.meta) ring c has.parent) (sym is_parent) (subst (AreParentRows files (shown_of had.tried.meta) ring (Some parent)) (sym p) their));
  }

  pub list_read : (parent : ℤ) (t : Result Turn JobFault) → turning.ReadsList of ring parent had has t x y → IfSome (of.held x) (LeavesWork (place.Listing parent) t)
  list_read parent t p = subst (λ r. IfSome (of.held x) (LeavesWork (place.Listing parent) r)) (sym p.goes)
      (if_more (of.held x) _ (LeavesWork (place.Listing parent) (comes_to (λ read. place.Writing) p.rows))
      (λ files both meta table stands fits code. by_rows files meta table both.0 stands fits both.1 p.rows p.reads.answers p.parent_rows)
      (if_both (of.held x) (λ files. of.held y ≡ Some files) (λ files. ReadsList files (list_of (shown_of had.tried.meta) ring parent) p.reads.rows) (told_same of random ring x y drew drawn (Some had) (Some has) p.reads.reads.same) p.reads.are_rows))
    where
      by_rows : (files : Objects) (meta : Fields) (table : Table) → of.held y ≡ Some files → Stands files meta ring table → FitsPlace ring files (place.Listing parent) (Some had)
          → ReadsList files (list_of (shown_of had.tried.meta) ring parent) p.reads.rows → (r : Result (List ListRow) JobFault) → r ≡ parent_rows p.reads.rows → has.parent ≡ parent_after had.parent r
          → IsSomeAnd (of.held y) (λ now. KeepsTable ring files meta now table (Some had) (step_of (comes_to (λ read. place.Writing) r)) (place_after (comes_to (λ read. place.Writing) r)) (Some has))
      by_rows files meta table same stands fits are (Err e) a h = rested of random ring x y drew drawn (Some had) (Some has) files meta table (Err e) same stands (refused_tells (Some had) table meta e) tt
      by_rows files meta table same stands fits are (Ok rows) a h = rested of random ring x y drew drawn (Some had) (Some has) files meta table (Ok (turn.To place.Writing)) same stands refl
          (writes files parent rows p.reads.rows fits.0 fits.1 p.reads.finds are a h p.same_draft p.same_tried p.same_manifest)

-- ---- the commit

-- a turn of fewer own paths is one of more
turn_wider : (own more : List (List ℕ)) (ring : Ring) (before : Objects) (was : Fields) (now : Objects) (table : Table) (change : Change) → ((q : List ℕ) → Contains own q → Contains more q)
    → IsTurn own ring before was now table change → IsTurn more ring before was now table change
turn_wider own more ring before was now table change wider h = record {
  puts = puts_by h.puts;
  is_new = h.is_new;
  meta = h.meta;
  after = h.after;
  lists = λ f is. lists_by f (h.lists f is);
  stands = h.stands;
}
  where
    puts_by : PutsAtMostOne own before now → PutsAtMostOne more before now
    puts_by (inl same) = inl same
    puts_by (inr one) = inr (record { path = one.path; bytes = one.bytes; may_be = may_by one.path one.may_be; free = one.free; put = one.put })
      where
        may_by : (q : List ℕ) → Contains own q ⊎ IsVersionPath q → Contains more q ⊎ IsVersionPath q
        may_by q (inl c) = inl (wider q c)
        may_by q (inr v) = inr v

    lists_by : (f : Listed) → IsInTable before was ring f ⊎ Contains own f.path → IsInTable before was ring f ⊎ Contains more f.path
    lists_by f (inl old) = inl old
    lists_by f (inr c) = inr (wider f.path c)

own_wider : (w : Work) (m : Option ListRow) (q : List ℕ) → Contains (own_paths w.draft m w.tried 1) q → Contains (job_paths (Some w)) q
own_wider w None q h = elim (cons_cases (path_of_list w.draft.unique w.tried 1) [] q h) [
  | inl first ↦ subst (Contains (job_paths (Some w))) first (first_is (path_of_list w.draft.unique w.tried 1) (manifest_path w.draft.unique ∷ next_path w.draft ∷ data_paths w.draft.unique 0 w.draft.entries))
  | inr none ↦ absurd (All-contains (λ _. ⊥) [] q (All-from_recursion (λ _. ⊥) [] tt) none)
]
own_wider w (Some row) q h = elim (cons_cases (path_of_list w.draft.unique w.tried 1) (manifest_path w.draft.unique ∷ data_paths w.draft.unique 0 w.draft.entries) q h) [
  | inl first ↦ subst (Contains (job_paths (Some w))) first (first_is (path_of_list w.draft.unique w.tried 1) (manifest_path w.draft.unique ∷ next_path w.draft ∷ data_paths w.draft.unique 0 w.draft.entries))
  | inr more ↦ elim (cons_cases (manifest_path w.draft.unique) (data_paths w.draft.unique 0 w.draft.entries) q more) [
    | inl second ↦ subst (Contains (job_paths (Some w))) second (second_is (path_of_list w.draft.unique w.tried 1) (manifest_path w.draft.unique) (next_path w.draft ∷ data_paths w.draft.unique 0 w.draft.entries))
    | inr other ↦ Contains-append_right (path_of_list w.draft.unique w.tried 1 ∷ manifest_path w.draft.unique ∷ next_path w.draft ∷ []) (data_paths w.draft.unique 0 w.draft.entries) q other
  ]
]

module _ (files : Objects) (ring : Ring) (meta : Fields) (table : Table) (stands : Stands files meta ring table) (now_ms : ℕ) (w : Work) (list : KeyRecord) (c : IsCommitting files ring w.tried w.draft w.manifest 1 list)
    (nonce text : List ℕ) (free : object_at files (version_path (w.tried.version + 1)) ≡ None)
    (is_next : IsNextVersion (json_of w.tried.meta) (shown_of w.tried.meta) w.tried.wrapper w.tried.version w.tried.id (path_of_list w.draft.unique w.tried 1) list w.tried.rows now_ms nonce text) where
  same_meta : meta ≡ shown_of w.tried.meta
  same_meta =
      let last = is_the_last files w.tried.version (shown_of w.tried.meta) stands.last w.tried.ready.few c.has_tried.shows free stands.is_last in
      shown_once files (version_path w.tried.version) meta (shown_of w.tried.meta) (subst (λ n. ShowsMeta files (version_path n) meta) (sym last) stands.current) c.has_tried.shows

  is_commit : IsCommit files meta ring w.tried w.tried w.draft w.manifest 1 text
  is_commit = record {
    rows = length w.draft.rows;
    is_tried = c.has_tried.is_tried;
    shows = c.has_tried.shows;
    free = free;
    parent = c.parent;
    list = list;
    held = record { same_place = refl; same_layout = refl; are_parent = c.are_parent free; draft_held = c.draft_held; list_held = c.list_held };
    values = record { rows = c.has_tried.fit; entries = c.of_code.entries; list_rows = c.of_code.list_rows; distinct = c.distinct };
    unlisted = subst (λ m. AreUnlisted (own_paths w.draft w.manifest w.tried 1) files m ring) (sym same_meta) (c.newest free).unlisted;
    now = now_ms;
    nonce = nonce;
    is_next = is_next;
  }

  pub commits : IsTurn (job_paths (Some w)) ring files meta (with_object files (version_path (w.tried.version + 1)) text) table (change_of table meta w)
  commits = turn_wider (own_paths w.draft w.manifest w.tried 1) (job_paths (Some w)) ring files meta (with_object files (version_path (w.tried.version + 1)) text) table (change_of table meta w)
      (λ q h. own_wider w w.manifest q h) (commit_is_turn files meta ring table w.tried w.tried w.draft w.manifest 1 text stands is_commit)

-- ---- the step that puts the version

module _ {S D : Type 0} (of : store.Ghosts S) (random : draws.Ghosts D) (ring : Ring) (now_ms : ℕ) (x y : S) (drew drawn : D) (had : Work) (taken taken_now : List ℕ) where
  abbrev Ends : Result Turn JobFault → Objects → Type 0
  Ends t files = Leaves of random ring x y drew drawn (Some had) (Some had) place.Committing t files

  abbrev WasPut : List ℕ → Objects → Type 0
  WasPut text files = (object_at files (version_path (had.tried.version + 1)) ≡ None) × (of.held y ≡ Some (with_object files (version_path (had.tried.version + 1)) text))

  -- what is so behind a put of the version
  put_leaves : (list : KeyRecord) (nonce text : List ℕ) (t : Result Turn JobFault) (files : Objects) → had.list ≡ Some list
      → IsNextVersion (json_of had.tried.meta) (shown_of had.tried.meta) had.tried.wrapper had.tried.version had.tried.id (path_of_list had.draft.unique had.tried 1) list had.tried.rows now_ms nonce text
      → WasPut text files → ((meta : Fields) (table : Table) → TellsChange (Some had) table meta (step_of t) (change_of table meta had)) → ((now : Objects) → FitsPlace ring now (place_after t) (Some had)) → Ends t files
  put_leaves list nonce text t files is_list is_next put' tells fits_now meta table stands fits code =
      let c : IsCommitting files ring had.tried had.draft had.manifest 1 list = subst (λ o. IsSomeAnd o (λ own. IsCommitting files ring had.tried had.draft had.manifest 1 own)) is_list fits in
      subst (λ o. IsSomeAnd o (λ now. KeepsTable ring files meta now table (Some had) (step_of t) (place_after t) (Some had))) (sym put'.1)
      (record {
        change = change_of table meta had;
        tells = tells meta table;
        turn = commits files ring meta table stands now_ms had list c nonce text put'.0 is_next;
        fits = fits_now (with_object files (version_path (had.tried.version + 1)) text);
      })

  unput : (e : JobFault) → IfSome (of.held x) (λ files. of.held y ≡ Some files) → IfSome (of.held x) (Ends (Err e))
  unput e h = if_more (of.held x) (λ files. of.held y ≡ Some files) (Ends (Err e))
      (λ files same meta table stands fits code. rested of random ring x y drew drawn (Some had) (Some had) files meta table (Err e) same stands (refused_tells (Some had) table meta e) tt) h

  still : of.held y ≡ of.held x → IfSome (of.held x) (λ files. of.held y ≡ Some files)
  still same = told_same of random ring x y drew drawn (Some had) (Some had) same

  abbrev PutsIt : KeyRecord → Result Put JobFault → Type 0
  PutsIt list r = PutsNextVersion of random now_ms had list r x y drew drawn

  by_put : (list : KeyRecord) → had.list ≡ Some list → (r : Result Put JobFault) → PutsIt list r → IfSome (of.held x) (Ends (of_version had.tried taken r))
  by_put list l (Ok put.Done) p = if_more (of.held x) (WasPut p.text) (Ends (of_version had.tried taken (Ok put.Done)))
      (λ files h. put_leaves list p.nonce p.text (of_version had.tried taken (Ok put.Done)) files l p.answers.0 h (λ meta table. (refl, refl)) (λ now. tt)) (p.puts.done refl)
  by_put list l (Ok put.Taken) p = unput (fault.Contended (taken ++ (had.tried.version + 1) ∷ []))
      (if_more (of.held x) _ (λ files. of.held y ≡ Some files) (λ files h. h.1) (p.puts.taken refl))
  by_put list l (Err fault.Store) p = if_more (of.held x) (λ files. (of.held y ≡ Some files) ⊎ WasPut p.text files) (Ends (Err fault.Store))
      (λ files h. failed files h) (p.puts.failed refl)
    where
      failed : (files : Objects) → (of.held y ≡ Some files) ⊎ WasPut p.text files → Ends (Err fault.Store) files
      failed files (inl same) meta table stands fits code = rested of random ring x y drew drawn (Some had) (Some had) files meta table (Err fault.Store) same stands (inl refl) tt
      failed files (inr h) meta table stands fits code = put_leaves list p.nonce p.text (Err fault.Store) files l p.answers.0 h (λ meta table. inr refl) (λ now. tt) meta table stands fits code
  by_put list l (Err (fault.Limit w n)) p = unput (fault.Limit w n) (still (p.puts.none (λ h. cc) (λ h. cc) (λ h. cc)))
  by_put list l (Err fault.Random) p = unput fault.Random (still (p.puts.none (λ h. cc) (λ h. cc) (λ h. cc)))
  by_put list l (Err fault.NoMemory) p = unput fault.NoMemory (still (p.puts.none (λ h. cc) (λ h. cc) (λ h. cc)))
  by_put list l (Err fault.NoTable) p = absurd p.answers
  by_put list l (Err (fault.BadMeta f)) p = absurd p.answers
  by_put list l (Err (fault.BadInput a w)) p = absurd p.answers
  by_put list l (Err (fault.Cannot w)) p = absurd p.answers
  by_put list l (Err (fault.SameKey i)) p = absurd p.answers
  by_put list l (Err (fault.KeyName i)) p = absurd p.answers
  by_put list l (Err (fault.Tree e)) p = absurd p.answers
  by_put list l (Err (fault.NameTaken q)) p = absurd p.answers
  by_put list l (Err (fault.Contended v)) p = absurd p.answers

  pub committed : (t : Result Turn JobFault) → Commits of random now_ms had taken taken_now t x y drew drawn → IfSome (of.held x) (Ends t)
  committed t c = subst (λ r. IfSome (of.held x) (Ends r)) (sym c.goes) (by_put c.list c.is_list c.put c.puts)

-- ---- a step

module _ {S D : Type 0} (of : store.Ghosts S) (random : draws.Ghosts D) (ring : Ring) (now_ms : ℕ) (x y : S) (drew drawn : D) where
  abbrev LeavesAt : Place → Option Work → Option Work → Result Turn JobFault → Type 0
  LeavesAt p work work_now t = IfSome (of.held x) (Leaves of random ring x y drew drawn work work_now p t)

  on_work : (p : Place) (t : Result Turn JobFault) (work work_now : Option Work) (P : Work → Work → Type 0) → ((had has : Work) → P had has → LeavesAt p (Some had) (Some has) t) → OnWork work work_now P
      → LeavesAt p work work_now t
  on_work p t None work_now P f h = absurd h
  on_work p t (Some had) None P f h = absurd h
  on_work p t (Some had) (Some has) P f h = f had has h

  turn_leaves : (lines : List ℕ) (p : Place) (work work_now : Option Work) (taken taken_now : List ℕ) (t : Result Turn JobFault)
      → IsTurnAt of random ring now_ms lines p work work_now taken taken_now t x y drew drawn → LeavesAt p work work_now t
  turn_leaves lines (place.Probing n) work work_now taken taken_now t h = probing of random ring x y drew drawn work work_now n t h.0
  turn_leaves lines (place.Reading n) work work_now taken taken_now t h = version_read of random ring x y drew drawn work work_now n lines now_ms t h.0
  turn_leaves lines place.Filing work work_now taken taken_now t h = on_work place.Filing t work work_now _ (λ had has p. files_put of random ring x y drew drawn had has t p) h.0
  turn_leaves lines (place.Listing parent) work work_now taken taken_now t h = on_work (place.Listing parent) t work work_now _ (λ had has p. list_read of random ring x y drew drawn had has parent t p) h.0
  turn_leaves lines place.Writing work work_now taken taken_now t h = on_work place.Writing t work work_now _ (λ had has p. list_put_step of random ring x y drew drawn had has t p) h.0
  turn_leaves lines place.Committing None work_now taken taken_now t h = absurd h.0
  turn_leaves lines place.Committing (Some had) work_now taken taken_now t h =
      subst (λ o. LeavesAt place.Committing (Some had) o t) (sym h.1) (committed of random ring now_ms x y drew drawn had taken taken_now t h.0)
  turn_leaves lines place.Ended work work_now taken taken_now t h = absurd h

  pub step_keeps : (job job_now : AppendJob) (answer : Step) → TakesTurn of random ring now_ms job job_now answer x y drew drawn → StepKeepsTable of ring job job_now answer x y
  step_keeps job job_now answer h =
      let P = λ (a : Step) (q : Place). IfSome (of.held x) (λ files. (meta : Fields) (table : Table) → Stands files meta ring table → FitsPlace ring files job.place job.work → HasCode job.work
      → IsSomeAnd (of.held y) (λ files_now. KeepsTable ring files meta files_now table job.work a q job_now.work)) in
      subst (λ a. P a job_now.place) (sym h.answers)
      (subst (λ q. P (step_of h.turn) q) (sym h.goes) (turn_leaves job.lines job.place job.work job_now.work job.taken job_now.taken h.turn h.is_turn))
