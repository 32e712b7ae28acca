-- A run of an append over a store that stands for a table.
use Rattle.std.proofs.Common.{◌≡◌, ◌<◌, ◌≤◌, ◌+◌, ◌^◌, ℕ, ℤ, zero, suc, Bool, true, false, List, ◌++◌, length, map, Option, Some, None, is_some, cond, Result, Ok, Err, refl, sym, ap, ◌∙◌, subst, arith, inl, inr}
use Rattle.std.specs.Prelude.{◌⊎◌, IfSome, IsSomeAnd}
use Rattle.std.proofs.lemmas.Slice.Eq.{bytes_eq-Decides}
use Rattle.std.specs.Str.{bytes_eq}
use Rattle.icb_base.specs.KeyMetadata.{KeyRecord}
use Rattle.icb_base.specs.Objects.{Grows, Objects, object_at, with_object}
use Rattle.icb_base.specs.declared.storage.Put.{Put}
use Rattle.icb_base.specs.declared.storage.Put.TheVariants as put
use Rattle.icb_base.specs.declared.storage.Store as store
use Rattle.icb_base.specs.declared.transfer.Draws as draws
use Rattle.icb_base.proofs.LawLemmas.{grows_at_rest, grows_twice, object_at-with_object, put_grows}
use Rattle.icb_chain.specs.Ring.{Ring}
use Rattle.icb_list.specs.declared.row.ListRow.{ListRow}
use Rattle.icb_manifest.specs.declared.file.DataFile.{DataFile}
use Rattle.icb_meta.specs.Answers.{json_of, shown_of}
use Rattle.icb_meta.specs.declared.fields.Fields.{Fields}
use Rattle.icb_meta.specs.declared.table.TableMeta.{TableMeta}
use Rattle.icb_rows.specs.Records.{row_from}
use Rattle.icb_table.specs.Standing.{IsLast, ShowsMeta, Stands}
use Rattle.icb_table.specs.Table.{Table, rows_asked}
use Rattle.icb_table.proofs.TableLemmas.{table_when_grown}
use Rattle.icb_tree.specs.Versions.{version_path}
use Rattle.icb_tree.specs.declared.fault.CurrentFault.{CurrentFault}
use Rattle.icb_turns.specs.Turns.{IsTurn, IsVersionPath, adds_snapshot}
use Rattle.icb_turns.proofs.GrownLemmas.{put_is_last, was_in_table}
use Rattle.icb_turns.specs.declared.fault.JobFault.{JobFault}
use Rattle.icb_turns.specs.declared.fault.JobFault.TheVariants as fault
use Rattle.icb_turns.specs.declared.fault.Step.{Step}
use Rattle.icb_turns.specs.declared.fault.Step.TheVariants as step
use Rattle.icb_append.specs.Beginning.{AnswersBegun}
use Rattle.icb_append.specs.Committing.{IsNextVersion}
use Rattle.icb_append.specs.Drafts as drafts
use Rattle.icb_append.specs.Drafts.{ComesOfFile, columns_for, ends_draft, holds_all, next_path, settings_for}
use Rattle.icb_append.specs.Lines.{rows_of_input}
use Rattle.icb_append.specs.NewLists.{PutsOwnList, list_rows_of, natural, path_of_list}
use Rattle.icb_append.specs.Paths.{manifest_path}
use Rattle.icb_append.specs.Progress.{IsCommitting}
use Rattle.icb_append.specs.Steps.{Fits, FitsPlace, HasCode, KeepsTable, change_of, job_paths}
use Rattle.icb_append.specs.TableAfter.{AppendKeepsTable, HasCommitted, HasKept, LeavesTable, adds_rows}
use Rattle.icb_append.specs.Turning.{IsTurnAt, OnWork, PutsNextVersion, TakesTurn, behind_begun, behind_file, behind_probe, comes_to, of_version, step_of, work_after}
use Rattle.icb_append.specs.Whole.{AreOfCode, Reaches, Runs, RunsOnCode, State, last_step}
use Rattle.icb_append.specs.declared.draft.Draft.{Draft}
use Rattle.icb_append.specs.declared.job.AppendJob.{AppendJob}
use Rattle.icb_append.specs.declared.place.Place.{Place}
use Rattle.icb_append.specs.declared.place.Place.TheVariants as place
use Rattle.icb_append.specs.declared.place.Turn.{Turn}
use Rattle.icb_append.specs.declared.place.Turn.TheVariants as turn
use Rattle.icb_append.specs.declared.tried.Tried.{Tried}
use Rattle.icb_append.specs.declared.whole.Committed.{Committed}
use Rattle.icb_append.specs.declared.work.Work.{Work}
use Rattle.icb_append.proofs.CommitStepLemmas.{commits, step_keeps}
use Rattle.icb_append.proofs.FitLemmas.{new_fits}
use Rattle.icb_append.proofs.PathLemmas.{data_no_version, list_no_version, manifest_no_version}
use Rattle.icb_append.proofs.PutTurnLemmas.{LeftBy, if_more, left}
use Rattle.icb_append.proofs.TurnLemmas.{is_the_last, shown_once}
use Rattle.icb_append.proofs.WorkStepLemmas.{if_both, some_both, some_more}

-- ---- objects that are no version

-- nothing was put, or one object that is no version, where none was held
pub record PutsAside (files now : Objects) : Type 0 where
  pub path : List ℕ
  pub bytes : List ℕ
  pub no_version : IsVersionPath path → ⊥
  pub free : object_at files path ≡ None
  pub put : now ≡ with_object files path bytes

abbrev pub Aside : Objects → Objects → Type 0
Aside files now = (now ≡ files) ⊎ PutsAside files now

left_aside : (path object : List ℕ) (files : Objects) (o : Option Objects) → (IsVersionPath path → ⊥) → LeftBy path object files o → IsSomeAnd o (Aside files)
left_aside path object files o no_version (inl same) = subst (λ q. IsSomeAnd q (Aside files)) (sym same) (inl refl)
left_aside path object files o no_version (inr h) = subst (λ q. IsSomeAnd q (Aside files)) (sym h.1)
    (inr (record { path = path; bytes = object; no_version = no_version; free = h.0; put = refl }))

same_aside : (o now : Option Objects) → now ≡ o → IfSome o (λ files. IsSomeAnd now (Aside files))
same_aside None now e = tt
same_aside (Some files) now e = subst (λ q. IsSomeAnd q (Aside files)) (sym e) (inl refl)

aside_grows : (files now : Objects) → Aside files now → Grows files now
aside_grows files now (inl same) = subst (Grows files) (sym same) (grows_at_rest files)
aside_grows files now (inr p) = subst (Grows files) (sym p.put) (put_grows files p.path p.bytes p.free)

-- each version is held where it was
other_held : (files : Objects) (path bytes other : List ℕ) (b : Bool) → bytes_eq other path ≡ b → (other ≡ path → ⊥)
    → is_some (cond b (Some bytes) (object_at files other)) ≡ is_some (object_at files other)
other_held files path bytes other true e apart = absurd (apart ((bytes_eq-Decides other path).0 e))
other_held files path bytes other false e apart = refl

version_held : (files : Objects) (path bytes : List ℕ) (v : ℕ) → (IsVersionPath path → ⊥)
    → is_some (object_at (with_object files path bytes) (version_path v)) ≡ is_some (object_at files (version_path v))
version_held files path bytes v no_version =
    ap is_some (object_at-with_object files path bytes (version_path v))
    ∙ other_held files path bytes (version_path v) (bytes_eq (version_path v) path) refl (λ e. no_version (v, sym e))

last_aside : (files : Objects) (path bytes : List ℕ) (last : ℕ) → (IsVersionPath path → ⊥) → IsLast files last → IsLast (with_object files path bytes) last
last_aside files path bytes last no_version is = record {
  some = is.some;
  held = λ v small. (
    λ h. (is.held v small).0 (sym (version_held files path bytes v no_version) ∙ h),
    λ h. version_held files path bytes v no_version ∙ (is.held v small).1 h,
  );
}

module _ (ring : Ring) (meta : Fields) (table : Table) where
  put_stands : (files : Objects) (path bytes : List ℕ) → (IsVersionPath path → ⊥) → object_at files path ≡ None → Stands files meta ring table → Stands (with_object files path bytes) meta ring table
  put_stands files path bytes no_version free stands =
      let now : Objects = with_object files path bytes in
      let grows : Grows files now = put_grows files path bytes free in
      record {
        last = stands.last;
        is_last = last_aside files path bytes stands.last no_version stands.is_last;
        current = record {
          bytes = stands.current.bytes;
          held = grows.stays (version_path stands.last) stands.current.bytes stands.current.held;
          json = stands.current.json;
          shows = stands.current.shows;
        };
        is_table = table_when_grown files now meta ring table grows stands.is_table;
        own_prefixes = λ f is own. stands.own_prefixes f (was_in_table files now meta ring table f grows stands.is_table is) own;
      }

  -- a store that stood for the table stands for it, with the same last version
  pub aside_stands : (files now : Objects) (last : ℕ) → Aside files now → HasKept ring meta last table files → HasKept ring meta last table now
  unfolding put_stands
  aside_stands files now last (inl same) h = subst (HasKept ring meta last table) (sym same) h
  aside_stands files now last (inr p) h = subst (HasKept ring meta last table) (sym p.put)
      (record { stands = put_stands files p.path p.bytes p.no_version p.free h.stands; same = h.same })

-- ---- what a turn puts

-- the version behind the tried one was put
pub record NextPut (now_ms : ℕ) (p : Place) (w : Work) (files now : Objects) : Type 0 where
  pub at : p ≡ place.Committing
  pub list : KeyRecord
  pub is_list : w.list ≡ Some list
  pub nonce : List ℕ
  pub text : List ℕ
  pub is_next : IsNextVersion (json_of w.tried.meta) (shown_of w.tried.meta) w.tried.wrapper w.tried.version w.tried.id
      (path_of_list w.draft.unique w.tried 1) list w.tried.rows now_ms nonce text
  pub free : object_at files (version_path (w.tried.version + 1)) ≡ None
  pub put : now ≡ with_object files (version_path (w.tried.version + 1)) text

abbrev pub VersionPut : ℕ → Place → Option Work → Objects → Objects → Type 0
VersionPut now_ms p work files now = IsSomeAnd work (λ w. NextPut now_ms p w files now)

-- what a turn put, by what it comes to
abbrev pub After : ℕ → Place → Option Work → Result Turn JobFault → Objects → Objects → Type 0
After now_ms p work (Ok (turn.To q)) files now = Aside files now
After now_ms p work (Ok (turn.Done id v)) files now =
    IsSomeAnd work (λ w. (id ≡ w.tried.id) × (v ≡ w.tried.version + 1) × NextPut now_ms p w files now)
After now_ms p work (Err fault.Store) files now = Aside files now ⊎ VersionPut now_ms p work files now
After now_ms p work (Err other) files now = Aside files now

fault_after : (now_ms : ℕ) (p : Place) (work : Option Work) (e : JobFault) (files now : Objects) → Aside files now → After now_ms p work (Err e) files now
fault_after now_ms p work fault.NoTable files now h = h
fault_after now_ms p work (fault.BadMeta f) files now h = h
fault_after now_ms p work (fault.BadInput l r) files now h = h
fault_after now_ms p work (fault.Cannot w) files now h = h
fault_after now_ms p work (fault.SameKey i) files now h = h
fault_after now_ms p work (fault.KeyName i) files now h = h
fault_after now_ms p work (fault.Tree c) files now h = h
fault_after now_ms p work (fault.NameTaken q) files now h = h
fault_after now_ms p work (fault.Contended v) files now h = h
fault_after now_ms p work (fault.Limit w n) files now h = h
fault_after now_ms p work fault.Random files now h = h
fault_after now_ms p work fault.Store files now h = inl h
fault_after now_ms p work fault.NoMemory files now h = h

comes_after : {A : Type 0} (now_ms : ℕ) (p : Place) (work : Option Work) (behind : A → Place) (r : Result A JobFault) (files now : Objects) → Aside files now
    → After now_ms p work (comes_to behind r) files now
comes_after now_ms p work behind (Ok a) files now h = h
comes_after now_ms p work behind (Err e) files now h = fault_after now_ms p work e files now h

module _ {S D : Type 0} (of : store.Ghosts S) (random : draws.Ghosts D) (ring : Ring) (now_ms : ℕ) (x y : S) (drew drawn : D) where
  abbrev Quiet : Type 0
  Quiet = IfSome (of.held x) (λ files. IsSomeAnd (of.held y) (Aside files))

  abbrev Leaves : Place → Option Work → Result Turn JobFault → Type 0
  Leaves p work t = IfSome (of.held x) (λ files. IsSomeAnd (of.held y) (After now_ms p work t files))

  quiet_leaves : {A : Type 0} (p : Place) (work : Option Work) (behind : A → Place) (r : Result A JobFault) (t : Result Turn JobFault) → t ≡ comes_to behind r → Quiet → Leaves p work t
  quiet_leaves p work behind r t goes h = subst (Leaves p work) (sym goes)
      (if_more (of.held x) (λ files. IsSomeAnd (of.held y) (Aside files)) (λ files. IsSomeAnd (of.held y) (After now_ms p work (comes_to behind r) files))
      (λ files a. some_more (of.held y) (Aside files) (After now_ms p work (comes_to behind r) files) (λ now b. comes_after now_ms p work behind r files now b) a) h)

  left_quiet : (path object : List ℕ) → (IsVersionPath path → ⊥) → IfSome (of.held x) (λ files. LeftBy path object files (of.held y)) → Quiet
  left_quiet path object no_version h = if_more (of.held x) (λ files. LeftBy path object files (of.held y)) (λ files. IsSomeAnd (of.held y) (Aside files))
      (λ files l. left_aside path object files (of.held y) no_version l) h

  next_quiet : (tried : Tried) (draft draft_now : Draft) (r : Result (Option ListRow) JobFault) → drafts.PutsNext of random tried draft draft_now r x y drew drawn → Quiet
  next_quiet tried draft draft_now r p = by_rest (holds_all (settings_for tried).rows draft.rows (length draft.entries)) refl
    where
      by_rest : (b : Bool) → holds_all (settings_for tried).rows draft.rows (length draft.entries) ≡ b → Quiet
      by_rest false e = let q = p.rows e in
          left_quiet (next_path draft) q.puts.object (data_no_version draft.unique (length draft.entries))
          (left of random (settings_for tried).key (next_path draft) _ _ _ x y drew drawn q.file q.puts)
      by_rest true e = let q = p.manifest e in
          left_quiet (manifest_path draft.unique) q.puts.object (manifest_no_version draft.unique)
          (left of random (settings_for tried).key (manifest_path draft.unique) _ _ _ x y drew drawn q.row q.puts)

  list_quiet : (work : Work) (r : Result KeyRecord JobFault) → PutsOwnList of random work.draft.unique work.tried (list_rows_of work.parent work.manifest work.tried) 1 r x y drew drawn → Quiet
  list_quiet work r puts = left_quiet (path_of_list work.draft.unique work.tried 1) puts.object (list_no_version work.draft.unique (natural work.tried.id) 1)
      (left of random (settings_for work.tried).key (path_of_list work.draft.unique work.tried 1) _ _ _ x y drew drawn r puts)

  -- the turn that puts the version
  module _ (w : Work) (taken : List ℕ) (list : KeyRecord) (is_list : w.list ≡ Some list) where
    abbrev Ends : Result Turn JobFault → Type 0
    Ends t = Leaves place.Committing (Some w) t

    abbrev PutsIt : Result Put JobFault → Type 0
    PutsIt r = PutsNextVersion of random now_ms w list r x y drew drawn

    abbrev WasPut : List ℕ → Objects → Type 0
    WasPut text files = (object_at files (version_path (w.tried.version + 1)) ≡ None) × (of.held y ≡ Some (with_object files (version_path (w.tried.version + 1)) text))

    next_put : (nonce text : List ℕ) (files now : Objects)
        → IsNextVersion (json_of w.tried.meta) (shown_of w.tried.meta) w.tried.wrapper w.tried.version w.tried.id (path_of_list w.draft.unique w.tried 1) list w.tried.rows now_ms nonce text
        → object_at files (version_path (w.tried.version + 1)) ≡ None → now ≡ with_object files (version_path (w.tried.version + 1)) text → NextPut now_ms place.Committing w files now
    next_put nonce text files now is free its_put = record {
      at = refl;
      list = list;
      is_list = is_list;
      nonce = nonce;
      text = text;
      is_next = is;
      free = free;
      put = its_put;
    }

    still : (e : JobFault) → of.held y ≡ of.held x → Ends (Err e)
    still e same = if_more (of.held x) (λ files. IsSomeAnd (of.held y) (Aside files)) (λ files. IsSomeAnd (of.held y) (After now_ms place.Committing (Some w) (Err e) files))
        (λ files a. some_more (of.held y) (Aside files) (After now_ms place.Committing (Some w) (Err e) files) (λ now b. fault_after now_ms place.Committing (Some w) e files now b) a)
        (same_aside (of.held x) (of.held y) same)

    by_put : (r : Result Put JobFault) → PutsIt r → Ends (of_version w.tried taken r)
    by_put (Ok put.Done) p = if_more (of.held x) (WasPut p.text) (λ files. IsSomeAnd (of.held y) (After now_ms place.Committing (Some w) (Ok (turn.Done w.tried.id (w.tried.version + 1))) files))
        (λ files h. subst (λ o. IsSomeAnd o (After now_ms place.Committing (Some w) (Ok (turn.Done w.tried.id (w.tried.version + 1))) files)) (sym h.1)
        (refl, refl, next_put p.nonce p.text files (with_object files (version_path (w.tried.version + 1)) p.text) p.answers.0 h.0 refl)) (p.puts.done refl)
    by_put (Ok put.Taken) p = if_more (of.held x) _ (λ files. IsSomeAnd (of.held y) (Aside files))
        (λ files h. subst (λ o. IsSomeAnd o (Aside files)) (sym h.1) (inl refl)) (p.puts.taken refl)
    by_put (Err fault.Store) p = if_more (of.held x) (λ files. (of.held y ≡ Some files) ⊎ WasPut p.text files) (λ files. IsSomeAnd (of.held y) (After now_ms place.Committing (Some w) (Err fault.Store) files))
        (λ files h. failed files h) (p.puts.failed refl)
      where
        failed : (files : Objects) → (of.held y ≡ Some files) ⊎ WasPut p.text files → IsSomeAnd (of.held y) (After now_ms place.Committing (Some w) (Err fault.Store) files)
        failed files (inl same) = subst (λ o. IsSomeAnd o (After now_ms place.Committing (Some w) (Err fault.Store) files)) (sym same) (inl (inl refl))
        failed files (inr h) = subst (λ o. IsSomeAnd o (After now_ms place.Committing (Some w) (Err fault.Store) files)) (sym h.1)
            (inr (next_put p.nonce p.text files (with_object files (version_path (w.tried.version + 1)) p.text) p.answers.0 h.0 refl))
    by_put (Err (fault.Limit k n)) p = still (fault.Limit k n) (p.puts.none (λ h. cc) (λ h. cc) (λ h. cc))
    by_put (Err fault.Random) p = still fault.Random (p.puts.none (λ h. cc) (λ h. cc) (λ h. cc))
    by_put (Err fault.NoMemory) p = still fault.NoMemory (p.puts.none (λ h. cc) (λ h. cc) (λ h. cc))
    by_put (Err fault.NoTable) p = absurd p.answers
    by_put (Err (fault.BadMeta f)) p = absurd p.answers
    by_put (Err (fault.BadInput a k)) p = absurd p.answers
    by_put (Err (fault.Cannot k)) p = absurd p.answers
    by_put (Err (fault.SameKey i)) p = absurd p.answers
    by_put (Err (fault.KeyName i)) p = absurd p.answers
    by_put (Err (fault.Tree e)) p = absurd p.answers
    by_put (Err (fault.NameTaken q)) p = absurd p.answers
    by_put (Err (fault.Contended v)) p = absurd p.answers

  -- a turn of work
  on_work : (p : Place) (t : Result Turn JobFault) (work work_now : Option Work) (P : Work → Work → Type 0) → ((had has : Work) → P had has → Leaves p (Some had) t) → OnWork work work_now P → Leaves p work t
  on_work p t None work_now P f h = absurd h
  on_work p t (Some had) None P f h = absurd h
  on_work p t (Some had) (Some has) P f h = f had has h

  turn_after : (lines : List ℕ) (p : Place) (work work_now : Option Work) (taken taken_now : List ℕ) (t : Result Turn JobFault)
      → IsTurnAt of random ring now_ms lines p work work_now taken taken_now t x y drew drawn → Leaves p work t
  turn_after lines (place.Probing n) work work_now taken taken_now t h = quiet_leaves (place.Probing n) work behind_probe h.0.found t h.0.goes (same_aside (of.held x) (of.held y) h.0.reads.same)
  turn_after lines (place.Reading n) work work_now taken taken_now t h = quiet_leaves (place.Reading n) work behind_begun h.0.begun t h.0.goes (same_aside (of.held x) (of.held y) h.0.begins.reads.same)
  turn_after lines place.Filing work work_now taken taken_now t h = on_work place.Filing t work work_now _
      (λ had has p. quiet_leaves place.Filing (Some had) (behind_file had.tried) p.put t p.goes (next_quiet had.tried had.draft has.draft p.put p.puts)) h.0
  turn_after lines (place.Listing parent) work work_now taken taken_now t h = on_work (place.Listing parent) t work work_now _
      (λ had has p. quiet_leaves (place.Listing parent) (Some had) (λ read. place.Writing) p.rows t p.goes (same_aside (of.held x) (of.held y) p.reads.reads.same)) h.0
  turn_after lines place.Writing work work_now taken taken_now t h = on_work place.Writing t work work_now _
      (λ had has p. quiet_leaves place.Writing (Some had) (λ put. place.Committing) p.list t p.goes (list_quiet had p.list p.puts)) h.0
  turn_after lines place.Committing None work_now taken taken_now t h = absurd h.0
  turn_after lines place.Committing (Some had) work_now taken taken_now t h =
      let c = h.0 in subst (Leaves place.Committing (Some had)) (sym c.goes) (by_put had taken c.list c.is_list c.put c.puts)
  turn_after lines place.Ended work work_now taken taken_now t h = absurd h

-- ---- the rows

-- the work has the rows of the lines under the tried version's columns
abbrev pub HasLineRows : List ℕ → Option Work → Type 0
HasLineRows lines work = IfSome work (λ w. rows_of_input (columns_for w.tried) lines ≡ Ok w.draft.rows)

same_rows : (lines : List ℕ) (had has : Work) → has.tried ≡ had.tried → has.draft.rows ≡ had.draft.rows → HasLineRows lines (Some had) → HasLineRows lines (Some has)
same_rows lines had has t r h = ap (λ q. rows_of_input (columns_for q) lines) t ∙ h ∙ ap (λ q. Ok q) (sym r)

ended_rows : (draft : Draft) (f : DataFile) (now : Draft) (answer : Result (Option ListRow) JobFault) → ends_draft draft f now answer → now.rows ≡ draft.rows
ended_rows draft f now (Ok None) h = ap (λ (d : Draft). d.rows) h
ended_rows draft f now (Ok (Some r)) h = absurd h
ended_rows draft f now (Err fault.NoMemory) h = ap (λ (d : Draft). d.rows) h
ended_rows draft f now (Err fault.NoTable) h = absurd h
ended_rows draft f now (Err (fault.BadMeta m)) h = absurd h
ended_rows draft f now (Err (fault.BadInput l r)) h = absurd h
ended_rows draft f now (Err (fault.Cannot w)) h = absurd h
ended_rows draft f now (Err (fault.SameKey i)) h = absurd h
ended_rows draft f now (Err (fault.KeyName i)) h = absurd h
ended_rows draft f now (Err (fault.Tree c)) h = absurd h
ended_rows draft f now (Err (fault.NameTaken q)) h = absurd h
ended_rows draft f now (Err (fault.Contended v)) h = absurd h
ended_rows draft f now (Err (fault.Limit w n)) h = absurd h
ended_rows draft f now (Err fault.Random) h = absurd h
ended_rows draft f now (Err fault.Store) h = absurd h

file_rows_stay : (draft : Draft) (r : Result DataFile JobFault) (now : Draft) (answer : Result (Option ListRow) JobFault) → ComesOfFile draft r now answer → now.rows ≡ draft.rows
file_rows_stay draft (Ok f) now answer h = ended_rows draft f now answer h
file_rows_stay draft (Err e) now answer h = ap (λ (d : Draft). d.rows) h.0

begun_rows : (lines : List ℕ) (given : Result TableMeta CurrentFault) (ring : Ring) (version : ℕ) (unique : List ℕ) (work : Work) → AnswersBegun given ring version lines unique (Ok work) → HasLineRows lines (Some work)
begun_rows lines (Err e) ring version unique work h = absurd (let same = h.0 in let g : ⊥ = cc in g)
begun_rows lines (Ok meta) ring version unique work b =
    ap (λ m. rows_of_input (shown_of m).layout.schema.columns lines) b.tries.3 ∙ b.are_rows ∙ ap (λ q. Ok q) (sym (ap (λ (w : Work). w.draft.rows) b.is_new))

module _ {S D : Type 0} (of : store.Ghosts S) (random : draws.Ghosts D) (ring : Ring) (now_ms : ℕ) (lines : List ℕ) (x y : S) (drew drawn : D) where
  next_rows_stay : (tried : Tried) (draft draft_now : Draft) (r : Result (Option ListRow) JobFault) → drafts.PutsNext of random tried draft draft_now r x y drew drawn → draft_now.rows ≡ draft.rows
  next_rows_stay tried draft draft_now r p = by_rest (holds_all (settings_for tried).rows draft.rows (length draft.entries)) refl
    where
      by_rest : (b : Bool) → holds_all (settings_for tried).rows draft.rows (length draft.entries) ≡ b → draft_now.rows ≡ draft.rows
      by_rest false e = file_rows_stay draft (p.rows e).file draft_now r (p.rows e).comes
      by_rest true e = ap (λ (d : Draft). d.rows) (p.manifest e).stays

  on_rows : (work work_now : Option Work) (P : Work → Work → Type 0) → ((had has : Work) → P had has → (has.tried ≡ had.tried) × (has.draft.rows ≡ had.draft.rows)) → OnWork work work_now P
      → HasLineRows lines work → HasLineRows lines work_now
  on_rows None work_now P f h r = absurd h
  on_rows (Some had) None P f h r = tt
  on_rows (Some had) (Some has) P f h r = let q = f had has h in same_rows lines had has q.0 q.1 r

  read_rows : (version : ℕ) (work : Option Work) (given : Result TableMeta CurrentFault) (unique : List ℕ) (begun : Result Work JobFault) → AnswersBegun given ring version lines unique begun
      → HasLineRows lines work → HasLineRows lines (work_after work begun)
  read_rows version work given unique (Ok w) a r = begun_rows lines given ring version unique w a
  read_rows version work given unique (Err e) a r = r

  turn_rows : (p : Place) (work work_now : Option Work) (taken taken_now : List ℕ) (t : Result Turn JobFault)
      → IsTurnAt of random ring now_ms lines p work work_now taken taken_now t x y drew drawn → HasLineRows lines work → HasLineRows lines work_now
  turn_rows (place.Probing n) work work_now taken taken_now t h r = subst (HasLineRows lines) (sym h.1) r
  turn_rows (place.Reading n) work work_now taken taken_now t h r = subst (HasLineRows lines) (sym h.0.has) (read_rows n work h.0.begins.given h.0.begins.unique h.0.begun h.0.begins.answers r)
  turn_rows place.Filing work work_now taken taken_now t h r = on_rows work work_now _ (λ had has p. (p.same_tried, next_rows_stay had.tried had.draft has.draft p.put p.puts)) h.0 r
  turn_rows (place.Listing parent) work work_now taken taken_now t h r = on_rows work work_now _ (λ had has p. (p.same_tried, ap (λ (d : Draft). d.rows) p.same_draft)) h.0 r
  turn_rows place.Writing work work_now taken taken_now t h r = on_rows work work_now _ (λ had has p. (p.same_tried, ap (λ (d : Draft). d.rows) p.same_draft)) h.0 r
  turn_rows place.Committing work work_now taken taken_now t h r = subst (HasLineRows lines) (sym h.1) r
  turn_rows place.Ended work work_now taken taken_now t h r = absurd h

-- ---- the commit

-- one store has one last version
last_once : (files : Objects) (one two : ℕ) → one + 1 < 2 ^ 64 → IsLast files one → IsLast files two → two ≡ one
last_once files one two small a b =
    let there = (a.held one (omega (arith, small))).1 (a.some, omega arith) in
    let least : one ≤ two = ((b.held one (omega (arith, small))).0 there).1 in
    let most : (one + 1 ≤ two → ⊥) = (λ le.
    let next = (b.held (one + 1) small).1 (omega arith, le) in
    let within : one + 1 ≤ one = ((a.held (one + 1) small).0 next).1 in
    omega (arith, within)) in
    omega (arith, least, most)

module _ (ring : Ring) (lines : List ℕ) (now_ms : ℕ) (meta : Fields) (table : Table) (last : ℕ) where
  module _ (p : Place) (w : Work) (files now : Objects) (put : NextPut now_ms p w files now) (kept : HasKept ring meta last table files) (fits : FitsPlace ring files p (Some w)) (has_rows : HasLineRows lines (Some w)) where
    c : IsCommitting files ring w.tried w.draft w.manifest 1 put.list
    c = subst (λ o. IsSomeAnd o (λ own. IsCommitting files ring w.tried w.draft w.manifest 1 own)) put.is_list (subst (λ q. FitsPlace ring files q (Some w)) put.at fits)

    few : w.tried.version < 1000000
    few = w.tried.ready.few

    is_last : w.tried.version ≡ last
    is_last = is_the_last files w.tried.version (shown_of w.tried.meta) kept.stands.last few c.has_tried.shows put.free kept.stands.is_last ∙ kept.same

    same_meta : meta ≡ shown_of w.tried.meta
    same_meta = shown_once files (version_path w.tried.version) meta (shown_of w.tried.meta)
        (subst (λ n. ShowsMeta files (version_path n) meta) (kept.same ∙ sym is_last) kept.stands.current) c.has_tried.shows

    abbrev files_now : Objects
    files_now = with_object files (version_path (w.tried.version + 1)) put.text

    its_turn : IsTurn (job_paths (Some w)) ring files meta files_now table (change_of table meta w)
    its_turn = commits files ring meta table kept.stands now_ms w put.list c put.nonce put.text put.free put.is_next

    change_is : change_of table meta w ≡ adds_rows table meta w.tried.id w.draft.rows
    change_is = ap (λ (m : Fields). adds_snapshot w.tried.id (rows_asked table meta.state.current ++ map (row_from m.layout.schema.columns) w.draft.rows)) (sym same_meta)

    own_turn : IsTurn (job_paths (Some w)) ring files meta files_now table (adds_rows table meta w.tried.id w.draft.rows)
    own_turn = subst (λ k. IsTurn (job_paths (Some w)) ring files meta files_now table k) change_is its_turn

    next_last : own_turn.stands.last ≡ last + 1
    next_last =
        let next : suc w.tried.version ≡ last + 1 = omega (arith, is_last) in
        let at : w.tried.version + 1 ≡ last + 1 = omega (arith, is_last) in
        let before : IsLast files w.tried.version = subst (IsLast files) (kept.same ∙ sym is_last) kept.stands.is_last in
        let same : suc w.tried.version ≡ w.tried.version + 1 = omega arith in
        let its : IsLast files_now (w.tried.version + 1) = subst (λ n. IsLast (with_object files (version_path n) put.text) n) same
        (put_is_last files w.tried.version put.text before (omega (arith, few))) in
        last_once files_now (w.tried.version + 1) own_turn.stands.last (omega (arith, few)) its own_turn.stands.is_last ∙ at

    committed_in : HasCommitted ring lines meta last table w.tried.id files_now
    committed_in = record {
      rows = w.draft.rows;
      are_rows = ap (λ (m : Fields). rows_of_input m.layout.schema.columns lines) same_meta ∙ has_rows;
      is_new = own_turn.is_new;
      meta = own_turn.meta;
      after = own_turn.after;
      stands = own_turn.stands;
      is_next = next_last;
    }

    -- the version behind the tried one was put, and so the rows were committed
    pub put_commits : HasCommitted ring lines meta last table w.tried.id now
    put_commits = subst (HasCommitted ring lines meta last table w.tried.id) (sym put.put) committed_in

    pub put_grew : Grows files now
    put_grew = subst (Grows files) (sym put.put) (put_grows files (version_path (w.tried.version + 1)) put.text put.free)

    pub next_is : w.tried.version + 1 ≡ last + 1
    next_is = ap (λ n. n + 1) is_last

  -- ---- the answer

  kept_refused : (e : JobFault) (now : Objects) → HasKept ring meta last table now → LeavesTable ring lines meta last table (Err e) now
  kept_refused fault.NoTable now h = h
  kept_refused (fault.BadMeta f) now h = h
  kept_refused (fault.BadInput l r) now h = h
  kept_refused (fault.Cannot w) now h = h
  kept_refused (fault.SameKey i) now h = h
  kept_refused (fault.KeyName i) now h = h
  kept_refused (fault.Tree c) now h = h
  kept_refused (fault.NameTaken q) now h = h
  kept_refused (fault.Contended v) now h = h
  kept_refused (fault.Limit w n) now h = h
  kept_refused fault.Random now h = h
  kept_refused fault.Store now h = inl h
  kept_refused fault.NoMemory now h = h

  -- what the last turn leaves
  module _ (p : Place) (files now : Objects) (kept : HasKept ring meta last table files) where
    abbrev Left : Result Committed JobFault → Type 0
    Left answer = Grows files now × LeavesTable ring lines meta last table answer now

    aside_left : (e : JobFault) → Aside files now → Left (Err e)
    aside_left e a = (aside_grows files now a, kept_refused e now (aside_stands ring meta table files now last a kept))

    put_left : (work : Option Work) → FitsPlace ring files p work → HasLineRows lines work → VersionPut now_ms p work files now → Left (Err fault.Store)
    put_left None fits rows put = absurd put
    put_left (Some w) fits rows put = (put_grew p w files now put kept fits rows, inr (w.tried.id, put_commits p w files now put kept fits rows))

    refused_left : (work : Option Work) (e : JobFault) → FitsPlace ring files p work → HasLineRows lines work → After now_ms p work (Err e) files now → Left (Err e)
    refused_left work fault.NoTable fits rows a = aside_left fault.NoTable a
    refused_left work (fault.BadMeta f) fits rows a = aside_left (fault.BadMeta f) a
    refused_left work (fault.BadInput l r) fits rows a = aside_left (fault.BadInput l r) a
    refused_left work (fault.Cannot k) fits rows a = aside_left (fault.Cannot k) a
    refused_left work (fault.SameKey i) fits rows a = aside_left (fault.SameKey i) a
    refused_left work (fault.KeyName i) fits rows a = aside_left (fault.KeyName i) a
    refused_left work (fault.Tree c) fits rows a = aside_left (fault.Tree c) a
    refused_left work (fault.NameTaken q) fits rows a = aside_left (fault.NameTaken q) a
    refused_left work (fault.Contended v) fits rows a = aside_left (fault.Contended v) a
    refused_left work (fault.Limit k n) fits rows a = aside_left (fault.Limit k n) a
    refused_left work fault.Random fits rows a = aside_left fault.Random a
    refused_left work fault.NoMemory fits rows a = aside_left fault.NoMemory a
    refused_left work fault.Store fits rows (inl a) = aside_left fault.Store a
    refused_left work fault.Store fits rows (inr put) = put_left work fits rows put

    done_left : (work : Option Work) (id : ℤ) (v : ℕ) (k : Committed) → k.snapshot ≡ id → k.version ≡ v → FitsPlace ring files p work → HasLineRows lines work
        → After now_ms p work (Ok (turn.Done id v)) files now → Left (Ok k)
    done_left None id v k s n fits rows a = absurd a
    done_left (Some w) id v k s n fits rows a = (
      put_grew p w files now a.2 kept fits rows,
      (
        n ∙ a.1 ∙ next_is p w files now a.2 kept fits rows,
        subst (λ i. HasCommitted ring lines meta last table i now) (sym (s ∙ a.0)) (put_commits p w files now a.2 kept fits rows),
      ),
    )

    turn_left : (work : Option Work) (t : Result Turn JobFault) (answer : Result Committed JobFault) → last_step answer ≡ step_of t → FitsPlace ring files p work → HasLineRows lines work
        → After now_ms p work t files now → Left answer
    turn_left work (Ok (turn.To q)) (Ok k) is fits rows a = absurd (let g : ⊥ = cc in g)
    turn_left work (Ok (turn.To q)) (Err e) is fits rows a = absurd (let g : ⊥ = cc in g)
    turn_left work (Ok (turn.Done id v)) (Ok k) is fits rows a =
        let same : Some k.snapshot ≡ Some id = cc in
        let of_it : k.snapshot ≡ id = cc in
        let number : k.version ≡ v = cc in
        done_left work id v k of_it number fits rows a
    turn_left work (Ok (turn.Done id v)) (Err e) is fits rows a = absurd (let g : ⊥ = cc in g)
    turn_left work (Err e) (Ok k) is fits rows a = absurd (let g : ⊥ = cc in g)
    turn_left work (Err e) (Err f) is fits rows a =
        let same : f ≡ e = cc in
        subst (λ z. Left (Err z)) (sym same) (refused_left work e fits rows a)

-- ---- the run

use_some : {A R : Type 0} (o : Option A) (P : A → Type 0) → ((a : A) → P a → R) → IsSomeAnd o P → R
use_some None P f h = absurd h
use_some (Some a) P f h = f a h

some_if : (o : Option Objects) (P Q : Objects → Type 0) → IsSomeAnd o P → IfSome o Q → IsSomeAnd o (λ f. P f × Q f)
some_if None P Q h q = absurd h
some_if (Some f) P Q h q = (h, q)

-- so far the store stands for the table as it was, and the job is in step with it
pub record Standing (ring : Ring) (lines : List ℕ) (first : Objects) (meta : Fields) (table : Table) (last : ℕ) (job : AppendJob) (files : Objects) : Type 0 where
  pub grew : Grows first files
  pub kept : HasKept ring meta last table files
  pub fits : Fits job ring files
  pub has_rows : HasLineRows lines job.work
  pub has_lines : job.lines ≡ lines

module _ {S D : Type 0} (of : store.Ghosts S) (random : draws.Ghosts D) (ring : Ring) (lines : List ℕ) (now_ms : ℕ) (first : Objects) (meta : Fields) (table : Table) (last : ℕ) where
  abbrev StandsAt : AppendJob → S → Type 0
  StandsAt job x = IsSomeAnd (of.held x) (Standing ring lines first meta table last job)

  module _ (job job_now : AppendJob) (answer : Step) (x y : S) (drew drawn : D) (h : TakesTurn of random ring now_ms job job_now answer x y drew drawn) where
    abbrev StepLeaves : Objects → Type 0
    StepLeaves files = IsSomeAnd (of.held y) (After now_ms job.place job.work h.turn files)

    its_after : IfSome (of.held x) StepLeaves
    its_after = turn_after of random ring now_ms x y drew drawn job.lines job.place job.work job_now.work job.taken job_now.taken h.turn h.is_turn

    its_rows : job.lines ≡ lines → HasLineRows lines job.work → HasLineRows lines job_now.work
    its_rows same r = turn_rows of random ring now_ms lines x y drew drawn job.place job.work job_now.work job.taken job_now.taken h.turn
        (subst (λ l. IsTurnAt of random ring now_ms l job.place job.work job_now.work job.taken job_now.taken h.turn x y drew drawn) same h.is_turn) r

  -- a step that goes on
  again_aside : (p : Place) (work : Option Work) (t : Result Turn JobFault) (files now : Objects) → step.Again ≡ step_of t → After now_ms p work t files now → Aside files now
  again_aside p work (Ok (turn.To q)) files now is a = a
  again_aside p work (Ok (turn.Done id v)) files now is a = absurd (let g : ⊥ = cc in g)
  again_aside p work (Err e) files now is a = absurd (let g : ⊥ = cc in g)

  goes_on : (job job_now : AppendJob) (x y : S) (drew drawn : D) → TakesTurn of random ring now_ms job job_now step.Again x y drew drawn → HasCode job.work → StandsAt job x → StandsAt job_now y
  goes_on job job_now x y drew drawn h code at = use_some (of.held x) _ (λ files both. by_files files both.0 both.1.0 both.1.1)
      (some_if (of.held x) (Standing ring lines first meta table last job) _ at
      (if_both (of.held x) _ _ (its_after job job_now step.Again x y drew drawn h) (step_keeps of random ring now_ms x y drew drawn job job_now step.Again h)))
    where
      by_files : (files : Objects) → Standing ring lines first meta table last job files → IsSomeAnd (of.held y) (After now_ms job.place job.work h.turn files)
          → ((m : Fields) (t : Table) → Stands files m ring t → Fits job ring files → HasCode job.work → IsSomeAnd (of.held y) (λ now. KeepsTable ring files m now t job.work step.Again job_now.place job_now.work))
          → StandsAt job_now y
      by_files files s after keeps = some_more (of.held y) _ (Standing ring lines first meta table last job_now)
          (λ now both. let a : Aside files now = again_aside job.place job.work h.turn files now h.answers both.0 in
          record {
            grew = grows_twice first files now s.grew (aside_grows files now a);
            kept = aside_stands ring meta table files now last a s.kept;
            fits = both.1.fits;
            has_rows = its_rows job job_now step.Again x y drew drawn h s.has_lines s.has_rows;
            has_lines = h.same_lines ∙ s.has_lines;
          })
          (some_both (of.held y) (After now_ms job.place job.work h.turn files) (λ now. KeepsTable ring files meta now table job.work step.Again job_now.place job_now.work)
          after (keeps meta table s.kept.stands s.fits code))

  -- all steps that go on
  reaches_stand : (x : State S D) (steps : ℕ) (y : State S D) (r : Reaches of random ring now_ms x steps y) → AreOfCode of random ring now_ms x steps y r → StandsAt x.job x.store → StandsAt y.job y.store
  reaches_stand x zero y is code at = subst (λ (s : State S D). StandsAt s.job s.store) (sym is) at
  reaches_stand x (suc steps) y (mid, before, taken) code at =
      goes_on mid.job y.job mid.store y.store mid.draws y.draws taken code.1 (reaches_stand x steps mid before code.0 at)

  -- and the last one
  ends : (job job_now : AppendJob) (answer : Result Committed JobFault) (x y : S) (drew drawn : D) → TakesTurn of random ring now_ms job job_now (last_step answer) x y drew drawn → StandsAt job x
      → IsSomeAnd (of.held y) (λ now. Grows first now × LeavesTable ring lines meta last table answer now)
  ends job job_now answer x y drew drawn h at = use_some (of.held x) _ (λ files both. some_more (of.held y) (After now_ms job.place job.work h.turn files) _
      (λ now a. let l = turn_left ring lines now_ms meta table last job.place files now both.0.kept job.work h.turn answer h.answers both.0.fits both.0.has_rows a in
      (grows_twice first files now both.0.grew l.0, l.1)) both.1)
      (some_if (of.held x) (Standing ring lines first meta table last job) _ at (its_after job job_now (last_step answer) x y drew drawn h))

pub run_keeps : {S D : Type 0} (of : store.Ghosts S) (random : draws.Ghosts D) (ring : Ring) (lines : List ℕ) (now_ms : ℕ) (answer : Result Committed JobFault) (x y : S) (drew drawn : D)
    (runs : Runs of random ring lines now_ms answer x y drew drawn) → RunsOnCode of random ring lines now_ms answer x y drew drawn runs → AppendKeepsTable of ring lines answer x y
run_keeps {S} {D} of random ring lines now_ms answer x y drew drawn runs code = over (of.held x) refl
  where
    new_rows : HasLineRows lines runs.job.work
    new_rows = subst (HasLineRows lines) (sym runs.is_new.work) tt

    over : (o : Option Objects) → of.held x ≡ o → IfSome o (λ files. (meta : Fields) (table : Table) → (stands : Stands files meta ring table)
        → IsSomeAnd (of.held y) (λ files_now. Grows files files_now × LeavesTable ring lines meta stands.last table answer files_now))
    over None e = tt
    over (Some files) e = λ meta table stands.
        ends of random ring lines now_ms files meta table stands.last runs.last.job runs.ended answer runs.last.store y runs.last.draws drawn runs.ends
        (reaches_stand of random ring lines now_ms files meta table stands.last (record { job = runs.job; store = x; draws = drew }) runs.steps runs.last runs.reaches code
        (subst (λ q. IsSomeAnd q (Standing ring lines files meta table stands.last runs.job)) (sym e) (record {
          grew = grows_at_rest files;
          kept = record { stands = stands; same = refl };
          fits = new_fits lines runs.job ring files runs.is_new;
          has_rows = new_rows;
          has_lines = runs.is_new.has_lines;
        })))
