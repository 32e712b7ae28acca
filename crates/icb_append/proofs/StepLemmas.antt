-- A step of an append over a store that stands for a table.
use Rattle.std.proofs.Common.{◌≡◌, ℕ, ℤ, Bool, true, false, List, [], ◌∷◌, length, Option, Some, None, if◌then◌else◌, Result, Ok, Err, refl, sym, ap, ◌∙◌, subst, arith, inl}
use Rattle.std.specs.Prelude.{◌==◌, IfSome, IsSomeAnd, nat_lt}
use Rattle.std.specs.List.{AllByRecursion}
use Rattle.std.proofs.lemmas.Bool.{eqb-true}
use Rattle.std.proofs.lemmas.List.Elements.{All-contains, All-from_recursion}
use Rattle.serde_json.specs.Data.{Data}
use Rattle.icb_base.specs.Objects.{Objects, object_at}
use Rattle.icb_base.specs.declared.limits.Limited.TheVariants as limit
use Rattle.icb_base.specs.declared.storage.Store as store
use Rattle.icb_base.specs.declared.transfer.Draws as draws
use Rattle.icb_chain.specs.Ring.{Ring}
use Rattle.icb_list.specs.declared.row.ListRow.{ListRow}
use Rattle.icb_meta.specs.Answers.{json_of, shown_of}
use Rattle.icb_meta.specs.Shown.{meta_of}
use Rattle.icb_meta.specs.declared.fields.Fields.{Fields}
use Rattle.icb_meta.specs.declared.table.TableMeta.{TableMeta}
use Rattle.icb_table.specs.Standing.{ShowsMeta, Stands}
use Rattle.icb_table.specs.Table.{IsTable, Table}
use Rattle.icb_tree.specs.Reading.{shown_meta}
use Rattle.icb_tree.specs.Reading as reading
use Rattle.icb_tree.specs.Versions.{◌>>=◌, meta_in, most_bytes, short_text, version_of, version_path}
use Rattle.icb_tree.specs.declared.fault.CurrentFault.{CurrentFault}
use Rattle.icb_tree.specs.declared.fault.CurrentFault.TheVariants as current
use Rattle.icb_turns.specs.Turns.{keeps_rows}
use Rattle.icb_turns.proofs.GrownLemmas.{rest_is_turn}
use Rattle.icb_turns.specs.declared.fault.JobFault.{JobFault}
use Rattle.icb_turns.specs.declared.fault.JobFault.TheVariants as fault
use Rattle.icb_turns.specs.declared.fault.Step.TheVariants as step
use Rattle.icb_turns.specs.declared.probing.Probed.{Probed}
use Rattle.icb_turns.specs.declared.probing.Probed.TheVariants as probed
use Rattle.icb_types.specs.Fits.{FitsColumns}
use Rattle.icb_types.specs.declared.datum.Datum.{Datum}
use Rattle.icb_append.specs.Beginning.{AnswersBegun, IsBegun, new_work}
use Rattle.icb_append.specs.Drafts.{new_draft}
use Rattle.icb_append.specs.Keeping.{AreParentRows}
use Rattle.icb_append.specs.Progress.{HasTable, HasTried, IsFiled, IsNewest}
use Rattle.icb_append.specs.Steps.{FitsPlace, HasCode, KeepsTable, TellsChange, job_paths}
use Rattle.icb_append.specs.Tried.{Tries}
use Rattle.icb_append.specs.Turning.{Probes, ReadsVersion, behind_begun, behind_files, behind_probe, comes_to, parent_for, place_after, step_of, work_after}
use Rattle.icb_append.specs.declared.draft.Draft.{Draft}
use Rattle.icb_append.specs.declared.place.Place.{Place}
use Rattle.icb_append.specs.declared.place.Place.TheVariants as place
use Rattle.icb_append.specs.declared.place.Turn.{Turn}
use Rattle.icb_append.specs.declared.place.Turn.TheVariants as turn
use Rattle.icb_append.specs.declared.tried.Tried.{Tried}
use Rattle.icb_append.specs.declared.work.Work.{Work}
use Rattle.icb_append.proofs.PutTurnLemmas.{if_more}
use Rattle.icb_append.proofs.TurnLemmas.{is_the_last, shown_once}

-- ---- answers that tell no change

pub refused_tells : (work : Option Work) (table : Table) (was : Fields) (e : JobFault) → TellsChange work table was (step.Refused e) keeps_rows
refused_tells work table was fault.NoTable = refl
refused_tells work table was (fault.BadMeta f) = refl
refused_tells work table was (fault.BadInput l r) = refl
refused_tells work table was (fault.Cannot w) = refl
refused_tells work table was (fault.SameKey i) = refl
refused_tells work table was (fault.KeyName i) = refl
refused_tells work table was (fault.Tree c) = refl
refused_tells work table was (fault.NameTaken p) = refl
refused_tells work table was (fault.Contended v) = refl
refused_tells work table was (fault.Limit w n) = refl
refused_tells work table was fault.Random = refl
refused_tells work table was fault.Store = inl refl
refused_tells work table was fault.NoMemory = refl

-- ---- a version that was read

-- a version that shows metadata is an object that does
shows_of : (files : Objects) (n : ℕ) (json : Data) (meta : Fields) (o : Option (List ℕ)) → object_at files (version_path n) ≡ o → (short_text o >>= meta_in) ≡ Ok (json, meta) → ShowsMeta files (version_path n) meta
shows_of files n json meta None e h = absurd (let g : ⊥ = cc in g)
shows_of files n json meta (Some bytes) e h = record {
  bytes = bytes;
  held = e;
  json = json;
  shows = by_length (nat_lt most_bytes (length bytes)) h;
}
  where
    by_read : (r : Result (Data × Fields) (List ℕ)) → meta_of bytes ≡ r → meta_in bytes ≡ Ok (json, meta) → meta_of bytes ≡ Ok (json, meta)
    by_read (Ok shown) is h =
        let read : meta_in bytes ≡ Ok shown = rw is refl in
        let same : Ok shown ≡ Ok (json, meta) = sym read ∙ h in
        let alike : shown ≡ (json, meta) = cc in
        is ∙ ap (λ s. Ok s) alike
    by_read (Err field) is h =
        let read : meta_in bytes ≡ Err (current.BadMeta field) = rw is refl in
        absurd (let g : ⊥ = let both = sym read ∙ h in cc in g)

    by_length : (b : Bool) → ((if b then Err (current.Limit limit.Metadata most_bytes) else Ok bytes) >>= meta_in) ≡ Ok (json, meta) → meta_of bytes ≡ Ok (json, meta)
    by_length true h = absurd (let g : ⊥ = cc in g)
    by_length false h = by_read (meta_of bytes) refl h

module _ (files : Objects) (ring : Ring) where
  -- the table of a tried version, behind which none is held
  table_of_newest : (tried : Tried) (meta : Fields) (table : Table) → Stands files meta ring table → ShowsMeta files (version_path tried.version) (shown_of tried.meta)
      → IsNewest files tried → HasTable files ring tried []
  table_of_newest tried meta table stands shows free =
      let last = is_the_last files tried.version (shown_of tried.meta) stands.last tried.ready.few shows free stands.is_last in
      let same : meta ≡ shown_of tried.meta = shown_once files (version_path tried.version) meta (shown_of tried.meta)
      (subst (λ n. ShowsMeta files (version_path n) meta) (sym last) stands.current) shows in
      record {
        table = table;
        is_table = subst (λ m. IsTable files m ring table) same stands.is_table;
        unlisted = λ f is at. All-contains (λ _. ⊥) [] f.path (All-from_recursion (λ _. ⊥) [] tt) at;
      }

  -- where the files are put
  pub behind_fits : (tried : Tried) (draft : Draft) (m : Option ListRow) (work : Work) (current : Option ℤ) → parent_for tried ≡ current → work.tried ≡ tried → work.draft ≡ draft → work.manifest ≡ m
      → work.parent ≡ [] → IsFiled files ring tried draft m → FitsPlace ring files (behind_files current) (Some work)
  behind_fits tried draft m work (Some id) e t d w p filed = (
    subst (λ q. IsFiled files ring q work.draft work.manifest) (sym t) (subst (λ q. IsFiled files ring tried q work.manifest) (sym d) (subst (λ q. IsFiled files ring tried draft q) (sym w) filed)),
    ap parent_for t ∙ e,
  )
  behind_fits tried draft m work None e t d w p filed = record {
    filed = subst (λ q. IsFiled files ring q work.draft work.manifest) (sym t) (subst (λ q. IsFiled files ring tried q work.manifest) (sym d) (subst (λ q. IsFiled files ring tried draft q) (sym w) filed));
    are_parent = λ _. subst (λ c. AreParentRows files (shown_of work.tried.meta) ring c work.parent) (sym (ap parent_for t ∙ e)) p;
  }

  -- the metadata of a version are read, and the work begins
  module _ (meta : Fields) (table : Table) (stands : Stands files meta ring table) where
    has_tried : (meta0 : TableMeta) (version : ℕ) (lines unique : List ℕ) (work : Work) (b : IsBegun meta0 ring version lines unique work) → version_of files version ≡ Ok (shown_meta meta0)
        → HasTried files ring work.tried (new_draft b.rows unique)
    has_tried meta0 version lines unique work b is =
        let shows = shows_of files version (json_of meta0) (shown_of meta0) (object_at files (version_path version)) refl is in
        let v : work.tried.version ≡ version = b.tries.2 in
        let m : work.tried.meta ≡ meta0 = b.tries.3 in
        record {
          is_tried = subst (λ x. Tries x ring work.tried.version (length b.rows) (Ok work.tried)) (sym m)
              (subst (λ n. Tries meta0 ring n (length b.rows) (Ok work.tried)) (sym v) b.tries);
          shows = subst (λ x. ShowsMeta files (version_path work.tried.version) (shown_of x)) (sym m)
              (subst (λ n. ShowsMeta files (version_path n) (shown_of meta0)) (sym v) shows);
          fit = subst (λ x. AllByRecursion (FitsColumns (shown_of x).layout.schema.columns) b.rows) (sym m) b.fit;
        }

    no_rows : (n : ℕ) (rows : List (List Datum)) → n ≡ length rows → (n == 0) ≡ true → rows ≡ []
    no_rows n [] e z = refl
    no_rows n (r ∷ rows) e z = let none : n ≡ 0 = eqb-true n 0 z in absurd (let g : ⊥ = omega (arith, e, none) in g)

    begun_new : (tried : Tried) (rows : List (List Datum)) (unique : List ℕ) → HasTried files ring tried (new_draft rows unique) → tried.rows ≡ length rows
        → FitsPlace ring files (behind_begun (new_work rows tried unique)) (Some (new_work rows tried unique))
    begun_new tried rows unique has e = by_count (tried.rows == 0) refl
      where
        newest : IsNewest files tried → HasTable files ring tried []
        newest free = table_of_newest tried meta table stands has.shows free

        by_count : (b : Bool) → (tried.rows == 0) ≡ b
            → FitsPlace ring files (if b then behind_files (parent_for tried) else place.Filing) (Some (new_work rows tried unique))
        by_count true z = behind_fits tried (new_draft rows unique) None (new_work rows tried unique) (parent_for tried) refl refl refl refl refl
            (record { has_tried = has; draft_held = no_rows tried.rows rows e z; distinct = refl; newest = newest })
        by_count false z = (record { has_tried = has; data_files = tt; distinct = refl; newest = newest }, refl, refl)

    begun_fits : (given : Result TableMeta CurrentFault) (version : ℕ) (lines unique : List ℕ) (work : Work) → reading.Answers shown_meta (version_of files version) given
        → AnswersBegun given ring version lines unique (Ok work) → FitsPlace ring files (behind_begun work) (Some work)
    begun_fits (Err e) version lines unique work is h = absurd (let g : ⊥ = let same = h.0 in cc in g)
    begun_fits (Ok meta0) version lines unique work is b =
        subst (λ w. FitsPlace ring files (behind_begun w) (Some w)) (sym b.is_new)
        (begun_new work.tried b.rows unique (has_tried meta0 version lines unique work b is) b.tries.4)

-- ---- turns that put nothing

module _ {S D : Type 0} (of : store.Ghosts S) (random : draws.Ghosts D) (ring : Ring) (x y : S) (drew drawn : D) (work work_now : Option Work) where
  -- what a turn at a place is to leave, over a store that holds these objects
  abbrev pub Leaves : Place → Result Turn JobFault → Objects → Type 0
  Leaves p t files = (meta : Fields) (table : Table) → Stands files meta ring table → FitsPlace ring files p work → HasCode work
      → IsSomeAnd (of.held y) (λ now. KeepsTable ring files meta now table work (step_of t) (place_after t) work_now)

  pub rested : (files : Objects) (meta : Fields) (table : Table) (t : Result Turn JobFault) → of.held y ≡ Some files → Stands files meta ring table
      → TellsChange work table meta (step_of t) keeps_rows → FitsPlace ring files (place_after t) work_now
      → IsSomeAnd (of.held y) (λ now. KeepsTable ring files meta now table work (step_of t) (place_after t) work_now)
  rested files meta table t same stands tells fits = subst (λ o. IsSomeAnd o (λ now. KeepsTable ring files meta now table work (step_of t) (place_after t) work_now)) (sym same)
      (record { change = keeps_rows; tells = tells; turn = rest_is_turn (job_paths work) ring files meta table stands; fits = fits })

  pub told_same : of.held y ≡ of.held x → IfSome (of.held x) (λ files. of.held y ≡ Some files)
  told_same same = by_told (of.held x) (of.held y) same
    where
      by_told : (o now : Option Objects) → now ≡ o → IfSome o (λ files. now ≡ Some files)
      by_told None now e = tt
      by_told (Some files) now e = e

  -- a probe
  probe_fits : (files : Objects) (p : Probed) → FitsPlace ring files (behind_probe p) work_now
  probe_fits files (probed.Next n) = tt
  probe_fits files (probed.Found n) = tt

  pub probing : (version : ℕ) (t : Result Turn JobFault) → Probes of version t x y → IfSome (of.held x) (Leaves (place.Probing version) t)
  probing version t h = if_more (of.held x) (λ files. of.held y ≡ Some files) (Leaves (place.Probing version) t)
      (λ files same meta table stands fits code. subst (λ r. IsSomeAnd (of.held y) (λ now. KeepsTable ring files meta now table work (step_of r) (place_after r) work_now)) (sym h.goes)
      (by_found files meta table same stands h.found)) (told_same h.reads.same)
    where
      by_found : (files : Objects) (meta : Fields) (table : Table) → of.held y ≡ Some files → Stands files meta ring table → (r : Result Probed JobFault)
          → IsSomeAnd (of.held y) (λ now. KeepsTable ring files meta now table work (step_of (comes_to behind_probe r)) (place_after (comes_to behind_probe r)) work_now)
      by_found files meta table same stands (Ok p) = rested files meta table (Ok (turn.To (behind_probe p))) same stands refl (probe_fits files p)
      by_found files meta table same stands (Err e) = rested files meta table (Err e) same stands (refused_tells work table meta e) tt

  -- the reading of a version
  pub version_read : (version : ℕ) (lines : List ℕ) (now_ms : ℕ) (t : Result Turn JobFault) → ReadsVersion of random ring version lines work work_now t x y drew drawn
      → IfSome (of.held x) (Leaves (place.Reading version) t)
  version_read version lines now_ms t h = if_more (of.held x) _ (Leaves (place.Reading version) t)
      (λ files both meta table stands fits code. subst (λ r. IsSomeAnd (of.held y) (λ now. KeepsTable ring files meta now table work (step_of r) (place_after r) work_now)) (sym h.goes)
      (by_begun files meta table both.0 stands both.1 h.begun h.begins.answers h.has)) (if_both (of.held x) _ _ (told_same h.begins.reads.same) h.begins.is_given)
    where
      if_both : (o : Option Objects) (P Q : Objects → Type 0) → IfSome o P → IfSome o Q → IfSome o (λ f. P f × Q f)
      if_both None P Q p q = tt
      if_both (Some f) P Q p q = (p, q)

      by_begun : (files : Objects) (meta : Fields) (table : Table) → of.held y ≡ Some files → Stands files meta ring table → reading.Answers shown_meta (version_of files version) h.begins.given
          → (r : Result Work JobFault) → AnswersBegun h.begins.given ring version lines h.begins.unique r → work_now ≡ work_after work r
          → IsSomeAnd (of.held y) (λ now. KeepsTable ring files meta now table work (step_of (comes_to behind_begun r)) (place_after (comes_to behind_begun r)) work_now)
      by_begun files meta table same stands is (Ok w) a has = rested files meta table (Ok (turn.To (behind_begun w))) same stands refl
          (subst (λ o. FitsPlace ring files (behind_begun w) o) (sym has) (begun_fits files ring meta table stands h.begins.given version lines h.begins.unique w is a))
      by_begun files meta table same stands is (Err e) a has = rested files meta table (Err e) same stands (refused_tells work table meta e) tt
