-- A file that has a plaintext is shown, so a scan of a table that is all there shows all.
use Rattle.std.specs.Prelude.{◌≡◌, ℕ, ◌^◌, ◌<◌, ◌+◌, ◌⊎◌, ℤ, List, [], ◌∷◌, ◌++◌, length, map, Option, Some, None, IfSome, IsSome, IsSomeAnd, unwrap_or, Result, Ok, Err}
use Rattle.std.specs.List.{AllByRecursion, flat_map}
use Rattle.std.specs.FinMap as finite
use Rattle.std.proofs.Common.{refl, ap, sym, subst, ◌∙◌, arith, inl, inr, append-nil}
use Rattle.std.proofs.lemmas.List.Elements.{All-contains, All-from_recursion}
use Rattle.icb_base.proofs.CallLemmas.{writes_at_rest}
use Rattle.icb_base.proofs.LawLemmas.{knows_itself}
use Rattle.icb_base.specs.Calls.{WritesText}
use Rattle.icb_base.specs.Causes.{Blames}
use Rattle.icb_base.specs.Objects.{Objects, object_at}
use Rattle.icb_base.specs.declared.storage.Store as store
use Rattle.icb_base.specs.declared.transfer.Sink as sink
use Rattle.icb_chain.specs.Ring.{Ring}
use Rattle.icb_meta.specs.Forms.{snapshot_named}
use Rattle.icb_meta.specs.declared.fields.Fields.{Fields}
use Rattle.icb_rows.specs.Records.{Row}
use Rattle.icb_rows.specs.declared.fault.RangeFault.{RangeFault}
use Rattle.icb_datafile.proofs.ChoosingLemmas.{chosen_none}
use Rattle.icb_datafile.proofs.WholeLemmas.{writes_as}
use Rattle.icb_stream.specs.Attached.{read_content}
use Rattle.icb_stream.specs.Content.{plaintext}
use Rattle.icb_stream.specs.Layout.{Layout, blocks, part_at}
use Rattle.icb_stream.specs.declared.fault.StreamFault.{StreamFault}
use Rattle.icb_table.proofs.DifferingLemmas.{each_there}
use Rattle.icb_table.proofs.KnownLemmas.{layout_from, opening_is}
use Rattle.icb_table.specs.Contents.{of_object, opening_in, plaintexts_in}
use Rattle.icb_table.specs.Known.{IsNoMore, Knowledge, ShowsNoMoreAt, shown_in}
use Rattle.icb_table.specs.Listed.{Listed}
use Rattle.icb_table.specs.Selection.{Query, Selection, chosen, line_of, selection_of, text_of}
use Rattle.icb_table.specs.Table.{HasRows, IsInTable, IsTable, Table, columns_asked, contents_in, rows_asked, snapshot_asked}
use Rattle.icb_table.specs.Tree.{Contents, TreeFile, listed_as}
use Rattle.icb_table.specs.Visited.{visited}
use Rattle.icb_walk.specs.Fits.{IsGone, IsUnshown}
use Rattle.icb_walk.specs.declared.fault.Cause.{Cause}
use Rattle.icb_walk.specs.declared.fault.TreeFault.TheVariants as tree
use Rattle.icb_scan.proofs.BeginLemmas.{start_from}
use Rattle.icb_scan.proofs.CommittedLemmas.{all_among, whole_files}
use Rattle.icb_scan.proofs.TableLemmas.{all_visited, told_then}
use Rattle.icb_scan.specs.Answers.{IsTableAnswer, UnshownAt}
use Rattle.icb_scan.specs.Answers as answers
use Rattle.icb_scan.specs.Complete.{HasVisited, IsComplete, ScansComplete}
use Rattle.icb_scan.specs.Leaves.{IsSink, IsStore}
use Rattle.icb_scan.specs.Scans.{Scans, ShowsListed}
use Rattle.icb_scan.specs.Start.{Start, Unbegun, list_asked, snapshot_found, start_of}
use Rattle.icb_scan.specs.Tables.{ScansTable}
use Rattle.icb_scan.specs.declared.fault.ScanFault.{ScanFault}
use Rattle.icb_scan.specs.declared.fault.ScanFault.TheVariants as fault

-- ---- a file that has a plaintext is shown

-- its opening isn't refused
is_opened : (object : Option (List ℕ)) (opening : Result Layout StreamFault) (bytes : List ℕ) (e : StreamFault) → of_object plaintext object opening ≡ Some bytes → opening ≡ Err e → ⊥
is_opened None opening bytes e p refused = let never : ⊥ = cc in never
is_opened (Some object) (Ok layout) bytes e p refused = let never : ⊥ = cc in never
is_opened (Some object) (Err other) bytes e p refused = let never : ⊥ = cc in never

-- each block opens
none_gone : (files : Objects) (f : Listed) (bytes : List ℕ) (e : StreamFault) → plaintexts_in files f ≡ Some bytes → IsGone files f e → ⊥
none_gone files f bytes e p gone =
    let text : plaintext gone.object gone.layout ≡ Some bytes =
    ap (of_object plaintext (Some gone.object)) (sym gone.is_open)
    ∙ ap (λ (o : Option (List ℕ)). of_object plaintext o (opening_in files f)) (sym gone.held) ∙ p in
    let at : 0 + gone.number ≡ gone.number = omega arith in
    each_there (part_at gone.object gone.layout) 0 (blocks gone.layout) gone.number bytes text gone.within
    (ap (part_at gone.object gone.layout) at ∙ gone.gone)

shown_by : (files : Objects) (f : Listed) (bytes : List ℕ) (e : StreamFault) → plaintexts_in files f ≡ Some bytes → (opening_in files f ≡ Err e) ⊎ IsGone files f e → ⊥
shown_by files f bytes e p (inl refused) = is_opened (object_at files f.path) (opening_in files f) bytes e p refused
shown_by files f bytes e p (inr gone) = none_gone files f bytes e p gone

pub is_shown : (files : Objects) (f : Listed) (bytes : List ℕ) (c : Cause) → plaintexts_in files f ≡ Some bytes → IsUnshown files f c → ⊥
is_shown files f bytes c p u = shown_by files f bytes u.fault p u.refused

some_shown : (files : Objects) (f : Listed) (plain : Option (List ℕ)) (c : Cause) → plaintexts_in files f ≡ plain → IsSome plain → IsUnshown files f c → ⊥
some_shown files f None c p there u = let never : ⊥ = cc in never
some_shown files f (Some bytes) c p there u = is_shown files f bytes c p u

-- ---- a file that is found as it was committed

-- the same is seen of it
seen_same : {A : Type 0} (see : List ℕ → Layout → Option A) (found committed : Objects) (f : Listed) → object_at found f.path ≡ object_at committed f.path
    → of_object see (object_at found f.path) (opening_in found f) ≡ of_object see (object_at committed f.path) (opening_in committed f)
seen_same see found committed f e =
    ap (of_object see (object_at found f.path)) (opening_is found f)
    ∙ ap (λ (o : Option (List ℕ)). of_object see o (layout_from f o)) e
    ∙ ap (of_object see (object_at committed f.path)) (sym (opening_is committed f))

no_more_itself : (known : Knowledge) → IsNoMore known known
no_more_itself None = tt
no_more_itself (Some known) = knows_itself known

no_more : (found committed : Objects) (f : Listed) → object_at found f.path ≡ object_at committed f.path → IsNoMore (shown_in found f) (shown_in committed f)
no_more found committed f e =
    subst (λ (k : Knowledge). IsNoMore (shown_in found f) k) (seen_same (λ bytes layout. Some (read_content bytes layout)) found committed f e) (no_more_itself (shown_in found f))

none_more : (found committed : Objects) (fs : List Listed) → AllByRecursion (λ f. object_at found f.path ≡ object_at committed f.path) fs → ShowsNoMoreAt fs found committed
none_more found committed [] h = tt
none_more found committed (f ∷ fs) h = (no_more found committed f h.0, none_more found committed fs h.1)

-- so each of the committed files that has a plaintext has one in the store
all_found : (found committed : Objects) (meta : Fields) (ring : Ring) (fs : List Listed) → AllByRecursion (λ f. object_at found f.path ≡ object_at committed f.path) fs
    → AllByRecursion (λ f. IsInTable committed meta ring f × IsSome (plaintexts_in committed f)) fs → AllByRecursion (λ f. IsSome (plaintexts_in found f)) fs
all_found found committed meta ring [] same own = tt
all_found found committed meta ring (f ∷ fs) same own = (
  subst (λ (o : Option (List ℕ)). IsSome o) (sym (seen_same plaintext found committed f same.0)) own.0.1,
  all_found found committed meta ring fs same.1 own.1,
)

-- ---- what is answered

-- what was shown is all
all_shown : {Out : Type 0} (out : sink.Ghosts Out) (s : Selection) (rows shown unshown : List Row) (n : ℕ) (before after : Out) → chosen s rows ≡ shown ++ unshown → unshown ≡ []
    → (length shown < 2 ^ 64 → n ≡ length shown) → WritesText out (flat_map (line_of s.columns) shown) ⊥ before after
    → WritesText out (text_of s rows) ⊥ before after × (length (chosen s rows) < 2 ^ 64 → n ≡ length (chosen s rows))
all_shown out s rows shown unshown n before after are none number writes =
    let is : chosen s rows ≡ shown = are ∙ ap (λ (rs : List Row). shown ++ rs) none ∙ append-nil shown in (
      subst (λ (rs : List Row). WritesText out (flat_map (line_of s.columns) rs) ⊥ before after) (sym is) writes,
      subst (λ (rs : List Row). length rs < 2 ^ 64 → n ≡ length rs) (sym is) number,
    )

module _ {Self Out : Type 0} (of : store.Ghosts Self) (out : sink.Ghosts Out) (contents : Contents) (files : Objects) (s : Selection) (visits : List TreeFile) (rows : List Row) (x y : Self) (before after : Out) where
  -- where each visited file has a plaintext
  complete_by : (result : Result ℕ ScanFault) → AllByRecursion (λ f. IsSome (plaintexts_in files f)) (map listed_as visits)
      → Blames (IsStore result) (of.faults x) (of.faults y) → Blames (IsSink result) (out.faults before) (out.faults after)
      → answers.ShowsRows of out contents files s visits rows x y before after result → IsComplete of out s rows x y before after result
  complete_by (Ok n) there stores sinks h =
      all_shown out s rows h.shown h.unshown n before after h.are_chosen h.answer.0 h.answer.1
      (writes_as out (flat_map (line_of s.columns) h.shown) before after (λ e. let never : ⊥ = cc in never) (λ never. absurd never) h.writes)
  complete_by (Err (fault.Tree (tree.At path c))) there stores sinks h =
      let P : Listed → Type 0 = λ f. IsSome (plaintexts_in files f) in
      let u : UnshownAt contents files s visits h.shown path c = h.answer.1 in
      absurd (some_shown files u.file (plaintexts_in files u.file) c refl
      (All-contains P (map listed_as visits) u.file (All-from_recursion P (map listed_as visits) there) u.is_visited) u.unshown)
  complete_by (Err (fault.Tree tree.Store)) there stores sinks h = stores.rose refl
  complete_by (Err fault.Sink) there stores sinks h = sinks.rose refl
  complete_by (Err fault.NoMemory) there stores sinks h = tt
  complete_by (Err (fault.Tree tree.NoMemory)) there stores sinks h = absurd h.answer
  complete_by (Err (fault.Tree (tree.NoSnapshot id))) there stores sinks h = absurd h.answer
  complete_by (Err (fault.Tree (tree.PlainList id))) there stores sinks h = absurd h.answer
  complete_by (Err (fault.Tree (tree.Chain inner))) there stores sinks h = absurd h.answer
  complete_by (Err (fault.Tree (tree.BadList id file what))) there stores sinks h = absurd h.answer
  complete_by (Err (fault.NoColumn name)) there stores sinks h = absurd h.answer
  complete_by (Err (fault.BadRange name)) there stores sinks h = absurd h.answer

-- ---- where there is no snapshot

complete_none : {Self Out : Type 0} (of : store.Ghosts Self) (out : sink.Ghosts Out) (s : Selection) (x y : Self) (before after : Out) (result : Result ℕ ScanFault)
    → (result ≡ Ok 0) ⊎ (result ≡ Err fault.NoMemory) → after ≡ before → IsComplete of out s [] x y before after result
complete_none {Out = Out} of out s x y before after result (inl ok) same =
    let none : chosen s [] ≡ [] = chosen_none s in
    let size : 0 ≡ length (chosen s []) = ap length (sym none) in
    subst (λ (r : Result ℕ ScanFault). IsComplete of out s [] x y before after r) (sym ok) (
      subst (λ (rs : List Row). WritesText out (flat_map (line_of s.columns) rs) ⊥ before after) (sym none)
          (subst (λ (z : Out). WritesText out [] ⊥ before z) (sym same) (writes_at_rest out ⊥ before (λ never. never))),
      λ fits. size,
    )
complete_none of out s x y before after result (inr memory) same =
    subst (λ (r : Result ℕ ScanFault). IsComplete of out s [] x y before after r) (sym memory) tt

-- a scan where there is no snapshot begins with no list
begins_nowhere : (meta : Fields) (ring : Ring) (q : Query) (s : Selection) → snapshot_asked meta q ≡ None → selection_of (columns_asked meta) q ≡ Ok s
    → start_of meta ring q ≡ Ok (record { list = None; selection = s })
begins_nowhere meta ring q s asked sel =
    ap (λ (o : Option ℤ). start_from (snapshot_found meta o) (selection_of (columns_asked meta) q) (list_asked meta ring o)) asked
    ∙ ap (λ (r : Result Selection RangeFault). start_from (Ok tt) r (Ok None)) sel

-- what a told store leads to holds also where nothing is told
any_then : {A : Type 0} (o : Option A) (P : A → Type 0) → ((a : A) → P a) → IfSome o P
any_then None P h = tt
any_then (Some a) P h = h a

-- ---- tables

module _ {Self Out : Type 0} (of : store.Ghosts Self) (out : sink.Ghosts Out) (meta : Fields) (ring : Ring) (q : Query) (x y : Self) (before after : Out) (result : Result ℕ ScanFault)
    (scans : Scans of out (columns_asked meta) meta.heading.location (start_of meta ring q) x y before after result)
    (scans_table : ScansTable of out meta ring q x y before after result)
    (stores : Blames (IsStore result) (of.faults x) (of.faults y)) (sinks : Blames (IsSink result) (out.faults before) (out.faults after)) where
  of_none : (s : Selection) → snapshot_asked meta q ≡ None → selection_of (columns_asked meta) q ≡ Ok s → IsComplete of out s [] x y before after result
  of_none s asked sel =
      let shows : ShowsListed of out (columns_asked meta) meta.heading.location s None x y before after result =
      subst (λ (r : Result Start Unbegun). Scans of out (columns_asked meta) meta.heading.location r x y before after result) (begins_nowhere meta ring q s asked sel) scans in
      complete_none of out s x y before after result shows.0 shows.1.same_sink

  of_rows : (committed : Objects) (table : Table) (s : Selection) (id : ℤ) (rows : List Row) → IsTable committed meta ring table → snapshot_asked meta q ≡ Some id
      → IsSome (snapshot_named id meta.state.snapshots) → selection_of (columns_asked meta) q ≡ Ok s → finite.get table id ≡ Some rows → HasRows committed meta ring id rows
      → IfSome (of.held x) (λ found. HasVisited found committed meta ring q → IsComplete of out s rows x y before after result)
  of_rows committed table s id rows is_table asked there sel has_id has =
      let c : Contents = contents_in meta committed in
      let files : List TreeFile = visited c s has.tree in
      let P : Listed → Type 0 = λ f. IsInTable committed meta ring f × IsSome (plaintexts_in committed f) in
      let own : AllByRecursion P (map listed_as files) = all_visited P c s has.tree (whole_files committed meta ring id rows there has) in
      told_then (of.held x) _ _ (λ found shows as_committed.
      let same : AllByRecursion (λ f. object_at found f.path ≡ object_at committed f.path) (map listed_as files) =
      all_among (λ f. object_at found f.path ≡ object_at committed f.path) (map listed_as files) [] (map listed_as files) refl
      (λ f is_in. as_committed f (record { id = id; asked = asked; tree = has.tree; has_tree = has.has_tree; selection = s; means = sel; is_in = is_in })) in
      complete_by of out c found s files rows x y before after result (all_found found committed meta ring (map listed_as files) same own) stores sinks
      (shows (none_more found committed (map listed_as files) same)))
      (scans_table committed table id rows has.tree s is_table asked has_id has.has_tree sel)

  of_table : (committed : Objects) (table : Table) (s : Selection) (id : ℤ) (o : Option (List Row)) → IsTable committed meta ring table → snapshot_asked meta q ≡ Some id
      → IsSome (snapshot_named id meta.state.snapshots) → selection_of (columns_asked meta) q ≡ Ok s → finite.get table id ≡ o → IsSomeAnd o (HasRows committed meta ring id)
      → IfSome (of.held x) (λ found. HasVisited found committed meta ring q → IsComplete of out s (unwrap_or o []) x y before after result)
  of_table committed table s id None is_table asked there sel has_id has = absurd has
  of_table committed table s id (Some rows) is_table asked there sel has_id has = of_rows committed table s id rows is_table asked there sel has_id has

  of_asked : (committed : Objects) (table : Table) (s : Selection) (o : Option ℤ) → IsTable committed meta ring table → snapshot_asked meta q ≡ o
      → IfSome o (λ id. IsSome (snapshot_named id meta.state.snapshots)) → selection_of (columns_asked meta) q ≡ Ok s
      → IfSome (of.held x) (λ found. HasVisited found committed meta ring q → IsComplete of out s (rows_asked table o) x y before after result)
  of_asked committed table s None is_table asked there sel = any_then (of.held x) _ (λ found as_committed. of_none s asked sel)
  of_asked committed table s (Some id) is_table asked there sel =
      of_table committed table s id (finite.get table id) is_table asked there sel refl (is_table.each_snapshot id there)

  pub scans_complete : ScansComplete of out meta ring q x y before after result
  scans_complete committed table s is_table there sel = of_asked committed table s (snapshot_asked meta q) is_table refl there sel
