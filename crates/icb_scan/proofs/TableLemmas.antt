-- The rows of a table are those that a scan shows, where the store shows no more than the objects that hold it.
use Rattle.std.specs.Prelude.{◌≡◌, ℕ, zero, suc, ◌-◌, ◌+◌, ℤ, Bool, true, false, List, [], ◌∷◌, length, map, drop, filter, Option, Some, None, IfSome, IsSome, IsSomeAnd, is_none, bytes_eq, Result, Ok, Err, if◌then◌else◌}
use Rattle.std.specs.List.{AllByRecursion, Contains}
use Rattle.std.specs.FinMap as finite
use Rattle.std.proofs.Common.{refl, ap, sym, subst, ◌∙◌, arith, inl, inr, append-nil}
use Rattle.std.proofs.lemmas.List.Elements.{Contains-append_right}
use Rattle.icb_base.specs.Objects.{Objects}
use Rattle.icb_base.specs.declared.storage.Store as store
use Rattle.icb_base.specs.declared.transfer.Sink as sink
use Rattle.icb_chain.specs.Ring.{Ring}
use Rattle.icb_meta.specs.Forms.{snapshot_named}
use Rattle.icb_meta.specs.declared.fields.Fields.{Fields}
use Rattle.icb_rows.specs.Ranges.{column_named, end_of, or_refuse, range_of}
use Rattle.icb_rows.specs.Records.{Row}
use Rattle.icb_rows.specs.declared.fault.RangeFault.{RangeFault}
use Rattle.icb_rows.specs.declared.fault.RangeFault.TheVariants as words
use Rattle.icb_rows.specs.declared.range.Range.{Range}
use Rattle.icb_types.specs.Steps.{◌>>=◌}
use Rattle.icb_types.specs.declared.columns.Column.{Column}
use Rattle.icb_datafile.specs.Left.{all_of}
use Rattle.icb_table.proofs.AllowedLemmas.{table_is_allowed}
use Rattle.icb_table.proofs.KnownLemmas.{all_allowed_by_less}
use Rattle.icb_table.proofs.VisitedLemmas.{all_read, visited_suffice}
use Rattle.icb_table.specs.Contents.{Plaintexts, plaintexts_in}
use Rattle.icb_table.specs.Known.{Allows, AllowsAt, ShowsNoMoreAt, shown_in}
use Rattle.icb_table.specs.Laws.{IsRangeOf}
use Rattle.icb_table.specs.Listed.{Listed}
use Rattle.icb_table.specs.Selection.{ColumnRange, Query, RangeWords, Selection, at_most, chosen, columns_shown, is_within, range_meant, selection_of}
use Rattle.icb_table.specs.Snapshots.{Refused, list_of, no_snapshot}
use Rattle.icb_table.specs.Table.{HasRows, HasTree, columns_asked, contents_in, snapshot_asked}
use Rattle.icb_table.specs.Trace.{Trace, ended, then_read, whole}
use Rattle.icb_table.specs.Tree.{Contents, TreeFile, listed_as, rows_in, tree_below}
use Rattle.icb_table.specs.Visited.{files_for, is_open, matches_in, up_to, visited}
use Rattle.icb_walk.specs.declared.fault.TreeFault.TheVariants as tree
use Rattle.icb_scan.proofs.BeginLemmas.{start_from}
use Rattle.icb_scan.specs.Answers.{HaveFirst, HaveLeftOut, IsAnswer, IsRefused, IsTableAnswer, Shows, ShowsBelow, StopsAt, rows_read}
use Rattle.icb_scan.specs.Answers as answers
use Rattle.icb_scan.specs.Scans.{Scans}
use Rattle.icb_scan.specs.Start.{Start, Unbegun, list_asked, list_found, no_list, snapshot_found, start_of}
use Rattle.icb_scan.specs.Tables.{ScansTable}
use Rattle.icb_scan.specs.declared.fault.ScanFault.{ScanFault}
use Rattle.icb_scan.specs.declared.fault.ScanFault.TheVariants as fault

-- ---- the files that are visited are files of the tree

all_open : (P : Listed → Type 0) (p : TreeFile → Bool) (files : List TreeFile) → AllByRecursion P (map listed_as files)
    → AllByRecursion P (map listed_as (filter p files))
all_open P p [] all = tt
all_open P p (f ∷ files) all = elim (p f) as (λ b. AllByRecursion P (map listed_as (if b then f ∷ filter p files else filter p files))) [
  | true ↦ (all.0, all_open P p files all.1)
  | false ↦ all_open P p files all.1
]

all_up : (P : Listed → Type 0) (m : TreeFile → ℕ) (n : ℕ) (files : List TreeFile) → AllByRecursion P (map listed_as files)
    → AllByRecursion P (map listed_as (up_to m n files))
unfolding up_to
all_up P m zero files all = tt
all_up P m (suc n) [] all = tt
all_up P m (suc n) (f ∷ files) all = (all.0, all_up P m (suc n - m f) files all.1)

all_for : (P : Listed → Type 0) (m : TreeFile → ℕ) (skip : ℕ) (most : Option ℕ) (files : List TreeFile) → AllByRecursion P (map listed_as files)
    → AllByRecursion P (map listed_as (files_for m skip most files))
all_for P m skip None files all = all
all_for P m skip (Some zero) files all = tt
all_for P m skip (Some (suc n)) files all = all_up P m (skip + suc n) files all

pub all_visited : (P : Listed → Type 0) (c : Contents) (s : Selection) (files : List TreeFile) → AllByRecursion P (map listed_as files)
    → AllByRecursion P (map listed_as (visited c s files))
all_visited P c s files all = all_for P (matches_in c s.range) s.skip s.most (filter (is_open s.range) files) (all_open P (is_open s.range) files all)

-- so is what is said of files of the tree
some_open : (Q : TreeFile → Type 0) (p : TreeFile → Bool) (files : List TreeFile) → AllByRecursion Q files → AllByRecursion Q (filter p files)
some_open Q p [] all = tt
some_open Q p (f ∷ files) all = elim (p f) as (λ b. AllByRecursion Q (if b then f ∷ filter p files else filter p files)) [
  | true ↦ (all.0, some_open Q p files all.1)
  | false ↦ some_open Q p files all.1
]

some_up : (Q : TreeFile → Type 0) (m : TreeFile → ℕ) (n : ℕ) (files : List TreeFile) → AllByRecursion Q files → AllByRecursion Q (up_to m n files)
unfolding up_to
some_up Q m zero files all = tt
some_up Q m (suc n) [] all = tt
some_up Q m (suc n) (f ∷ files) all = (all.0, some_up Q m (suc n - m f) files all.1)

some_for : (Q : TreeFile → Type 0) (m : TreeFile → ℕ) (skip : ℕ) (most : Option ℕ) (files : List TreeFile) → AllByRecursion Q files → AllByRecursion Q (files_for m skip most files)
some_for Q m skip None files all = all
some_for Q m skip (Some zero) files all = tt
some_for Q m skip (Some (suc n)) files all = some_up Q m (skip + suc n) files all

read_visited : (Q : TreeFile → Type 0) (c : Contents) (s : Selection) (files : List TreeFile) → AllByRecursion Q files → AllByRecursion Q (visited c s files)
read_visited Q c s files all = some_for Q (matches_in c s.range) s.skip s.most (filter (is_open s.range) files) (some_open Q (is_open s.range) files all)

-- the rows of files that are read to their ends don't stop
have_first : (c : Contents) (files : List TreeFile) (n : ℕ) → AllByRecursion (λ f. (rows_in c f).stop ≡ None) files → HaveFirst c n files
unfolding HaveFirst
have_first c [] n all = tt
have_first c (f ∷ files) n all = (inl all.0, have_first c files (n - length (rows_in c f).items) all.1)

-- ---- the range of a query

-- what follows from a step that gives a value
bind_ok : {A B : Type 0} (r : Result A RangeFault) (f : A → Result B RangeFault) (b : B) → (r >>= f) ≡ Ok b → (a : A) × (r ≡ Ok a) × (f a ≡ Ok b)
bind_ok (Ok a) f b e = (a, refl, e)
bind_ok (Err x) f b e = absurd (let never : ⊥ = cc in never)

or_ok : {A : Type 0} (e : RangeFault) (o : Option A) (a : A) → or_refuse e o ≡ Ok a → o ≡ Some a
or_ok e None a h = absurd (let never : ⊥ = cc in never)
or_ok e (Some b) a h = cc

some_is : (a b : Column) → Some a ≡ Some b → a ≡ b
some_is a b e = cc

named_by : (b : Bool) (d : Column) (columns : List Column) (found : Option Column) (c : Column) → (found ≡ Some c → Contains columns c)
    → (if b then Some d else found) ≡ Some c → Contains (d ∷ columns) c
named_by true d columns found c rest e = subst (λ (x : Column). Contains (d ∷ columns) x) (some_is d c e) (0, omega arith, refl)
named_by false d columns found c rest e = Contains-append_right (d ∷ []) columns c (rest e)

named_is : (name : List ℕ) (columns : List Column) (c : Column) → column_named name columns ≡ Some c → Contains columns c
named_is name [] c e = absurd (let never : ⊥ = cc in never)
named_is name (d ∷ columns) c e = named_by (bytes_eq d.name name) d columns (column_named name columns) c (named_is name columns c) e

same_ok : {A : Type 0} (a b : A) → (let r : Result A RangeFault = Ok a in r) ≡ Ok b → a ≡ b
same_ok a b e = cc

range_kind : (columns : List Column) (name : List ℕ) (low high : Option (List ℕ)) (c : Column) (r : Range) → column_named name columns ≡ Some c
    → range_of columns name low high ≡ Ok r → c.kind ≡ r.kind
range_kind columns name low high c r named e =
    let first = bind_ok (or_refuse (words.NoColumn name) (column_named name columns)) _ r e in
    let one : Some first.0 ≡ Some c = sym (or_ok (words.NoColumn name) (column_named name columns) first.0 first.1) ∙ named in
    let ends = bind_ok (end_of name first.0.kind low) _ r first.2 in
    let both = bind_ok (end_of name first.0.kind high) _ r ends.2 in
    let made : (let m : Range = record { kind = first.0.kind; low = ends.0; high = both.0 } in m) ≡ r = same_ok _ r both.2 in
    let same : first.0 ≡ c = cc in
    ap (λ (x : Column). x.kind) (sym same) ∙ ap (λ (x : Range). x.kind) made

range_is : (columns : List Column) (w : Option RangeWords) (range : Option ColumnRange) → range_meant columns w ≡ Ok range → IsRangeOf columns range
range_is columns None range e = subst (IsRangeOf columns) (same_ok None range e) tt
range_is columns (Some w) range e =
    let first = bind_ok (or_refuse (words.NoColumn w.column) (column_named w.column columns)) _ range e in
    let named = or_ok (words.NoColumn w.column) (column_named w.column columns) first.0 first.1 in
    let second = bind_ok (range_of columns w.column w.low w.high) _ range first.2 in
    subst (IsRangeOf columns) (same_ok _ range second.2)
    (first.0, named_is w.column columns first.0 named, refl, range_kind columns w.column w.low w.high first.0 second.0 named second.1)

pub selection_range : (columns : List Column) (q : Query) (s : Selection) → selection_of columns q ≡ Ok s → IsRangeOf columns s.range
unfolding selection_of
selection_range columns q s e =
    let first = bind_ok (columns_shown columns q.columns) _ s e in
    let second = bind_ok (range_meant columns q.range) _ s first.2 in
    let made = same_ok _ s second.2 in
    subst (λ (t : Selection). IsRangeOf columns t.range) made (range_is columns q.range second.0 second.1)

-- ---- the rows that are read are those of the table, as far as they are chosen

-- the same rows in the range give the same choice
chosen_same : (s : Selection) (xs ys : List Row) → filter (is_within s.range) xs ≡ filter (is_within s.range) ys → chosen s xs ≡ chosen s ys
chosen_same s xs ys e = ap (λ (rs : List Row). at_most s.most (drop s.skip rs)) e

-- a query of all rows in the range
abbrev all_in_range : Selection → Selection
all_in_range s = record { columns = s.columns; range = s.range; skip = 0; most = None }

then_end : {A : Type 0} (items : List A) → then_read (whole items) (ended None) ≡ whole items
then_end {A} items = ap (λ (xs : List A). (let t : Trace A = record { items = xs; stop = None } in t)) (append-nil items)

pub rows_are : (committed : Objects) (meta : Fields) (ring : Ring) (id : ℤ) (rows : List Row) (s : Selection) (has : HasRows committed meta ring id rows)
    → IsRangeOf (columns_asked meta) s.range
    → ((rows_read (contents_in meta committed) s (whole has.tree)).stop ≡ None) × (chosen s (rows_read (contents_in meta committed) s (whole has.tree)).items ≡ chosen s rows)
rows_are committed meta ring id rows s has range =
    let c : Contents = contents_in meta committed in
    let h = visited_suffice committed meta ring id rows (all_in_range s) has range in
    let read : rows_read c s (whole has.tree) ≡ whole h.seen = ap (λ (t : Trace Row). then_read t (ended None)) h.are_rows ∙ then_end h.seen in (
      ap (λ (t : Trace Row). t.stop) read,
      ap (λ (t : Trace Row). chosen s t.items) read ∙ chosen_same s h.seen rows h.same,
    )

-- ---- what is answered

table_answer : (c : Contents) (files : Objects) (s : Selection) (visits : List TreeFile) (read : Trace Row) (shown unshown : List Row) (result : Result ℕ ScanFault)
    → read.stop ≡ None → IsAnswer c files s visits read shown unshown result → IsTableAnswer c files s visits shown unshown result
table_answer c files s visits read shown unshown (Ok n) ends h = (h.none_left, h.number)
table_answer c files s visits read shown unshown (Err (fault.Tree (tree.At path cause))) ends (few, inl stops) = absurd (let e = sym ends ∙ stops.stops in let never : ⊥ = cc in never)
table_answer c files s visits read shown unshown (Err (fault.Tree (tree.At path cause))) ends (few, inr u) = (few, u)
table_answer c files s visits read shown unshown (Err (fault.Tree tree.Store)) ends h = tt
table_answer c files s visits read shown unshown (Err fault.Sink) ends h = tt
table_answer c files s visits read shown unshown (Err fault.NoMemory) ends h = tt
table_answer c files s visits read shown unshown (Err (fault.Tree tree.NoMemory)) ends h = absurd h
table_answer c files s visits read shown unshown (Err (fault.Tree (tree.NoSnapshot id))) ends h = absurd h
table_answer c files s visits read shown unshown (Err (fault.Tree (tree.PlainList id))) ends h = absurd h
table_answer c files s visits read shown unshown (Err (fault.Tree (tree.Chain inner))) ends h = absurd h
table_answer c files s visits read shown unshown (Err (fault.Tree (tree.BadList id file what))) ends h = absurd h
table_answer c files s visits read shown unshown (Err (fault.NoColumn name)) ends h = absurd h
table_answer c files s visits read shown unshown (Err (fault.BadRange name)) ends h = absurd h

shows_rows : {Self Out : Type 0} (of : store.Ghosts Self) (out : sink.Ghosts Out) (c : Contents) (files : Objects) (s : Selection) (t : Trace TreeFile) (rows : List Row)
    (x y : Self) (before after : Out) (result : Result ℕ ScanFault) → (rows_read c s t).stop ≡ None → chosen s (rows_read c s t).items ≡ chosen s rows
    → Shows of out c files s t x y before after result → answers.ShowsRows of out c files s (visited c s t.items) rows x y before after result
shows_rows of out c files s t rows x y before after result ends same h = record {
  shown = h.shown;
  unshown = h.unshown;
  are_chosen = sym same ∙ h.are_chosen;
  writes = h.writes;
  answer = table_answer c files s (visited c s t.items) (rows_read c s t) h.shown h.unshown result ends h.answer;
  asks = h.asks;
  moves = h.moves;
}

-- ---- tables

-- a scan of a snapshot that is there begins at its list
begins_at : (meta : Fields) (ring : Ring) (q : Query) (id : ℤ) (s : Selection) (list : Listed) → snapshot_asked meta q ≡ Some id
    → IsSome (snapshot_named id meta.state.snapshots) → selection_of (columns_asked meta) q ≡ Ok s → list_of meta ring id ≡ Ok list
    → start_of meta ring q ≡ Ok (record { list = Some list; selection = s })
begins_at meta ring q id s list asked there sel is =
    ap (λ (o : Option ℤ). start_from (snapshot_found meta o) (selection_of (columns_asked meta) q) (list_asked meta ring o)) asked
    ∙ ap (λ (f : Result (Unit {0}) Unbegun). start_from f (selection_of (columns_asked meta) q) (list_asked meta ring (Some id))) (found_is (snapshot_named id meta.state.snapshots) there)
    ∙ ap (λ (r : Result Selection RangeFault). start_from (Ok tt) r (list_asked meta ring (Some id))) sel
    ∙ ap (λ (l : Result Listed Refused). start_from (Ok tt) (Ok s) (list_found l)) is
  where
    found_is : {A : Type 0} (o : Option A) → IsSome o → (let r : Result (Unit {0}) Unbegun = if is_none o then Err (no_list (no_snapshot id)) else Ok tt in r) ≡ Ok tt
    found_is None h = absurd (let never : ⊥ = cc in never)
    found_is (Some a) h = refl

-- a snapshot of a table has its rows
pub has_rows : (committed : Objects) (meta : Fields) (ring : Ring) (id : ℤ) (rows : List Row) (o : Option (List Row)) → o ≡ Some rows
    → IsSomeAnd o (HasRows committed meta ring id) → HasRows committed meta ring id rows
has_rows committed meta ring id rows None e h = absurd (let never : ⊥ = cc in never)
has_rows committed meta ring id rows (Some rs) e h = let same : rs ≡ rows = cc in subst (HasRows committed meta ring id) same h

pub some_told : {A : Type 0} (o : Option A) (a : A) → o ≡ Some a → IsSome o
some_told o a e = subst IsSome (sym e) refl

-- one tree is the other
pub same_tree : (committed : Objects) (meta : Fields) (ring : Ring) (id : ℤ) (one two : List TreeFile) → HasTree committed meta ring id one → HasTree committed meta ring id two → one ≡ two
same_tree committed meta ring id one two a b =
    let lists : a.list ≡ b.list = the_same a.list b.list (sym a.is_list ∙ b.is_list) in
    ap (λ (t : Trace TreeFile). t.items) (sym a.is_tree ∙ ap (tree_below meta.heading.location (contents_in meta committed)) lists ∙ b.is_tree)
  where
    the_same : (f g : Listed) → (let r : Result Listed Refused = Ok f in r) ≡ Ok g → f ≡ g
    the_same f g e = cc

pub told_then : {A : Type 0} (o : Option A) (P Q : A → Type 0) → ((a : A) → P a → Q a) → IfSome o P → IfSome o Q
told_then None P Q h p = tt
told_then (Some a) P Q h p = h a p

pub scans_table : {Self Out : Type 0} (of : store.Ghosts Self) (out : sink.Ghosts Out) (meta : Fields) (ring : Ring) (q : Query) (x y : Self) (before after : Out) (result : Result ℕ ScanFault)
    → Scans of out (columns_asked meta) meta.heading.location (start_of meta ring q) x y before after result → ScansTable of out meta ring q x y before after result
scans_table {Self} {Out} of out meta ring q x y before after result scans committed table id rows files s is_table asked has_id has_tree sel =
    let there : IsSome (snapshot_named id meta.state.snapshots) = is_table.only_snapshots id (some_told (finite.get table id) rows has_id) in
    let has = has_rows committed meta ring id rows (finite.get table id) has_id (is_table.each_snapshot id there) in
    let same : has.tree ≡ files = same_tree committed meta ring id has.tree files has.has_tree has_tree in
    let begins = begins_at meta ring q id s has.has_tree.list asked there sel has.has_tree.is_list in
    let shows : IfSome (of.held x) (λ found. ShowsBelow of out found (all_of (columns_asked meta)) meta.heading.location s has.has_tree.list x y before after result) =
    subst (λ (r : Result Start Unbegun). Scans of out (columns_asked meta) meta.heading.location r x y before after result) begins scans in
    let c : Contents = contents_in meta committed in
    let plain : Plaintexts = plaintexts_in committed in
    let rows_ok = rows_are committed meta ring id rows s has (selection_range (columns_asked meta) q s sel) in
    subst (λ (fs : List TreeFile). IfSome (of.held x) (λ found. ShowsNoMoreAt (map listed_as (visited c s fs)) found committed
    → answers.ShowsRows of out c found s (visited c s fs) rows x y before after result)) same
    (told_then (of.held x) _ _ (λ found below no_more.
    let allowed : AllowsAt (map listed_as (visited c s has.tree)) committed plain =
    all_visited (λ f. Allows (shown_in committed f) (plain f)) c s has.tree (table_is_allowed committed meta ring id rows has) in
    let less : AllowsAt (map listed_as (visited c s has.tree)) found plain =
    all_allowed_by_less found committed (map listed_as (visited c s has.tree)) plain no_more allowed in
    let below_is = has.has_tree.is_tree in
    let shown : Shows of out c found s (whole has.tree) x y before after result =
    subst (λ (t : Trace TreeFile). Shows of out c found s t x y before after result) below_is
    (below plain (subst (λ (t : Trace TreeFile). AllowsAt (map listed_as (visited c s t.items)) found plain) (sym below_is) less)
    (subst (λ (t : Trace TreeFile). HaveLeftOut c s (visited c s t.items)) (sym below_is)
    (λ none. have_first c (visited c s has.tree) s.skip (read_visited (λ f. (rows_in c f).stop ≡ None) c s has.tree (all_read c has.tree (ap (λ (t : Trace Row). t.stop) has.are_rows)))))) in
    shows_rows of out c found s (whole has.tree) rows x y before after result rows_ok.0 rows_ok.1 shown) shows)
