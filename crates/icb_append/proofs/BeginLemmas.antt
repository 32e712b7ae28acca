-- How the work of an append begins: what refuses it, and in which order.
use Rattle.std.proofs.Common.{◌≡◌, ℕ, suc, pos, Bool, true, false, List, [], ◌∷◌, length, map, Option, Some, None, Result, Ok, Err, IsOk, refl, sym, ap, ◌∙◌, subst, ◌+ℤ◌, int_lt, nat_le, true≢false}
use Rattle.std.specs.Prelude.{not}
use Rattle.std.specs.List.{AllByRecursion, list_all}
use Rattle.icb_base.specs.declared.limits.Limited.TheVariants as limit
use Rattle.icb_base.specs.declared.transfer.Draws as draws
use Rattle.icb_base.proofs.CallLemmas.{draws_at_rest}
use Rattle.icb_chain.specs.Opening.{kek_of, table_of}
use Rattle.icb_chain.specs.Ring.{Ring}
use Rattle.icb_chain.specs.declared.fault.ChainFault.{ChainFault}
use Rattle.icb_meta.specs.Answers.{shown_of}
use Rattle.icb_meta.specs.declared.fields.Fields.{Fields}
use Rattle.icb_meta.specs.declared.fields.Layout.{Layout}
use Rattle.icb_meta.specs.declared.records.KeyEntry.{KeyEntry}
use Rattle.icb_meta.specs.declared.table.TableMeta.{TableMeta}
use Rattle.icb_tree.specs.Versions.{most_versions}
use Rattle.icb_turns.specs.Answers.{◌>>=◌, of_chain, or_refused, refused_where}
use Rattle.icb_turns.specs.declared.fault.CannotWhat.TheVariants as form
use Rattle.icb_turns.specs.declared.fault.JobFault.{JobFault}
use Rattle.icb_turns.specs.declared.fault.JobFault.TheVariants as fault
use Rattle.icb_types.specs.Fits.{FitsColumns}
use Rattle.icb_types.specs.declared.datum.Datum.{Datum}
use Rattle.icb_walk.specs.declared.fault.TreeFault.TheVariants as tree
use Rattle.icb_append.specs.Beginning.{AnswersMeta, AnswersRows, AnswersTried, BeginsWith, DrawsWork, IsDrawn, TriesRows, begun_of, new_work}
use Rattle.icb_append.specs.Lines.{rows_of_input}
use Rattle.icb_append.specs.Reading.{current_key, has_room, is_column_name, may_add, most_number, most_snapshots, wrapper_for, wrapper_of}
use Rattle.icb_append.specs.Tried.{Tries}
use Rattle.icb_append.specs.declared.fault.InputFault.{InputFault}
use Rattle.icb_append.specs.declared.reading.Wrapper.{Wrapper}
use Rattle.icb_append.specs.declared.tried.Tried.{Tried}
use Rattle.icb_append.specs.declared.work.Work.{Work}

-- ---- which refusals there are of a version

-- a refusal of a version that was read
abbrev pub is_version_fault : JobFault → Bool
is_version_fault (fault.Cannot what) = true
is_version_fault (fault.Tree (tree.Chain e)) = true
is_version_fault (fault.Limit what number) = true
is_version_fault other = false

abbrev Only : {A : Type 0} → Result A JobFault → Type 0
Only r = (e : JobFault) → r ≡ Err e → is_version_fault e ≡ true

only_first : {A : Type 0} (e : JobFault) → is_version_fault e ≡ true → Only {A = A} (Err e)
only_first e h f is = let same : e ≡ f = cc in subst (λ x. is_version_fault x ≡ true) same h

only_ok : {A : Type 0} (x : A) → Only (Ok x)
only_ok x e is = absurd (let g : ⊥ = cc in g)

only_bind : {A B : Type 0} (r : Result A JobFault) (f : A → Result B JobFault) → Only r → ((x : A) → Only (f x)) → Only (r >>= f)
only_bind (Ok x) f a b e is = b x e is
only_bind (Err y) f a b e is = let same : y ≡ e = cc in a e (ap (λ x. Err x) same)

only_there : {A : Type 0} (e : JobFault) (o : Option A) → is_version_fault e ≡ true → Only (or_refused e o)
only_there e None h = only_first e h
only_there e (Some x) h = only_ok x

only_where : (e : JobFault) (b : Bool) → is_version_fault e ≡ true → Only (refused_where e b)
only_where e true h = only_first e h
only_where e false h = only_ok {A = Unit {0}} tt

only_chain : {A : Type 0} (r : Result A ChainFault) → Only (of_chain r)
only_chain (Ok x) = only_ok x
only_chain (Err e) = only_first (fault.Tree (tree.Chain e)) refl

only_then : {B : Type 0} (e : JobFault) (b : Bool) (f : Unit {0} → Result B JobFault) → is_version_fault e ≡ true → ((x : Unit {0}) → Only (f x)) → Only (refused_where e b >>= f)
only_then e b f h rest = only_bind (refused_where e b) f (only_where e b h) rest

only_add : (layout : Layout) → Only (may_add layout)
only_add layout = only_then (fault.Cannot form.Partitioned) layout.partitioned
    (λ whole. refused_where (fault.Cannot form.Sorted) layout.sorted >>= (λ unsorted. refused_where (fault.Cannot form.ColumnName) (not (list_all (λ c. is_column_name c.name) layout.schema.columns)))) refl
    (λ whole. only_then (fault.Cannot form.Sorted) layout.sorted
    (λ unsorted. refused_where (fault.Cannot form.ColumnName) (not (list_all (λ c. is_column_name c.name) layout.schema.columns))) refl
    (λ unsorted. only_where (fault.Cannot form.ColumnName) (not (list_all (λ c. is_column_name c.name) layout.schema.columns)) refl))

abbrev ids_test : Fields → ℕ → Result (Unit {0}) JobFault
ids_test meta rows = refused_where (fault.Limit limit.RowIds most_number) (int_lt (pos most_number) (meta.state.next_row +ℤ pos rows))

abbrev sequence_test : Fields → ℕ → Result (Unit {0}) JobFault
sequence_test meta rows = refused_where (fault.Limit limit.Sequence most_number) (int_lt (pos most_number) (meta.heading.last_sequence +ℤ pos 1)) >>= (λ u. ids_test meta rows)

abbrev snapshot_test : Fields → ℕ → Result (Unit {0}) JobFault
snapshot_test meta rows = refused_where (fault.Limit limit.Snapshots most_snapshots) (nat_le most_snapshots (length meta.state.snapshots)) >>= (λ u. sequence_test meta rows)

only_room : (meta : Fields) (version rows : ℕ) → Only (has_room meta version rows)
only_room meta version rows = only_then (fault.Limit limit.Versions most_versions) (nat_le most_versions version) (λ u. snapshot_test meta rows) refl
    (λ u. only_then (fault.Limit limit.Snapshots most_snapshots) (nat_le most_snapshots (length meta.state.snapshots)) (λ u. sequence_test meta rows) refl
    (λ u. only_then (fault.Limit limit.Sequence most_number) (int_lt (pos most_number) (meta.heading.last_sequence +ℤ pos 1)) (λ u. ids_test meta rows) refl
    (λ u. only_where (fault.Limit limit.RowIds most_number) (int_lt (pos most_number) (meta.state.next_row +ℤ pos rows)) refl)))

abbrev room_test : Fields → ℕ → ℕ → List ℕ → List ℕ → Result Wrapper JobFault
room_test meta version rows id key = has_room meta version rows >>= (λ room. Ok (wrapper_of id key))

abbrev key_test : Fields → Ring → ℕ → ℕ → List ℕ → Result Wrapper JobFault
key_test meta ring version rows id = of_chain (kek_of (table_of meta.state) ring id) >>= room_test meta version rows id

only_key : (meta : Fields) (ring : Ring) (version rows : ℕ) (id : List ℕ) → Only (key_test meta ring version rows id)
only_key meta ring version rows id = only_bind (of_chain (kek_of (table_of meta.state) ring id)) (room_test meta version rows id)
    (only_chain (kek_of (table_of meta.state) ring id))
    (λ key. only_bind (has_room meta version rows) (λ room. Ok (wrapper_of id key)) (only_room meta version rows) (λ room. only_ok (wrapper_of id key)))

only_version : (meta : Fields) (ring : Ring) (version rows : ℕ) → Only (wrapper_for meta ring version rows)
unfolding wrapper_for
only_version meta ring version rows = only_bind (or_refused (fault.Cannot form.NotEncrypted) (current_key (table_of meta.state)))
    (λ (entry : KeyEntry). may_add meta.layout >>= (λ added. key_test meta ring version rows entry.id))
    (only_there (fault.Cannot form.NotEncrypted) (current_key (table_of meta.state)) refl)
    (λ entry. only_bind (may_add meta.layout) (λ added. key_test meta ring version rows entry.id) (only_add meta.layout) (λ added. only_key meta ring version rows entry.id))

-- ---- the version

-- as many of them are seen
mapped_count : {A B : Type 0} (f : A → B) (xs : List A) → length (map f xs) ≡ length xs
mapped_count f [] = refl
mapped_count f (x ∷ xs) = ap suc (mapped_count f xs)

pub same_count : {A B : Type 0} (f : A → B) (xs : List A) (ys : List B) → map f xs ≡ ys → length xs ≡ length ys
same_count f xs ys h = sym (mapped_count f xs) ∙ ap length h

module _ (meta : TableMeta) (ring : Ring) (version : ℕ) (rows : List (List Datum)) where
  -- a version that is refused
  tried_refused : (e : JobFault) → Tries meta ring version (length rows) (Err e) → AnswersTried meta ring version rows [] (Err e)
  tried_refused fault.NoTable h = (h, refl)
  tried_refused (fault.BadMeta f) h = (h, refl)
  tried_refused (fault.BadInput l r) h = (h, refl)
  tried_refused (fault.Cannot w) h = (h, refl)
  tried_refused (fault.SameKey i) h = (h, refl)
  tried_refused (fault.KeyName i) h = (h, refl)
  tried_refused (fault.Tree c) h = (h, refl)
  tried_refused (fault.NameTaken p) h = (h, refl)
  tried_refused (fault.Contended v) h = (h, refl)
  tried_refused (fault.Limit w n) h = (h, refl)
  tried_refused fault.Random h = absurd (let g : ⊥ = true≢false (sym (only_version (shown_of meta) ring version (length rows) fault.Random h)) in g)
  tried_refused fault.Store h = absurd (let g : ⊥ = true≢false (sym (only_version (shown_of meta) ring version (length rows) fault.Store h)) in g)
  tried_refused fault.NoMemory h = refl

  tried_draws : (e : JobFault) → Tries meta ring version (length rows) (Err e) → ◌≡◌ {A = Result Work JobFault} (Err e) (Err fault.Random) → ⊥
  tried_draws e h is =
      let same : e ≡ fault.Random = cc in
      let tries : Tries meta ring version (length rows) (Err fault.Random) = subst (λ x. Tries meta ring version (length rows) (Err x)) same h in
      true≢false (sym (only_version (shown_of meta) ring version (length rows) fault.Random tries))

  pub refused_tried : {D : Type 0} (random : draws.Ghosts D) (e : JobFault) (x : D) → Tries meta ring version (length rows) (Err e)
      → TriesRows random meta ring version rows (Err e) x x
  refused_tried random e x h = record {
    unique = [];
    answers = tried_refused e h;
    draws = draws_at_rest random _ x (tried_draws e h);
  }

  pub refused_counted : {D : Type 0} (random : draws.Ghosts D) (n : ℕ) (e : JobFault) (x : D) → n ≡ length rows → Tries meta ring version n (Err e)
      → TriesRows random meta ring version rows (Err e) x x
  refused_counted random n e x same h = refused_tried random e x (subst (λ m. Tries meta ring version m (Err e)) same h)

  -- a version that isn't
  drawn_tried : (tried : Tried) (unique : List ℕ) (answer : Result Work JobFault) → Tries meta ring version (length rows) (Ok tried)
      → IsDrawn rows tried unique answer → AnswersTried meta ring version rows unique answer
  drawn_tried tried unique (Ok work) h is =
      let own : tried ≡ work.tried = sym (ap (λ (w : Work). w.tried) is.0) in (
        subst (λ t. Tries meta ring version (length rows) (Ok t)) own h,
        subst (λ t. work ≡ new_work rows t unique) own is.0,
        is.1,
      )
  drawn_tried tried unique (Err fault.Random) h is = (subst IsOk (sym h.0) refl, is)
  drawn_tried tried unique (Err fault.NoTable) h is = absurd is
  drawn_tried tried unique (Err (fault.BadMeta f)) h is = absurd is
  drawn_tried tried unique (Err (fault.BadInput l r)) h is = absurd is
  drawn_tried tried unique (Err (fault.Cannot w)) h is = absurd is
  drawn_tried tried unique (Err (fault.SameKey i)) h is = absurd is
  drawn_tried tried unique (Err (fault.KeyName i)) h is = absurd is
  drawn_tried tried unique (Err (fault.Tree c)) h is = absurd is
  drawn_tried tried unique (Err (fault.NameTaken p)) h is = absurd is
  drawn_tried tried unique (Err (fault.Contended v)) h is = absurd is
  drawn_tried tried unique (Err (fault.Limit w n)) h is = absurd is
  drawn_tried tried unique (Err fault.Store) h is = absurd is
  drawn_tried tried unique (Err fault.NoMemory) h is = absurd is

  pub tried_drawn : {D : Type 0} (random : draws.Ghosts D) (tried : Tried) (answer : Result Work JobFault) (x y : D)
      → Tries meta ring version (length rows) (Ok tried) → DrawsWork random rows tried answer x y → TriesRows random meta ring version rows answer x y
  tried_drawn random tried answer x y h d = record {
    unique = d.unique;
    answers = drawn_tried tried d.unique answer h d.is;
    draws = d.draws;
  }

-- ---- the rows

module _ (meta : TableMeta) (ring : Ring) (version : ℕ) (lines : List ℕ) where
  abbrev given : Result (List (List Datum)) InputFault
  given = rows_of_input (shown_of meta).layout.schema.columns lines

  -- lines that are refused
  rows_refused : (e : JobFault) → AnswersRows given (Err e) → AnswersMeta meta ring version lines [] (Err e)
  rows_refused fault.NoTable h = absurd h
  rows_refused (fault.BadMeta f) h = absurd h
  rows_refused (fault.BadInput l r) h = (rw h refl, refl)
  rows_refused (fault.Cannot w) h = absurd h
  rows_refused (fault.SameKey i) h = absurd h
  rows_refused (fault.KeyName i) h = absurd h
  rows_refused (fault.Tree c) h = absurd h
  rows_refused (fault.NameTaken p) h = absurd h
  rows_refused (fault.Contended v) h = absurd h
  rows_refused (fault.Limit w n) h = absurd h
  rows_refused fault.Random h = absurd h
  rows_refused fault.Store h = absurd h
  rows_refused fault.NoMemory h = refl

  rows_draws : (e : JobFault) → AnswersRows given (Err e) → ◌≡◌ {A = Result Work JobFault} (Err e) (Err fault.Random) → ⊥
  rows_draws e h is =
      let same : e ≡ fault.Random = cc in
      let none : AnswersRows given (Err fault.Random) = subst (λ x. AnswersRows given (Err x)) same h in
      none

  pub begin_refused : {D : Type 0} (random : draws.Ghosts D) (e : JobFault) (x : D) → AnswersRows given (Err e)
      → BeginsWith random meta ring version lines (Err e) x x
  begin_refused random e x h = record {
    unique = [];
    answers = rows_refused e h;
    draws = draws_at_rest random _ x (rows_draws e h);
  }

  -- lines that are rows
  module _ (rows : List (List Datum)) (are : given ≡ Ok rows) (fit : AllByRecursion (FitsColumns (shown_of meta).layout.schema.columns) rows) where
    abbrev with_wrapper : Wrapper → Result (List (List Datum) × Wrapper) JobFault
    with_wrapper w = Ok (rows, w)

    begun_is : begun_of (shown_of meta) ring version lines ≡ (wrapper_for (shown_of meta) ring version (length rows) >>= with_wrapper)
    begun_is = rw are refl

    still_ok : (r : Result Wrapper JobFault) → IsOk r → IsOk (r >>= with_wrapper)
    still_ok (Ok w) h = h
    still_ok (Err e) h = h

    begun_err : (e : JobFault) → wrapper_for (shown_of meta) ring version (length rows) ≡ Err e → begun_of (shown_of meta) ring version lines ≡ Err e
    begun_err e h = begun_is ∙ ap (λ r. r >>= with_wrapper) h

    tried_begins : (unique : List ℕ) (answer : Result Work JobFault) → AnswersTried meta ring version rows unique answer → AnswersMeta meta ring version lines unique answer
    tried_begins unique (Ok work) h = record { rows = rows; are_rows = are; fit = fit; tries = h.0; is_new = h.1; size = h.2 }
    tried_begins unique (Err fault.NoMemory) h = h
    tried_begins unique (Err fault.Random) h = (subst IsOk (sym begun_is) (still_ok (wrapper_for (shown_of meta) ring version (length rows)) h.0), h.1)
    tried_begins unique (Err fault.Store) h = absurd h
    tried_begins unique (Err fault.NoTable) h = (begun_err fault.NoTable h.0, h.1)
    tried_begins unique (Err (fault.BadMeta f)) h = (begun_err (fault.BadMeta f) h.0, h.1)
    tried_begins unique (Err (fault.BadInput l r)) h = (begun_err (fault.BadInput l r) h.0, h.1)
    tried_begins unique (Err (fault.Cannot w)) h = (begun_err (fault.Cannot w) h.0, h.1)
    tried_begins unique (Err (fault.SameKey i)) h = (begun_err (fault.SameKey i) h.0, h.1)
    tried_begins unique (Err (fault.KeyName i)) h = (begun_err (fault.KeyName i) h.0, h.1)
    tried_begins unique (Err (fault.Tree c)) h = (begun_err (fault.Tree c) h.0, h.1)
    tried_begins unique (Err (fault.NameTaken p)) h = (begun_err (fault.NameTaken p) h.0, h.1)
    tried_begins unique (Err (fault.Contended v)) h = (begun_err (fault.Contended v) h.0, h.1)
    tried_begins unique (Err (fault.Limit w n)) h = (begun_err (fault.Limit w n) h.0, h.1)

    pub rows_begin : {D : Type 0} (random : draws.Ghosts D) (answer : Result Work JobFault) (x y : D)
        → TriesRows random meta ring version rows answer x y → BeginsWith random meta ring version lines answer x y
    rows_begin random answer x y t = record { unique = t.unique; answers = tried_begins t.unique answer t.answers; draws = t.draws }
