-- What a scan has passed of the files below a list.
use Rattle.std.specs.Prelude.{◌≡◌, ◌⊎◌, ℕ, ◌+◌, ◌-◌, ◌≤◌, true, false, List, [], ◌∷◌, ◌++◌, length, Option, Some, None}
use Rattle.std.proofs.Common.{refl, ap, sym, subst, ◌∙◌, inl, inr, true≢false, append_assoc, append-nil, arith, length-append}
use Rattle.std.proofs.lemmas.List.Concat.{flat_map-append}
use Rattle.icb_rows.specs.Records.{Row}
use Rattle.icb_datafile.proofs.ChoosingLemmas.{chosen_more, counts_more, counts_none, none_outside}
use Rattle.icb_datafile.specs.Plans.{CountsDown, asks_none, matches}
use Rattle.icb_datafile.specs.Left.{HasLeftOut}
use Rattle.icb_table.specs.Listed.{Listed}
use Rattle.icb_table.specs.Selection.{Selection, chosen}
use Rattle.icb_table.specs.Trace.{Stop, Trace, each_in, one, stopped, then_read, whole}
use Rattle.icb_table.specs.Trace as trace
use Rattle.icb_table.specs.Tree.{Contents, LiveFile, TreeFile, listed_as, live_files}
use Rattle.icb_table.specs.Tree as tree
use Rattle.icb_table.specs.Visited.{before_path, may_match, rows_of_files, visited}
use Rattle.icb_table.specs.Why.{Why}
use Rattle.icb_walk.proofs.TraceFacts.{then_none, whole_then}
use Rattle.icb_walk.specs.Causes.{cause_of}
use Rattle.icb_walk.specs.Walks.{IsAhead}
use Rattle.icb_walk.specs.declared.fault.Cause.{Cause}
use Rattle.icb_scan.specs.Answers.{HaveFirst, HaveLeftOut, StopsAt, rows_read}
use Rattle.icb_scan.specs.Leaves.{StopsRows}
use Rattle.icb_scan.proofs.VisitLemmas.{IsIn, before_front, chosen_done, chosen_enough, chosen_front, in_left, in_right, read_closed, read_none, read_open, read_same, rows_none, stands_ahead, stands_in, visited_closed, visited_first, visited_none, visited_read}

-- ---- what was seen

-- these rows come first in what is read, and were counted
pub record Seen (c : Contents) (s t : Selection) (all : Trace TreeFile) (seen : List Row) : Type 0 where
  pub same : t.range ≡ s.range
  pub counts : CountsDown s t seen
  pub behind : List Row
  pub front : (rows_read c s all).items ≡ seen ++ behind

-- what is chosen is what is chosen of them, and then more
pub seen_chosen : (c : Contents) (s t : Selection) (all : Trace TreeFile) (seen : List Row) (h : Seen c s t all seen)
    → chosen s (rows_read c s all).items ≡ chosen s seen ++ chosen t h.behind
seen_chosen c s t all seen h = ap (chosen s) h.front ∙ chosen_more s t seen h.behind h.same h.counts

-- where no more is asked it is all
pub seen_done : (c : Contents) (s t : Selection) (all : Trace TreeFile) (seen : List Row) → Seen c s t all seen → asks_none t.most ≡ true
    → chosen s (rows_read c s all).items ≡ chosen s seen ++ []
seen_done c s t all seen h none = seen_chosen c s t all seen h ∙ ap (λ (rs : List Row). chosen s seen ++ rs) (chosen_done t h.behind none)

-- ---- what was passed

-- the rest is still to be read
pub record IsStill (c : Contents) (s t : Selection) (all left : Trace TreeFile) (passed : List TreeFile) (seen : List Row) : Type 0 where
  pub read : rows_read c s all ≡ then_read (whole seen) (rows_read c t left)
  pub rows : seen ≡ rows_of_files c passed

-- visited files were passed, and their rows were seen; no more is asked, or the rest is still to be read
pub record Passed (c : Contents) (s t : Selection) (all left : Trace TreeFile) : Type 0 where
  pub passed : List TreeFile
  pub seen : List Row
  pub visits : visited c s all.items ≡ passed ++ visited c t left.items
  pub is_seen : Seen c s t all seen
  pub rest : (asks_none t.most ≡ true) ⊎ IsStill c s t all left passed seen

pub passed_none : (c : Contents) (s : Selection) (all : Trace TreeFile) → (q : Passed c s s all all) × (q.passed ≡ []) × (q.seen ≡ [])
passed_none c s all = (
  record {
    passed = [];
    seen = [];
    visits = refl;
    is_seen = record { same = refl; counts = counts_none s s [] refl refl refl; behind = (rows_read c s all).items; front = refl };
    rest = inr (record { read = refl; rows = refl });
  },
  refl,
  refl,
)

pub is_still : (c : Contents) (s t : Selection) (all left : Trace TreeFile) (p : Passed c s t all left) → asks_none t.most ≡ false
    → IsStill c s t all left p.passed p.seen
is_still c s t all left p asked = by_rest p.rest
  where
    by_rest : (asks_none t.most ≡ true) ⊎ IsStill c s t all left p.passed p.seen → IsStill c s t all left p.passed p.seen
    by_rest (inl none) = absurd (true≢false (sym none ∙ asked))
    by_rest (inr still) = still

-- lists and manifests are passed
pub passed_over : (c : Contents) (s t : Selection) (all left more : Trace TreeFile) (ps : List TreeFile) → live_files ps ≡ [] → left ≡ then_read (whole ps) more
    → asks_none t.most ≡ false → (p : Passed c s t all left) → (q : Passed c s t all more) × (q.passed ≡ p.passed ++ ps) × (q.seen ≡ p.seen)
passed_over c s t all left more ps none comes asked p =
    let still = is_still c s t all left p asked in (
      record {
        passed = p.passed ++ ps;
        seen = p.seen;
        visits = p.visits ∙ ap (λ (r : Trace TreeFile). p.passed ++ visited c t r.items) comes
            ∙ ap (λ (fs : List TreeFile). p.passed ++ fs) (visited_none c t ps more.items none asked)
            ∙ sym (append_assoc p.passed ps (visited c t more.items));
        is_seen = p.is_seen;
        rest = inr (record {
          read = still.read ∙ ap (λ (r : Trace TreeFile). then_read (whole p.seen) (rows_read c t r)) comes
              ∙ ap (then_read (whole p.seen)) (read_none c t ps more none);
          rows = still.rows ∙ sym (append-nil (rows_of_files c p.passed)) ∙ ap (λ (rs : List Row). rows_of_files c p.passed ++ rs) (sym (rows_none c ps none))
              ∙ sym (flat_map-append (λ file. (tree.rows_in c file).items) p.passed ps);
        });
      },
      refl,
      refl,
    )

-- so is a data file that the bounds exclude
pub passed_closed : (c : Contents) (s t : Selection) (all more : Trace TreeFile) (f : LiveFile) → may_match t.range f.file ≡ false
    → asks_none t.most ≡ false → (p : Passed c s t all (then_read (one (tree.data_file f)) more))
    → (q : Passed c s t all more) × (q.passed ≡ p.passed) × (q.seen ≡ p.seen)
passed_closed c s t all more f shut asked p =
    let still = is_still c s t all (then_read (one (tree.data_file f)) more) p asked in (
      record {
        passed = p.passed;
        seen = p.seen;
        visits = p.visits ∙ ap (λ (fs : List TreeFile). p.passed ++ fs) (visited_closed c t f more.items shut);
        is_seen = p.is_seen;
        rest = inr (record {
          read = still.read ∙ ap (then_read (whole p.seen)) (read_closed c t f more shut);
          rows = still.rows;
        });
      },
      refl,
      refl,
    )

-- the first of two traces comes first
then_items : {A : Type 0} (first more : Trace A) → (rest : List A) × ((then_read first more).items ≡ first.items ++ rest)
then_items {A} first more = by_stop first.items first.stop
  where
    by_stop : (items : List A) (stop : Option Stop) → (rest : List A) × ((trace.behind items stop more).items ≡ items ++ rest)
    by_stop items None = (more.items, refl)
    by_stop items (Some e) = ([], sym (append-nil items))

-- rows of a data file that isn't excluded were seen, up to those that are left
pub seen_more : (c : Contents) (s t u : Selection) (all more : Trace TreeFile) (f : LiveFile) (p : Passed c s t all (then_read (one (tree.data_file f)) more))
    (now left : List Row) → may_match t.range f.file ≡ true → asks_none t.most ≡ false → u.range ≡ t.range
    → (c.data_rows f.listed).items ≡ now ++ left → CountsDown t u now → Seen c s u all (p.seen ++ now)
seen_more c s t u all more f p now left open_it asked same rows counts =
    let still = is_still c s t all (then_read (one (tree.data_file f)) more) p asked in
    let r : Trace Row = c.data_rows f.listed in
    let items = then_items r (rows_read c t more) in
    let read = still.read ∙ ap (then_read (whole p.seen)) (read_open c t f more open_it) in
    record {
      same = same ∙ p.is_seen.same;
      counts = counts_more s t u p.seen now p.is_seen.same p.is_seen.counts counts;
      behind = left ++ items.0;
      front = ap (λ (t : Trace Row). t.items) read ∙ ap (λ (rs : List Row). p.seen ++ rs) (items.1 ∙ ap (λ (rs : List Row). rs ++ items.0) rows
          ∙ append_assoc now left items.0) ∙ sym (append_assoc p.seen now (left ++ items.0));
    }

-- the rows of a file that were all read
all_rows : (r : Trace Row) (now left : List Row) → r.items ≡ now ++ left → left ≡ [] → r.stop ≡ None → r ≡ whole now
all_rows r now left rows none ends =
    let items : r.items ≡ now = rows ∙ ap (λ (rs : List Row). now ++ rs) none ∙ append-nil now in
    ap (λ (rs : List Row). (let t : Trace Row = record { items = rs; stop = r.stop } in t)) items
    ∙ ap (λ (e : Option Stop). (let t : Trace Row = record { items = now; stop = e } in t)) ends

-- a data file that isn't excluded is passed
pub passed_read : (c : Contents) (s t u : Selection) (all more : Trace TreeFile) (f : LiveFile) (p : Passed c s t all (then_read (one (tree.data_file f)) more))
    (now left : List Row) → may_match t.range f.file ≡ true → asks_none t.most ≡ false → u.range ≡ t.range
    → (c.data_rows f.listed).items ≡ now ++ left → CountsDown t u now
    → (asks_none u.most ≡ true) ⊎ ((left ≡ []) × ((c.data_rows f.listed).stop ≡ None)) → (q : Passed c s u all more)
    × (q.passed ≡ p.passed ++ tree.data_file f ∷ []) × (q.seen ≡ p.seen ++ now)
passed_read c s t u all more f p now left open_it asked same rows counts ends = (
  record {
    passed = p.passed ++ tree.data_file f ∷ [];
    seen = p.seen ++ now;
    visits = p.visits ∙ ap (λ (fs : List TreeFile). p.passed ++ fs) (visited_read c t u f more.items now left open_it asked same rows counts (by_end ends))
        ∙ sym (append_assoc p.passed (tree.data_file f ∷ []) (visited c u more.items));
    is_seen = seen_more c s t u all more f p now left open_it asked same rows counts;
    rest = rest_by ends;
  },
  refl,
  refl,
)
  where
    by_end : (asks_none u.most ≡ true) ⊎ ((left ≡ []) × ((c.data_rows f.listed).stop ≡ None)) → (asks_none u.most ≡ true) ⊎ (left ≡ [])
    by_end (inl none) = inl none
    by_end (inr (none, stop)) = inr none

    rest_by : (asks_none u.most ≡ true) ⊎ ((left ≡ []) × ((c.data_rows f.listed).stop ≡ None))
        → (asks_none u.most ≡ true) ⊎ IsStill c s u all more (p.passed ++ tree.data_file f ∷ []) (p.seen ++ now)
    rest_by (inl none) = inl none
    rest_by (inr (none, stop)) =
        let still = is_still c s t all (then_read (one (tree.data_file f)) more) p asked in
        let r : Trace Row = c.data_rows f.listed in
        let is : r ≡ whole now = all_rows r now left rows none stop in
        let one_file : now ≡ r.items ++ [] = ap (λ (t : Trace Row). t.items) (sym is) ∙ sym (append-nil r.items) in
        inr (record {
          read = still.read ∙ ap (then_read (whole p.seen)) (read_open c t f more open_it ∙ ap (λ (x : Trace Row). then_read x (rows_read c t more)) is
              ∙ ap (then_read (whole now)) (read_same c t u more same)) ∙ whole_then p.seen now (rows_read c u more);
          rows = ap (λ (rs : List Row). rs ++ now) still.rows ∙ ap (λ (rs : List Row). rows_of_files c p.passed ++ rs) one_file
              ∙ sym (flat_map-append (λ file. (tree.rows_in c file).items) p.passed (tree.data_file f ∷ []));
        })

-- ---- at the end

-- nothing but lists and manifests was left
read_end : (c : Contents) (s : Selection) → rows_read c s (whole []) ≡ whole []
unfolding each_in
read_end c s = refl

pub passed_all : (c : Contents) (s t : Selection) (all left : Trace TreeFile) (ps : List TreeFile) → live_files ps ≡ [] → left ≡ whole ps
    → asks_none t.most ≡ false → (p : Passed c s t all left) → rows_read c s all ≡ whole p.seen
passed_all c s t all left ps none is asked p =
    let still = is_still c s t all left p asked in
    let rest : rows_read c t left ≡ whole [] =
    ap (rows_read c t) (is ∙ sym (then_none (whole ps))) ∙ read_none c t ps (whole []) none ∙ read_end c t in
    still.read ∙ ap (then_read (whole p.seen)) rest ∙ then_none (whole p.seen)

-- ---- refusals

read_stopped : (c : Contents) (s : Selection) (file : Listed) (why : Why) → rows_read c s (stopped file why) ≡ stopped file why
unfolding each_in
read_stopped c s file why = refl

-- what is left stops behind lists and manifests
pub stops_walk : (c : Contents) (s t : Selection) (all left : Trace TreeFile) (ps : List TreeFile) (file : Listed) (why : Why) (path : List ℕ) (cause : Cause)
    → live_files ps ≡ [] → left ≡ then_read (whole ps) (stopped file why) → cause_of why ≡ Some cause → path ≡ file.path
    → asks_none t.most ≡ false → (p : Passed c s t all left)
    → (chosen s (rows_read c s all).items ≡ chosen s p.seen ++ []) × StopsAt (rows_read c s all) [] path cause
stops_walk c s t all left ps file why path cause none is told at asked p =
    let still = is_still c s t all left p asked in
    let read : rows_read c s all ≡ then_read (whole p.seen) (stopped file why) =
    still.read ∙ ap (then_read (whole p.seen)) (ap (rows_read c t) is ∙ read_none c t ps (stopped file why) none ∙ read_stopped c t file why) in (
      ap (λ (r : Trace Row). chosen s r.items) read ∙ ap (chosen s) (append-nil p.seen) ∙ sym (append-nil (chosen s p.seen)),
      record { file = file; why = why; stops = ap (λ (r : Trace Row). r.stop) read; told = told; at = at; none_left = refl },
    )

-- rows that stop
then_stopped : {A : Type 0} (first more : Trace A) (e : Stop) → first.stop ≡ Some e → then_read first more ≡ first
then_stopped {A} first more e is = by_stop first.items first.stop is
  where
    by_stop : (items : List A) (stop : Option Stop) → stop ≡ Some e → trace.behind items stop more ≡ record { items = items; stop = stop }
    by_stop items None is = absurd (let never : ⊥ = cc in never)
    by_stop items (Some other) is = refl

-- the rows of the next data file stop
pub stops_leaf : (c : Contents) (s t : Selection) (all more : Trace TreeFile) (f : LiveFile) (p : Passed c s t all (then_read (one (tree.data_file f)) more))
    (now left : List Row) (path : List ℕ) (cause : Cause) → may_match t.range f.file ≡ true → asks_none t.most ≡ false
    → (c.data_rows f.listed).items ≡ now ++ left → path ≡ f.listed.path → StopsRows f.listed (c.data_rows f.listed) left cause
    → (chosen s (rows_read c s all).items ≡ chosen s (p.seen ++ now) ++ []) × StopsAt (rows_read c s all) [] path cause
stops_leaf c s t all more f p now left path cause open_it asked rows at stops =
    let still = is_still c s t all (then_read (one (tree.data_file f)) more) p asked in
    let r : Trace Row = c.data_rows f.listed in
    let read : rows_read c s all ≡ then_read (whole p.seen) r =
    still.read ∙ ap (then_read (whole p.seen)) (read_open c t f more open_it ∙ then_stopped r (rows_read c t more) (record { file = f.listed; why = stops.why }) stops.stops) in
    let items : r.items ≡ now = rows ∙ ap (λ (rs : List Row). now ++ rs) stops.none_left ∙ append-nil now in (
      ap (λ (x : Trace Row). chosen s x.items) read ∙ ap (λ (rs : List Row). chosen s (p.seen ++ rs)) items ∙ sym (append-nil (chosen s (p.seen ++ now))),
      record { file = f.listed; why = stops.why; stops = ap (λ (x : Trace Row). x.stop) read ∙ stops.stops; told = stops.told; at = at; none_left = refl },
    )

-- what is chosen of the files before a path was shown, where a file at it stands among those that are visited behind some whose rows were seen
pub has_before : (c : Contents) (s : Selection) (visits first rest : List TreeFile) (g : TreeFile) (path : List ℕ) (seen more : List Row)
    → visits ≡ first ++ g ∷ rest → path ≡ (listed_as g).path → seen ≡ rows_of_files c first ++ more
    → (behind : List Row) × (chosen s seen ≡ chosen s (rows_of_files c (before_path path visits)) ++ behind)
has_before c s visits first rest g path seen more order at rows =
    let split = before_front path first g rest at in
    let before : List TreeFile = before_path path (first ++ g ∷ rest) in
    let all : seen ≡ rows_of_files c before ++ (rows_of_files c split.0 ++ more) =
    rows ∙ ap (λ (rs : List Row). rs ++ more) (ap (rows_of_files c) split.1 ∙ flat_map-append (λ file. (tree.rows_in c file).items) before split.0)
    ∙ append_assoc (rows_of_files c before) (rows_of_files c split.0) more in
    let front = chosen_front s (rows_of_files c before) (rows_of_files c split.0 ++ more) in
    (front.0, ap (chosen s) all ∙ front.1 ∙ ap (λ (vs : List TreeFile). chosen s (rows_of_files c (before_path path vs)) ++ front.0) (sym order))

-- a file that was passed, or comes before the next data file, is visited
pub needed_visited : (c : Contents) (s t : Selection) (all left : Trace TreeFile) (p : Passed c s t all left) (f : Listed) → asks_none t.most ≡ false
    → IsIn f p.passed ⊎ IsAhead f left.items → IsIn f (visited c s all.items)
needed_visited c s t all left p f asked (inl here) = subst (IsIn f) (sym p.visits) (in_left f p.passed (visited c t left.items) here)
needed_visited c s t all left p f asked (inr ahead) =
    let a = stands_ahead f left.items ahead in
    let order : visited c t left.items ≡ a.first ++ visited c t a.rest = ap (visited c t) a.order ∙ visited_none c t a.first a.rest a.no_data asked in
    subst (IsIn f) (sym (p.visits ∙ ap (λ (fs : List TreeFile). p.passed ++ fs) order))
    (in_right f p.passed (a.first ++ visited c t a.rest) (in_left f a.first (visited c t a.rest) a.is_in))

-- and what is chosen of the files before it was shown
pub needed_before : (c : Contents) (s t : Selection) (all left : Trace TreeFile) (p : Passed c s t all left) (f : Listed) (path : List ℕ) → asks_none t.most ≡ false
    → path ≡ f.path → IsIn f p.passed ⊎ IsAhead f left.items
    → (behind : List Row) × (chosen s p.seen ≡ chosen s (rows_of_files c (before_path path (visited c s all.items))) ++ behind)
needed_before c s t all left p f path asked at (inl here) =
    let still = is_still c s t all left p asked in
    let a = stands_in f p.passed here in
    let order = p.visits ∙ ap (λ (fs : List TreeFile). fs ++ visited c t left.items) a.order ∙ append_assoc a.first (a.file ∷ a.rest) (visited c t left.items) in
    let rows = still.rows ∙ ap (rows_of_files c) a.order ∙ flat_map-append (λ file. (tree.rows_in c file).items) a.first (a.file ∷ a.rest) in
    has_before c s (visited c s all.items) a.first (a.rest ++ visited c t left.items) a.file path p.seen (rows_of_files c (a.file ∷ a.rest)) order (at ∙ ap (λ (g : Listed). g.path) a.is) rows
needed_before c s t all left p f path asked at (inr ahead) =
    let still = is_still c s t all left p asked in
    let a = stands_ahead f left.items ahead in
    let b = stands_in f a.first a.is_in in
    let order : visited c t left.items ≡ a.first ++ visited c t a.rest = ap (visited c t) a.order ∙ visited_none c t a.first a.rest a.no_data asked in
    let whole_order : visited c s all.items ≡ (p.passed ++ b.first) ++ b.file ∷ (b.rest ++ visited c t a.rest) =
    p.visits ∙ ap (λ (fs : List TreeFile). p.passed ++ fs) (order ∙ ap (λ (fs : List TreeFile). fs ++ visited c t a.rest) b.order ∙ append_assoc b.first (b.file ∷ b.rest) (visited c t a.rest))
    ∙ sym (append_assoc p.passed b.first (b.file ∷ (b.rest ++ visited c t a.rest))) in
    let none : live_files b.first ≡ [] = first_none b.first (b.file ∷ b.rest) (ap live_files (sym b.order) ∙ a.no_data) in
    let rows : p.seen ≡ rows_of_files c (p.passed ++ b.first) ++ [] =
    still.rows ∙ sym (append-nil (rows_of_files c p.passed)) ∙ ap (λ (rs : List Row). rows_of_files c p.passed ++ rs) (sym (rows_none c b.first none))
    ∙ sym (flat_map-append (λ file. (tree.rows_in c file).items) p.passed b.first) ∙ sym (append-nil (rows_of_files c (p.passed ++ b.first))) in
    has_before c s (visited c s all.items) (p.passed ++ b.first) (b.rest ++ visited c t a.rest) b.file path p.seen [] whole_order (at ∙ ap (λ (g : Listed). g.path) b.is) rows
  where
    first_none : (xs ys : List TreeFile) → live_files (xs ++ ys) ≡ [] → live_files xs ≡ []
    first_none [] ys e = refl
    first_none (tree.list f ∷ xs) ys e = first_none xs ys e
    first_none (tree.manifest f ∷ xs) ys e = first_none xs ys e
    first_none (tree.data_file f ∷ xs) ys e = absurd (let never : ⊥ = cc in never)

-- the next data file is visited
pub leaf_visited : (c : Contents) (s t : Selection) (all more : Trace TreeFile) (f : LiveFile) (p : Passed c s t all (then_read (one (tree.data_file f)) more))
    → may_match t.range f.file ≡ true → asks_none t.most ≡ false → (rest : List TreeFile) × (visited c s all.items ≡ p.passed ++ tree.data_file f ∷ rest)
leaf_visited c s t all more f p open_it asked =
    let first = visited_first c t f more.items open_it asked in
    (first.0, p.visits ∙ ap (λ (fs : List TreeFile). p.passed ++ fs) first.1)

-- of files whose rows don't stop among the first ones, those of one
first_at : (c : Contents) (xs : List TreeFile) (f : TreeFile) (ys : List TreeFile) (n : ℕ) → HaveFirst c n (xs ++ f ∷ ys)
    → ((tree.rows_in c f).stop ≡ None) ⊎ (n - length (rows_of_files c xs) ≤ length (tree.rows_in c f).items)
unfolding HaveFirst
first_at c [] f ys n h = by_first h.0
  where
    by_first : ((tree.rows_in c f).stop ≡ None) ⊎ (n ≤ length (tree.rows_in c f).items) → ((tree.rows_in c f).stop ≡ None) ⊎ (n - 0 ≤ length (tree.rows_in c f).items)
    by_first (inl ends) = inl ends
    by_first (inr there) = inr (omega (arith, there))
first_at c (x ∷ xs) f ys n h = by_rest (first_at c xs f ys (n - length (tree.rows_in c x).items) h.1)
  where
    by_rest : ((tree.rows_in c f).stop ≡ None) ⊎ (n - length (tree.rows_in c x).items - length (rows_of_files c xs) ≤ length (tree.rows_in c f).items)
        → ((tree.rows_in c f).stop ≡ None) ⊎ (n - length (rows_of_files c (x ∷ xs)) ≤ length (tree.rows_in c f).items)
    by_rest (inl ends) = inl ends
    by_rest (inr there) =
        let size : length (rows_of_files c (x ∷ xs)) ≡ length (tree.rows_in c x).items + length (rows_of_files c xs) = length-append (tree.rows_in c x).items (rows_of_files c xs) in
        inr (omega (arith, there, size))

-- where the rows that are left out are there, those of the next data file are
pub leaf_left_out : (c : Contents) (s t : Selection) (all more : Trace TreeFile) (f : LiveFile) (p : Passed c s t all (then_read (one (tree.data_file f)) more))
    → may_match t.range f.file ≡ true → asks_none t.most ≡ false → HaveLeftOut c s (visited c s all.items) → HasLeftOut t (c.data_rows f.listed)
leaf_left_out c s t all more f p open_it asked has none =
    let v = leaf_visited c s t all more f p open_it asked in
    by_first (first_at c p.passed (tree.data_file f) v.0 s.skip (subst (HaveFirst c s.skip) v.1 (has before)))
  where
    before : s.range ≡ None
    before = sym p.is_seen.same ∙ none

    by_first : ((c.data_rows f.listed).stop ≡ None) ⊎ (s.skip - length (rows_of_files c p.passed) ≤ length (c.data_rows f.listed).items)
        → ((c.data_rows f.listed).stop ≡ None) ⊎ (t.skip ≤ length (c.data_rows f.listed).items)
    by_first (inl ends) = inl ends
    by_first (inr there) =
        let size : matches s.range p.seen ≡ length p.seen = ap length (none_outside s.range p.seen before) in
        let seen : length p.seen ≡ length (rows_of_files c p.passed) = ap length (is_still c s t all (then_read (one (tree.data_file f)) more) p asked).rows in
        inr (omega (arith, there, size, seen, p.is_seen.counts.skips))

pub leaf_in : (c : Contents) (s t : Selection) (all more : Trace TreeFile) (f : LiveFile) (p : Passed c s t all (then_read (one (tree.data_file f)) more))
    → may_match t.range f.file ≡ true → asks_none t.most ≡ false → IsIn f.listed (visited c s all.items)
unfolding IsIn
leaf_in c s t all more f p open_it asked =
    let v = leaf_visited c s t all more f p open_it asked in
    subst (IsIn f.listed) (sym v.1) (in_right f.listed p.passed (tree.data_file f ∷ v.0) (inl refl))

pub leaf_before : (c : Contents) (s t : Selection) (all more : Trace TreeFile) (f : LiveFile) (p : Passed c s t all (then_read (one (tree.data_file f)) more))
    (now : List Row) (path : List ℕ) → may_match t.range f.file ≡ true → asks_none t.most ≡ false → path ≡ f.listed.path
    → (behind : List Row) × (chosen s (p.seen ++ now) ≡ chosen s (rows_of_files c (before_path path (visited c s all.items))) ++ behind)
leaf_before c s t all more f p now path open_it asked at =
    let still = is_still c s t all (then_read (one (tree.data_file f)) more) p asked in
    let v = leaf_visited c s t all more f p open_it asked in
    has_before c s (visited c s all.items) p.passed v.0 (tree.data_file f) path (p.seen ++ now) now v.1 at (ap (λ (rs : List Row). rs ++ now) still.rows)

-- ---- enough

pub passed_enough : (c : Contents) (s t : Selection) (all left : Trace TreeFile) (p : Passed c s t all left) → asks_none t.most ≡ true → s.most ≡ Some (length (chosen s p.seen))
passed_enough c s t all left p none = chosen_enough s t p.seen p.is_seen.counts none
