-- What a scan has shown of the files below a list, as its walk goes on.
use Rattle.std.specs.Prelude.{◌≡◌, ◌⊎◌, ℕ, ◌^◌, ◌+◌, ◌<◌, true, false, List, [], ◌∷◌, ◌++◌, length, map, Option, None, Result, Ok, Err}
use Rattle.std.specs.List.{Contains, flat_map}
use Rattle.std.proofs.Common.{refl, ap, sym, subst, ◌∙◌, arith, inl, inr, append-nil, length-append}
use Rattle.std.proofs.lemmas.List.Concat.{flat_map-append}
use Rattle.std.proofs.lemmas.List.Elements.{All-contains, All-from_recursion}
use Rattle.icb_base.proofs.CallLemmas.{writes_at_rest, writes_twice}
use Rattle.icb_base.specs.Calls.{WritesText}
use Rattle.icb_base.specs.Objects.{Objects}
use Rattle.icb_base.specs.declared.storage.Store as store
use Rattle.icb_base.specs.declared.transfer.Sink as sink
use Rattle.icb_datafile.proofs.ChoosingLemmas.{chosen_more, chosen_none, counts_more}
use Rattle.icb_datafile.proofs.WholeLemmas.{writes_as}
use Rattle.icb_datafile.specs.Left.{all_of}
use Rattle.icb_datafile.specs.Plans.{KeepsWords, asks_none, range_at, selection_by}
use Rattle.icb_datafile.specs.declared.plan.Plan.{Plan}
use Rattle.icb_rows.specs.Records.{Row}
use Rattle.icb_rows.specs.Views as views
use Rattle.icb_stream.specs.Attached.{CountsAt}
use Rattle.icb_table.specs.Contents.{Plaintexts, contents_of}
use Rattle.icb_table.specs.Known.{Allows, AllowsAt, shown_in}
use Rattle.icb_table.specs.Listed.{Listed}
use Rattle.icb_table.specs.Selection.{Selection, chosen, line_of}
use Rattle.icb_table.specs.Trace.{Trace, one, then_read}
use Rattle.icb_table.specs.Tree.{Contents, LiveFile, TreeFile, listed_as, live_files, tree_below}
use Rattle.icb_table.specs.Tree as tree
use Rattle.icb_table.specs.Visited.{may_match, visited}
use Rattle.icb_types.specs.declared.columns.Column.{Column}
use Rattle.icb_walk.specs.Answers.{AsksNeeded, GivesLeaf, IsBehind, PassedOver}
use Rattle.icb_walk.specs.Answers as walks
use Rattle.icb_walk.specs.Entries.{live_of}
use Rattle.icb_walk.specs.Fits.{IsUnshown}
use Rattle.icb_walk.specs.Judged.{listing}
use Rattle.icb_walk.specs.Walks.{IsAhead, IsOpenManifest, Needs, left, left_in_list, left_in_manifest}
use Rattle.icb_walk.specs.declared.fault.Cause.{Cause}
use Rattle.icb_walk.specs.declared.fault.TreeFault.{TreeFault}
use Rattle.icb_walk.specs.declared.fault.TreeFault.TheVariants as walk_fault
use Rattle.icb_walk.specs.declared.leaf.Leaf.{Leaf}
use Rattle.icb_walk.specs.declared.open_list.Rows.TheVariants as place
use Rattle.icb_walk.specs.declared.open_manifest.OpenManifest.{OpenManifest}
use Rattle.icb_walk.specs.declared.walk.Walk.{Walk}
use Rattle.icb_scan.specs.Answers.{AreFewer, AsksVisited, IsAnswer, Shows, rows_read}
use Rattle.icb_scan.specs.Leaves.{IsSink, PrintsRows, StopsRows}
use Rattle.icb_scan.specs.Start.{of_tree}
use Rattle.icb_scan.specs.declared.fault.ScanFault.{ScanFault}
use Rattle.icb_scan.specs.declared.fault.ScanFault.TheVariants as fault
use Rattle.icb_scan.proofs.PassLemmas.{Passed, leaf_before, leaf_in, needed_before, needed_visited, passed_all, passed_closed, passed_enough, passed_none, passed_over, passed_read, seen_chosen, seen_done, seen_more, stops_leaf, stops_walk}
use Rattle.icb_scan.proofs.VisitLemmas.{IsIn, ahead_in, chosen_fewer, in_left, in_right, is_contained}

-- ---- words for what a scan is over

abbrev pub contents : List Column → Plaintexts → Contents
contents columns plain = contents_of (all_of columns) plain

abbrev pub below : List Column → Plaintexts → List ℕ → Listed → Trace TreeFile
below columns plain location list = tree_below location (contents columns plain) list

abbrev pub visits : List Column → Plaintexts → List ℕ → Listed → Plan → List TreeFile
visits columns plain location list p = visited (contents columns plain) (selection_by columns p) (below columns plain location list).items

-- the text of rows
abbrev pub text : List Column → Plan → List Row → List ℕ
text columns p rows = flat_map (line_of (selection_by columns p).columns) rows

-- the rows of visited files were shown up to those that are left
pub record Scanned {Self Out : Type 0} (of : store.Ghosts Self) (out : sink.Ghosts Out) (columns : List Column) (plain : Plaintexts) (location : List ℕ) (list : Listed)
    (p q : Plan) (rest : Trace TreeFile) (Needed : Listed → Type 0) (x y : Self) (before after : Out) : Type 0 where
  pub at : Passed (contents columns plain) (selection_by columns p) (selection_by columns q) (below columns plain location list) rest
  pub writes : WritesText out (text columns p (chosen (selection_by columns p) at.seen)) ⊥ before after
  pub number : length (chosen (selection_by columns p) at.seen) < 2 ^ 64 → q.shown ≡ length (chosen (selection_by columns p) at.seen)
  pub needs : (f : Listed) → Needed f → IsIn f at.passed ⊎ IsAhead f rest.items
  pub asks : AsksVisited (visits columns plain location list p) (of.asked x) (of.asked y)
  pub moves : AsksVisited (visits columns plain location list p) (of.moved x) (of.moved y)

-- ---- before the list

left_before : (columns : List Column) (plain : Plaintexts) (w : Walk) → w.rows ≡ place.Before → w.manifest ≡ None
    → left (all_of columns) plain w ≡ below columns plain w.location (listing w.list)
unfolding left
left_before columns plain w before none =
    ap (λ (o : Option OpenManifest). then_read (left_in_manifest plain w.location o) (left_in_list (all_of columns) plain w.location w.list w.rows)) none
    ∙ ap (left_in_list (all_of columns) plain w.location w.list) before

list_ahead : (columns : List Column) (plain : Plaintexts) (location : List ℕ) (f : Listed) → IsAhead f (below columns plain location f).items
unfolding tree_below
list_ahead columns plain location f = inl refl

-- no file is asked for
pub asks_nothing : (files : List TreeFile) (x : List ℕ → ℕ) → AsksVisited files x x
asks_nothing files x path h = refl

pub asks_more : (files : List TreeFile) (x y z : List ℕ → ℕ) → AsksVisited files x y → AsksVisited files y z → AsksVisited files x z
asks_more files x y z one two path h = two path h ∙ one path h

pub scanned_none : {Self Out : Type 0} (of : store.Ghosts Self) (out : sink.Ghosts Out) (columns : List Column) (plain : Plaintexts) (p : Plan) (w : Walk) (x : Self) (before : Out)
    → w.rows ≡ place.Before → w.manifest ≡ None → p.shown ≡ 0
    → Scanned of out columns plain w.location (listing w.list) p p (left (all_of columns) plain w) (Needs (all_of columns) plain w) x x before before
scanned_none {Self} {Out} of out columns plain p w x before rows none shown =
    let s : Selection = selection_by columns p in
    let c : Contents = contents columns plain in
    let all : Trace TreeFile = below columns plain w.location (listing w.list) in
    let is : all ≡ left (all_of columns) plain w = sym (left_before columns plain w rows none) in
    let Here : Trace TreeFile → Type 0 = λ rest. Scanned of out columns plain w.location (listing w.list) p p rest (Needs (all_of columns) plain w) x x before before in
    let start = passed_none c s all in
    let nothing : chosen s start.0.seen ≡ [] = ap (chosen s) start.2 ∙ chosen_none s in
    let size : length (chosen s start.0.seen) ≡ 0 = ap length nothing in
    subst Here is (record {
      at = start.0;
      writes = subst (λ (t : List ℕ). WritesText out t ⊥ before before) (ap (text columns p) (sym nothing)) (writes_at_rest out ⊥ before (λ never. never));
      number = λ fits. shown ∙ sym size;
      needs = needs_at is;
      asks = asks_nothing (visits columns plain w.location (listing w.list) p) (of.asked x);
      moves = asks_nothing (visits columns plain w.location (listing w.list) p) (of.moved x);
    })
  where
    needs_at : below columns plain w.location (listing w.list) ≡ left (all_of columns) plain w → (f : Listed) → Needs (all_of columns) plain w f
        → IsIn f (passed_none (contents columns plain) (selection_by columns p) (below columns plain w.location (listing w.list))).0.passed
        ⊎ IsAhead f (below columns plain w.location (listing w.list)).items
    needs_at is f (inl list) = inr (subst (λ (g : Listed). IsAhead g (below columns plain w.location (listing w.list)).items) (sym list) (list_ahead columns plain w.location (listing w.list)))
    needs_at is f (inr (inl manifest)) = absurd (subst (IsOpenManifest f) none manifest)
    needs_at is f (inr (inr ahead)) = inr (subst (λ (t : Trace TreeFile). IsAhead f t.items) (sym is) ahead)

-- ---- what is allowed and asked

module _ {Self Out : Type 0} (of : store.Ghosts Self) (out : sink.Ghosts Out) (columns : List Column) (plain : Plaintexts) (location : List ℕ) (list : Listed) (p q : Plan) where
  -- what is needed is visited
  pub is_visited : (rest : Trace TreeFile) (Needed : Listed → Type 0) (x y : Self) (before after : Out) → asks_none q.most ≡ false
      → Scanned of out columns plain location list p q rest Needed x y before after → (f : Listed) → Needed f
      → Contains (map listed_as (visits columns plain location list p)) f
  is_visited rest Needed x y before after asked h f needed =
      is_contained f (visits columns plain location list p)
      (needed_visited (contents columns plain) (selection_by columns p) (selection_by columns q) (below columns plain location list) rest h.at f asked (h.needs f needed))

  -- and so it is allowed
  pub allows_needed : (files : Objects) (rest : Trace TreeFile) (Needed : Listed → Type 0) (x y : Self) (before after : Out) → asks_none q.most ≡ false
      → AllowsAt (map listed_as (visits columns plain location list p)) files plain
      → Scanned of out columns plain location list p q rest Needed x y before after → (f : Listed) → Needed f → Allows (shown_in files f) (plain f)
  allows_needed files rest Needed x y before after asked allows h f needed =
      let P : Listed → Type 0 = λ g. Allows (shown_in files g) (plain g) in
      let fs : List Listed = map listed_as (visits columns plain location list p) in
      All-contains P fs f (All-from_recursion P fs allows) (is_visited rest Needed x y before after asked h f needed)

  -- a walk that asks for what it needs asks for what is visited
  pub asks_visited : (w : Walk) (x y : Self) (before after : Out) (m n : List ℕ → ℕ) → asks_none q.most ≡ false
      → Scanned of out columns plain location list p q (left (all_of columns) plain w) (Needs (all_of columns) plain w) x y before after
      → AsksNeeded (all_of columns) plain w m n → AsksVisited (visits columns plain location list p) m n
  asks_visited w x y before after m n asked h asks path others =
      asks path (λ f needed. others f (is_visited (left (all_of columns) plain w) (Needs (all_of columns) plain w) x y before after asked h f needed))

-- ---- the next data file

-- a walk has these open
abbrev pub Opened : Walk → Listed → Type 0
Opened w f = (f ≡ listing w.list) ⊎ IsOpenManifest f w.manifest

-- with the same rows seen
writes_same : {Out : Type 0} (out : sink.Ghosts Out) (columns : List Column) (p : Plan) (seen now : List Row) (before after : Out) → now ≡ seen
    → WritesText out (text columns p (chosen (selection_by columns p) seen)) ⊥ before after → WritesText out (text columns p (chosen (selection_by columns p) now)) ⊥ before after
writes_same out columns p seen now before after e w = subst (λ (rs : List Row). WritesText out (text columns p (chosen (selection_by columns p) rs)) ⊥ before after) (sym e) w

number_same : (s : Selection) (n : ℕ) (seen now : List Row) → now ≡ seen → (length (chosen s seen) < 2 ^ 64 → n ≡ length (chosen s seen))
    → length (chosen s now) < 2 ^ 64 → n ≡ length (chosen s now)
number_same s n seen now e h = subst (λ (rs : List Row). length (chosen s rs) < 2 ^ 64 → n ≡ length (chosen s rs)) (sym e) h

in_both : (f : Listed) (passed all : List TreeFile) (ps : List TreeFile) → all ≡ passed ++ ps → IsIn f passed ⊎ IsIn f ps → IsIn f all
in_both f passed all ps e (inl h) = subst (IsIn f) (sym e) (in_left f passed ps h)
in_both f passed all ps e (inr h) = subst (IsIn f) (sym e) (in_right f passed ps h)

-- a data file comes next
pub at_leaf : {Self Out : Type 0} (of : store.Ghosts Self) (out : sink.Ghosts Out) (columns : List Column) (plain : Plaintexts) (location : List ℕ) (list : Listed) (p q : Plan)
    (w now : Walk) (leaf : Leaf) (x y z : Self) (before after : Out) → asks_none q.most ≡ false
    → Scanned of out columns plain location list p q (left (all_of columns) plain w) (Needs (all_of columns) plain w) x y before after
    → GivesLeaf (all_of columns) plain w now leaf → now.list ≡ w.list
    → AsksNeeded (all_of columns) plain w (of.asked y) (of.asked z) → AsksNeeded (all_of columns) plain w (of.moved y) (of.moved z)
    → Scanned of out columns plain location list p q (then_read (one (tree.data_file (live_of leaf))) (left (all_of columns) plain now)) (Opened now) x z before after
at_leaf of out columns plain location list p q w now leaf x y z before after asked h gives same_list asks moves =
    let c : Contents = contents columns plain in
    let s : Selection = selection_by columns p in
    let rest : Trace TreeFile = then_read (one (tree.data_file (live_of leaf))) (left (all_of columns) plain now) in
    let next = passed_over c s (selection_by columns q) (below columns plain location list) (left (all_of columns) plain w) rest gives.passed gives.no_data gives.comes asked h.at in
    record {
      at = next.0;
      writes = writes_same out columns p h.at.seen next.0.seen before after next.2 h.writes;
      number = number_same s q.shown h.at.seen next.0.seen next.2 h.number;
      needs = λ f opened. inl (in_both f h.at.passed next.0.passed gives.passed next.1 (was_needed f (needed f opened)));
      asks = asks_more (visits columns plain location list p) (of.asked x) (of.asked y) (of.asked z) h.asks
          (asks_visited of out columns plain location list p q w x y before after (of.asked y) (of.asked z) asked h asks);
      moves = asks_more (visits columns plain location list p) (of.moved x) (of.moved y) (of.moved z) h.moves
          (asks_visited of out columns plain location list p q w x y before after (of.moved y) (of.moved z) asked h moves);
    }
  where
    needed : (f : Listed) → Opened now f → Needs (all_of columns) plain w f
    needed f (inl is) = inl (is ∙ ap listing same_list)
    needed f (inr manifest) = gives.within f manifest

    behind : (f : Listed) → IsIn f h.at.passed ⊎ IsAhead f (left (all_of columns) plain w).items → IsIn f h.at.passed ⊎ IsIn f gives.passed
    behind f (inl here) = inl here
    behind f (inr ahead) = inr (ahead_in f gives.passed (live_of leaf) (left (all_of columns) plain now).items
        (subst (λ (t : Trace TreeFile). IsAhead f t.items) gives.comes ahead))

    was_needed : (f : Listed) → Needs (all_of columns) plain w f → IsIn f h.at.passed ⊎ IsIn f gives.passed
    was_needed f n = behind f (h.needs f n)

-- what a walk needs behind a data file
needs_behind : (columns : List Column) (plain : Plaintexts) (now : Walk) (leaf : Leaf) (was passed : List TreeFile)
    → ((f : Listed) → IsIn f was → IsIn f passed)
    → ((f : Listed) → Opened now f → IsIn f was ⊎ IsAhead f (then_read (one (tree.data_file (live_of leaf))) (left (all_of columns) plain now)).items)
    → (f : Listed) → Needs (all_of columns) plain now f → IsIn f passed ⊎ IsAhead f (left (all_of columns) plain now).items
needs_behind columns plain now leaf was passed more needs f (inr (inr ahead)) = inr ahead
needs_behind columns plain now leaf was passed more needs f (inl is) = by_was (needs f (inl is))
  where
    by_was : IsIn f was ⊎ IsAhead f (then_read (one (tree.data_file (live_of leaf))) (left (all_of columns) plain now)).items
        → IsIn f passed ⊎ IsAhead f (left (all_of columns) plain now).items
    by_was (inl here) = inl (more f here)
    by_was (inr never) = absurd never
needs_behind columns plain now leaf was passed more needs f (inr (inl is)) = by_was (needs f (inr is))
  where
    by_was : IsIn f was ⊎ IsAhead f (then_read (one (tree.data_file (live_of leaf))) (left (all_of columns) plain now)).items
        → IsIn f passed ⊎ IsAhead f (left (all_of columns) plain now).items
    by_was (inl here) = inl (more f here)
    by_was (inr never) = absurd never

-- its bounds exclude it
pub leaf_closed : {Self Out : Type 0} (of : store.Ghosts Self) (out : sink.Ghosts Out) (columns : List Column) (plain : Plaintexts) (location : List ℕ) (list : Listed) (p q : Plan)
    (now : Walk) (leaf : Leaf) (x y : Self) (before after : Out) → asks_none q.most ≡ false
    → Scanned of out columns plain location list p q (then_read (one (tree.data_file (live_of leaf))) (left (all_of columns) plain now)) (Opened now) x y before after
    → may_match (range_at columns q.range) leaf.file ≡ false
    → Scanned of out columns plain location list p q (left (all_of columns) plain now) (Needs (all_of columns) plain now) x y before after
leaf_closed of out columns plain location list p q now leaf x y before after asked h shut =
    let s : Selection = selection_by columns p in
    let next = passed_closed (contents columns plain) s (selection_by columns q) (below columns plain location list) (left (all_of columns) plain now) (live_of leaf) shut asked h.at in
    record {
      at = next.0;
      writes = writes_same out columns p h.at.seen next.0.seen before after next.2 h.writes;
      number = number_same s q.shown h.at.seen next.0.seen next.2 h.number;
      needs = needs_behind columns plain now leaf h.at.passed next.0.passed (λ f here. subst (IsIn f) (sym next.1) here) h.needs;
      asks = h.asks;
      moves = h.moves;
    }

-- what was written and then the lines of more rows
writes_more : {Out : Type 0} (out : sink.Ghosts Out) (failed : Type 0) (columns : List Column) (p q : Plan) (seen now : List Row) (before mid after : Out) → KeepsWords p q
    → chosen (selection_by columns p) (seen ++ now) ≡ chosen (selection_by columns p) seen ++ chosen (selection_by columns q) now
    → WritesText out (text columns p (chosen (selection_by columns p) seen)) ⊥ before mid → WritesText out (text columns q (chosen (selection_by columns q) now)) failed mid after
    → WritesText out (text columns p (chosen (selection_by columns p) (seen ++ now))) failed before after
writes_more out failed columns p q seen now before mid after words both one two =
    let sp : Selection = selection_by columns p in
    let sq : Selection = selection_by columns q in
    let line : Row → List ℕ = line_of sp.columns in
    let same : text columns q (chosen sq now) ≡ flat_map line (chosen sq now) =
    ap (λ (ps : List ℕ). flat_map (line_of (views.chosen columns ps)) (chosen sq now)) words.same_columns in
    let joined : text columns p (chosen sp seen) ++ text columns q (chosen sq now) ≡ text columns p (chosen sp (seen ++ now)) =
    ap (λ (t : List ℕ). text columns p (chosen sp seen) ++ t) same ∙ sym (flat_map-append line (chosen sp seen) (chosen sq now)) ∙ ap (flat_map line) (sym both) in
    subst (λ (t : List ℕ). WritesText out t failed before after) joined
    (writes_twice out (text columns p (chosen sp seen)) (text columns q (chosen sq now)) ⊥ failed before mid after (λ never. never) one two)

-- the calls for a file that is visited
asks_leaf : (files : List TreeFile) (f : Listed) (m n : List ℕ → ℕ) → IsIn f files → CountsAt f.path m n → AsksVisited files m n
asks_leaf files f m n here counts path others = counts.others path (others f (is_contained f files here))

-- its rows are printed
pub leaf_read : {Self Out : Type 0} (of : store.Ghosts Self) (out : sink.Ghosts Out) (columns : List Column) (plain : Plaintexts) (location : List ℕ) (list : Listed) (p q r : Plan)
    (files : Objects) (now : Walk) (leaf : Leaf) (x y z : Self) (before mid after : Out) → asks_none q.most ≡ false → KeepsWords p q → KeepsWords q r
    → Scanned of out columns plain location list p q (then_read (one (tree.data_file (live_of leaf))) (left (all_of columns) plain now)) (Opened now) x y before mid
    → may_match (range_at columns q.range) leaf.file ≡ true
    → PrintsRows out files (live_of leaf).listed columns q r ((contents columns plain).data_rows (live_of leaf).listed) mid after (Ok tt)
    → CountsAt leaf.path (of.asked y) (of.asked z) → CountsAt leaf.path (of.moved y) (of.moved z)
    → Scanned of out columns plain location list p r (left (all_of columns) plain now) (Needs (all_of columns) plain now) x z before after
leaf_read of out columns plain location list p q r files now leaf x y z before mid after asked words more h open_it printed asks moves =
    let c : Contents = contents columns plain in
    let sp : Selection = selection_by columns p in
    let sq : Selection = selection_by columns q in
    let sr : Selection = selection_by columns r in
    let f : LiveFile = live_of leaf in
    let all : Trace TreeFile = below columns plain location list in
    let rest : Trace TreeFile = left (all_of columns) plain now in
    let same : sr.range ≡ sq.range = ap (range_at columns) more.same_range in
    let new : List Row = printed.prints.passed in
    let next = passed_read c sp sq sr all rest f h.at new printed.left open_it asked same printed.prints.first printed.prints.counts printed.answer in
    let both : chosen sp (h.at.seen ++ new) ≡ chosen sp h.at.seen ++ chosen sq new = chosen_more sp sq h.at.seen new h.at.is_seen.same h.at.is_seen.counts in
    let size = ap length both ∙ length-append (chosen sp h.at.seen) (chosen sq new) in
    let here = leaf_in c sp sq all rest f h.at open_it asked in
    let fs : List TreeFile = visits columns plain location list p in
    record {
      at = next.0;
      writes = writes_same out columns p (h.at.seen ++ new) next.0.seen before after next.2
          (writes_more out ⊥ columns p q h.at.seen new before mid after words both h.writes
          (writes_as out (text columns q (chosen sq new)) mid after (λ e. let never : ⊥ = cc in never) (λ never. absurd never) printed.prints.writes));
      number = number_same sp r.shown (h.at.seen ++ new) next.0.seen next.2 (λ fits.
          let first : q.shown ≡ length (chosen sp h.at.seen) = h.number (omega (arith, fits, size)) in
          let second : r.shown ≡ q.shown + length (chosen sq new) = printed.prints.counted (omega (arith, fits, size, first)) in
          omega (arith, size, first, second));
      needs = needs_behind columns plain now leaf h.at.passed next.0.passed
          (λ g there. subst (IsIn g) (sym next.1) (in_left g h.at.passed (tree.data_file f ∷ []) there)) h.needs;
      asks = asks_more fs (of.asked x) (of.asked y) (of.asked z) h.asks (asks_leaf fs f.listed (of.asked y) (of.asked z) here asks);
      moves = asks_more fs (of.moved x) (of.moved y) (of.moved z) h.moves (asks_leaf fs f.listed (of.moved y) (of.moved z) here moves);
    }

-- ---- answers

-- all that was seen was shown
shows_seen : {Self Out : Type 0} (of : store.Ghosts Self) (out : sink.Ghosts Out) (columns : List Column) (plain : Plaintexts) (location : List ℕ) (list : Listed) (p : Plan)
    (files : Objects) (seen unshown : List Row) (x y : Self) (before after : Out) (result : Result ℕ ScanFault)
    → chosen (selection_by columns p) (rows_read (contents columns plain) (selection_by columns p) (below columns plain location list)).items ≡ chosen (selection_by columns p) seen ++ unshown
    → WritesText out (text columns p (chosen (selection_by columns p) seen)) (IsSink result) before after
    → IsAnswer (contents columns plain) files (selection_by columns p) (visits columns plain location list p)
    (rows_read (contents columns plain) (selection_by columns p) (below columns plain location list)) (chosen (selection_by columns p) seen) unshown result
    → AsksVisited (visits columns plain location list p) (of.asked x) (of.asked y) → AsksVisited (visits columns plain location list p) (of.moved x) (of.moved y)
    → Shows of out (contents columns plain) files (selection_by columns p) (below columns plain location list) x y before after result
shows_seen of out columns plain location list p files seen unshown x y before after result are writes answer asks moves =
    record { shown = chosen (selection_by columns p) seen; unshown = unshown; are_chosen = are; writes = writes; answer = answer; asks = asks; moves = moves }

-- the sink didn't fail
not_sink : {Out : Type 0} (out : sink.Ghosts Out) (t : List ℕ) (before after : Out) (result : Result ℕ ScanFault) → (IsSink result → ⊥) → WritesText out t ⊥ before after
    → WritesText out t (IsSink result) before after
not_sink out t before after result other w = writes_as out t before after (λ never. absurd never) other w

-- no row more is asked for
pub shows_done : {Self Out : Type 0} (of : store.Ghosts Self) (out : sink.Ghosts Out) (columns : List Column) (plain : Plaintexts) (location : List ℕ) (list : Listed) (p q : Plan)
    (files : Objects) (rest : Trace TreeFile) (Needed : Listed → Type 0) (x y : Self) (before after : Out) → asks_none q.most ≡ true
    → Scanned of out columns plain location list p q rest Needed x y before after
    → Shows of out (contents columns plain) files (selection_by columns p) (below columns plain location list) x y before after (Ok q.shown)
shows_done of out columns plain location list p q files rest Needed x y before after none h =
    let c : Contents = contents columns plain in
    let s : Selection = selection_by columns p in
    let t : Selection = selection_by columns q in
    let all : Trace TreeFile = below columns plain location list in
    shows_seen of out columns plain location list p files h.at.seen [] x y before after (Ok q.shown) (seen_done c s t all h.at.seen h.at.is_seen none)
    (not_sink out (text columns p (chosen s h.at.seen)) before after (Ok q.shown) (λ e. let never : ⊥ = cc in never) h.writes)
    (record { none_left = refl; ends = inl (passed_enough c s t all rest h.at none); number = h.number }) h.asks h.moves

-- no file is left
pub shows_end : {Self Out : Type 0} (of : store.Ghosts Self) (out : sink.Ghosts Out) (columns : List Column) (plain : Plaintexts) (location : List ℕ) (list : Listed) (p q : Plan)
    (files : Objects) (w now : Walk) (x y z : Self) (before after : Out) → asks_none q.most ≡ false
    → Scanned of out columns plain location list p q (left (all_of columns) plain w) (Needs (all_of columns) plain w) x y before after → IsBehind (all_of columns) plain w now
    → AsksNeeded (all_of columns) plain w (of.asked y) (of.asked z) → AsksNeeded (all_of columns) plain w (of.moved y) (of.moved z)
    → Shows of out (contents columns plain) files (selection_by columns p) (below columns plain location list) x z before after (Ok q.shown)
shows_end of out columns plain location list p q files w now x y z before after asked h is_behind asks moves =
    let c : Contents = contents columns plain in
    let s : Selection = selection_by columns p in
    let all : Trace TreeFile = below columns plain location list in
    let fs : List TreeFile = visits columns plain location list p in
    let read = passed_all c s (selection_by columns q) all (left (all_of columns) plain w) is_behind.passed is_behind.no_data is_behind.comes asked h.at in
    shows_seen of out columns plain location list p files h.at.seen [] x z before after (Ok q.shown)
    (ap (λ (r : Trace Row). chosen s r.items) read ∙ sym (append-nil (chosen s h.at.seen)))
    (not_sink out (text columns p (chosen s h.at.seen)) before after (Ok q.shown) (λ e. let never : ⊥ = cc in never) h.writes)
    (record { none_left = refl; ends = inr (ap (λ (r : Trace Row). r.stop) read); number = h.number })
    (asks_more fs (of.asked x) (of.asked y) (of.asked z) h.asks (asks_visited of out columns plain location list p q w x y before after (of.asked y) (of.asked z) asked h asks))
    (asks_more fs (of.moved x) (of.moved y) (of.moved z) h.moves (asks_visited of out columns plain location list p q w x y before after (of.moved y) (of.moved z) asked h moves))

-- no memory is left
pub shows_memory : {Self Out : Type 0} (of : store.Ghosts Self) (out : sink.Ghosts Out) (columns : List Column) (plain : Plaintexts) (location : List ℕ) (list : Listed) (p q : Plan)
    (files : Objects) (rest : Trace TreeFile) (Needed : Listed → Type 0) (x y : Self) (before after : Out)
    → Scanned of out columns plain location list p q rest Needed x y before after
    → Shows of out (contents columns plain) files (selection_by columns p) (below columns plain location list) x y before after (Err fault.NoMemory)
shows_memory of out columns plain location list p q files rest Needed x y before after h =
    let s : Selection = selection_by columns p in
    shows_seen of out columns plain location list p files h.at.seen (chosen (selection_by columns q) h.at.is_seen.behind) x y before after (Err fault.NoMemory)
    (seen_chosen (contents columns plain) s (selection_by columns q) (below columns plain location list) h.at.seen h.at.is_seen)
    (not_sink out (text columns p (chosen s h.at.seen)) before after (Err fault.NoMemory) (λ e. let never : ⊥ = cc in never) h.writes) tt h.asks h.moves

-- the walk is refused
pub shows_refused : {Self Out : Type 0} (of : store.Ghosts Self) (out : sink.Ghosts Out) (columns : List Column) (plain : Plaintexts) (location : List ℕ) (list : Listed) (p q : Plan)
    (files : Objects) (w : Walk) (x y z : Self) (before after : Out) (e : TreeFault) → asks_none q.most ≡ false
    → Scanned of out columns plain location list p q (left (all_of columns) plain w) (Needs (all_of columns) plain w) x y before after
    → walks.IsRefused (all_of columns) plain files w e
    → AsksNeeded (all_of columns) plain w (of.asked y) (of.asked z) → AsksNeeded (all_of columns) plain w (of.moved y) (of.moved z)
    → Shows of out (contents columns plain) files (selection_by columns p) (below columns plain location list) x z before after (Err (of_tree e))
shows_refused of out columns plain location list p q files w x y z before after e asked h refused asks moves = by_fault e refused
  where
    asks_all : AsksVisited (visits columns plain location list p) (of.asked x) (of.asked z)
    asks_all = asks_more (visits columns plain location list p) (of.asked x) (of.asked y) (of.asked z) h.asks
        (asks_visited of out columns plain location list p q w x y before after (of.asked y) (of.asked z) asked h asks)

    moves_all : AsksVisited (visits columns plain location list p) (of.moved x) (of.moved z)
    moves_all = asks_more (visits columns plain location list p) (of.moved x) (of.moved y) (of.moved z) h.moves
        (asks_visited of out columns plain location list p q w x y before after (of.moved y) (of.moved z) asked h moves)

    wrote : (r : Result ℕ ScanFault) → (IsSink r → ⊥)
        → WritesText out (text columns p (chosen (selection_by columns p) h.at.seen)) (IsSink r) before after
    wrote r other = not_sink out (text columns p (chosen (selection_by columns p) h.at.seen)) before after r other h.writes

    few : AreFewer (selection_by columns p).most (chosen (selection_by columns p) h.at.seen)
    few = chosen_fewer (selection_by columns p) (selection_by columns q) h.at.seen h.at.is_seen.counts asked

    all_chosen : chosen (selection_by columns p) (rows_read (contents columns plain) (selection_by columns p) (below columns plain location list)).items
        ≡ chosen (selection_by columns p) h.at.seen ++ chosen (selection_by columns q) h.at.is_seen.behind
    all_chosen = seen_chosen (contents columns plain) (selection_by columns p) (selection_by columns q) (below columns plain location list) h.at.seen h.at.is_seen

    by_fault : (e : TreeFault) → walks.IsRefused (all_of columns) plain files w e
        → Shows of out (contents columns plain) files (selection_by columns p) (below columns plain location list) x z before after (Err (of_tree e))
    by_fault (walk_fault.At path cause) (inl s) =
        let stop = stops_walk (contents columns plain) (selection_by columns p) (selection_by columns q) (below columns plain location list) (left (all_of columns) plain w)
        s.passed s.file s.why path cause s.no_data s.stops s.told s.at asked h.at in
        shows_seen of out columns plain location list p files h.at.seen [] x z before after (Err (fault.Tree (walk_fault.At path cause))) stop.0
        (wrote (Err (fault.Tree (walk_fault.At path cause))) (λ g. let never : ⊥ = cc in never)) (few, inl stop.1) asks_all moves_all
    by_fault (walk_fault.At path cause) (inr u) =
        let front = needed_before (contents columns plain) (selection_by columns p) (selection_by columns q) (below columns plain location list) (left (all_of columns) plain w) h.at u.file path asked u.at (h.needs u.file u.needed) in
        shows_seen of out columns plain location list p files h.at.seen (chosen (selection_by columns q) h.at.is_seen.behind) x z before after (Err (fault.Tree (walk_fault.At path cause))) all_chosen
        (wrote (Err (fault.Tree (walk_fault.At path cause))) (λ g. let never : ⊥ = cc in never)) (
          few,
          inr (record {
            file = u.file;
            is_visited = is_visited of out columns plain location list p q (left (all_of columns) plain w) (Needs (all_of columns) plain w) x y before after asked h u.file u.needed;
            unshown = u.unshown;
            at = u.at;
            more = front.0;
            has_before = front.1;
          }),
        ) asks_all moves_all
    by_fault walk_fault.Store r = shows_seen of out columns plain location list p files h.at.seen (chosen (selection_by columns q) h.at.is_seen.behind) x z before after (Err (fault.Tree walk_fault.Store)) all_chosen
        (wrote (Err (fault.Tree walk_fault.Store)) (λ g. let never : ⊥ = cc in never)) tt asks_all moves_all
    by_fault walk_fault.NoMemory r = shows_seen of out columns plain location list p files h.at.seen (chosen (selection_by columns q) h.at.is_seen.behind) x z before after (Err fault.NoMemory) all_chosen
        (wrote (Err fault.NoMemory) (λ g. let never : ⊥ = cc in never)) tt asks_all moves_all
    by_fault (walk_fault.NoSnapshot id) r = absurd r
    by_fault (walk_fault.PlainList id) r = absurd r
    by_fault (walk_fault.Chain inner) r = absurd r
    by_fault (walk_fault.BadList id file what) r = absurd r

-- a data file is refused
pub leaf_refused : {Self Out : Type 0} (of : store.Ghosts Self) (out : sink.Ghosts Out) (columns : List Column) (plain : Plaintexts) (location : List ℕ) (list : Listed) (p q r : Plan)
    (files : Objects) (now : Walk) (leaf : Leaf) (x y z : Self) (before mid after : Out) (e : ScanFault) → asks_none q.most ≡ false → KeepsWords p q → KeepsWords q r
    → Scanned of out columns plain location list p q (then_read (one (tree.data_file (live_of leaf))) (left (all_of columns) plain now)) (Opened now) x y before mid
    → may_match (range_at columns q.range) leaf.file ≡ true
    → PrintsRows out files (live_of leaf).listed columns q r ((contents columns plain).data_rows (live_of leaf).listed) mid after (Err e)
    → CountsAt leaf.path (of.asked y) (of.asked z) → CountsAt leaf.path (of.moved y) (of.moved z)
    → Shows of out (contents columns plain) files (selection_by columns p) (below columns plain location list) x z before after (Err e)
leaf_refused of out columns plain location list p q r files now leaf x y z before mid after e asked words more h open_it printed asks moves = by_fault e printed
  where
    here : IsIn (live_of leaf).listed (visits columns plain location list p)
    here = leaf_in (contents columns plain) (selection_by columns p) (selection_by columns q) (below columns plain location list) (left (all_of columns) plain now) (live_of leaf) h.at open_it asked

    asks_all : AsksVisited (visits columns plain location list p) (of.asked x) (of.asked z)
    asks_all = asks_more (visits columns plain location list p) (of.asked x) (of.asked y) (of.asked z) h.asks
        (asks_leaf (visits columns plain location list p) (live_of leaf).listed (of.asked y) (of.asked z) here asks)

    moves_all : AsksVisited (visits columns plain location list p) (of.moved x) (of.moved z)
    moves_all = asks_more (visits columns plain location list p) (of.moved x) (of.moved y) (of.moved z) h.moves
        (asks_leaf (visits columns plain location list p) (live_of leaf).listed (of.moved y) (of.moved z) here moves)

    wrote : (e : ScanFault) (d : PrintsRows out files (live_of leaf).listed columns q r ((contents columns plain).data_rows (live_of leaf).listed) mid after (Err e))
        → WritesText out (text columns p (chosen (selection_by columns p) (h.at.seen ++ d.prints.passed))) (IsSink (let a : Result ℕ ScanFault = Err e in a)) before after
    wrote e d = writes_as out (text columns p (chosen (selection_by columns p) (h.at.seen ++ d.prints.passed))) before after (λ g. same_to e g) (λ g. same_from e g)
        (writes_more out (IsSink (let a : Result (Unit {0}) ScanFault = Err e in a)) columns p q h.at.seen d.prints.passed before mid after words
        (chosen_more (selection_by columns p) (selection_by columns q) h.at.seen d.prints.passed h.at.is_seen.same h.at.is_seen.counts) h.writes d.prints.writes)
      where
        same_to : (e : ScanFault) → (let a : Result (Unit {0}) ScanFault = Err e in a) ≡ Err fault.Sink → (let a : Result ℕ ScanFault = Err e in a) ≡ Err fault.Sink
        same_to e g = cc

        same_from : (e : ScanFault) → (let a : Result ℕ ScanFault = Err e in a) ≡ Err fault.Sink → (let a : Result (Unit {0}) ScanFault = Err e in a) ≡ Err fault.Sink
        same_from e g = cc

    chose : (e : ScanFault) (d : PrintsRows out files (live_of leaf).listed columns q r ((contents columns plain).data_rows (live_of leaf).listed) mid after (Err e))
        → (behind : List Row) × (chosen (selection_by columns p) (rows_read (contents columns plain) (selection_by columns p) (below columns plain location list)).items
        ≡ chosen (selection_by columns p) (h.at.seen ++ d.prints.passed) ++ behind)
    chose e d =
        let seen = seen_more (contents columns plain) (selection_by columns p) (selection_by columns q) (selection_by columns r) (below columns plain location list) (left (all_of columns) plain now) (live_of leaf) h.at
        d.prints.passed d.left open_it asked (ap (range_at columns) more.same_range) d.prints.first d.prints.counts in (
          chosen (selection_by columns r) seen.behind,
          seen_chosen (contents columns plain) (selection_by columns p) (selection_by columns r) (below columns plain location list) (h.at.seen ++ d.prints.passed) seen,
        )

    plainly : (e : ScanFault) (d : PrintsRows out files (live_of leaf).listed columns q r ((contents columns plain).data_rows (live_of leaf).listed) mid after (Err e))
        → IsAnswer (contents columns plain) files (selection_by columns p) (visits columns plain location list p)
        (rows_read (contents columns plain) (selection_by columns p) (below columns plain location list)) (chosen (selection_by columns p) (h.at.seen ++ d.prints.passed)) (chose e d).0 (Err e)
        → Shows of out (contents columns plain) files (selection_by columns p) (below columns plain location list) x z before after (Err e)
    plainly e d answer = shows_seen of out columns plain location list p files (h.at.seen ++ d.prints.passed) (chose e d).0 x z before after (Err e) (chose e d).1 (wrote e d) answer asks_all moves_all

    few : (e : ScanFault) (d : PrintsRows out files (live_of leaf).listed columns q r ((contents columns plain).data_rows (live_of leaf).listed) mid after (Err e)) → asks_none r.most ≡ false
        → AreFewer (selection_by columns p).most (chosen (selection_by columns p) (h.at.seen ++ d.prints.passed))
    few e d more_asked = chosen_fewer (selection_by columns p) (selection_by columns r) (h.at.seen ++ d.prints.passed)
        (counts_more (selection_by columns p) (selection_by columns q) (selection_by columns r) h.at.seen d.prints.passed h.at.is_seen.same h.at.is_seen.counts d.prints.counts) more_asked

    at_path : (path : List ℕ) (cause : Cause) (d : PrintsRows out files (live_of leaf).listed columns q r ((contents columns plain).data_rows (live_of leaf).listed) mid after (Err (fault.Tree (walk_fault.At path cause))))
        → path ≡ (live_of leaf).listed.path → asks_none r.most ≡ false
        → IsUnshown files (live_of leaf).listed cause ⊎ StopsRows (live_of leaf).listed ((contents columns plain).data_rows (live_of leaf).listed) d.left cause
        → Shows of out (contents columns plain) files (selection_by columns p) (below columns plain location list) x z before after (Err (fault.Tree (walk_fault.At path cause)))
    at_path path cause d at more_asked (inl unshown) =
        let front = leaf_before (contents columns plain) (selection_by columns p) (selection_by columns q) (below columns plain location list) (left (all_of columns) plain now) (live_of leaf) h.at d.prints.passed path open_it asked at in
        plainly (fault.Tree (walk_fault.At path cause)) d (
          few (fault.Tree (walk_fault.At path cause)) d more_asked,
          inr (record {
            file = (live_of leaf).listed;
            is_visited = is_contained (live_of leaf).listed (visits columns plain location list p) here;
            unshown = unshown;
            at = at;
            more = front.0;
            has_before = front.1;
          }),
        )
    at_path path cause d at more_asked (inr stops) =
        let stop = stops_leaf (contents columns plain) (selection_by columns p) (selection_by columns q) (below columns plain location list) (left (all_of columns) plain now) (live_of leaf) h.at
        d.prints.passed d.left path cause open_it asked d.prints.first at stops in
        shows_seen of out columns plain location list p files (h.at.seen ++ d.prints.passed) [] x z before after (Err (fault.Tree (walk_fault.At path cause))) stop.0
        (wrote (fault.Tree (walk_fault.At path cause)) d) (few (fault.Tree (walk_fault.At path cause)) d more_asked, inl stop.1) asks_all moves_all

    by_fault : (e : ScanFault) → PrintsRows out files (live_of leaf).listed columns q r ((contents columns plain).data_rows (live_of leaf).listed) mid after (Err e)
        → Shows of out (contents columns plain) files (selection_by columns p) (below columns plain location list) x z before after (Err e)
    by_fault (fault.Tree (walk_fault.At path cause)) d = at_path path cause d d.answer.0 d.answer.1 d.answer.2
    by_fault (fault.Tree walk_fault.Store) d = plainly (fault.Tree walk_fault.Store) d tt
    by_fault fault.Sink d = plainly fault.Sink d tt
    by_fault fault.NoMemory d = plainly fault.NoMemory d tt
    by_fault (fault.Tree walk_fault.NoMemory) d = absurd d.answer
    by_fault (fault.Tree (walk_fault.NoSnapshot id)) d = absurd d.answer
    by_fault (fault.Tree (walk_fault.PlainList id)) d = absurd d.answer
    by_fault (fault.Tree (walk_fault.Chain inner)) d = absurd d.answer
    by_fault (fault.Tree (walk_fault.BadList id file what)) d = absurd d.answer
    by_fault (fault.NoColumn name) d = absurd d.answer
    by_fault (fault.BadRange name) d = absurd d.answer
