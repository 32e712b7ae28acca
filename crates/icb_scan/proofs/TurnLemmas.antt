-- The turns of a scan over a told store: what its walk and its data files answer, and what was shown then.
use Rattle.std.specs.Prelude.{◌≡◌, ℕ, true, false, List, map, Option, Some, None, IfSome, Result, Ok, Err}
use Rattle.std.proofs.Common.{sym, subst}
use Rattle.std.proofs.lemmas.List.Elements.{All-contains, All-from_recursion}
use Rattle.icb_base.specs.Objects.{Objects}
use Rattle.icb_base.specs.declared.storage.Store as store
use Rattle.icb_base.specs.declared.transfer.Sink as sink
use Rattle.icb_datafile.proofs.ChoosingLemmas.{plan_stays}
use Rattle.icb_datafile.specs.Left.{all_of}
use Rattle.icb_datafile.specs.Plans.{IsPlanOf, KeepsWords, asks_none, range_at, selection_by}
use Rattle.icb_datafile.specs.declared.plan.Plan.{Plan}
use Rattle.icb_stream.specs.Attached.{CountsAt}
use Rattle.icb_table.specs.Contents.{Plaintexts}
use Rattle.icb_table.specs.Known.{Allows, AllowsAt, shown_in}
use Rattle.icb_table.specs.Listed.{Listed}
use Rattle.icb_table.specs.Trace.{one, then_read}
use Rattle.icb_table.specs.Tree.{TreeFile, listed_as}
use Rattle.icb_table.specs.Tree as tree
use Rattle.icb_table.specs.Visited.{may_match}
use Rattle.icb_types.specs.declared.columns.Column.{Column}
use Rattle.icb_walk.proofs.NextLemmas.{told_once, told_twice}
use Rattle.icb_walk.specs.Answers.{Answers}
use Rattle.icb_walk.specs.Entries.{live_of}
use Rattle.icb_walk.specs.Entries.{FitsEntries}
use Rattle.icb_walk.specs.Walks.{FitsList, FitsStore, Needs, left}
use Rattle.icb_walk.specs.declared.open_manifest.OpenManifest.{OpenManifest}
use Rattle.icb_walk.specs.declared.fault.TreeFault.{TreeFault}
use Rattle.icb_walk.specs.declared.leaf.Leaf.{Leaf}
use Rattle.icb_walk.specs.declared.open_list.Rows.TheVariants as place
use Rattle.icb_walk.specs.declared.walk.Walk.{Walk}
use Rattle.icb_scan.specs.Answers.{HaveLeftOut, ShowsBelow}
use Rattle.icb_scan.specs.Leaves.{PrintsFile}
use Rattle.icb_scan.specs.Start.{of_tree}
use Rattle.icb_scan.specs.declared.fault.ScanFault.{ScanFault}
use Rattle.icb_scan.specs.declared.fault.ScanFault.TheVariants as fault
use Rattle.icb_scan.proofs.PassLemmas.{leaf_in, leaf_left_out}
use Rattle.icb_scan.proofs.ScanLemmas.{Opened, Scanned, allows_needed, at_leaf, below, contents, leaf_closed, leaf_read, leaf_refused, shows_done, shows_end, shows_memory, shows_refused, visits}
use Rattle.icb_scan.proofs.VisitLemmas.{is_contained}

told_three : {A : Type 0} (a b c : Option A) (P Q R S : A → Type 0) → b ≡ a → c ≡ a → ((x : A) → P x → Q x → R x → S x) → IfSome a P → IfSome b Q → IfSome c R → IfSome a S
told_three None b c P Q R S one two join p q r = tt
told_three (Some x) b c P Q R S one two join p q r = join x p (rw one at q) (rw two at r)

both_told : {A : Type 0} (a : Option A) (P Q : A → Type 0) → IfSome a P → IfSome a Q → IfSome a (λ x. P x × Q x)
both_told None P Q p q = tt
both_told (Some x) P Q p q = (p, q)

-- a walk that has opened nothing fits any store
pub fits_before : (files : Objects) (w : Walk) → w.rows ≡ place.Before → w.manifest ≡ None → FitsStore files w
fits_before files w before none = record {
  list = subst (FitsList files w.list) (sym before) tt;
  manifest = subst (λ (o : Option OpenManifest). IfSome o (FitsEntries files)) (sym none) tt;
}

-- over all plaintexts that are allowed
module _ {Self Out : Type 0} (of : store.Ghosts Self) (out : sink.Ghosts Out) (columns : List Column) (location : List ℕ) (list : Listed) (p : Plan) where
  -- the rows that are left out are there
  abbrev LeftOut : Plaintexts → Type 0
  LeftOut plain = HaveLeftOut (contents columns plain) (selection_by columns p) (visits columns plain location list p)

  -- the rows of files were shown up to where a walk stands
  abbrev pub Stands : Plan → Walk → Self → Self → Out → Out → Objects → Type 0
  Stands q w x y before after files = FitsStore files w × ((plain : Plaintexts) → AllowsAt (map listed_as (visits columns plain location list p)) files plain → LeftOut plain
      → Scanned of out columns plain location list p q (left (all_of columns) plain w) (Needs (all_of columns) plain w) x y before after)

  -- what is shown in the end
  abbrev pub Ends : Self → Self → Out → Out → Result ℕ ScanFault → Objects → Type 0
  Ends x y before after result files = ShowsBelow of out files (all_of columns) location (selection_by columns p) list x y before after result

  -- what a walk's next data file is, over what was shown
  pub next_leaf : (q : Plan) (w now : Walk) (leaf : Leaf) (x y z : Self) (before after : Out) (files : Objects) → asks_none q.most ≡ false → now.list ≡ w.list
      → Stands q w x y before after files → Answers of files w now y z (Ok (Some leaf)) → (plain : Plaintexts) → AllowsAt (map listed_as (visits columns plain location list p)) files plain → LeftOut plain
      → Scanned of out columns plain location list p q (then_read (one (tree.data_file (live_of leaf))) (left (all_of columns) plain now)) (Opened now) x z before after
  next_leaf q w now leaf x y z before after files asked same stands answers plain allows has =
      let h = stands.1 plain allows has in
      let a = answers (all_of columns) plain (allows_needed of out columns plain location list p q files (left (all_of columns) plain w) (Needs (all_of columns) plain w) x y before after asked allows h) in
      at_leaf of out columns plain location list p q w now leaf x y z before after asked h a.answer same a.asks a.moves

  -- it is left out
  pub turn_closed : (q : Plan) (w now : Walk) (leaf : Leaf) (x y z : Self) (before after : Out) → of.held y ≡ of.held x → asks_none q.most ≡ false → now.list ≡ w.list
      → may_match (range_at columns q.range) leaf.file ≡ false → IfSome (of.held x) (Stands q w x y before after)
      → IfSome (of.held y) (λ files. FitsStore files w → FitsStore files now) → IfSome (of.held y) (λ files. FitsStore files w → Answers of files w now y z (Ok (Some leaf)))
      → IfSome (of.held x) (Stands q now x z before after)
  turn_closed q w now leaf x y z before after same asked same_list shut stands fits answers =
      told_twice (of.held x) (of.held y) _ _ _ same (λ files s both. (
        both.0 s.0,
        λ plain allows has. leaf_closed of out columns plain location list p q now leaf x z before after asked
            (next_leaf q w now leaf x y z before after files asked same_list s (both.1 s.0) plain allows has) shut,
      )) stands (both_told (of.held y) _ _ fits answers)

  -- what is said of a data file holds of it
  pub leaf_says : (q : Plan) (now : Walk) (leaf : Leaf) (x z : Self) (before after : Out) (files : Objects) (plain : Plaintexts) → asks_none q.most ≡ false
      → may_match (range_at columns q.range) leaf.file ≡ true → AllowsAt (map listed_as (visits columns plain location list p)) files plain
      → Scanned of out columns plain location list p q (then_read (one (tree.data_file (live_of leaf))) (left (all_of columns) plain now)) (Opened now) x z before after
      → Allows (shown_in files (live_of leaf).listed) (plain (live_of leaf).listed)
  leaf_says q now leaf x z before after files plain asked open_it allows h =
      let fs : List Listed = map listed_as (visits columns plain location list p) in
      let P : Listed → Type 0 = λ g. Allows (shown_in files g) (plain g) in
      All-contains P fs (live_of leaf).listed (All-from_recursion P fs allows)
      (is_contained (live_of leaf).listed (visits columns plain location list p)
      (leaf_in (contents columns plain) (selection_by columns p) (selection_by columns q) (below columns plain location list) (left (all_of columns) plain now) (live_of leaf) h.at open_it asked))

  -- its rows are printed
  pub turn_read : (q r : Plan) (w now : Walk) (leaf : Leaf) (x y z u : Self) (before mid after : Out) → of.held y ≡ of.held x → of.held z ≡ of.held x → asks_none q.most ≡ false → now.list ≡ w.list
      → may_match (range_at columns q.range) leaf.file ≡ true → IsPlanOf columns p → KeepsWords p q → KeepsWords q r → IfSome (of.held x) (Stands q w x y before mid)
      → IfSome (of.held y) (λ files. FitsStore files w → FitsStore files now) → IfSome (of.held y) (λ files. FitsStore files w → Answers of files w now y z (Ok (Some leaf)))
      → IfSome (of.held z) (λ files. PrintsFile out files (live_of leaf).listed columns q r mid after (Ok tt))
      → IfSome (of.held z) (λ _. CountsAt leaf.path (of.asked z) (of.asked u)) → IfSome (of.held z) (λ _. CountsAt leaf.path (of.moved z) (of.moved u))
      → IfSome (of.held x) (Stands r now x u before after)
  turn_read q r w now leaf x y z u before mid after same same2 asked same_list open_it is_plan words more stands fits answers prints asks moves =
      told_three (of.held x) (of.held y) (of.held z) _ _ _ _ same same2 (λ files s both printed. (
        both.0 s.0,
        λ plain allows has.
            let h = next_leaf q w now leaf x y z before mid files asked same_list s (both.1 s.0) plain allows has in
            let d = printed.0 plain (leaf_says q now leaf x z before mid files plain asked open_it allows h) (plan_stays columns p q words is_plan)
            (leaf_left_out (contents columns plain) (selection_by columns p) (selection_by columns q) (below columns plain location list) (left (all_of columns) plain now) (live_of leaf) h.at open_it asked has) in
            leaf_read of out columns plain location list p q r files now leaf x z u before mid after asked words more h open_it d printed.1.0 printed.1.1,
      )) stands (both_told (of.held y) _ _ fits answers) (both_told (of.held z) _ _ prints (both_told (of.held z) _ _ asks moves))

  -- it is refused
  pub turn_leaf_refused : (q r : Plan) (w now : Walk) (leaf : Leaf) (x y z u : Self) (before mid after : Out) (e : ScanFault) → of.held y ≡ of.held x → of.held z ≡ of.held x → asks_none q.most ≡ false → now.list ≡ w.list
      → may_match (range_at columns q.range) leaf.file ≡ true → IsPlanOf columns p → KeepsWords p q → KeepsWords q r → IfSome (of.held x) (Stands q w x y before mid)
      → IfSome (of.held y) (λ files. FitsStore files w → Answers of files w now y z (Ok (Some leaf)))
      → IfSome (of.held z) (λ files. PrintsFile out files (live_of leaf).listed columns q r mid after (Err e))
      → IfSome (of.held z) (λ _. CountsAt leaf.path (of.asked z) (of.asked u)) → IfSome (of.held z) (λ _. CountsAt leaf.path (of.moved z) (of.moved u))
      → IfSome (of.held x) (Ends x u before after (Err e))
  turn_leaf_refused q r w now leaf x y z u before mid after e same same2 asked same_list open_it is_plan words more stands answers prints asks moves =
      told_three (of.held x) (of.held y) (of.held z) _ _ _ _ same same2 (λ files s answer printed.
      λ plain allows has.
      let h = next_leaf q w now leaf x y z before mid files asked same_list s (answer s.0) plain allows has in
      let d = printed.0 plain (leaf_says q now leaf x z before mid files plain asked open_it allows h) (plan_stays columns p q words is_plan)
      (leaf_left_out (contents columns plain) (selection_by columns p) (selection_by columns q) (below columns plain location list) (left (all_of columns) plain now) (live_of leaf) h.at open_it asked has) in
      leaf_refused of out columns plain location list p q r files now leaf x z u before mid after e asked words more h open_it d printed.1.0 printed.1.1)
      stands answers (both_told (of.held z) _ _ prints (both_told (of.held z) _ _ asks moves))

  -- no row more is asked for
  pub turn_done : (q : Plan) (w : Walk) (x y : Self) (before after : Out) → asks_none q.most ≡ true → IfSome (of.held x) (Stands q w x y before after)
      → IfSome (of.held x) (Ends x y before after (Ok q.shown))
  turn_done q w x y before after none stands =
      told_once (of.held x) _ _ (λ files told s. λ plain allows has.
      shows_done of out columns plain location list p q files (left (all_of columns) plain w) (Needs (all_of columns) plain w) x y before after none (s.1 plain allows has)) stands

  -- no file is left
  pub turn_end : (q : Plan) (w now : Walk) (x y z : Self) (before after : Out) → of.held y ≡ of.held x → asks_none q.most ≡ false → IfSome (of.held x) (Stands q w x y before after)
      → IfSome (of.held y) (λ files. FitsStore files w → Answers of files w now y z (Ok None)) → IfSome (of.held x) (Ends x z before after (Ok q.shown))
  turn_end q w now x y z before after same asked stands answers =
      told_twice (of.held x) (of.held y) _ _ _ same (λ files s answer. λ plain allows has.
      let h = s.1 plain allows has in
      let a = answer s.0 (all_of columns) plain (allows_needed of out columns plain location list p q files (left (all_of columns) plain w) (Needs (all_of columns) plain w) x y before after asked allows h) in
      shows_end of out columns plain location list p q files w now x y z before after asked h a.answer a.asks a.moves) stands answers

  -- the walk is refused
  pub turn_refused : (q : Plan) (w now : Walk) (x y z : Self) (before after : Out) (e : TreeFault) (r : ScanFault) → r ≡ of_tree e → of.held y ≡ of.held x → asks_none q.most ≡ false → IfSome (of.held x) (Stands q w x y before after)
      → IfSome (of.held y) (λ files. FitsStore files w → Answers of files w now y z (Err e)) → IfSome (of.held x) (Ends x z before after (Err r))
  turn_refused q w now x y z before after e r is same asked stands answers = subst (λ (d : ScanFault). IfSome (of.held x) (Ends x z before after (Err d))) (sym is) (
      told_twice (of.held x) (of.held y) _ _ _ same (λ files s answer. λ plain allows has.
      let h = s.1 plain allows has in
      let a = answer s.0 (all_of columns) plain (allows_needed of out columns plain location list p q files (left (all_of columns) plain w) (Needs (all_of columns) plain w) x y before after asked allows h) in
      shows_refused of out columns plain location list p q files w x y z before after e asked h a.answer.1 a.asks a.moves) stands answers)

  -- no memory is left
  pub turn_memory : (q : Plan) (w : Walk) (x y : Self) (before after : Out) → IfSome (of.held x) (Stands q w x y before after) → IfSome (of.held x) (Ends x y before after (Err fault.NoMemory))
  turn_memory q w x y before after stands =
      told_once (of.held x) _ _ (λ files told s. λ plain allows has.
      shows_memory of out columns plain location list p q files (left (all_of columns) plain w) (Needs (all_of columns) plain w) x y before after (s.1 plain allows has)) stands
